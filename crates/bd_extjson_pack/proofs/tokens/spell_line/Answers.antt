use Rattle.bd_extjson.specs.Read.{reading}
use Rattle.bd_extjson_pack.proofs.LengthLemmas.{after_none}
use Rattle.bd_extjson_pack.proofs.tokens.spell_line.Goals as goal

pub returns-in-Err-clause-refused : goal.returns-in-Err-clause-refused
returns-in-Err-clause-refused c =
    after_none c.clear-in-Err.new.self.items (reading c.args.text.now) c.append_document.result c.clear-in-Err.ensures.items c.append_document.ensures.refused
