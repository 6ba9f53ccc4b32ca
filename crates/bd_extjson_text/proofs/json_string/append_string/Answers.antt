use Rattle.std.proofs.Common.{◌∷◌, [], ◌∙◌, arith}
use Rattle.bd_extjson_text.proofs.BufferLemmas.{failed, prefix}
use Rattle.bd_extjson_text.proofs.json_string.append_string.Goals as goal

pub returns-in_err-at : goal.returns-in_err-at
returns-in_err-at c = failed _ _ _ _ c.from_residual.result c.from_residual.ensures.0
    (prefix c.args.end c.put_byte_in-at.result c.args.out.now.items (34 ∷ []) c.append_text.new.out.items (omega arith) (c.in_err-at.ensures.text ∙ c.put_byte_in-at.ensures.appended))
