use Rattle.std.proofs.Common.{◌∷◌, [], arith, append_assoc}
use Rattle.bd_extjson_text.specs.Text.{quoted}
use Rattle.bd_extjson_text.proofs.BufferLemmas.{then}
use Rattle.bd_extjson_text.proofs.scalar.append_one.Goals as goal

pub returns : goal.returns
returns c = rw (← append_assoc c.args.lead.now (quoted c.args.text.now) (125 ∷ []))
    (then c.args.end c.in_ok-at.at c.args.out.now.items _ c.append_few.new.out.items _ _ c.append_few.result (omega arith) c.in_ok-at.ensures.0 c.append_few.ensures.text)
