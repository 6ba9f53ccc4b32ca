use Rattle.std.proofs.Common.{rules, refl}
use Rattle.std.specs.Prelude.{codes}
use Rattle.bd_value.specs.Tree as trees
use Rattle.bd_extjson_text.specs.Text.{scalar_text, quoted, escape_byte}
use Rattle.bd_extjson_pack.proofs.CanonicalLemmas.{number_read}
use Rattle.bd_extjson_pack.proofs.canonical_line.int64.Goals as goal

pub returns : goal.returns
unfolding scalar_text quoted escape_byte
returns c =
    number_read (λ z. trees.int64 z) (codes "{\"$numberLong\":") (codes "}") c.args.text.now c.in_ok-after_word.field-0.now c.in_ok-n.rest.now c.in_ok-after_word-2.field-0.now
    c.in_ok-n.n _ c.in_ok-after_word.ensures c.in_ok-n.ensures c.in_ok-after_word-2.ensures (search rules) refl
