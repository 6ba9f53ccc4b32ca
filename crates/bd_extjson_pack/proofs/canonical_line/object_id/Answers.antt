use Rattle.std.proofs.Common.{◌≡◌, ◌++◌, rules, refl}
use Rattle.std.specs.Prelude.{codes}
use Rattle.bd_value.specs.Tree as trees
use Rattle.bd_extjson_text.specs.Text.{scalar_text, quoted, hex_text, escape_byte}
use Rattle.bd_extjson_pack.proofs.CanonicalLemmas.{id_fits, wrapped}
use Rattle.bd_extjson_pack.proofs.canonical_line.object_id.Goals as goal

pub returns : goal.returns
unfolding scalar_text quoted escape_byte
returns c =
    let id = c.in_ok-id.id in
    let read : c.in_ok-after_word.field-0.now ≡ quoted (hex_text id) ++ c.in_ok-digits.rest.now = search rules in (
      wrapped (codes "{\"$oid\":") (quoted (hex_text id)) (codes "}") (scalar_text (trees.object_id id)) _ _ _ _ c.in_ok-after_word.ensures read c.in_ok-after_word-2.ensures refl,
      id_fits c.in_ok-digits.digits.now id c.in_ok-id.ensures,
    )
