use Rattle.std.proofs.Common.{◌++◌, ◌∷◌, [], refl}
use Rattle.std.specs.Prelude.{codes}
use Rattle.bd_extjson_text.specs.Text.{quoted, hex_text}
use Rattle.bd_extjson_pack.proofs.CanonicalLemmas.{wrapped, binary_text}
use Rattle.bd_extjson_pack.proofs.canonical_line.binary.Goals as goal

pub returns : goal.returns
returns c payload is =
    let digits = quoted c.in_ok-digits.digits.now in
    let k = quoted (hex_text (c.in_ok-subtype.subtype ∷ [])) in
    let back = codes ",\"subType\":" ++ (k ++ codes "}}") in
    let rest = c.in_ok-after_word-3.field-0.now in
    let tail = wrapped (codes ",\"subType\":") k (codes "}}") back _ _ _ rest c.in_ok-after_word-2.ensures c.in_ok-subtype.ensures c.in_ok-after_word-3.ensures refl in
    wrapped (codes "{\"$binary\":{\"base64\":") digits back _ _ _ _ rest c.in_ok-after_word.ensures c.in_ok-digits.ensures.0 tail (rw is (binary_text payload c.in_ok-subtype.subtype))
