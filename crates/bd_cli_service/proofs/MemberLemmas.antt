-- The texts of the values of a reply, and of its pairs.
use Rattle.std.proofs.Common.{◌≡◌, ◌^◌, ◌<◌, ℕ, Bool, true, false, List, [], ◌∷◌, ◌++◌, decimal, refl, ap, append_assoc}
use Rattle.std.proofs.{lemmas.Fmt.decimal_is_IsNumeral}
use Rattle.std.specs.Prelude.{codes, pos}
use Rattle.std.specs.List.{join_with_byte}
use Rattle.bd_value.specs.Tree.{Doc, boolean, doc, fields_of, int32, leaf}
use Rattle.bd_extjson_text.specs.Text.{escape_byte, fields_text, member, quoted, scalar_text, text}
use Rattle.bd_extjson_text.proofs.JsonStringLemmas.{escaped-digits}
use Rattle.bd_extjson_text.proofs.TextLemmas.{to_come, to_come-all}
use Rattle.bd_cursor_request.specs.Results.{count_value}

plain : (n : ℕ) → n < 2 ^ 64 → quoted (decimal n) ≡ 34 ∷ (decimal n ++ 34 ∷ [])
unfolding quoted
plain n small = ap (λ (d : List ℕ). 34 ∷ (d ++ 34 ∷ [])) (escaped-digits (decimal n) (decimal_is_IsNumeral n small).0.1)

-- a number as a string, in the pieces in which it is written
pub wrapped_text : (n : ℕ) (old lead a b c d : List ℕ) → n < 2 ^ 64 → a ≡ old ++ lead → b ≡ a ++ 34 ∷ [] → c ≡ b ++ decimal n → d ≡ c ++ codes "\"}"
    → d ≡ old ++ (lead ++ (quoted (decimal n) ++ 125 ∷ []))
wrapped_text n old lead a b c d small first second third fourth = rw (fourth, third, second, first, plain n small) (simp append_assoc)

-- an Int64
pub count_text : (n : ℕ) → codes "{\"$numberLong\":" ++ (quoted (decimal n) ++ 125 ∷ []) ≡ text (count_value n)
unfolding scalar_text quoted escape_byte
count_text n = refl

-- an Int32
pub number_text : (n : ℕ) → codes "{\"$numberInt\":" ++ (quoted (decimal n) ++ 125 ∷ []) ≡ text (leaf (int32 (pos n)))
unfolding scalar_text quoted escape_byte
number_text n = refl

-- ---- pairs

-- the remaining text of an object after some of its members
abbrev pub rest_of_object : Doc → List ℕ
rest_of_object ps = to_come true 44 (fields_text (fields_of ps)) ++ 125 ∷ []

-- the field `ok` is written
pub object_begins : (ok : Bool) (ps : Doc) (old begun out : List ℕ) → begun ≡ old ++ codes "{\"ok\":" → out ≡ begun ++ text (leaf (boolean ok))
    → out ++ rest_of_object ps ≡ old ++ text (doc (fields_of ((codes "ok", leaf (boolean ok)) ∷ ps)))
unfolding quoted escape_byte
object_begins ok ps old begun out lead value =
    let truth = text (leaf (boolean ok)) in
    let members = fields_text (fields_of ps) in
    let first : List ℕ = member (codes "ok") truth in
    let whole : to_come false 44 (first ∷ members) ≡ join_with_byte 44 (first ∷ members) = to_come-all 44 (first ∷ members) in
    rw (value, lead, ← whole) (simp append_assoc)
