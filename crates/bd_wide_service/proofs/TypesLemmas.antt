-- The reply to a search with a `$type` of some of the types of numbers.
use Rattle.std.proofs.Common.{◌≡◌, ◌∙◌, ℕ, ◌-◌, List, [], ◌∷◌, ◌++◌, length, take, Result, Ok, Err, OnOk, refl, sym, ap, append_assoc, arith, length-append}
use Rattle.std.proofs.Math.Seq.{take-append_seam}
use Rattle.std.specs.Prelude.{codes, if◌then◌else◌}
use Rattle.std.specs.Result.{is_ok}
use Rattle.std.specs.List.{join_with_byte}
use Rattle.bd_value.specs.Tree.{fields_of, text}
use Rattle.bd_extjson_text.specs.Text.{escape_byte, fields_text, member, object, quoted, scalar_text}
use Rattle.bd_cli_service.specs.Reply.{ReportedRefusal, refuses, reply_document, reply_text}
use Rattle.bd_wide_service.specs.Call.{types_refusal}

-- the refusal without a place
abbrev pub plain : ReportedRefusal
plain = record { layer = codes "numbers"; number = 1; words = codes "the types of numbers are not told apart here"; place = [] }

-- its reply without the brace at the end
abbrev open_text : List ℕ
open_text = 123 ∷ join_with_byte 44 (fields_text (fields_of (reply_document (refuses plain))))

-- an object with a fifth member
one_more : (a b c d e : List ℕ) → object (a ∷ b ∷ c ∷ d ∷ e ∷ []) ≡ (123 ∷ join_with_byte 44 (a ∷ b ∷ c ∷ d ∷ [])) ++ (44 ∷ (e ++ 125 ∷ []))
one_more a b c d e = simp append_assoc refl

-- the member with the place
place_text : (names : List ℕ) → member (codes "place") (scalar_text (text names)) ≡ codes "\"place\":" ++ quoted names
unfolding quoted escape_byte scalar_text
place_text names = refl

-- a text without its last byte
closed : (xs : List ℕ) → take (length (xs ++ 125 ∷ []) - 1) (xs ++ 125 ∷ []) ≡ xs
closed xs =
    let length_is : length (xs ++ 125 ∷ []) - 1 ≡ length xs = (let e = length-append xs (125 ∷ []) in omega arith) in
    ap (λ n. take n (xs ++ 125 ∷ [])) length_is ∙ take-append_seam xs (125 ∷ [])

-- the reply without a place, with the place before its last brace, is the reply with it
pub types_text : (place : List (List ℕ)) (none first shorter longer pathed whole : List ℕ) (n : ℕ) → none ≡ [] → first ≡ none ++ reply_text (refuses plain)
    → n ≡ length first → shorter ≡ take (n - 1) first → longer ≡ shorter ++ codes ",\"place\":" → pathed ≡ longer ++ quoted (join_with_byte 46 place)
    → whole ≡ pathed ++ 125 ∷ [] → whole ≡ reply_text (refuses (types_refusal place))
types_text place none first shorter longer pathed whole n empty is len shortens extends path ends =
    let names = join_with_byte 46 place in
    let written = is ∙ ap (λ (x : List ℕ). x ++ reply_text (refuses plain)) empty in
    let opened : shorter ≡ open_text =
    shortens ∙ ap (λ m. take (m - 1) first) len ∙ ap (λ (x : List ℕ). take (length x - 1) x) written ∙ closed open_text in
    ends ∙ ap (λ (x : List ℕ). x ++ 125 ∷ []) (path ∙ ap (λ (x : List ℕ). x ++ quoted names) (extends ∙ ap (λ (x : List ℕ). x ++ codes ",\"place\":") opened))
    ∙ append_assoc (open_text ++ codes ",\"place\":") (quoted names) (125 ∷ []) ∙ append_assoc open_text (codes ",\"place\":") (quoted names ++ 125 ∷ [])
    ∙ ap (λ (x : List ℕ). open_text ++ (44 ∷ (x ++ 125 ∷ []))) (sym (place_text names)) ∙ sym (one_more _ _ _ _ (member (codes "place") (scalar_text (text names))))

-- what is appended, if memory suffices
pub appended : {A E : Type 0} (result : Result A E) (old new added wanted : List ℕ) → new ≡ (if is_ok result then old ++ added else old) → added ≡ wanted
    → OnOk result (new ≡ old ++ wanted)
appended (Ok x) old new added wanted is same = is ∙ ap (λ (x : List ℕ). old ++ x) same
appended (Err e) old new added wanted is same = tt
