-- The two documents of a text, or its fault.
use Rattle.std.proofs.Common.{◌≡◌, ℕ, nat_lt, ◌≤◌, ◌==◌, ◌&&◌, not, length, arith, Bool, true, false, ◌||◌, cond, List, [], ◌∷◌, ◌++◌, drop, refl, sym, ap, ◌∙◌, subst, Option, Some, None, Result, Ok, Err}
use Rattle.std.proofs.lemmas.Str.{utf8_valid_len_le}
use Rattle.std.specs.Option.{ok_or}
use Rattle.bd_value.specs.Tree.{Doc}
use Rattle.bd_extjson.specs.Read.{ReadsAs, reading}
use Rattle.bd_value.specs.Limits.{most_brackets, most_levels}
use Rattle.bd_extjson_fault.specs.JsonSyntax.{beyond_text}
use Rattle.bd_extjson_fault.specs.TextFault.{fault_after, first_fault_in, text_fault, tree_or_none}
use Rattle.bd_extjson_fault.specs.TreeFault.{opens_document, value_fault}
use Rattle.std.specs.{Prelude.unwrap_or, Str.is_utf8, Str.Lossy.utf8_valid_len}
use Rattle.bd_extjson_fault.specs.declared.json_fault.JsonFault.{JsonFault}
use Rattle.bd_extjson_fault.specs.declared.json_fault.JsonFaultKind.{JsonFaultKind}
use Rattle.bd_extjson_fault.specs.declared.json_fault.JsonFaultKind.TheVariants as kinds
use Rattle.bd_wide_number.specs.declared.number.Number.{Number}
use Rattle.bd_wide_substitute.specs.Both.{HasNoValues, IsRead, IsUnread, both, both_documents, document_of, earlier, has_no_byte, is_bad_wrapper}
use Rattle.bd_wide_substitute.specs.Substitutes.{ArePieces, Filler, Piece, Wrapper, all_numbers, all_values, origin, value, same, text, whole, with_fillers, wrapper_at}
use Rattle.bd_wide_substitute.specs.Reported.{IsKindBy, IsKindHere, IsReported, begins_number, kind_of_meaning}
use Rattle.bd_wide_substitute.proofs.MeaningLemmas.{meant_once}
use Rattle.bd_wide_substitute.proofs.OnceLemmas.{alike}
use Rattle.bd_wide_substitute.proofs.OriginLemmas.{same_byte}

-- ---- one text

pub read_ok : (source : List ℕ) (d : Doc) → ReadsAs source d → document_of source ≡ Ok d
read_ok source d e = ap (λ (r : Option Doc). ok_or r (text_fault source)) e

pub unread : (source : List ℕ) (f : JsonFault) → ((d : Doc) → ReadsAs source d → ⊥) → f ≡ text_fault source → document_of source ≡ Err f
unread source f none is = go (reading source) refl
  where
    go : (r : Option Doc) → reading source ≡ r → document_of source ≡ Err f
    go None e = ap (λ (r : Option Doc). ok_or r (text_fault source)) e ∙ ap (λ (g : JsonFault). Err g) (sym is)
    go (Some d) e = absurd (none d e)

-- a fault is inside its text
fault_within : (source : List ℕ) → (text_fault source).at ≤ length source
unfolding first_fault_in
fault_within source =
    elim (is_utf8 source) as (λ b. (unwrap_or {T = JsonFault} (cond b (fault_after source (beyond_text source)) (Some (record { kind = kinds.Syntax; at = utf8_valid_len source }))) (record { kind = kinds.Syntax; at = length source })).at ≤ length source) [
      | true ↦ elim (beyond_text source) as (λ r. (unwrap_or {T = JsonFault} (fault_after source r) (record { kind = kinds.Syntax; at = length source })).at ≤ length source) [
        | Err stop ↦ omega arith
        | Ok rest ↦ elim (value_fault most_brackets most_levels source) as (λ f. (unwrap_or {T = JsonFault} (tree_or_none source f) (record { kind = kinds.Syntax; at = length source })).at ≤ length source) [
          | Some fault ↦ omega arith
          | None ↦ elim (opens_document source) as (λ b. (unwrap_or {T = JsonFault} (cond b None (Some (record { kind = kinds.NotADocument; at = 0 }))) (record { kind = kinds.Syntax; at = length source })).at ≤ length source) [ true ↦ omega arith | false ↦ omega arith ]
        ]
      ]
      | false ↦ utf8_valid_len_le source
    ]

-- ---- both texts

pub both_is : (ps : List Piece) (w t : Result Doc JsonFault) → document_of (with_fillers whole ps) ≡ w → document_of (with_fillers text ps) ≡ t → both_documents ps ≡ both w t
both_is ps w t e f = λ i. both (e i) (f i)

always : (f : JsonFault) (b c d : Bool) → cond b f (cond c f (cond d f f)) ≡ f
always f true c d = refl
always f false true d = refl
always f false false true = refl
always f false false false = refl

pub earlier_same : (f : JsonFault) → earlier f f ≡ f
earlier_same f = always f (has_no_byte f.kind) (has_no_byte f.kind || nat_lt f.at f.at) (f.at == f.at && not (is_bad_wrapper f.kind))

-- ---- a text without values

-- both texts are the text
pub no_values : (s : Filler) (line : List ℕ) (ps : List Piece) → ArePieces line ps → all_values ps ≡ [] → with_fillers s ps ≡ line
no_values s line [] are e = sym are
no_values s line (same bytes ∷ ps) are e = ap (λ (x : List ℕ). bytes ++ x) (no_values s are.0 ps are.3 e) ∙ sym are.1
no_values s line (value bytes v ∷ ps) are e = absurd (let c : v ∷ all_values ps ≡ [] = e in cc)

-- no values, no numbers
pub empty_numbers : (ps : List Piece) → all_values ps ≡ [] → all_numbers ps ≡ []
empty_numbers [] e = refl
empty_numbers (same bytes ∷ ps) e = empty_numbers ps e
empty_numbers (value bytes v ∷ ps) e = absurd (let c : v ∷ all_values ps ≡ [] = e in cc)

pub both_of : (source : List ℕ) (ps : List Piece) → ArePieces source ps → all_values ps ≡ [] → both_documents ps ≡ both (document_of source) (document_of source)
both_of source ps are none = λ i. both (document_of (no_values whole source ps are none i)) (document_of (no_values text source ps are none i))

twice_ok : (r : Option Doc) (f : JsonFault) (w t : Doc) → both (ok_or r f) (ok_or r f) ≡ Ok (w, t) → (r ≡ Some w) × (r ≡ Some t)
twice_ok None f w t e = absurd cc
twice_ok (Some d) f w t e = let same : (d, d) ≡ (w, t) = cc in (ap (λ (p : Doc × Doc). Some p.0) same, ap (λ (p : Doc × Doc). Some p.1) same)

twice_err : (r : Option Doc) (f first : JsonFault) → both (ok_or r f) (ok_or r f) ≡ Err first → (r ≡ None) × (first ≡ f)
twice_err None f first e = let same : earlier f f ≡ first = cc in (refl, sym same ∙ earlier_same f)
twice_err (Some d) f first e = absurd cc

pub read_alike : (source : List ℕ) (w t : Doc) (numbers : List Number) → HasNoValues source → IsRead source w t numbers → (numbers ≡ []) × ReadsAs source w × ReadsAs source t
read_alike source w t numbers plain read =
    let none : all_values read.pieces ≡ [] = (alike read.pieces plain.0 source read.are plain.1).values ∙ plain.2 in
    let d = twice_ok (reading source) (text_fault source) w t (sym (both_of source read.pieces read.are none) ∙ read.documents) in
    (read.all ∙ empty_numbers read.pieces none, d.0, d.1)

pub unread_alike : (source : List ℕ) (fault : JsonFault) → HasNoValues source → IsUnread source fault
    → (reading source ≡ None) × (fault.at ≡ (text_fault source).at) × IsReported (drop (text_fault source).at source) (text_fault source).kind fault.kind
unread_alike source fault plain bad =
    let none : all_values bad.pieces ≡ [] = (alike bad.pieces plain.0 source bad.are plain.1).values ∙ plain.2 in
    let first = twice_err (reading source) (text_fault source) bad.first (sym (both_of source bad.pieces bad.are none) ∙ bad.documents) in
    let at : fault.at ≡ (text_fault source).at = bad.at ∙ ap (λ (f : JsonFault). origin bad.pieces f.at) first.1 ∙ same_byte bad.pieces source (text_fault source).at (fault_within source) bad.are none in
    (first.0, at, subst (λ (k : JsonFaultKind). IsReported (drop (text_fault source).at source) k fault.kind) (ap (λ (f : JsonFault). f.kind) first.1) (subst (λ (n : ℕ). IsReported (drop n source) bad.first.kind fault.kind) at bad.kind))

-- ---- one text is read once

kind_once : (wrapper : Option Wrapper) (one other : JsonFaultKind) → IsKindBy wrapper one → IsKindBy wrapper other → one ≡ other
kind_once None one other h k = h ∙ sym k
kind_once (Some (type, None)) one other h k = h ∙ sym k
kind_once (Some (type, Some (contents, rest))) one other h k = h.2 ∙ ap kind_of_meaning (meant_once type contents h.0 k.0 h.1 k.1) ∙ sym k.2

here_once : (bytes : List ℕ) (one other : JsonFaultKind) → IsKindHere bytes one → IsKindHere bytes other → one ≡ other
here_once bytes one other h k =
    elim (begins_number bytes) as (λ b. begins_number bytes ≡ b → one ≡ other) [
      | true ↦ λ e. h.0 e ∙ sym (k.0 e)
      | false ↦ λ e. kind_once (wrapper_at bytes) one other (h.1 e) (k.1 e)
    ] refl

reported_once : (bytes : List ℕ) (kind one other : JsonFaultKind) → IsReported bytes kind one → IsReported bytes kind other → one ≡ other
reported_once bytes kinds.NotInProfile one other h k = here_once bytes one other h k
reported_once bytes kinds.Syntax one other h k = h ∙ sym k
reported_once bytes kinds.NotADocument one other h k = h ∙ sym k
reported_once bytes kinds.TooDeep one other h k = h ∙ sym k
reported_once bytes kinds.BadWrapper one other h k = h ∙ sym k
reported_once bytes kinds.NumberRange one other h k = h ∙ sym k
reported_once bytes kinds.NulInName one other h k = h ∙ sym k
reported_once bytes kinds.TrailingText one other h k = h ∙ sym k
reported_once bytes kinds.NoMemory one other h k = h ∙ sym k

same_documents : (source : List ℕ) (ps qs : List Piece) → ArePieces source ps → ArePieces source qs → both_documents ps ≡ both_documents qs
same_documents source ps qs h k = let a = alike ps qs source h k in (λ i. both (document_of (a.texts whole i)) (document_of (a.texts text i)))

both_are : (one other : Doc × Doc) (r : Result (Doc × Doc) JsonFault) → r ≡ Ok one → r ≡ Ok other → one ≡ other
both_are one other r e f = let both : Ok one ≡ Ok other = sym e ∙ f in cc

first_is : (one other : JsonFault) (r : Result (Doc × Doc) JsonFault) → r ≡ Err one → r ≡ Err other → one ≡ other
first_is one other r e f = let both : Err one ≡ Err other = sym e ∙ f in cc

never_both : (one : Doc × Doc) (fault : JsonFault) (r : Result (Doc × Doc) JsonFault) → r ≡ Ok one → r ≡ Err fault → ⊥
never_both one fault r e f = let both : Ok one ≡ Err fault = sym e ∙ f in cc

pub read_once : (source : List ℕ) (w t v s : Doc) (numbers others : List Number) → IsRead source w t numbers → IsRead source v s others → (w ≡ v) × (t ≡ s) × (numbers ≡ others)
read_once source w t v s numbers others h k =
    let a = alike h.pieces k.pieces source h.are k.are in
    let d : (w, t) ≡ (v, s) = both_are (w, t) (v, s) (both_documents h.pieces) h.documents (same_documents source h.pieces k.pieces h.are k.are ∙ k.documents) in
    (ap (λ (p : Doc × Doc). p.0) d, ap (λ (p : Doc × Doc). p.1) d, h.all ∙ a.numbers ∙ sym k.all)

pub unread_once : (source : List ℕ) (fault other : JsonFault) → IsUnread source fault → IsUnread source other → fault ≡ other
unread_once source fault other h k =
    let first : h.first ≡ k.first = first_is h.first k.first (both_documents h.pieces) h.documents (same_documents source h.pieces k.pieces h.are k.are ∙ k.documents) in
    let at : fault.at ≡ other.at = h.at ∙ ap (λ (f : JsonFault). origin h.pieces f.at) first ∙ (alike h.pieces k.pieces source h.are k.are).origins k.first.at ∙ sym k.at in
    let reported : IsReported (drop other.at source) k.first.kind fault.kind =
    subst (λ (f : JsonFault). IsReported (drop other.at source) f.kind fault.kind) first (subst (λ (n : ℕ). IsReported (drop n source) h.first.kind fault.kind) at h.kind) in
    let kind : fault.kind ≡ other.kind = reported_once (drop other.at source) k.first.kind fault.kind other.kind reported k.kind in
    (λ i. record { kind = kind i; at = at i })

pub read_or_unread : (source : List ℕ) (w t : Doc) (numbers : List Number) (fault : JsonFault) → IsRead source w t numbers → IsUnread source fault → ⊥
read_or_unread source w t numbers fault h k = never_both (w, t) k.first (both_documents h.pieces) h.documents (same_documents source h.pieces k.pieces h.are k.are ∙ k.documents)
