-- Elements one after the other.
use Rattle.std.proofs.Common.{◌≡◌, ℕ, zero, suc, ◌+◌, ◌-◌, ◌<◌, ◌≤◌, List, [], ◌∷◌, ◌++◌, length, take, drop, Option, Some, None, refl, sym, ap, ap₂, ◌∙◌, arith, append_assoc, length-append, length-drop, Result, Ok, Err, OnOk, OnErr, take_at, drop_at, subst, Bool, true, false, if◌then◌else◌}
use Rattle.std.proofs.lemmas.{List.length-take-le}
use Rattle.std.proofs.Math.Seq.{take-append_seam, take-length}
use Rattle.bd_bson_view.specs.{Spelling.type_at, Spelling.number, Unique.number_length}
use Rattle.std.specs.{Io.StartsWith, Result.is_ok}
use Rattle.bd_value.proofs.PrefixLemmas.{prefix_then, prefix_all}
use Rattle.bd_bson_view.specs.declared.raw_parts.ElementType.{ElementType}
use Rattle.bd_bson_view.specs.declared.raw_parts.Holder.{Holder}
use Rattle.bd_bson_view.specs.declared.raw_parts.Holder.TheVariants as holders
use Rattle.bd_value.specs.declared.node.Kind.TheVariants as kinds
use Rattle.bd_bson_view.specs.declared.raw_parts.ElementType.TheVariants.{Kept}
use Rattle.bd_wide.specs.declared.element.Part.{Part}
use Rattle.bd_wide.specs.declared.element.Part.TheVariants as parts
use Rattle.bd_wide.specs.Rewritten.{Writes, Nested, Adds, first_element, least, part_of, IsPart, IsElement, AreElements, IsBody, IsScoped, IsNested, scope_at, ◌>>=◌, first_zero, size_at}
use Rattle.bd_wide.specs.inside.Rewritten.{holder_least}

-- ---- the first element

sized : (t : ElementType) (k : ℕ) (n : Option ℕ) (x : ElementType × ℕ × ℕ) → (n >>= λ n. Some (t, k + 2, n)) ≡ Some x → 2 ≤ x.1
sized t k None x is = absurd cc
sized t k (Some n) x is =
    let same : (t, k + 2, n) ≡ x = cc in
    let e : k + 2 ≡ x.1 = ap (λ (y : ElementType × ℕ × ℕ). y.1) same in omega arith

named : (t : Option ElementType) (k : Option ℕ) (size : ElementType → ℕ → Option ℕ) (x : ElementType × ℕ × ℕ)
    → (t >>= λ type. k >>= λ k. size type k >>= λ n. Some (type, k + 2, n)) ≡ Some x → 2 ≤ x.1
named None k size x is = absurd cc
named (Some t) None size x is = absurd cc
named (Some t) (Some k) size x is = sized t k (size t k) x is

first_element_takes : (bytes : List ℕ) (x : ElementType × ℕ × ℕ) → first_element bytes ≡ Some x → 2 ≤ x.1
unfolding first_element
first_element_takes [] x is = absurd cc
first_element_takes (b ∷ bytes) x is = named (type_at b) (first_zero bytes) (λ type k. size_at type (drop (k + 1) bytes)) x is

pub shorter : (b : ℕ) (bytes : List ℕ) (x : ElementType × ℕ × ℕ) → first_element (b ∷ bytes) ≡ Some x → length (drop x.2 (drop x.1 (b ∷ bytes))) ≤ length bytes
shorter b bytes x is = omega (arith, first_element_takes (b ∷ bytes) x is, length-drop x.2 (drop x.1 (b ∷ bytes)), length-drop x.1 (b ∷ bytes))

-- ---- elements

-- what may be written from there on, by the first element
abbrev pub Turn : Writes → Nested → ℕ → List ℕ → Option (ElementType × ℕ × ℕ) → List ℕ → Type 0
Turn Is nested n bytes None new = new ≡ bytes
Turn Is nested n bytes (Some x) new = (one : List ℕ) × (two : List ℕ) × IsElement Is nested x.0 (take x.1 bytes) (take x.2 (drop x.1 bytes)) one
    × AreElements Is nested n (drop x.2 (drop x.1 bytes)) two × (new ≡ one ++ two)

-- the step of the definition, which is the same
abbrev Turned : Writes → Nested → ℕ → List ℕ → Option (ElementType × ℕ × ℕ) → List ℕ → Type 0
Turned Is nested n bytes f new = elim f [
  | None ↦ new ≡ bytes
  | Some x ↦
      let rest = drop x.1 bytes in
      let head = take x.1 bytes in
      (one : List ℕ) × (two : List ℕ) × IsElement Is nested x.0 head (take x.2 rest) one
      × AreElements Is nested n (drop x.2 rest) two × (new ≡ one ++ two)
]

-- what may be written for elements is what may be written for the first one and for the others
pub to_turn : (Is : Writes) (nested : Nested) (n b : ℕ) (bytes new : List ℕ) → AreElements Is nested (suc n) (b ∷ bytes) new → Turn Is nested n (b ∷ bytes) (first_element (b ∷ bytes)) new
unfolding AreElements
to_turn Is nested n b bytes new = elim (first_element (b ∷ bytes)) as (λ f. Turned Is nested n (b ∷ bytes) f new → Turn Is nested n (b ∷ bytes) f new) [ None ↦ λ h. h | Some x ↦ λ h. h ]

pub from_turn : (Is : Writes) (nested : Nested) (n b : ℕ) (bytes new : List ℕ) → Turn Is nested n (b ∷ bytes) (first_element (b ∷ bytes)) new → AreElements Is nested (suc n) (b ∷ bytes) new
unfolding AreElements
from_turn Is nested n b bytes new = elim (first_element (b ∷ bytes)) as (λ f. Turn Is nested n (b ∷ bytes) f new → Turned Is nested n (b ∷ bytes) f new) [ None ↦ λ h. h | Some x ↦ λ h. h ]

-- after the last step the rest is unchanged
pub no_turn : (Is : Writes) (nested : Nested) (bytes new : List ℕ) → AreElements Is nested zero bytes new → new ≡ bytes
unfolding AreElements
no_turn Is nested bytes new h = h

pub none : (Is : Writes) (nested : Nested) (n : ℕ) → AreElements Is nested n [] []
unfolding AreElements
none Is nested zero = refl
none Is nested (suc n) = refl

-- for no elements nothing is written
pub none_only : (Is : Writes) (nested : Nested) (n : ℕ) (new : List ℕ) → AreElements Is nested n [] new → new ≡ []
unfolding AreElements
none_only Is nested zero new h = h
none_only Is nested (suc n) new h = h

-- any number of steps is enough that is at least the count of the bytes
enough : (Is : Writes) (nested : Nested) (n m : ℕ) (bytes new : List ℕ) → length bytes ≤ n → length bytes ≤ m → AreElements Is nested n bytes new → AreElements Is nested m bytes new
enough Is nested n m [] new p q h = subst (λ (x : List ℕ). AreElements Is nested m [] x) (sym (none_only Is nested n new h)) (none Is nested m)
enough Is nested zero m (b ∷ bytes) new p q h = absurd (omega arith)
enough Is nested (suc n) zero (b ∷ bytes) new p q h = absurd (omega arith)
enough Is nested (suc n) (suc m) (b ∷ bytes) new p q h =
    let here : (f : Option (ElementType × ℕ × ℕ)) → first_element (b ∷ bytes) ≡ f → Turn Is nested n (b ∷ bytes) f new → Turn Is nested m (b ∷ bytes) f new = elim [
      | None ↦ λ is h. h
      | Some x ↦ λ is h.
          let less = shorter b bytes x is in
          (h.0, h.1, h.2, enough Is nested n m (drop x.2 (drop x.1 (b ∷ bytes))) h.1 (omega (arith, less)) (omega (arith, less)) h.3, h.4)
    ] in
    from_turn Is nested m b bytes new (here (first_element (b ∷ bytes)) refl (to_turn Is nested n b bytes new h))

pub first_element_nil : first_element [] ≡ None
unfolding first_element
first_element_nil = refl

-- the first element, and the others
goes_on : (Is : Writes) (nested : Nested) (bytes : List ℕ) (x : ElementType × ℕ × ℕ) (one two : List ℕ) → Some x ≡ first_element bytes
    → IsElement Is nested x.0 (take x.1 bytes) (take x.2 (drop x.1 bytes)) one
    → AreElements Is nested (length (drop x.2 (drop x.1 bytes))) (drop x.2 (drop x.1 bytes)) two
    → AreElements Is nested (length bytes) bytes (one ++ two)
goes_on Is nested [] x one two is e r = let e = is ∙ first_element_nil in absurd cc
goes_on Is nested (b ∷ bytes) x one two is e r =
    let less = shorter b bytes x (sym is) in
    let rest : List ℕ = drop x.2 (drop x.1 (b ∷ bytes)) in
    from_turn Is nested (length bytes) b bytes (one ++ two) (subst (λ (f : Option (ElementType × ℕ × ℕ)). Turn Is nested (length bytes) (b ∷ bytes) f (one ++ two)) is
    (one, two, e, enough Is nested (length rest) (length bytes) rest two (omega arith) less r, refl))

pub ends : (Is : Writes) (nested : Nested) (bytes : List ℕ) → None ≡ first_element bytes → AreElements Is nested (length bytes) bytes bytes
ends Is nested [] is = none Is nested 0
ends Is nested (b ∷ bytes) is = from_turn Is nested (length bytes) b bytes (b ∷ bytes)
    (subst (λ (f : Option (ElementType × ℕ × ℕ)). Turn Is nested (length bytes) (b ∷ bytes) f (b ∷ bytes)) is refl)

-- ---- what was appended

pub adds : (Is : List ℕ → Type 0) (a c x : List ℕ) → Is x → c ≡ a ++ x → Adds Is a c
adds Is a c x is e = (x, is, e)

pub headed : (Is : List ℕ → Type 0) (a b c head : List ℕ) → b ≡ a ++ head → Adds Is b c → Adds (λ new. (v : List ℕ) × Is v × (new ≡ head ++ v)) a c
headed Is a b c head begun h = (head ++ h.0, (h.0, h.1, refl), h.2 ∙ ap (λ x. x ++ h.0) begun ∙ append_assoc a head h.0)

-- the output so far, with the output for the rest, is the output for all
abbrev pub Comes : Writes → Nested → List ℕ → List ℕ → List ℕ → List ℕ → Type 0
Comes Is nested bytes rest old out = (more : List ℕ) → AreElements Is nested (length rest) rest more → Adds (AreElements Is nested (length bytes) bytes) old (out ++ more)

pub begins : (Is : Writes) (nested : Nested) (bytes old : List ℕ) → Comes Is nested bytes bytes old old
begins Is nested bytes old = λ more h. (more, h, refl)

-- after one more element is written, the output is for the bytes up to the next
pub stepped : (Is : Writes) (nested : Nested) (bytes old out now rest head more value remaining : List ℕ) (t : ElementType) (k n : ℕ)
    → Comes Is nested bytes rest old out → Some (t, k, n) ≡ first_element rest
    → head ≡ take k rest → more ≡ drop k rest → value ≡ take n more → remaining ≡ drop n more → Adds (IsElement Is nested t head value) out now
    → Comes Is nested bytes remaining old now
stepped Is nested bytes old out now rest head more value remaining t k n comes is p q r s e = λ later h.
    let after : List ℕ = drop n (drop k rest) in
    let v : value ≡ take n (drop k rest) = r ∙ ap (take n) q in
    let l : remaining ≡ after = s ∙ ap (drop n) q in
    let one : IsElement Is nested t (take k rest) (take n (drop k rest)) e.0 =
    subst (λ (x : List ℕ). IsElement Is nested t x (take n (drop k rest)) e.0) p (subst (λ (x : List ℕ). IsElement Is nested t head x e.0) v e.1) in
    let two : AreElements Is nested (length after) after later = subst (λ (x : List ℕ). AreElements Is nested (length x) x later) l h in
    let whole = comes (e.0 ++ later) (goes_on Is nested rest (t, k, n) e.0 later is one two) in
    (whole.0, whole.1, ap (λ x. x ++ later) e.2 ∙ append_assoc out e.0 later ∙ whole.2)

pub all_written : (Is : Writes) (nested : Nested) (bytes old out now rest : List ℕ) → Comes Is nested bytes rest old out → None ≡ first_element rest
    → now ≡ out ++ rest → Adds (AreElements Is nested (length bytes) bytes) old now
all_written Is nested bytes old out now rest comes is e =
    let whole = comes rest (ends Is nested rest is) in
    (whole.0, whole.1, e ∙ whole.2)

-- ---- results

pub err_then : {A B : Type 0} (r : Result A B) (a b c x : List ℕ) → OnErr r (StartsWith c b) → b ≡ a ++ x → OnErr r (StartsWith c a)
err_then (Ok y) a b c x h is = _
err_then (Err e) a b c x h is = prefix_then a b c (prefix_all a x is) h

pub ok_if : {A B : Type 0} (r : Result A B) (now new old : List ℕ) → now ≡ (if is_ok r then new else old) → OnOk r (now ≡ new)
ok_if (Ok x) now new old is = is
ok_if (Err e) now new old is = _

pub ok_on : {A B : Type 0} (r : Result A B) (P Q : Type 0) → OnOk r P → (P → Q) → OnOk r Q
ok_on (Ok x) P Q p q = q p
ok_on (Err e) P Q p q = _

pub on_err : {A B : Type 0} (r : Result A B) (P : Type 0) → P → OnErr r P
on_err (Ok x) P p = _
on_err (Err e) P p = p

-- ---- what is written for the beginning of an element stays if the rest fails

pub prefix_of_two : (a b c x : List ℕ) → b ≡ a ++ x → StartsWith c b → StartsWith c a
prefix_of_two a b c x is more = prefix_then a b c (prefix_all a x is) more

-- ---- the count of a frame's bytes

-- what the count of a frame's bytes makes of four bytes and the rest
pub sealed : (old four rest out : List ℕ) (at : ℕ) → length four ≡ 4 → out ≡ (old ++ four) ++ rest → at ≡ length old
    → take at out ++ (number (length out - at) ++ drop (at + 4) out) ≡ old ++ (number (length rest + 4) ++ rest)
sealed old four rest out at four_long is here =
    let whole : out ≡ old ++ (four ++ rest) = is ∙ append_assoc old four rest in
    let size : length (old ++ four) ≡ at + 4 = omega (arith, here, length-append old four, four_long) in
    let total : length out - at ≡ length rest + 4 = omega (arith, here, ap (λ xs. length xs) is, length-append (old ++ four) rest, size) in
    let prefix : take at out ≡ old = ap (take at) whole ∙ take_at old (four ++ rest) at (sym here) in
    let back : drop (at + 4) out ≡ rest = ap (drop (at + 4)) is ∙ drop_at (old ++ four) rest (at + 4) size in
    ap₂ (λ (x y : List ℕ). x ++ y) prefix (ap₂ (λ (n : ℕ) (x : List ℕ). number n ++ x) total back)

pub opened : (old one two three x y : List ℕ) → one ≡ old ++ number 0 → two ≡ one ++ x → three ≡ two ++ y → length old + 4 ≤ length three
opened old one two three x y p q r = omega (
  arith,
  ap (λ xs. length xs) p,
  ap (λ xs. length xs) q,
  ap (λ xs. length xs) r,
  length-append old (number 0),
  number_length 0,
  length-append one x,
  length-append two y,
)

pub three_parts : (old one two three x y : List ℕ) → one ≡ old ++ number 0 → two ≡ one ++ x → three ≡ two ++ y → three ≡ (old ++ number 0) ++ (x ++ y)
three_parts old one two three x y p q r = rw (r, q, p) (append_assoc (old ++ number 0) x y)

pub body_ok : (Is : Writes) (nested : Nested) (value old one two three out more inner last : List ℕ) (at : ℕ) → 5 ≤ length value
    → more ≡ drop 4 value → inner ≡ take (length value - 5) more → last ≡ drop (length value - 1) value → at ≡ length old
    → one ≡ old ++ number 0 → Adds (AreElements Is nested (length inner) inner) one two → three ≡ two ++ last
    → out ≡ take at three ++ (number (length three - at) ++ drop (at + 4) three) → Adds (IsBody Is nested value) old out
unfolding IsBody
body_ok Is nested value old one two three out more inner last at some splits_more splits_inner splits_last here p q r is =
    let new : List ℕ = q.0 in
    let ended : length (new ++ last) + 4 ≡ length new + 5 = omega (arith, length-append new last, ap (λ xs. length xs) splits_last, length-drop (length value - 1) value) in
    let whole : out ≡ old ++ (number (length new + 5) ++ (new ++ last)) =
    is ∙ sealed old (number 0) (new ++ last) three at (number_length 0) (three_parts old one two three new last p q.2 r) here
    ∙ ap (λ n. old ++ (number n ++ (new ++ last))) ended in
    let same : inner ≡ take (length value - 5) (drop 4 value) = splits_inner ∙ ap (take (length value - 5)) splits_more in (
      number (length new + 5) ++ (new ++ drop (length value - 1) value),
      (new, subst (λ (i : List ℕ). AreElements Is nested (length i) i new) same q.1, refl),
      subst (λ (l : List ℕ). out ≡ old ++ (number (length new + 5) ++ (new ++ l))) splits_last whole,
    )

-- ---- code with scope

-- what may be written for code with scope, by where its scope begins
abbrev pub ScopeTurn : (List ℕ → List ℕ → Type 0) → List ℕ → List ℕ → Option ℕ → Type 0
ScopeTurn document value new None = new ≡ value
ScopeTurn document value new (Some at) = (scope : List ℕ) × document (drop at value) scope × (new ≡ number (at + length scope) ++ (take (at - 4) (drop 4 value) ++ scope))

pub from_scope : (document : List ℕ → List ℕ → Type 0) (value new : List ℕ) → ScopeTurn document value new (scope_at value) → IsScoped document value new
unfolding IsScoped
from_scope document value new = elim (scope_at value) as (λ o. ScopeTurn document value new o → (elim o [
  | None ↦ new ≡ value
  | Some at ↦ (scope : List ℕ) × document (drop at value) scope × (new ≡ number (at + length scope) ++ (take (at - 4) (drop 4 value) ++ scope))
])) [ None ↦ λ h. h | Some at ↦ λ h. h ]

-- what may be written for code with scope is what may be written for its scope, after its code
pub to_scope : (document : List ℕ → List ℕ → Type 0) (value new : List ℕ) → IsScoped document value new → ScopeTurn document value new (scope_at value)
unfolding IsScoped
to_scope document value new = elim (scope_at value) as (λ o. (elim o [
  | None ↦ new ≡ value
  | Some at ↦ (scope : List ℕ) × document (drop at value) scope × (new ≡ number (at + length scope) ++ (take (at - 4) (drop 4 value) ++ scope))
]) → ScopeTurn document value new o) [ None ↦ λ h. h | Some at ↦ λ h. h ]

pub scoped_ok : (document : List ℕ → List ℕ → Type 0) (value old two three out scope : List ℕ) (start at : ℕ)
    → Some at ≡ scope_at value → 8 ≤ at → at + 5 ≤ length value
    → scope ≡ drop at value → start ≡ length old → two ≡ (old ++ number 0) ++ take (at - 4) (drop 4 value) → Adds (document scope) two three
    → out ≡ take start three ++ (number (length three - start) ++ drop (start + 4) three) → Adds (IsScoped document value) old out
scoped_ok document value old two three out scope start at gives eight fits splits_scope here q r is =
    let new : List ℕ = r.0 in
    let code : List ℕ = take (at - 4) (drop 4 value) in
    let whole = is ∙ sealed old (number 0) (code ++ new) three start (number_length 0) (r.2 ∙ ap (λ x. x ++ new) q ∙ append_assoc (old ++ number 0) code new) here in
    let size : length code ≡ at - 4 = length-take-le (at - 4) (drop 4 value) (omega (arith, fits, length-drop 4 value)) in
    let total : length (code ++ new) + 4 ≡ at + length new = omega (arith, length-append code new, size) in
    let fact : out ≡ old ++ (number (at + length new) ++ (code ++ new)) = whole ∙ ap (λ n. old ++ (number n ++ (code ++ new))) total in
    let scope_is : document (drop at value) new = subst (λ (x : List ℕ). document x new) splits_scope r.1 in
    let written : List ℕ = number (at + length new) ++ (code ++ new) in (
      written,
      from_scope document value written (subst (λ (o : Option ℕ). ScopeTurn document value written o) gives
          (new, scope_is, refl)),
      fact,
    )

-- ---- with n levels left

-- a body with one level fewer left is a nested document, array or code with scope
pub below : (Is : Writes) (depth_left : ℕ) (value new : List ℕ) → 0 < depth_left
    → (IsBody Is (IsNested Is (depth_left - 1)) value new → IsNested Is depth_left holders.Document value new)
    × (IsBody Is (IsNested Is (depth_left - 1)) value new → IsNested Is depth_left holders.Array value new)
    × (IsScoped (IsNested Is (depth_left - 1) holders.Document) value new → IsNested Is depth_left holders.CodeScope value new)
unfolding IsNested
below Is zero value new some = absurd (omega arith)
below Is (suc depth_left) value new some =
    let s : suc depth_left - 1 ≡ depth_left = omega arith in (
      λ h. subst (λ (r : ℕ). IsBody Is (IsNested Is r) value new) s h,
      λ h. subst (λ (r : ℕ). IsBody Is (IsNested Is r) value new) s h,
      λ h. subst (λ (r : ℕ). IsScoped (IsNested Is r holders.Document) value new) s h,
    )

pub nested_ok : {A B : Type 0} (r : Result A B) (Is : Writes) (depth_left : ℕ) (holder h : Holder) (value a c : List ℕ) (P : List ℕ → Type 0)
    → holder ≡ h → ((x : List ℕ) → P x → IsNested Is depth_left h value x) → OnOk r (Adds P a c) → OnOk r (Adds (IsNested Is depth_left holder value) a c)
nested_ok (Err e) Is depth_left holder h value a c P is f ok = _
nested_ok (Ok y) Is depth_left holder h value a c P is f ok =
    (ok.0, subst (λ (k : Holder). IsNested Is depth_left k value ok.0) (sym is) (f ok.0 ok.1), ok.2)

-- ---- elements that are examined

-- what is written for a part of this type is what is written for an element
pub part_of_element : (Is : Writes) (nested : Nested) (type : ElementType) (part : Option Part) (head value new : List ℕ) → part ≡ part_of type → IsPart Is nested part type head value new → IsElement Is nested type head value new
unfolding IsElement
part_of_element Is nested type part head value new is h = subst (λ (p : Option Part). IsPart Is nested p type head value new) is h

-- an element that is examined, by its part
pub as_part : (Is : Writes) (nested : Nested) (type : ElementType) (part : Part) (head value a c : List ℕ) → Some part ≡ part_of type
    → Adds (IsPart Is nested (Some part) type head value) a c → Adds (IsElement Is nested type head value) a c
as_part Is nested type part head value a c is h = (h.0, part_of_element Is nested type (Some part) head value h.0 is h.1, h.2)

pub values_added : {A B : Type 0} (r : Result A B) (Is : Writes) (nested : Nested) (part : Part) (holder : Holder) (type : ElementType) (head value a b c : List ℕ)
    → part ≡ parts.Values holder → b ≡ a ++ head
    → OnOk r (Adds (nested holder value) b c) → OnOk r (Adds (IsPart Is nested (Some part) type head value) a c)
values_added (Err e) Is nested part holder type head value a b c is begun ok = _
values_added (Ok x) Is nested part holder type head value a b c is begun ok =
    subst (λ (p : Part). Adds (IsPart Is nested (Some p) type head value) a c) (sym is)
    (headed (nested holder value) a b c head begun ok)

-- an element that contains values has at least the bytes that its kind needs
pub holder_takes_least : (type : ElementType) (holder : Holder) → part_of type ≡ Some (parts.Values holder) → holder_least holder ≤ least type
unfolding part_of least holder_least
holder_takes_least (Kept kinds.Doc) holders.Document is = omega arith
holder_takes_least (Kept kinds.Array) holders.Array is = omega arith
holder_takes_least (Kept kinds.CodeScope) holders.CodeScope is = omega arith
holder_takes_least type holder is = absurd cc
