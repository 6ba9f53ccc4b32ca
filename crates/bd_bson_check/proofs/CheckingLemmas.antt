-- Skipping values that contain values, and elements one after the other.
use Rattle.std.proofs.Common.{◌≡◌, ℕ, List, Result, Ok, Err, refl, ap, ◌∙◌, [], arith, zero, suc, ◌+◌, ◌-◌, ◌<◌, ◌≤◌, ◌∷◌, length, get_or, drop, Option, Some, None, sym}
use Rattle.std.proofs.Common.{Bool, true, false, Bor, take, inl, inr, codes, option_map, IfSome, ◌||◌, ◌==◌, ◌⊎◌, nat_lt, IsAscii}
use Rattle.bd_bson_check.specs.declared.fault.FaultKind.TheVariants.{TooDeep, NameUnended}
use Rattle.bd_bson_check.specs.FirstFault.{◌>>=◌, within, skip_name, skip_string, skip_code_frame, label, fault, Nested, skip_typed, skip_element, skip_elements, skip_body, skip_frame}
use Rattle.bd_bson_check.specs.FirstFault.{skip_code_scope, skip_nested, skip_value}
use Rattle.bd_bson_check.specs.{Fault.Fault, inside.Fault.found_fault, Fault.longer, inside.Fault.ReportsStop, inside.Fault.FailsAtItem, declared.fault.Stop.Stop}
use Rattle.bd_bson_check.specs.declared.profile.Profile.{Profile}
use Rattle.bd_bson_view.specs.{declared.raw_parts.ElementType.ElementType, declared.raw_parts.Holder.Holder, Spelling.type_at, declared.raw_parts.ElementType.TheVariants.Kept}
use Rattle.bd_bson_check.proofs.FirstFaultLemmas.{IsBytes, NestedLeaves, element_leaves, nested_leaves, elements_nil}
use Rattle.std.specs.{List.position, Str.is_utf8}
use Rattle.std.proofs.lemmas.{Bool.cases_lt, Bool.ltb-false, Bool.or_parts, Bool.Decides.nat_tests, List.get_or-take, List.get_or_past, List.length-take}
use Rattle.std.proofs.lemmas.{List.Quantifiers.position-Some, List.Sums.position_or_len_is, Str.is_utf8-from_IsUtf8, Str.IsUtf8-from_ascii}
use Rattle.bd_value.specs.declared.node.Kind.{Kind}
use Rattle.bd_value.specs.declared.node.Kind.TheVariants as kinds
use Rattle.bd_bson_check.specs.declared.fault.Stop.TheVariants as stops
use Rattle.bd_bson_view.specs.declared.raw_parts.Holder.TheVariants as holders

abbrev err : {A : Type 0} → Fault → Result A Fault
err f = Err f

-- a reader that stopped at a fault stopped at that of the item, if the item has it
pub reported_fails : {A : Type 0} (r : Stop) (f : Fault) (read : Result A Fault) → ReportsStop r f → read ≡ err f → FailsAtItem r read
reported_fails stops.NoMemory f read stated is = rw is stated
reported_fails (stops.Found g) f read stated is = is ∙ ap err stated

-- what a reader stopped at, where the item has a fault
fault_met : {A : Type 0} (r : Stop) (read : Result A Fault) → FailsAtItem r read → (f : Fault) × (read ≡ err f) × ReportsStop r f
fault_met stops.NoMemory (Ok x) fails = absurd fails
fault_met stops.NoMemory (Err f) fails = (f, refl, fails)
fault_met (stops.Found g) read fails = (found_fault g, fails, refl)

pub fails_within : {A : Type 0} (error r : Stop) (name : List ℕ) (read : Result A Fault)
    → ((f : Fault) → ReportsStop error f → ReportsStop r (longer name f)) → FailsAtItem error read → FailsAtItem r (within name read)
fails_within error r name read stated fails =
    let met = fault_met error read fails in
    reported_fails r (longer name met.0) (within name read) (stated met.0 met.2) (ap (within name) met.1)

pub fails_then : {A B : Type 0} (r : Stop) (x : Result A Fault) (f : A → Result B Fault) → FailsAtItem r x → FailsAtItem r (x >>= f)
fails_then r x f fails =
    let met = fault_met r x fails in
    reported_fails r met.0 (x >>= f) met.2 (ap (λ y. y >>= f) met.1)

-- ---- values that contain values

pub too_deep : (p : Profile) (holder : Holder) (depth_left q e : ℕ) (bytes : List ℕ) → depth_left ≡ 0 → skip_nested p depth_left holder q e bytes ≡ fault TooDeep q
unfolding skip_nested
too_deep p holder depth_left q e bytes is = rw is refl

pub code_too_deep : (p : Profile) (holder : Holder) (depth_left q e : ℕ) (bytes : List ℕ) → holder ≡ holders.CodeScope → depth_left ≡ 1 → skip_nested p depth_left holder q e bytes ≡ fault TooDeep q
unfolding skip_nested
code_too_deep p holder depth_left q e bytes h is = rw (h, is) refl

pub below : (p : Profile) (depth_left q e : ℕ) (bytes : List ℕ) → 0 < depth_left → (skip_nested p depth_left holders.Document q e bytes ≡ skip_body p (skip_nested p (depth_left - 1)) false e bytes)
    × (skip_nested p depth_left holders.Array q e bytes ≡ skip_body p (skip_nested p (depth_left - 1)) true e bytes)
unfolding skip_nested
below p zero q e bytes lt = absurd (omega arith)
below p (suc r) q e bytes lt = let s : suc r - 1 ≡ r = omega arith in rw s (refl, refl)

pub code_below : (p : Profile) (depth_left q e : ℕ) (bytes : List ℕ) → 1 < depth_left → skip_nested p depth_left holders.CodeScope q e bytes ≡ skip_code_scope (skip_nested p (depth_left - 1)) q e bytes
unfolding skip_nested
code_below p zero q e bytes lt = absurd (omega arith)
code_below p (suc zero) q e bytes lt = absurd (omega arith)
code_below p (suc (suc r)) q e bytes lt = let s : suc (suc r) - 1 ≡ suc r = omega arith in rw s refl

-- a scope that has a fault
pub scope_fails : (r : Stop) (nested : Nested) (q e : ℕ) (bytes parts : List ℕ) (end : ℕ) (rest scope : List ℕ) → skip_code_frame e bytes ≡ Ok (parts, end, rest) → skip_string end parts ≡ Ok scope
    → FailsAtItem r (within (codes "$scope") (nested holders.Document q end scope)) → FailsAtItem r (skip_code_scope nested q e bytes)
scope_fails r nested q e bytes parts end rest scope one two h = rw (one, two) (fails_then r (within (codes "$scope") (nested holders.Document q end scope)) _ h)

pub element_fails : (p : Profile) (r : Stop) (nested : Nested) (index : Option ℕ) (e : ℕ) (bytes : List ℕ) (type : ElementType) (more name rest : List ℕ)
    → 0 < length bytes → type_at (get_or bytes 0 0) ≡ Some type
    → drop 1 bytes ≡ more → skip_name NameUnended e more ≡ Ok (name, rest)
    → FailsAtItem r (within (label index name) (skip_typed p nested type (e - length bytes) e rest)) → FailsAtItem r (skip_element p nested index e bytes)
unfolding skip_element
element_fails p r nested index e [] type more name rest lt one splits two fails = absurd (omega arith)
element_fails p r nested index e (first ∷ bytes) type more name rest lt one splits two fails =
    let here : skip_name NameUnended e bytes ≡ Ok (name, rest) = ap (skip_name NameUnended e) splits ∙ two in
    rw (one, here) fails

-- ---- elements

same_others : {A B : Type 0} (r : Result A Fault) (f g : A → Result B Fault) → ((x : A) → r ≡ Ok x → f x ≡ g x) → (r >>= f) ≡ (r >>= g)
same_others (Ok x) f g h = h x refl
same_others (Err d) f g h = refl

-- any bound from the count of the bytes on gives the same result
enough : (p : Profile) (nested : Nested) (below : NestedLeaves nested) (index : Option ℕ) (n m e : ℕ) (bytes : List ℕ) → IsBytes bytes → length bytes ≤ n
    → length bytes ≤ m → skip_elements p nested index n e bytes ≡ skip_elements p nested index m e bytes
unfolding skip_elements
enough p nested below index n m e [] fits le of = elements_nil p nested index n e ∙ sym (elements_nil p nested index m e)
enough p nested below index zero m e (b ∷ bytes) fits le of = absurd (omega arith)
enough p nested below index (suc n) zero e (b ∷ bytes) fits le of = absurd (omega arith)
enough p nested below index (suc n) (suc m) e (b ∷ bytes) fits le of =
    same_others (skip_element p nested index e (b ∷ bytes)) _ _ (λ x is.
    let r = element_leaves p nested below index e (b ∷ bytes) x fits is in
    enough p nested below (option_map suc index) n m e x r.1 (omega (arith, r.0)) (omega (arith, r.0)))

-- the first element, the bytes after it, and the other elements
pub goes_on : (p : Profile) (index : Option ℕ) (depth_left e : ℕ) (bytes after : List ℕ) → IsBytes bytes → skip_element p (skip_nested p depth_left) index e bytes ≡ Ok after → (length after < length bytes) × IsBytes after
    × (skip_elements p (skip_nested p depth_left) index (length bytes) e bytes ≡ skip_elements p (skip_nested p depth_left) (option_map suc index) (length after) e after)
unfolding skip_element skip_elements
goes_on p index depth_left e [] after fits is = absurd cc
goes_on p index depth_left e (b ∷ bytes) after fits is =
    let r = element_leaves p (skip_nested p depth_left) (nested_leaves p depth_left) index e (b ∷ bytes) after fits is in
    let k = enough p (skip_nested p depth_left) (nested_leaves p depth_left) (option_map suc index) (length bytes) (length after) e after r.1 (omega (arith, r.0)) (omega arith) in
    (r.0, r.1, rw (is, k) refl)

pub no_first : (p : Profile) (r : Stop) (index : Option ℕ) (depth_left e : ℕ) (bytes : List ℕ) → 0 < length bytes
    → FailsAtItem r (skip_element p (skip_nested p depth_left) index e bytes) → FailsAtItem r (skip_elements p (skip_nested p depth_left) index (length bytes) e bytes)
unfolding skip_elements
no_first p r index depth_left e [] lt h = absurd (omega arith)
no_first p r index depth_left e (b ∷ bytes) lt h = fails_then r (skip_element p (skip_nested p depth_left) index e (b ∷ bytes)) _ h

-- an index in an array stays below the count of the bytes
pub counted_on : (index : Option ℕ) (more less all : ℕ) → IfSome index (λ i. i + more ≤ all) → less < more → IfSome (option_map suc index) (λ i. i + less ≤ all)
counted_on None more less all h lt = tt
counted_on (Some i) more less all h lt = omega arith

abbrev ends_ascii : ℕ → Bool
ends_ascii b = b == 0 || nat_lt 127 b

abbrev is_zero : ℕ → Bool
is_zero b = b == 0

-- if the first byte that is zero or not ASCII is zero, it is the first zero, and the bytes before it are text
pub named : (bytes : List ℕ) (k : ℕ) → position ends_ascii bytes ≡ Some k → get_or bytes k 0 ≡ 0 → (position is_zero bytes ≡ Some k) × (is_utf8 (take k bytes) ≡ true) × (k < length bytes)
named bytes k is zero_here =
    let at = position-Some ends_ascii bytes k 0 is in
    let quiet : (i : ℕ) → i < k → (is_zero (get_or bytes i 0) ≡ false) × (nat_lt 127 (get_or bytes i 0) ≡ false) = λ i lt. or_parts _ _ (at.2 i lt) in
    let here : is_zero (get_or bytes k 0) ≡ true = rw zero_here refl in
    let e = position_or_len_is is_zero bytes k 0 (omega (arith, at.0)) (λ i lt. (quiet i lt).0) (λ _. here) in
    let ascii : IsAscii (take k bytes) = λ i. elim (cases_lt i k) [
      | inl lt ↦ rw (get_or-take k bytes i 0 lt) (let le = ltb-false 127 (get_or bytes i 0) (quiet i lt).1 in omega (arith, le))
      | inr le ↦ rw (get_or_past (take k bytes) i 0 (omega (arith, length-take k bytes))) (omega arith)
    ] in
    (grind (arith, nat_tests, e, at.0), is_utf8-from_IsUtf8 (take k bytes) (IsUtf8-from_ascii (take k bytes) ascii), at.0)

-- an element whose name is text is skipped as its value is
pub element_gives : (bytes named value : List ℕ) (type : ElementType) → 0 < length bytes → drop 1 bytes ≡ named → type_at (get_or bytes 0 0) ≡ Some type
    → (k : ℕ) × (position is_zero named ≡ Some k) × (is_utf8 (take k named) ≡ true) × (k < length named) × (value ≡ drop (k + 1) named)
    → (p : Profile) (nested : Nested) (index : Option ℕ) (e : ℕ) (after : List ℕ) → skip_typed p nested type (e - length bytes) e value ≡ Ok after → skip_element p nested index e bytes ≡ Ok after
unfolding skip_element skip_name
element_gives [] named value type lt splits first name p nested index e after is = absurd (omega arith)
element_gives (b ∷ bytes) named value type lt splits first name p nested index e after is = rw (splits, first, name.1, name.2, ← name.4, ← splits, is) refl

-- a name that is text, and the bytes after it
abbrev pub IsNamed : List ℕ → List ℕ → Type 0
IsNamed bytes after = (k : ℕ) × (position is_zero bytes ≡ Some k) × (is_utf8 (take k bytes) ≡ true) × (k < length bytes) × (after ≡ drop (k + 1) bytes)

-- ---- what is skipped quickly

pub regex_gives : (kind : Kind) (bytes mid : List ℕ) (r : Option (Bor (List ℕ))) → kind ≡ kinds.Regex → IsNamed bytes mid → IfSome r (λ x. IsNamed mid x.now)
    → IfSome r (λ x. (nested : Nested) (q e : ℕ) → skip_value nested kind q e bytes ≡ Ok x.now)
unfolding skip_name
regex_gives kind bytes mid None is first second = tt
regex_gives kind bytes mid (Some x) is first second = λ nested q e. rw (is, first.1, first.2, ← first.4, second.1, second.2, ← second.4) refl

module _ (p : Profile) (nested : Nested) (type : ElementType) (bytes value : List ℕ)
    (named : (p : Profile) (nested : Nested) (index : Option ℕ) (e : ℕ) (after : List ℕ) → skip_typed p nested type (e - length bytes) e value ≡ Ok after → skip_element p nested index e bytes ≡ Ok after) where
  pub number_gives : (r : Option (Bor (List ℕ))) → IfSome r (λ x. (nested : Nested) (q e : ℕ) → skip_typed p nested type q e value ≡ Ok x.now)
      → IfSome r (λ x. (index : Option ℕ) (e : ℕ) → skip_element p nested index e bytes ≡ Ok x.now)
  number_gives None above = tt
  number_gives (Some x) above = λ index e. named p nested index e x.now (above nested (e - length bytes) e)

  module _ (kind : Kind) (typed : type ≡ Kept kind) where
    pub value_gives : (r : Option (Bor (List ℕ))) → IfSome r (λ x. (nested : Nested) (q e : ℕ) → skip_value nested kind q e value ≡ Ok x.now)
        → IfSome r (λ x. (index : Option ℕ) (e : ℕ) → skip_element p nested index e bytes ≡ Ok x.now)
    value_gives None above = tt
    value_gives (Some x) above = λ index e. named p nested index e x.now (rw typed (above nested (e - length bytes) e))

    pub nested_gives : (r : Option (Bor (List ℕ))) → (kind ≡ kinds.Doc) ⊎ (kind ≡ kinds.Array)
        → IfSome r (λ x. (q e : ℕ) → (nested holders.Document q e value ≡ Ok x.now) × (nested holders.Array q e value ≡ Ok x.now))
        → IfSome r (λ x. (index : Option ℕ) (e : ℕ) → skip_element p nested index e bytes ≡ Ok x.now)
    nested_gives None one above = tt
    nested_gives (Some x) (inl is) above = λ index e. named p nested index e x.now (rw (typed, is) (above (e - length bytes) e).0)
    nested_gives (Some x) (inr is) above = λ index e. named p nested index e x.now (rw (typed, is) (above (e - length bytes) e).1)

-- a document or an array whose elements have no fault
pub body_gives : (p : Profile) (depth_left : ℕ) (bytes body after : List ℕ) (end : ℕ → ℕ) → 0 < depth_left → ((e : ℕ) → skip_frame false e bytes ≡ Ok (body, end e, after))
    → ((index : Option ℕ) (e : ℕ) → skip_elements p (skip_nested p (depth_left - 1)) index (length body) e body ≡ Ok tt)
    → (q e : ℕ) → (skip_nested p depth_left holders.Document q e bytes ≡ Ok after) × (skip_nested p depth_left holders.Array q e bytes ≡ Ok after)
body_gives p depth_left bytes body after end deep frame sound q e =
    let parts = below p depth_left q e bytes deep in
    (parts.0 ∙ rw (frame e, sound None (end e)) refl, parts.1 ∙ rw (frame e, sound (Some 0) (end e)) refl)
