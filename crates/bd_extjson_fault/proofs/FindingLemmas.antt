-- The first fault of the tree: what is found in parts, one after the other, is what is found in the whole.
use Rattle.std.proofs.Common.{◌≡◌, ◌≤◌, ◌<◌, ◌-◌, ◌∙◌, sym, refl, subst, not, ◌&&◌, ◌==◌, if◌then◌else◌, ℕ, zero, suc, Bool, true, false, List, [], ◌∷◌, map, length, drop, ap, Ok, Err, Some, None, Option, arith}
use Rattle.std.specs.Option.{option_or}
use Rattle.std.specs.Prelude.{Result, OnOk}
use Rattle.bd_extjson_wrapper.specs.Wrapper.{is_code_name, is_scope_name}
use Rattle.bd_extjson_wrapper.specs.declared.wrapper.Wrapper.{Wrapper}
use Rattle.bd_extjson_wrapper.specs.declared.wrapper.Wrapper.TheVariants as wrappers
use Rattle.bd_extjson_fault.specs.JsonSyntax.{Beyond, begins, beyond_white, beyond_next, beyond_name, beyond_member, beyond_object, beyond_parts, beyond_value, opens_object, opens_array}
use Rattle.bd_extjson_fault.specs.inside.SecondPass.{Halts, Passes, found, found_in_scope, levels_inside, depth_fault}
use Rattle.bd_extjson_fault.specs.TreeFault.{Finds, first_in, parts_from, parts_in, array_fault, document_fault, members_in, member_fault, name_fault, zero_fault, quoted_name, scalar_fault, value_fault, object_fault, code_fault, scope_fault, part_of, fault_at}
use Rattle.bd_extjson_fault.proofs.PassingLemmas.{PartsGoOn, begun, part_on, part_halted, next_stopped, ended, more_passes}
use Rattle.bd_extjson_fault.specs.declared.second_pass.Halt.{Halt}
use Rattle.bd_extjson_fault.specs.declared.skip.Stop.{Stop}
use Rattle.bd_extjson_fault.specs.declared.tree_fault.TreeFault.{TreeFault}
use Rattle.bd_extjson_fault.specs.declared.tree_fault.TreeFaultKind.TheVariants.{BadWrapper}

pub or_none : (a : Option TreeFault) → option_or a None ≡ a
or_none None = refl
or_none (Some x) = refl

pub or_assoc : (a b c : Option TreeFault) → option_or (option_or a b) c ≡ option_or a (option_or b c)
or_assoc None b c = refl
or_assoc (Some x) b c = refl

pub found_none : (before : Option TreeFault) (depth_left : Option ℕ) → found before depth_left (λ r. None) ≡ before
found_none before None = refl
found_none before (Some r) = or_none before

pub found_both : (before : Option TreeFault) (depth_left : Option ℕ) (f g h : ℕ → Option TreeFault) → ((r : ℕ) → h r ≡ option_or (f r) (g r))
    → found (found before depth_left f) depth_left g ≡ found before depth_left h
found_both before None f g h e = refl
found_both before (Some r) f g h e = or_assoc before (f r) (g r) ∙ ap (option_or before) (sym (e r))

pub found_same : (before : Option TreeFault) (depth_left : Option ℕ) (f g : ℕ → Option TreeFault) → ((r : ℕ) → f r ≡ g r)
    → found before depth_left f ≡ found before depth_left g
found_same before None f g e = refl
found_same before (Some r) f g e = ap (option_or before) (e r)

-- what was found so far, and in the parts from here on, is what is found in all of them; or no parts remain
abbrev pub FindsOn : (ℕ → Bool) → (List ℕ → Beyond) → (ℕ → Finds) → Option ℕ → Bool → Option TreeFault → List ℕ → Option TreeFault → Type 0
FindsOn closes part f depth_left true now text whole =
    (n : ℕ) × (length text < n) × (found now depth_left (λ r. first_in (f r) (parts_from closes part n text)) ≡ whole)
FindsOn closes part f depth_left false now text whole = now ≡ whole

one_part : (closes : ℕ → Bool) (part : List ℕ → Beyond) (f : Finds) (n : ℕ) (text mid rest : List ℕ) (next : Bool) → part text ≡ Ok mid
    → beyond_next closes mid ≡ Ok (next, rest)
    → first_in f (parts_from closes part (suc n) text) ≡ option_or (f text) (first_in f (if next then parts_from closes part n rest else []))
unfolding parts_from first_in
one_part closes part f n text mid rest next e reported = rw (e, reported) refl

pub finds_part : (closes : ℕ → Bool) (part : List ℕ → Beyond) (f : ℕ → Finds) (depth_left : Option ℕ) (now new whole : Option TreeFault) (text mid rest : List ℕ)
    (more next : Bool) → more ≡ true → part text ≡ Ok mid → beyond_next closes mid ≡ Ok (next, rest) → length rest < length text
    → new ≡ found now depth_left (λ r. f r text) → FindsOn closes part f depth_left more now text whole → FindsOn closes part f depth_left next new rest whole
unfolding first_in
finds_part closes part f depth_left now new whole text mid rest false next is given reported shorter e on = absurd cc
finds_part closes part f depth_left now new whole text mid rest true next is given reported shorter e (zero, lt, same) = absurd (omega (arith, lt))
finds_part closes part f depth_left now new whole text mid rest true true is given reported shorter e (suc n, lt, same) = (
  n,
  omega (arith, lt, shorter),
  rw e (found_both now depth_left (λ r. f r text) (λ r. first_in (f r) (parts_from closes part n rest))
      (λ r. first_in (f r) (parts_from closes part (suc n) text)) (λ r. one_part closes part (f r) n text mid rest true given reported)) ∙ same,
)
finds_part closes part f depth_left now new whole text mid rest true false is given reported shorter e (suc n, lt, same) =
    e ∙ found_same now depth_left (λ r. f r text) (λ r. first_in (f r) (parts_from closes part (suc n) text))
    (λ r. sym (one_part closes part (f r) n text mid rest false given reported ∙ or_none (f r text))) ∙ same

pub finds_begun : (closes : ℕ → Bool) (part : List ℕ → Beyond) (f : ℕ → Finds) (depth_left : Option ℕ) (before : Option TreeFault) (text rest : List ℕ) (now : Bool)
    → now ≡ begins closes (beyond_white text) → rest ≡ (if now then drop 1 (beyond_white text) else text)
    → FindsOn closes part f depth_left (not now) before rest (found before depth_left (λ r. first_in (f r) (parts_in closes part text)))
unfolding parts_in first_in
finds_begun closes part f depth_left before text rest true b e = rw (← b) (sym (found_none before depth_left))
finds_begun closes part f depth_left before text rest false b e = rw (← b, e) (suc (length text), omega arith, refl)

pub finds_ended : (closes : ℕ → Bool) (part : List ℕ → Beyond) (f : ℕ → Finds) (depth_left : Option ℕ) (more : Bool) (now whole : Option TreeFault) (text : List ℕ)
    → more ≡ false → FindsOn closes part f depth_left more now text whole → now ≡ whole
finds_ended closes part f depth_left false now whole text is on = on
finds_ended closes part f depth_left true now whole text is on = absurd cc

-- documents and arrays, by their depth
pub array_found : (value : List ℕ → Beyond) (fault : ℕ → Finds) (depth_left : Option ℕ) (before : Option TreeFault) (here inside : List ℕ)
    → found (option_or before (depth_fault depth_left here)) (levels_inside depth_left) (λ r. first_in (fault r) (parts_in (λ b. b == 93) value inside))
    ≡ found before depth_left (λ r. array_fault value fault r here inside)
unfolding array_fault
array_found value fault None before here inside = or_none before
array_found value fault (Some zero) before here inside = refl
array_found value fault (Some (suc r)) before here inside =
    ap (λ b. option_or b (first_in (fault r) (parts_in (λ b. b == 93) value inside))) (or_none before)

pub document_found : (value : List ℕ → Beyond) (fault : ℕ → Finds) (depth_left : Option ℕ) (before : Option TreeFault) (here inside : List ℕ)
    → found (option_or before (depth_fault depth_left here)) (levels_inside depth_left) (λ r. first_in (member_fault (fault r)) (members_in value inside))
    ≡ found before depth_left (λ r. document_fault value fault r here inside)
unfolding document_fault
document_found value fault None before here inside = or_none before
document_found value fault (Some zero) before here inside = refl
document_found value fault (Some (suc r)) before here inside =
    ap (λ b. option_or b (first_in (member_fault (fault r)) (members_in value inside))) (or_none before)

-- a value, by its first byte
pub fault_scalar : (level depth_left : ℕ) (text : List ℕ) → opens_object (beyond_white text) ≡ false → opens_array (beyond_white text) ≡ false
    → value_fault level depth_left text ≡ scalar_fault (beyond_white text)
unfolding value_fault
fault_scalar zero depth_left text o a = refl
fault_scalar (suc level) depth_left text o a = rw (o, a) refl

pub fault_object : (level less depth_left : ℕ) (text : List ℕ) → level ≡ suc less → opens_object (beyond_white text) ≡ true
    → value_fault level depth_left text ≡ object_fault (beyond_value less) (value_fault less) depth_left (beyond_white text) (drop 1 (beyond_white text))
unfolding value_fault
fault_object level less depth_left text z o = rw (z, o) refl

pub fault_array : (level less depth_left : ℕ) (text : List ℕ) → level ≡ suc less → opens_object (beyond_white text) ≡ false
    → opens_array (beyond_white text) ≡ true
    → value_fault level depth_left text ≡ array_fault (beyond_value less) (value_fault less) depth_left (beyond_white text) (drop 1 (beyond_white text))
unfolding value_fault
fault_array level less depth_left text z o a = rw (z, o, a) refl

pub finds_scalar : {X E : Type 0} (answer : Result X E) (new before : Option TreeFault) (depth_left : Option ℕ) (level : ℕ) (text here : List ℕ) → here ≡ beyond_white text
    → opens_object here ≡ false → opens_array here ≡ false → OnOk answer (new ≡ found before depth_left (λ r. scalar_fault here))
    → OnOk answer (new ≡ found before depth_left (λ r. value_fault level r text))
finds_scalar (Ok x) new before depth_left level text here e o a reported = reported ∙ found_same before depth_left _ _
    (λ r. rw e (sym (fault_scalar level r text (ap opens_object (sym e) ∙ o) (ap opens_array (sym e) ∙ a))))
finds_scalar (Err x) new before depth_left level text here e o a reported = tt

pub finds_object : {X E : Type 0} (answer : Result X E) (new before : Option TreeFault) (depth_left : Option ℕ) (level : ℕ) (text here inside : List ℕ) → here ≡ beyond_white text
    → 0 < level → opens_object here ≡ true → inside ≡ drop 1 here
    → OnOk answer (new ≡ found before depth_left (λ r. object_fault (beyond_value (level - 1)) (value_fault (level - 1)) r here inside))
    → OnOk answer (new ≡ found before depth_left (λ r. value_fault level r text))
finds_object (Ok x) new before depth_left level text here inside e lt o i reported = reported ∙ found_same before depth_left _ _
    (λ r. rw (i, e) (sym (fault_object level (level - 1) r text (omega (arith, lt)) (ap opens_object (sym e) ∙ o))))
finds_object (Err x) new before depth_left level text here inside e lt o i reported = tt

pub finds_array : {X E : Type 0} (answer : Result X E) (new before : Option TreeFault) (depth_left : Option ℕ) (level : ℕ) (text here inside : List ℕ) → here ≡ beyond_white text
    → 0 < level → opens_object here ≡ false → opens_array here ≡ true → inside ≡ drop 1 here
    → OnOk answer (new ≡ found before depth_left (λ r. array_fault (beyond_value (level - 1)) (value_fault (level - 1)) r here inside))
    → OnOk answer (new ≡ found before depth_left (λ r. value_fault level r text))
finds_array (Ok x) new before depth_left level text here inside e lt o a i reported = reported ∙ found_same before depth_left _ _
    (λ r. rw (i, e) (sym (fault_array level (level - 1) r text (omega (arith, lt)) (ap opens_object (sym e) ∙ o) (ap opens_array (sym e) ∙ a))))
finds_array (Err x) new before depth_left level text here inside e lt o a i reported = tt

-- two members and those after them
pub members_none : (value : List ℕ → Beyond) (inside : List ℕ) → begins (λ b. b == 125) (beyond_white inside) ≡ true → members_in value inside ≡ []
unfolding parts_in
members_none value inside b = rw b refl

pub members_one : (value : List ℕ → Beyond) (inside mid rest : List ℕ) → begins (λ b. b == 125) (beyond_white inside) ≡ false
    → beyond_member value inside ≡ Ok mid → beyond_next (λ b. b == 125) mid ≡ Ok (false, rest) → members_in value inside ≡ inside ∷ []
unfolding parts_in parts_from
members_one value inside mid rest b e n = rw (b, e, n) refl

from_one : (part : List ℕ → Beyond) (k : ℕ) (text mid rest : List ℕ) (next : Bool) → length text < k → part text ≡ Ok mid
    → beyond_next (λ b. b == 125) mid ≡ Ok (next, rest)
    → (m : ℕ) × (k ≡ suc m) × (parts_from (λ b. b == 125) part k text ≡ text ∷ (if next then parts_from (λ b. b == 125) part m rest else []))
unfolding parts_from
from_one part zero text mid rest next lt e n = absurd (omega (arith, lt))
from_one part (suc m) text mid rest next lt e n = (m, refl, rw (e, n) refl)

pub members_more : (value : List ℕ → Beyond) (inside mid second after rest : List ℕ) (next : Bool) → begins (λ b. b == 125) (beyond_white inside) ≡ false
    → beyond_member value inside ≡ Ok mid → beyond_next (λ b. b == 125) mid ≡ Ok (true, second) → length second < length inside
    → beyond_member value second ≡ Ok after → beyond_next (λ b. b == 125) after ≡ Ok (next, rest)
    → (m : ℕ) × (length inside ≡ suc m)
    × (members_in value inside ≡ inside ∷ second ∷ (if next then parts_from (λ b. b == 125) (beyond_member value) m rest else []))
unfolding parts_in parts_from
members_more value inside mid second after rest next b e n lt e2 n2 =
    let p = from_one (beyond_member value) (length inside) second after rest next lt e2 n2 in
    (p.0, p.1, rw (b, e, n) (ap (λ ms. inside ∷ ms) p.2))

pub members_two : (value : List ℕ → Beyond) (inside mid second after rest : List ℕ) → begins (λ b. b == 125) (beyond_white inside) ≡ false
    → beyond_member value inside ≡ Ok mid → beyond_next (λ b. b == 125) mid ≡ Ok (true, second) → length second < length inside
    → beyond_member value second ≡ Ok after → beyond_next (λ b. b == 125) after ≡ Ok (false, rest) → members_in value inside ≡ inside ∷ second ∷ []
members_two value inside mid second after rest b e n lt e2 n2 = let p = members_more value inside mid second after rest false b e n lt e2 n2 in p.2

-- three members or more are not code with scope
code_of_three : (m : ℕ) (part : List ℕ → Beyond) (fault : ℕ → Finds) (depth_left : ℕ) (here inside second rest : List ℕ) → length inside ≡ suc m
    → length second < length inside → length rest < length second
    → code_fault fault depth_left here (map part_of (inside ∷ second ∷ parts_from (λ b. b == 125) part m rest)) ≡ fault_at here BadWrapper
unfolding parts_from
code_of_three zero part fault depth_left here inside second rest is lt lt2 = absurd (omega (arith, is, lt, lt2))
code_of_three (suc m) part fault depth_left here inside second rest is lt lt2 = refl

code_of_more : (value : List ℕ → Beyond) (fault : ℕ → Finds) (depth_left : ℕ) (here inside mid second after rest : List ℕ)
    → begins (λ b. b == 125) (beyond_white inside) ≡ false
    → beyond_member value inside ≡ Ok mid → beyond_next (λ b. b == 125) mid ≡ Ok (true, second) → length second < length inside
    → beyond_member value second ≡ Ok after → beyond_next (λ b. b == 125) after ≡ Ok (true, rest) → length rest < length second
    → code_fault fault depth_left here (map part_of (members_in value inside)) ≡ fault_at here BadWrapper
code_of_more value fault depth_left here inside mid second after rest b e n lt e2 n2 lt2 =
    let p = members_more value inside mid second after rest true b e n lt e2 n2 in
    ap (λ ms. code_fault fault depth_left here (map part_of ms)) p.2 ∙ code_of_three p.0 (beyond_member value) fault depth_left here inside second rest p.1 lt lt2

-- code with scope, by the names of its two members
code_is_no_scope : (w : Option Wrapper) → is_code_name w ≡ true → is_scope_name w ≡ false
code_is_no_scope (Some wrappers.Code) is = refl
code_is_no_scope (Some w) is = absurd cc
code_is_no_scope None is = absurd cc

pub code_then_scope : (fault : ℕ → Finds) (depth_left : ℕ) (here t u : List ℕ) (w v : Option Wrapper) (before : Option TreeFault) → is_code_name w ≡ true
    → is_scope_name v ≡ true → before ≡ option_or (found_in_scope (fault (depth_left - 1)) w t) (found_in_scope (fault (depth_left - 1)) v u)
    → (before ≡ fault (depth_left - 1) u) × (code_fault fault depth_left here ((w, t) ∷ (v, u) ∷ []) ≡ scope_fault fault depth_left here t u)
code_then_scope fault depth_left here t u w v before code scope e =
    (e ∙ rw (code_is_no_scope w code, scope) refl, rw (code, scope) refl)

pub scope_then_code : (fault : ℕ → Finds) (depth_left : ℕ) (here t u : List ℕ) (w v : Option Wrapper) (before : Option TreeFault) → is_code_name w ≡ false
    → is_scope_name w ≡ true → is_code_name v ≡ true → before ≡ option_or (found_in_scope (fault (depth_left - 1)) w t) (found_in_scope (fault (depth_left - 1)) v u)
    → (before ≡ fault (depth_left - 1) t) × (code_fault fault depth_left here ((w, t) ∷ (v, u) ∷ []) ≡ scope_fault fault depth_left here u t)
scope_then_code fault depth_left here t u w v before other scope code e =
    (e ∙ rw (scope, code_is_no_scope v code) (or_none (fault (depth_left - 1) t)), rw (other, scope, code) refl)

pub code_and_other : (fault : ℕ → Finds) (depth_left : ℕ) (here t u : List ℕ) (w v : Option Wrapper) → is_code_name w ≡ true → is_scope_name v ≡ false
    → code_fault fault depth_left here ((w, t) ∷ (v, u) ∷ []) ≡ fault_at here BadWrapper
code_and_other fault depth_left here t u w v code other = rw (code, other, code_is_no_scope w code) refl

pub scope_and_other : (fault : ℕ → Finds) (depth_left : ℕ) (here t u : List ℕ) (w v : Option Wrapper) → is_code_name w ≡ false → is_code_name v ≡ false
    → code_fault fault depth_left here ((w, t) ∷ (v, u) ∷ []) ≡ fault_at here BadWrapper
scope_and_other fault depth_left here t u w v one other = rw (one, other) (by_scope (is_scope_name w))
  where
    by_scope : (b : Bool) → (if b && false then scope_fault fault depth_left here u t else fault_at here BadWrapper) ≡ fault_at here BadWrapper
    by_scope true = refl
    by_scope false = refl

pub other_and_any : (fault : ℕ → Finds) (depth_left : ℕ) (here t u : List ℕ) (w v : Option Wrapper) → is_code_name w ≡ false → is_scope_name w ≡ false
    → code_fault fault depth_left here ((w, t) ∷ (v, u) ∷ []) ≡ fault_at here BadWrapper
other_and_any fault depth_left here t u w v one other = rw (one, other) refl

-- the beginning of a document or an array
pub array_begun : (value : List ℕ → Beyond) (fault : ℕ → Finds) (depth_left : Option ℕ) (before : Option TreeFault) (here inside : List ℕ) (b : Option TreeFault) (less : Option ℕ)
    (text rest : List ℕ) (now : Bool) → b ≡ option_or before (depth_fault depth_left here) → less ≡ levels_inside depth_left → text ≡ inside
    → now ≡ begins (λ b. b == 93) (beyond_white text) → rest ≡ (if now then drop 1 (beyond_white text) else text)
    → FindsOn (λ b. b == 93) value fault less (not now) b rest (found before depth_left (λ r. array_fault value fault r here inside))
array_begun value fault depth_left before here inside b less text rest now eb el et en er = rw (← et, eb, el)
    (subst (FindsOn (λ b. b == 93) value fault (levels_inside depth_left) (not now) (option_or before (depth_fault depth_left here)) rest)
    (array_found value fault depth_left before here text)
    (finds_begun (λ b. b == 93) value fault (levels_inside depth_left) (option_or before (depth_fault depth_left here)) text rest now en er))

pub document_begun : (value : List ℕ → Beyond) (fault : ℕ → Finds) (depth_left : Option ℕ) (before : Option TreeFault) (here inside : List ℕ) (b : Option TreeFault) (less : Option ℕ)
    (text rest : List ℕ) (now : Bool) → b ≡ option_or before (depth_fault depth_left here) → less ≡ levels_inside depth_left → text ≡ inside
    → now ≡ begins (λ b. b == 125) (beyond_white text) → rest ≡ (if now then drop 1 (beyond_white text) else text)
    → FindsOn (λ b. b == 125) (beyond_member value) (λ r. member_fault (fault r)) less (not now) b rest
    (found before depth_left (λ r. document_fault value fault r here inside))
document_begun value fault depth_left before here inside b less text rest now eb el et en er = rw (← et, eb, el)
    (subst (FindsOn (λ b. b == 125) (beyond_member value) (λ r. member_fault (fault r)) (levels_inside depth_left) (not now) (option_or before (depth_fault depth_left here)) rest)
    (document_found value fault depth_left before here text)
    (finds_begun (λ b. b == 125) (beyond_member value) (λ r. member_fault (fault r)) (levels_inside depth_left) (option_or before (depth_fault depth_left here)) text rest now en er))

pub more_finds : {X E : Type 0} (answer : Result X E) (new : Option TreeFault) (closes : ℕ → Bool) (part : List ℕ → Beyond) (f : ℕ → Finds) (depth_left : Option ℕ)
    (more : Bool) (now whole : Option TreeFault) (text : List ℕ) → more ≡ true
    → ((n : ℕ) → length text < n → OnOk answer (new ≡ found now depth_left (λ r. first_in (f r) (parts_from closes part n text))))
    → FindsOn closes part f depth_left more now text whole → OnOk answer (new ≡ whole)
more_finds (Err e) new closes part f depth_left more now whole text is finds on = tt
more_finds (Ok x) new closes part f depth_left false now whole text is finds on = absurd cc
more_finds (Ok x) new closes part f depth_left true now whole text is finds (n, lt, e) = finds n lt ∙ e

-- an empty document
pub document_closed : (value : List ℕ → Beyond) (fault : ℕ → Finds) (depth_left : Option ℕ) (before : Option TreeFault) (here inside : List ℕ) (b : Option TreeFault) (less : Option ℕ)
    (text rest : List ℕ) (now : Bool) → b ≡ option_or before (depth_fault depth_left here) → less ≡ levels_inside depth_left → text ≡ inside
    → now ≡ begins (λ b. b == 125) (beyond_white text) → rest ≡ (if now then drop 1 (beyond_white text) else text) → now ≡ true
    → b ≡ found before depth_left (λ r. document_fault value fault r here inside)
document_closed value fault depth_left before here inside b less text rest now eb el et en er is =
    finds_ended (λ b. b == 125) (beyond_member value) (λ r. member_fault (fault r)) less (not now) b (found before depth_left (λ r. document_fault value fault r here inside)) rest
    (ap not is) (document_begun value fault depth_left before here inside b less text rest now eb el et en er)

-- a member: its name, then its value
pub member_found : (before mid new : Option TreeFault) (depth_left : Option ℕ) (f : ℕ → Finds) (text rest name from : List ℕ) → beyond_name text ≡ Ok rest
    → name ≡ quoted_name text → from ≡ beyond_white text → mid ≡ found before depth_left (λ r. zero_fault name from) → new ≡ found mid depth_left (λ r. f r rest)
    → new ≡ found before depth_left (λ r. member_fault (f r) text)
unfolding name_fault
member_found before mid new depth_left f text rest name from e q w m n = n ∙ ap (λ b. found b depth_left (λ r. f r rest)) m
    ∙ found_both before depth_left (λ r. zero_fault name from) (λ r. f r rest) (λ r. member_fault (f r) text) (λ r. rw (e, q, w) refl)

pub scalar_found : (new before : Option TreeFault) (depth_left : Option ℕ) (level : ℕ) (text here : List ℕ) → here ≡ beyond_white text
    → opens_object here ≡ false → opens_array here ≡ false → new ≡ found before depth_left (λ r. scalar_fault here)
    → new ≡ found before depth_left (λ r. value_fault level r text)
scalar_found new before depth_left level text here e o a reported = reported ∙ found_same before depth_left _ _
    (λ r. rw e (sym (fault_scalar level r text (ap opens_object (sym e) ∙ o) (ap opens_array (sym e) ∙ a))))

-- ---- the members of an object whose first name is `$code` or `$scope`, of which one or two matter

module _ (value : List ℕ → Beyond) (inside start : List ℕ) (now : Bool) (reports : now ≡ begins (λ b. b == 125) (beyond_white inside))
    (moved : start ≡ (if now then drop 1 (beyond_white inside) else inside)) (opened : now ≡ false) where
  from_start : PartsGoOn (λ b. b == 125) (beyond_member value) (not now) start (beyond_object value inside)
  from_start = begun (λ b. b == 125) (beyond_member value) inside start now reports moved

  same_start : start ≡ inside
  same_start = moved ∙ ap (λ b. if b then drop 1 (beyond_white inside) else inside) opened

  pub first_halted : (halt : Halt) → Halts halt (beyond_member value start) → Halts halt (beyond_object value inside)
  first_halted halt h =
      part_halted (λ b. b == 125) (beyond_member value) (beyond_object value inside) start (not now) halt (ap not opened) h from_start

  module _ (mid : List ℕ) (first : beyond_member value start ≡ Ok mid) (less : length mid < length start) where
    pub first_ended : (stop : Stop) → beyond_next (λ b. b == 125) mid ≡ Err stop → beyond_object value inside ≡ Err stop
    first_ended stop h =
        next_stopped (λ b. b == 125) (beyond_member value) (beyond_object value inside) start mid (not now) stop (ap not opened) first h from_start

    module _ (second : List ℕ) (more : Bool) (next : beyond_next (λ b. b == 125) mid ≡ Ok (more, second)) (le : length second ≤ length mid) where
      after_one : PartsGoOn (λ b. b == 125) (beyond_member value) more second (beyond_object value inside)
      after_one = part_on (λ b. b == 125) (beyond_member value) (beyond_object value inside) start mid second (not now) more (ap not opened) first less next le
          from_start

      pub one_passed : more ≡ false → beyond_object value inside ≡ Ok second
      one_passed is = ended (λ b. b == 125) (beyond_member value) (beyond_object value inside) second more is after_one

      pub one_listed : more ≡ false → members_in value inside ≡ start ∷ []
      one_listed is = members_one value inside mid second (sym reports ∙ opened) (ap (beyond_member value) (sym same_start) ∙ first)
          (next ∙ ap (λ m. Ok (m, second)) is) ∙ ap (λ t. t ∷ []) (sym same_start)

      pub second_halted : (halt : Halt) → more ≡ true → Halts halt (beyond_member value second) → Halts halt (beyond_object value inside)
      second_halted halt is h = part_halted (λ b. b == 125) (beyond_member value) (beyond_object value inside) second more halt is h after_one

      module _ (is : more ≡ true) (after : List ℕ) (other : beyond_member value second ≡ Ok after) (less2 : length after < length second) where
        pub second_ended : (stop : Stop) → beyond_next (λ b. b == 125) after ≡ Err stop → beyond_object value inside ≡ Err stop
        second_ended stop h =
            next_stopped (λ b. b == 125) (beyond_member value) (beyond_object value inside) second after more stop is other h after_one

        module _ (rest : List ℕ) (last : Bool) (end : beyond_next (λ b. b == 125) after ≡ Ok (last, rest)) (le2 : length rest ≤ length after) where
          after_two : PartsGoOn (λ b. b == 125) (beyond_member value) last rest (beyond_object value inside)
          after_two = part_on (λ b. b == 125) (beyond_member value) (beyond_object value inside) second after rest more last is other less2 end le2 after_one

          first_inside : beyond_member value inside ≡ Ok mid
          first_inside = ap (beyond_member value) (sym same_start) ∙ first

          next_inside : beyond_next (λ b. b == 125) mid ≡ Ok (true, second)
          next_inside = next ∙ ap (λ m. Ok (m, second)) is

          shorter : length second < length inside
          shorter = omega (arith, le, less, ap length same_start)

          pub two_passed : last ≡ false → beyond_object value inside ≡ Ok rest
          two_passed over = ended (λ b. b == 125) (beyond_member value) (beyond_object value inside) rest last over after_two

          pub two_listed : last ≡ false → members_in value inside ≡ start ∷ second ∷ []
          two_listed over = members_two value inside mid second after rest (sym reports ∙ opened) first_inside next_inside shorter other
              (end ∙ ap (λ m. Ok (m, rest)) over) ∙ ap (λ t. t ∷ second ∷ []) (sym same_start)

          more_values : {X : Type 0} (answer : Result X Halt) (remaining : List ℕ) → last ≡ true
              → ((n : ℕ) → length rest < n → Passes answer remaining (beyond_parts (λ b. b == 125) (beyond_member value) n rest))
              → Passes answer remaining (beyond_object value inside)
          more_values answer remaining on passes =
              more_passes answer remaining (λ b. b == 125) (beyond_member value) rest (beyond_object value inside) last on passes after_two

          pub more_halted : (halt : Halt) → last ≡ true
              → ((n : ℕ) → length rest < n → Halts halt (beyond_parts (λ b. b == 125) (beyond_member value) n rest)) → Halts halt (beyond_object value inside)
          more_halted halt on passes = more_values {X = ℕ} (Err halt) [] on passes

          pub more_passed : (remaining : List ℕ) → last ≡ true
              → ((n : ℕ) → length rest < n → beyond_parts (λ b. b == 125) (beyond_member value) n rest ≡ Ok remaining) → beyond_object value inside ≡ Ok remaining
          more_passed remaining on passes = more_values {X = ℕ} (Ok 0) remaining on passes

          pub more_bad : (fault : ℕ → Finds) (depth_left : ℕ) (here : List ℕ) → last ≡ true
              → code_fault fault depth_left here (map part_of (members_in value inside)) ≡ fault_at here BadWrapper
          more_bad fault depth_left here on = code_of_more value fault depth_left here inside mid second after rest (sym reports ∙ opened) first_inside next_inside shorter
              other (end ∙ ap (λ m. Ok (m, rest)) on) (omega (arith, le2, less2))
