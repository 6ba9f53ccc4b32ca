-- Skipping items: a bound of as many steps as there are bytes is enough.
use Rattle.std.proofs.Common.{◌≡◌, ◌≤◌, ◌<◌, ◌-◌, ◌∙◌, sym, refl, not, ◌||◌, if◌then◌else◌, ℕ, zero, suc, Bool, true, false, List, [], ◌∷◌, length, drop, ap, Ok, Err, arith}
use Rattle.std.specs.Prelude.{Result}
use Rattle.bd_extjson_fault.specs.declared.skip.Stop.{Stop}
use Rattle.bd_extjson_fault.specs.JsonSyntax.{Beyond, syntax_at, begins, beyond_items, beyond_white, beyond_next, beyond_name, beyond_member, beyond_parts, beyond_group, beyond_scalar, beyond_object, beyond_array, beyond_value, opens_object, opens_array}
use Rattle.bd_extjson_fault.specs.inside.SecondPass.{Passes, Halts}
use Rattle.bd_extjson_fault.specs.declared.second_pass.Halt.{Halt}
use Rattle.bd_extjson_fault.specs.declared.second_pass.Halt.TheVariants.{NoJson, NoMemory}
use Rattle.bd_extjson_fault.specs.declared.skip.StopKind.TheVariants.{TooDeep}

-- the items from here on give what all of them give
abbrev pub GoesOn : (ℕ → Bool) → (List ℕ → Beyond) → List ℕ → Beyond → Type 0
GoesOn closes item text whole = (n : ℕ) × (length text ≤ n) × (beyond_items closes item n text ≡ whole)

pub closed : (closes : ℕ → Bool) (item : List ℕ → Beyond) (whole : Beyond) (text : List ℕ) → begins closes text ≡ true
    → GoesOn closes item text whole → whole ≡ Ok (drop 1 text)
unfolding beyond_items
closed closes item whole [] b on = absurd cc
closed closes item whole (x ∷ text) b (zero, le, e) = absurd (omega (arith, le))
closed closes item whole (x ∷ text) b (suc n, le, e) = sym e ∙ rw b refl

pub stopped : (closes : ℕ → Bool) (item : List ℕ → Beyond) (whole : Beyond) (text : List ℕ) (stop : Stop) → begins closes text ≡ false
    → item [] ≡ syntax_at [] → item text ≡ Err stop → GoesOn closes item text whole → whole ≡ Err stop
unfolding beyond_items
stopped closes item whole [] stop b none fails (zero, le, e) = sym e ∙ sym none ∙ fails
stopped closes item whole (x ∷ text) stop b none fails (zero, le, e) = absurd (omega (arith, le))
stopped closes item whole text stop b none fails (suc n, le, e) = sym e ∙ rw (b, fails) refl

pub goes_on : (closes : ℕ → Bool) (item : List ℕ → Beyond) (whole : Beyond) (text rest : List ℕ) → begins closes text ≡ false
    → item text ≡ Ok rest → length rest < length text → GoesOn closes item text whole → GoesOn closes item rest whole
unfolding beyond_items
goes_on closes item whole text rest b gives shorter (zero, le, e) = absurd (omega (arith, le, shorter))
goes_on closes item whole text rest b gives shorter (suc n, le, e) = (n, omega (arith, le, shorter), rw (b, gives) at e)

-- the parts from here on give what all of them give; or no parts remain
abbrev pub PartsGoOn : (ℕ → Bool) → (List ℕ → Beyond) → Bool → List ℕ → Beyond → Type 0
PartsGoOn closes part true text whole = (n : ℕ) × (length text < n) × (beyond_parts closes part n text ≡ whole)
PartsGoOn closes part false text whole = whole ≡ Ok text

pub begun : (closes : ℕ → Bool) (part : List ℕ → Beyond) (text rest : List ℕ) (now : Bool) → now ≡ begins closes (beyond_white text)
    → rest ≡ (if now then drop 1 (beyond_white text) else text) → PartsGoOn closes part (not now) rest (beyond_group closes part text)
unfolding beyond_group
begun closes part text rest true b e = rw (← b, e) refl
begun closes part text rest false b e = rw (← b, e) (suc (length text), omega arith, refl)

pub begun_at : (closes : ℕ → Bool) (part : List ℕ → Beyond) (start text rest : List ℕ) (now : Bool) → text ≡ start
    → now ≡ begins closes (beyond_white text) → rest ≡ (if now then drop 1 (beyond_white text) else text)
    → PartsGoOn closes part (not now) rest (beyond_group closes part start)
begun_at closes part start text rest now same b e = rw (← same) (begun closes part text rest now b e)

-- after a part with a comma another part follows, else the group has ended
pub part_on : (closes : ℕ → Bool) (part : List ℕ → Beyond) (whole : Beyond) (text mid rest : List ℕ) (more next : Bool) → more ≡ true
    → part text ≡ Ok mid → length mid < length text → beyond_next closes mid ≡ Ok (next, rest) → length rest ≤ length mid
    → PartsGoOn closes part more text whole → PartsGoOn closes part next rest whole
unfolding beyond_parts
part_on closes part whole text mid rest false next is given shorter reported le on = absurd cc
part_on closes part whole text mid rest true next is given shorter reported le (zero, lt, e) = absurd (omega (arith, lt))
part_on closes part whole text mid rest true true is given shorter reported le (suc n, lt, e) = (n, omega (arith, lt, le, shorter), rw (given, reported) at e)
part_on closes part whole text mid rest true false is given shorter reported le (suc n, lt, e) = sym (rw (given, reported) at e)

pub part_stopped : (closes : ℕ → Bool) (part : List ℕ → Beyond) (whole : Beyond) (text : List ℕ) (more : Bool) (stop : Stop) → more ≡ true
    → part text ≡ Err stop → PartsGoOn closes part more text whole → whole ≡ Err stop
unfolding beyond_parts
part_stopped closes part whole text false stop is fails on = absurd cc
part_stopped closes part whole text true stop is fails (zero, lt, e) = absurd (omega (arith, lt))
part_stopped closes part whole text true stop is fails (suc n, lt, e) = sym e ∙ rw fails refl

-- a fault after a part is the fault of its group
pub next_stopped : (closes : ℕ → Bool) (part : List ℕ → Beyond) (whole : Beyond) (text mid : List ℕ) (more : Bool) (stop : Stop) → more ≡ true
    → part text ≡ Ok mid → beyond_next closes mid ≡ Err stop → PartsGoOn closes part more text whole → whole ≡ Err stop
unfolding beyond_parts
next_stopped closes part whole text mid false stop is given fails on = absurd cc
next_stopped closes part whole text mid true stop is given fails (zero, lt, e) = absurd (omega (arith, lt))
next_stopped closes part whole text mid true stop is given fails (suc n, lt, e) = sym e ∙ rw (given, fails) refl

pub ended : (closes : ℕ → Bool) (part : List ℕ → Beyond) (whole : Beyond) (text : List ℕ) (more : Bool) → more ≡ false
    → PartsGoOn closes part more text whole → whole ≡ Ok text
ended closes part whole text false is on = on
ended closes part whole text true is on = absurd cc

-- a value, with a bracket remaining or without
pub value_scalar : (level : ℕ) (text : List ℕ) → opens_object (beyond_white text) ≡ false → opens_array (beyond_white text) ≡ false
    → beyond_value level text ≡ beyond_scalar (beyond_white text)
unfolding beyond_value
value_scalar zero text o a = rw (o, a) refl
value_scalar (suc level) text o a = rw (o, a) refl

pub value_deep : (level : ℕ) (text : List ℕ) → level ≡ 0 → opens_object (beyond_white text) || opens_array (beyond_white text) ≡ true
    → beyond_value level text ≡ Err (record { kind = TooDeep; remaining = length (beyond_white text) })
unfolding beyond_value
value_deep zero text z o = rw o refl
value_deep (suc level) text z o = absurd (omega (arith, z))

pub value_object : (level less : ℕ) (text : List ℕ) → level ≡ suc less → opens_object (beyond_white text) ≡ true
    → beyond_value level text ≡ beyond_object (beyond_value less) (drop 1 (beyond_white text))
unfolding beyond_value
value_object level less text z o = rw (z, o) refl

pub value_array : (level less : ℕ) (text : List ℕ) → level ≡ suc less → opens_object (beyond_white text) ≡ false
    → opens_array (beyond_white text) ≡ true → beyond_value level text ≡ beyond_array (beyond_value less) (drop 1 (beyond_white text))
unfolding beyond_value
value_array level less text z o a = rw (z, o, a) refl

-- the result of the pass for a value, by its first byte
pub scalar_value : (reported : Beyond) (level : ℕ) (text here : List ℕ) → here ≡ beyond_white text → opens_object here ≡ false → opens_array here ≡ false
    → beyond_scalar here ≡ reported → beyond_value level text ≡ reported
scalar_value reported level text here e o a g =
    value_scalar level text (ap opens_object (sym e) ∙ o) (ap opens_array (sym e) ∙ a) ∙ ap beyond_scalar (sym e) ∙ g

pub passes_object : {X : Type 0} (answer : Result X Halt) (rest : List ℕ) (level : ℕ) (text here inside : List ℕ) → here ≡ beyond_white text
    → 0 < level → opens_object here ≡ true → inside ≡ drop 1 here
    → Passes answer rest (beyond_object (beyond_value (level - 1)) inside) → Passes answer rest (beyond_value level text)
passes_object answer rest level text here inside e lt o i w =
    let below : level ≡ suc (level - 1) = omega (arith, lt) in
    rw (value_object level (level - 1) text below (ap opens_object (sym e) ∙ o), ← e, ← i) w

pub passes_array : {X : Type 0} (answer : Result X Halt) (rest : List ℕ) (level : ℕ) (text here inside : List ℕ) → here ≡ beyond_white text
    → 0 < level → opens_object here ≡ false → opens_array here ≡ true → inside ≡ drop 1 here
    → Passes answer rest (beyond_array (beyond_value (level - 1)) inside) → Passes answer rest (beyond_value level text)
passes_array answer rest level text here inside e lt o a i w =
    let below : level ≡ suc (level - 1) = omega (arith, lt) in
    rw (value_array level (level - 1) text below (ap opens_object (sym e) ∙ o) (ap opens_array (sym e) ∙ a), ← e, ← i) w

pub reports_deep : (level : ℕ) (text here : List ℕ) (stop : Stop) → here ≡ beyond_white text → level ≡ 0
    → opens_object here || opens_array here ≡ true → stop ≡ record { kind = TooDeep; remaining = length here } → beyond_value level text ≡ Err stop
reports_deep level text here stop e z o is = rw (is, e) (value_deep level text z (ap (λ t. opens_object t || opens_array t) (sym e) ∙ o))

-- the pass ends in a part, or after it
pub part_halted : (closes : ℕ → Bool) (part : List ℕ → Beyond) (whole : Beyond) (text : List ℕ) (more : Bool) (halt : Halt) → more ≡ true
    → Halts halt (part text) → PartsGoOn closes part more text whole → Halts halt whole
part_halted closes part whole text more (NoJson stop) is fails on = part_stopped closes part whole text more stop is fails on
part_halted closes part whole text more NoMemory is fails on = tt

-- a part is a name and a value
pub member_halted : (value : List ℕ → Beyond) (text rest : List ℕ) (halt : Halt) → beyond_name text ≡ Ok rest → Halts halt (value rest)
    → Halts halt (beyond_member value text)
member_halted value text rest halt e h = rw e h

pub member_passed : (value : List ℕ → Beyond) (text rest after : List ℕ) → beyond_name text ≡ Ok rest → value rest ≡ Ok after
    → beyond_member value text ≡ Ok after
member_passed value text rest after e h = rw e h

-- if a pass skips one more part, it skips the group
pub more_passes : {X : Type 0} (answer : Result X Halt) (rest : List ℕ) (closes : ℕ → Bool) (part : List ℕ → Beyond) (text : List ℕ) (whole : Beyond) (more : Bool)
    → more ≡ true → ((n : ℕ) → length text < n → Passes answer rest (beyond_parts closes part n text)) → PartsGoOn closes part more text whole
    → Passes answer rest whole
more_passes answer rest closes part text whole false is passes on = absurd cc
more_passes answer rest closes part text whole true is passes (n, lt, e) = rw (← e) (passes n lt)

-- brackets with nothing in them
pub group_closed : (closes : ℕ → Bool) (part : List ℕ → Beyond) (start text rest : List ℕ) (now : Bool) → text ≡ start
    → now ≡ begins closes (beyond_white text) → rest ≡ (if now then drop 1 (beyond_white text) else text) → now ≡ true → beyond_group closes part start ≡ Ok rest
group_closed closes part start text rest now same b e is =
    ended closes part (beyond_group closes part start) rest (not now) (ap not is) (begun_at closes part start text rest now same b e)
