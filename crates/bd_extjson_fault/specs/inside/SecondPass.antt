-- The result of a pass over a text: where it ended, and the first fault of the tree so far.
use Rattle.std.specs.Prelude.{◌≡◌, ◌≤◌, ℕ, zero, suc, List, Option, Some, None, Result, Ok, MatchResult, Err, if◌then◌else◌}
use Rattle.bd_extjson_wrapper.specs.Wrapper.{is_scope_name}
use Rattle.bd_extjson_wrapper.specs.declared.wrapper.Wrapper.{Wrapper}
use Rattle.std.specs.Option.{option_or}
use Rattle.bd_extjson_fault.specs.JsonSyntax.{Beyond}
use Rattle.bd_extjson_fault.specs.declared.second_pass.Halt.{Halt}
use Rattle.bd_extjson_fault.specs.declared.second_pass.Halt.TheVariants.{NoJson, NoMemory}
use Rattle.bd_extjson_fault.specs.TreeFault.{Finds, fault_at}
use Rattle.bd_extjson_fault.specs.declared.tree_fault.TreeFault.{TreeFault}
use Rattle.bd_extjson_fault.specs.declared.tree_fault.TreeFaultKind.TheVariants.{TooDeep}

-- the pass ended at this fault of the syntax; if memory ran out, nothing is said
abbrev pub Halts : Halt → Beyond → Type 0
Halts (NoJson stop) reported = reported ≡ Err stop
Halts NoMemory reported = Unit {0}

-- the pass skipped the item, and that is the rest; or it ended since the text is not JSON, or memory ran out
abbrev pub Passes : {X : Type 0} → Result X Halt → List ℕ → Beyond → Type 0
Passes answer rest reported = MatchResult answer (λ x. reported ≡ Ok rest) (λ halt. Halts halt reported)

-- the pass ended within the text, which has n bytes
abbrev pub IsWithin : ℕ → Halt → Type 0
IsWithin size (NoJson stop) = stop.remaining ≤ size
IsWithin size NoMemory = Unit {0}

-- the first fault of the items before, and of a part with n levels remaining; without a number, faults are not searched
abbrev pub found : Option TreeFault → Option ℕ → (ℕ → Option TreeFault) → Option TreeFault
found before None fault = before
found before (Some depth_left) fault = option_or before (fault depth_left)

-- the same for a member, whose fault counts only if its name is `$scope`
abbrev pub found_in_scope : Finds → Option Wrapper → List ℕ → Option TreeFault
found_in_scope fault w text = if is_scope_name w then fault text else None

-- how many levels remain inside a document or an array, if n remain for it; None if there are none
abbrev pub levels_inside : Option ℕ → Option ℕ
levels_inside None = None
levels_inside (Some zero) = None
levels_inside (Some (suc depth_left)) = Some depth_left

-- a document or array for which no level remains is a fault at its bracket
abbrev pub depth_fault : Option ℕ → List ℕ → Option TreeFault
depth_fault None text = None
depth_fault (Some zero) text = fault_at text TooDeep
depth_fault (Some (suc depth_left)) text = None
