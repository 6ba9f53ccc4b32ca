-- Values that were found in bytes.
use Rattle.std.specs.Prelude.{ℕ, ◌≤◌, List, length, drop, Bool, true, false, Option, Some, None}
use Rattle.bd_value.specs.declared.node.Kind.{Kind}
use Rattle.bd_value.specs.declared.node.Kind.TheVariants as kinds
use Rattle.bd_value.specs.Tree.{Tree}
use Rattle.bd_wide_dump.specs.declared.follow.Found.{Found}
use Rattle.bd_wide_dump.specs.inside.Begins.{HasValue}

-- The value is there.
pub record IsAt (bytes : List ℕ) (tree : Tree) (found : Found) : Type 0 where
  pub here : HasValue found.typed (drop found.start bytes) tree
  pub inside : found.start ≤ length bytes

-- The value was found if there is one.
abbrev pub Finds : List ℕ → Option Tree → Option Found → Type 0
Finds bytes (Some tree) (Some found) = IsAt bytes tree found
Finds bytes None None = Unit {0}
Finds bytes _ _ = ⊥

-- whether values of this kind have a plain text of their own, and are no numbers
abbrev pub is_plain : Kind → Bool
is_plain kinds.Null = true
is_plain kinds.Text = true
is_plain kinds.ObjectId = true
is_plain kinds.Date = true
is_plain kinds.Binary = true
is_plain _ = false
