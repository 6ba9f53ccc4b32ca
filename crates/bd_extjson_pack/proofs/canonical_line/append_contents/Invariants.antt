use Rattle.std.proofs.Common.{◌≡◌, ◌++◌, ◌∷◌, [], ℕ, List, length}
use Rattle.std.specs.Prelude.{IsUtf8}
use denote.Shadow.{shadow}
use denote.Text.{Utf8}
use Rattle.bd_extjson_text.specs.Text.{escaped}
use Rattle.bd_extjson_pack.proofs.canonical_line.append_contents.Given as goal

-- the part of the string that was read, and its contents
abbrev pub invariant-loop-byte : goal.invariant-loop-byte
invariant-loop-byte l =
    (s : List ℕ) × (last : ℕ) × IsUtf8 s × (l.fn.text ≡ escaped s ++ l.rest) × shadow (Utf8 l.rest) × (l.out.items ≡ l.fn.out.items ++ (s ++ last ∷ []))

abbrev pub decreases-loop-byte : goal.decreases-loop-byte
decreases-loop-byte l = length l.rest
