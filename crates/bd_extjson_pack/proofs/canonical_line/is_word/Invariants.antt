use Rattle.std.proofs.Common.{◌≡◌, take, false}
use Rattle.bd_extjson_pack.proofs.canonical_line.is_word.Given as goal

-- if none differed yet, the prefixes are equal
abbrev pub invariant-loop-i : goal.invariant-loop-i
invariant-loop-i g l = l.differ ≡ false → take l.i l.prefix ≡ take l.i l.word
