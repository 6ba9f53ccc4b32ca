use Rattle.std.proofs.Common.{◌≡◌, length}
use Rattle.std.specs.Float.Parse.{lowercases_to}
use Rattle.bd_wide_read.proofs.decimal128.is_word.Given as goal

abbrev pub invariant-loop-words : goal.invariant-loop-words
invariant-loop-words l = lowercases_to l.rest l.words ≡ lowercases_to l.text l.word

abbrev pub decreases-loop-words : goal.decreases-loop-words
decreases-loop-words l = length l.words
