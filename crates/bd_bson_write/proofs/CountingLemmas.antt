-- How many bytes of a limit remain after others.
use Rattle.std.proofs.Common.{◌≡◌, ◌≢◌, ◌+◌, ℕ, List, [], ◌∷◌, ◌++◌, length, Option, Some, None, refl, arith, subst, length-append}
use Rattle.std.proofs.lemmas.Bool.Decides.{nat_tests}
use Rattle.bd_value.specs.Tree as trees
use Rattle.bd_bson_view.specs.Unique.{number_length}
use Rattle.bd_bson_view.specs.Spelling.{number, long, scalar_bytes, data_of}
use Rattle.bd_bson_write.specs.inside.Counting.{IsRemainder}

-- what remains after as many
pub remainder_of : (limit n m : ℕ) (r : Option ℕ) → n ≡ m → IsRemainder limit n r → IsRemainder limit m r
remainder_of limit n m r same after = subst (λ (k : ℕ). IsRemainder limit k r) same after

-- what remains after some bytes, and then after more
pub remainder_then : (limit a b m mid : ℕ) (r : Option ℕ) → IsRemainder limit a (Some mid) → IsRemainder mid b r → a + b ≡ m → IsRemainder limit m r
remainder_then limit a b m mid (Some remaining) one two sum = omega arith
remainder_then limit a b m mid None one two sum = omega arith

-- ---- sizes of scalars

pub long_size : (n : ℕ) → 8 ≡ length (long n)
unfolding long
long_size n = refl

pub timestamp_size : (s i : ℕ) → 8 ≡ length (scalar_bytes (trees.timestamp s i))
timestamp_size s i = omega (arith, length-append (number i) (number s), number_length i, number_length s)

binary_size : (k : ℕ) (bs : List ℕ) → length (scalar_bytes (trees.binary k bs)) ≡ 5 + length (data_of k bs)
binary_size k bs = let content = data_of k bs in omega (arith, length-append (number (length content)) (k ∷ content), number_length (length content))

pub old_binary_size : (k : ℕ) (bs : List ℕ) → k ≡ 2 → length bs + 9 ≡ length (scalar_bytes (trees.binary k bs))
old_binary_size k bs is = rw is (omega (arith, binary_size 2 bs, length-append (number (length bs)) bs, number_length (length bs)))

pub other_binary_size : (k : ℕ) (bs : List ℕ) → k ≢ 2 → length bs + 5 ≡ length (scalar_bytes (trees.binary k bs))
other_binary_size k bs is = let size = binary_size k bs in grind (arith, nat_tests)
