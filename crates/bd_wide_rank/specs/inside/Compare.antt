-- The order of the values of numbers.
use Rattle.std.specs.Prelude.{◌<◌, ℤ, pos}
use Rattle.std.specs.Ordering.{int_cmp, nat_cmp, ordering_then}
use Rattle.std.specs.declared.cmp.Ordering.{Ordering}
use Rattle.bd_wide_number.specs.Value.{Value, nan, infinite, finite, rank, signed}
use Rattle.bd_wide_rank.specs.Worth.{beyond}

-- the size of a finite value with its sign, in units of 10 ^ -6176; 0 of any other
abbrev pub signed_size : Value → ℤ
signed_size nan = pos 0
signed_size (infinite negative) = pos 0
signed_size (finite negative size) = signed negative size

-- The order of two values: by their kinds, NaN below -Infinity, then all finite values, then Infinity;
-- and two finite values by their sizes with their signs.
abbrev pub value_cmp : Value → Value → Ordering
value_cmp a b = ordering_then (nat_cmp (rank a) (rank b)) (int_cmp (signed_size a) (signed_size b))

-- If it is finite, its size is that of a number of BSON.
abbrev pub IsNear : Value → Type 0
IsNear nan = Unit {0}
IsNear (infinite negative) = Unit {0}
IsNear (finite negative size) = size < beyond
