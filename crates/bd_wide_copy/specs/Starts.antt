-- Where the documents of a dump begin, by the length that each states.
use Rattle.std.specs.Prelude.{ℕ, zero, suc, ◌+◌, Bool, List, [], ◌∷◌, length, drop}
use Rattle.std.specs.{List.list_all, Option.is_none}
use Rattle.bd_bson_check.specs.{Dump.frame_fault_under, Dump.stated_length, declared.profile.Profile.Profile}

-- The offsets of the documents in bytes, the first of which is at that offset. The first number bounds the steps: the count of the
-- bytes is always enough.
unfoldable pub starts_from : ℕ → ℕ → List ℕ → List ℕ
starts_from zero at bytes = []
starts_from (suc n) at [] = []
starts_from (suc n) at (b ∷ bytes) =
    at ∷ starts_from n (at + stated_length (b ∷ bytes)) (drop (stated_length (b ∷ bytes)) (b ∷ bytes))

-- the offsets of the documents of a dump
unfoldable pub starts_of : List ℕ → List ℕ
starts_of bytes = starts_from (length bytes) 0 bytes

-- whether the documents of a dump at these offsets have no fault under a profile
abbrev pub have_no_fault : Profile → List ℕ → List ℕ → Bool
have_no_fault profile bytes starts = list_all (λ s. is_none (frame_fault_under profile s (drop s bytes))) starts
