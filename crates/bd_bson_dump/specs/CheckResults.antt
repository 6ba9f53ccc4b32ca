-- What a check finds in each document of a dump. After a document with a fault it continues at the end that its length
-- states. Only a bad length ends it, since the start of the next document is then unknown.
use Rattle.std.specs.Prelude.{ℕ, zero, suc, ◌+◌, List, [], ◌∷◌, ◌++◌, ◌≡◌, length, drop, map, Option, Some, None}
use Rattle.std.specs.Prelude.{Result, Ok, Err}
use Rattle.bd_value.specs.Tree.{Doc}
use Rattle.bd_bson_check.specs.{Fault.Fault, Dump.frame_length, Dump.frame_fault_under, declared.fault.FaultKind.FaultKind, declared.profile.Profile.Profile}

-- the first fault of a document, or None, followed by the results after it;
-- a bad length is the last result
abbrev pub check_results_by : Option Fault → (ℕ → List (Option Fault)) → Result (Option ℕ) FaultKind → List (Option Fault)
check_results_by first after (Ok None) = []
check_results_by first after (Ok (Some n)) = first ∷ after n
check_results_by first after (Err kind) = first ∷ []

-- For each document in turn its first fault under a profile or None, if the first byte is at offset `base` of the dump.
-- The first number bounds the steps: the count of the bytes is always enough.
unfoldable pub check_results_from : Profile → ℕ → ℕ → List ℕ → List (Option Fault)
check_results_from profile zero base bytes = []
check_results_from profile (suc turns) base bytes =
    check_results_by (frame_fault_under profile base bytes) (λ n. check_results_from profile turns (base + n) (drop n bytes)) (frame_length bytes)

-- for each document in turn its first fault under a profile or None, if the first byte is at offset `base` of the dump
unfoldable pub check_results_at : Profile → ℕ → List ℕ → List (Option Fault)
check_results_at profile base bytes = check_results_from profile (length bytes) base bytes

-- for each document of a dump in turn its first fault under a profile, or None
abbrev pub check_results_under : Profile → List ℕ → List (Option Fault)
check_results_under profile bytes = check_results_at profile 0 bytes

-- for each document of a dump in turn its first fault, or None if it is well-formed
abbrev pub check_results : List ℕ → List (Option Fault)
check_results bytes = check_results_under Profile.Named bytes

-- The results begin as a scan does: None for each of its documents, and then its fault, if it has one.
abbrev pub BeginAs : List Doc → Option Fault → List (Option Fault) → Type 0
BeginAs ds None vs = vs ≡ map (λ d. None) ds
BeginAs ds (Some f) vs = (others : List (Option Fault)) × (vs ≡ map (λ d. None) ds ++ Some f ∷ others)
