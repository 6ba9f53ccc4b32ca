use Rattle.std.proofs.Common.{◌≤◌, ◌⊎◌, ℕ, List, [], length, Option, Some, None, refl, inl, inr}
use Rattle.bd_value.specs.{Limits.longest_input, Tree.Doc}
use Rattle.bd_bson_check.specs.{Fault.Fault, Dump.IsDump, Dump.IsDumpScan, Dump.FailsAfter}
use Rattle.bd_bson_check.proofs.DumpLemmas.{scan_once, scan_on}
use Rattle.bd_bson_check.proofs.laws.dump_or_fault.Goals as goal

of_scan : (ds : List Doc) (end : Option Fault) (bytes : List ℕ) → length bytes ≤ longest_input → IsDumpScan ds end bytes
    → ((ds : List Doc) × IsDump ds bytes) ⊎ ((ds : List Doc) × (f : Fault) × FailsAfter ds f bytes)
of_scan ds None bytes short w = inl (ds, (w, short))
of_scan ds (Some f) bytes short w = inr (ds, f, w)

both : (bytes : List ℕ) (ds es : List Doc) (f : Fault) → IsDump ds bytes → FailsAfter es f bytes → ⊥
both bytes ds es f d w = let e = (scan_once ds es None (Some f) bytes d.0 w).1 in cc

pub returns : goal.returns
returns c = record {
  either = λ bytes fits short. let w = scan_on [] [] bytes fits refl in of_scan w.more w.end bytes short w.scan;
  never_both = both;
}
