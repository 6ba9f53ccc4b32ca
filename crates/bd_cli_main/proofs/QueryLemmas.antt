-- The text of a query that is read to its end, or is not.
use Rattle.std.proofs.Common.{◌≡◌, ◌<◌, ◌≤◌, ◌+◌, ℕ, List, [], length, suc, Option, Some, None, Result, Ok, Err, IfSome, refl, arith}
use Rattle.std.specs.Prelude.{IfErr, IfOk}
use Rattle.std.specs.{Result.IsErrOf}
use Rattle.bd_value.specs.Limits.{longest_command}
use Rattle.bd_io_device.specs.{Devices.after_more, declared.reading.ReadFault.ReadFault}
use Rattle.bd_io_device.specs.Devices.{AreReads, Reader}
use Rattle.bd_io_device.proofs.DevicesLemmas.{reads_at_least}
use Rattle.bd_cli_main.specs.Query.{FailsToReadQuery, ReadsQuery}
use Rattle.bd_io_device.specs.declared.reading.ReadFault.TheVariants as reads

-- one read per byte, and the one that finds the end
abbrev pub most_reads : ℕ
most_reads = 16777217

module _ {V R : Type 0} (bytes : V → List ℕ) (size : V → ℕ) (sized : (v : V) → size v ≡ length (bytes v)) (state : R → Reader) (gives : R → Option (List ℕ) → R → Type 0)
    (old new : R) where
  -- as many reads as a text may take return one byte more than it may have
  never_too_many : (given : List ℕ) → length given ≤ longest_command → AreReads gives most_reads old given new → ⊥
  never_too_many given short each = let n = reads_at_least most_reads old new given each in omega (arith, n, short)

  pub text_read : (r : Result V ReadFault) → IfOk r (λ v. IfSome (state old).remaining (λ xs. bytes v ≡ xs))
      → IfOk r (λ v. (n : ℕ) × (last : R) × (n < most_reads) × AreReads gives n old (bytes v) last × gives last (Some []) new)
      → IfOk r (λ v. size v ≤ longest_command) → (¬ IsErrOf r reads.Device → (state new).failures ≡ (state old).failures)
      → IfOk r (λ v. ReadsQuery state gives old new (bytes v))
  text_read (Ok v) known whole short same =
      let n = sized v in
      let fits : length (bytes v) ≤ longest_command = omega (arith, short, n) in
      (suc whole.0, (whole.0, whole.1, refl, whole.3, whole.4), known, fits, same (λ e. absurd cc))
  text_read (Err f) known whole short same = tt

  pub text_unread : (r : Result V ReadFault) → (¬ IsErrOf r reads.Device → (state new).failures ≡ (state old).failures)
      → (IsErrOf r reads.Device → (state new).failures ≡ after_more (state old).failures 1)
      → (IsErrOf r reads.Device → (n : ℕ) × (given : List ℕ) × (last : R) × (n < most_reads) × (length given ≤ longest_command) × AreReads gives n old given last
      × gives last None new)
      → (IsErrOf r reads.TooLong → (n : ℕ) × (given : List ℕ) × (part : List ℕ) × (last : R) × (n < most_reads) × (length given ≤ longest_command)
      × (longest_command < length given + length part) × AreReads gives n old given last × gives last (Some part) new)
      → (IsErrOf r reads.TooManyTurns → (given : List ℕ) × (length given ≤ longest_command) × AreReads gives most_reads old given new)
      → (IsErrOf r reads.NoMemory → (n : ℕ) × (given : List ℕ) × (0 < n) × (length given ≤ longest_command) × AreReads gives n old given new)
      → IfErr r (FailsToReadQuery state gives old new)
  text_unread (Ok v) same failed device long many few = tt
  text_unread (Err reads.Device) same failed device long many few =
      let d = device refl in (suc d.0, d.1, (d.0, d.2, refl, d.5, d.6), d.4, failed refl)
  text_unread (Err reads.TooLong) same failed device long many few =
      let l = long refl in (suc l.0, l.1, l.2, (l.0, l.3, refl, l.7, l.8), l.5, l.6, same (λ e. absurd cc))
  text_unread (Err reads.TooManyTurns) same failed device long many few = let m = many refl in never_too_many m.0 m.1 m.2
  text_unread (Err reads.NoMemory) same failed device long many few =
      let f = few refl in (f.0, f.1, f.2, f.4, f.3, same (λ e. absurd cc))
