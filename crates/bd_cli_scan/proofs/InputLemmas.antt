-- An input that is read whole.
use Rattle.std.proofs.Common.{◌≡◌, ◌<◌, ◌≤◌, ℕ, List, [], ◌+◌, length, Option, Some, None, Result, Ok, Err, IfSome, refl, inl, inr, arith}
use Rattle.std.specs.Prelude.{IfOk, MatchResult, OnOk}
use Rattle.std.specs.{Result.IsErrOf, Io.KnownBytes.IsAtEnd}
use Rattle.bd_value.specs.Limits.{longest_input, most_reads}
use Rattle.bd_io_device.specs.{Devices.after_more, declared.reading.ReadFault.ReadFault}
use Rattle.bd_io_device.specs.Devices.{AreReads, Reader, TakesAtMost, between}
use Rattle.bd_io_device.proofs.DevicesLemmas.{reads_at_least}
use Rattle.bd_cli_scan.specs.Input.{ReadsInput, ReadsNoFurther}
use Rattle.bd_io_device.specs.declared.reading.ReadFault.TheVariants as reads

module _ {V R : Type 0} (bytes : V → List ℕ) (size : V → ℕ) (sized : (v : V) → size v ≡ length (bytes v)) (gives : R → Option (List ℕ) → R → Type 0) (old new : R) where
  -- as many reads as an input may take return one byte more than it may have
  abbrev Exhausts : Type 0
  Exhausts = (given : List ℕ) × (length given ≤ longest_input) × AreReads gives most_reads old given new

  never_too_many : Exhausts → ⊥
  never_too_many (given, short, each) = let n = reads_at_least most_reads old new given each in omega (arith, n, short)

  pub was_read : (before after : Reader) (r : Result V ReadFault)
      → IfOk r (λ v. IfSome before.remaining (λ xs. bytes v ≡ xs)) → OnOk r (IsAtEnd after.remaining) → IfOk r (λ v. size v ≤ longest_input)
      → (¬ IsErrOf r reads.Device → after.failures ≡ before.failures) → (IsErrOf r reads.Device → after.failures ≡ after_more before.failures 1)
      → (IsErrOf r reads.TooLong → IfSome before.remaining (λ xs. longest_input < length xs)) → (IsErrOf r reads.TooManyTurns → Exhausts)
      → (IsErrOf r reads.NoMemory → TakesAtMost longest_input (between before after))
      → MatchResult r (λ v. ReadsInput (between before after) (Ok (bytes v))) (λ f. ReadsInput (between before after) (Err f))
  was_read before after (Ok v) all end short no_failure failed long many few =
      let n = sized v in (all, end, (let fits : length (bytes v) ≤ longest_input = omega (arith, short, n) in fits), no_failure (λ e. absurd cc))
  was_read before after (Err reads.Device) all end short no_failure failed long many few = failed refl
  was_read before after (Err reads.TooLong) all end short no_failure failed long many few = (long refl, no_failure (λ e. absurd cc))
  was_read before after (Err reads.TooManyTurns) all end short no_failure failed long many few = never_too_many (many refl)
  was_read before after (Err reads.NoMemory) all end short no_failure failed long many few = (few refl, no_failure (λ e. absurd cc))

  pub no_further : (limit turns : ℕ) (r : Result V ReadFault)
      → IfOk r (λ v. (n : ℕ) × (last : R) × (n < turns) × AreReads gives n old (bytes v) last × gives last (Some []) new)
      → (IsErrOf r reads.Device → (n : ℕ) × (given : List ℕ) × (last : R) × (n < turns) × (length given ≤ limit) × AreReads gives n old given last × gives last None new)
      → (IsErrOf r reads.TooLong → (n : ℕ) × (given : List ℕ) × (part : List ℕ) × (last : R) × (n < turns) × (length given ≤ limit)
      × (limit < length given + length part) × AreReads gives n old given last × gives last (Some part) new)
      → (IsErrOf r reads.TooManyTurns → (given : List ℕ) × (length given ≤ limit) × AreReads gives turns old given new)
      → (IsErrOf r reads.NoMemory → (n : ℕ) × (given : List ℕ) × (n < turns) × (length given ≤ limit) × AreReads gives n old given new)
      → ReadsNoFurther gives old new
  no_further limit turns (Ok v) whole device long many few = let w = whole in (w.0, bytes v, w.1, w.3, inr (Some [], w.4))
  no_further limit turns (Err reads.Device) whole device long many few = let d = device refl in (d.0, d.1, d.2, d.5, inr (None, d.6))
  no_further limit turns (Err reads.TooLong) whole device long many few = let l = long refl in (l.0, l.1, l.3, l.7, inr (Some l.2, l.8))
  no_further limit turns (Err reads.TooManyTurns) whole device long many few = let m = many refl in (turns, m.0, new, m.2, inl refl)
  no_further limit turns (Err reads.NoMemory) whole device long many few = let f = few refl in (f.0, f.1, new, f.4, inl refl)
