-- What is printed of a document, after what is in a buffer.
use Rattle.std.proofs.Common.{◌≡◌, ◌++◌, ℕ, List, Result, Ok, Err, take}
use Rattle.std.specs.Prelude.{IfOk}
use Rattle.bd_extjson_text.specs.Buffer.{Appends}

module _ {E : Type 0} (old new : List ℕ) (end : ℕ) (bytes : List ℕ) (Is : List ℕ → Type 0) (is : Is bytes) where
  -- what was appended is such a text
  pub bytes_appended : (r : Result ℕ E) → Appends old end r new bytes → IfOk r (λ to. (text : List ℕ) × Is text × (take to new ≡ take end old ++ text))
  bytes_appended (Ok to) appends = (bytes, is, appends.0)
  bytes_appended (Err e) appends = _
