-- What a reader of tokens writes, and why it writes nothing.
use Rattle.std.specs.Prelude.{◌≡◌, ◌++◌, ◌+◌, ℕ, List, length, Option, Some, None, Result, Ok, Err}
use Rattle.json.specs.Token.{Token}
use Rattle.json.specs.Json.{Json, Members, member, no_members}
use Rattle.bd_value.specs.Tree.{Tree, doc, Fields}
use Rattle.bd_bson_write.specs.TreeBytes.{OverrunsLimit}
use Rattle.bd_extjson_pack.specs.declared.refusal.Refusal.{Refusal}
use Rattle.bd_extjson_pack.specs.declared.refusal.Refusal.TheVariants as refusals

-- Nothing is read; or what is read has too many bytes, with those before it, or memory ran out.
abbrev pub NotWritten : {A : Type 0} → (A → ℕ) → Refusal → Option A → Type 0
NotWritten total refusals.Unread read = read ≡ None
NotWritten {A = A} total (refusals.Unwritten fault) read = (x : A) → read ≡ Some x → OverrunsLimit (total x) fault

-- The bytes of what is read are appended, this of it is the result, and these tokens remain; or it is not written.
abbrev pub Writes : {X A : Type 0} → (A → X) → (A → List ℕ) → List ℕ → List ℕ → List Token → Result X Refusal → Option (A × List Token) → Type 0
Writes {A = A} of bytes old new rest (Ok u) read = (x : A) × (read ≡ Some (x, rest)) × (u ≡ of x) × (new ≡ old ++ bytes x)
Writes of bytes old new rest (Err e) read = NotWritten (λ p. length old + length (bytes p.0)) e read

-- the fields of what was read, if it is a document
abbrev pub if_document : Option (Tree × List Token) → Option (Fields × List Token)
if_document (Some (doc fs, rest)) = Some (fs, rest)
if_document _ = None

-- the value of an object's only member, whatever its name, read so
abbrev pub alone : {A : Type 0} → (Json → Option A) → Members → Option A
alone read (member name j no_members) = read j
alone read _ = None
