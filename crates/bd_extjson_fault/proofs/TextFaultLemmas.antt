-- The fault of a text: its kind by what the text is, and its offset.
use Rattle.std.proofs.Common.{◌≡◌, ◌≢◌, refl, ℕ, Bool, true, false, List, length, if◌then◌else◌, Ok, Err, Some, None, Option, IsUtf8, ap, arith}
use Rattle.std.specs.Prelude.{unwrap_or}
use Rattle.std.specs.{Str.is_utf8, Str.Lossy.utf8_valid_len}
use Rattle.std.proofs.lemmas.Str.{IsUtf8-from_is_utf8, is_utf8-from_IsUtf8, utf8_valid_len_le}
use Rattle.bd_value.specs.Limits.{most_brackets, most_levels}
use Rattle.bd_extjson_fault.specs.JsonFault.{IsLocated, ReportsBadUtf8}
use Rattle.bd_extjson_fault.specs.JsonSyntax.{Beyond, beyond_text}
use Rattle.bd_extjson_fault.specs.TreeFault.{opens_document, value_fault}
use Rattle.bd_extjson_fault.specs.TextFault.{first_fault_in, text_fault, fault_after, tree_or_none, stop_in, kind_of_stop, kind_in_tree}
use Rattle.bd_extjson_fault.specs.declared.json_fault.JsonFault.{JsonFault}
use Rattle.bd_extjson_fault.specs.declared.json_fault.JsonFaultKind.TheVariants as kinds
use Rattle.bd_extjson_fault.specs.declared.skip.Stop.{Stop}
use Rattle.bd_extjson_fault.specs.declared.skip.StopKind.{StopKind}
use Rattle.bd_extjson_fault.specs.declared.skip.StopKind.TheVariants as stops
use Rattle.bd_extjson_fault.specs.declared.tree_fault.TreeFault.{TreeFault}
use Rattle.bd_extjson_fault.specs.declared.tree_fault.TreeFaultKind.{TreeFaultKind}
use Rattle.bd_extjson_fault.specs.declared.tree_fault.TreeFaultKind.TheVariants as trees

abbrev pub syntax_reported : ℕ → JsonFault
syntax_reported at = record { kind = kinds.Syntax; at = at }

abbrev pub at_end : List ℕ → JsonFault
at_end text = syntax_reported (length text)

not_utf8 : (text : List ℕ) → ¬ (IsUtf8 text) → is_utf8 text ≡ false
not_utf8 text bad = go (is_utf8 text) refl
  where
    go : (b : Bool) → is_utf8 text ≡ b → is_utf8 text ≡ false
    go true e = absurd (bad (IsUtf8-from_is_utf8 text e))
    go false e = e

pub of_bad_utf8 : (text : List ℕ) → ¬ (IsUtf8 text) → text_fault text ≡ record { kind = kinds.Syntax; at = utf8_valid_len text }
unfolding first_fault_in
of_bad_utf8 text bad = rw (not_utf8 text bad) refl

-- the fault of a text that is no JSON is where its grammar stops
pub of_no_json : (text : List ℕ) (stop : Stop) → IsUtf8 text → beyond_text text ≡ Err stop → text_fault text ≡ stop_in (length text) stop
unfolding first_fault_in
of_no_json text stop utf8 e = rw (is_utf8-from_IsUtf8 text utf8, e) refl

pub of_tree : (text rest : List ℕ) (found : Option JsonFault) → IsUtf8 text → beyond_text text ≡ Ok rest
    → found ≡ tree_or_none text (value_fault most_brackets most_levels text) → text_fault text ≡ unwrap_or found (at_end text)
unfolding first_fault_in
of_tree text rest found utf8 e f = rw (is_utf8-from_IsUtf8 text utf8, e, f) refl

-- ---- it is never out of memory

stop_kind : (kind : StopKind) → kind_of_stop kind ≢ kinds.NoMemory
stop_kind stops.Syntax = λ e. cc
stop_kind stops.TooDeep = λ e. cc
stop_kind stops.TrailingText = λ e. cc

tree_kind : (kind : TreeFaultKind) → kind_in_tree kind ≢ kinds.NoMemory
tree_kind trees.TooDeep = λ e. cc
tree_kind trees.BadWrapper = λ e. cc
tree_kind trees.NotInProfile = λ e. cc
tree_kind trees.NumberRange = λ e. cc
tree_kind trees.NulInName = λ e. cc

abbrev IsKnown : List ℕ → Option JsonFault → Type 0
IsKnown text found = (unwrap_or found (at_end text)).kind ≢ kinds.NoMemory

last_known : (text : List ℕ) (b : Bool) → IsKnown text (if b then None else Some (record { kind = kinds.NotADocument; at = 0 }))
last_known text true = λ e. cc
last_known text false = λ e. cc

tree_known : (text : List ℕ) (found : Option TreeFault) → IsKnown text (tree_or_none text found)
tree_known text (Some fault) = tree_kind fault.kind
tree_known text None = last_known text (opens_document text)

after_known : (text : List ℕ) (reported : Beyond) → IsKnown text (fault_after text reported)
after_known text (Err stop) = stop_kind stop.kind
after_known text (Ok rest) = tree_known text (value_fault most_brackets most_levels text)

pub reported_kind : (text : List ℕ) → (text_fault text).kind ≢ kinds.NoMemory
unfolding first_fault_in
reported_kind text = go (is_utf8 text)
  where
    go : (b : Bool) → IsKnown text (if b then fault_after text (beyond_text text) else Some (record { kind = kinds.Syntax; at = utf8_valid_len text }))
    go true = after_known text (beyond_text text)
    go false = λ e. cc

-- ---- it has an offset

stop_whole : (kind : StopKind) → kind_of_stop kind ≢ kinds.NotADocument
stop_whole stops.Syntax = λ e. cc
stop_whole stops.TooDeep = λ e. cc
stop_whole stops.TrailingText = λ e. cc

tree_whole : (kind : TreeFaultKind) → kind_in_tree kind ≢ kinds.NotADocument
tree_whole trees.TooDeep = λ e. cc
tree_whole trees.BadWrapper = λ e. cc
tree_whole trees.NotInProfile = λ e. cc
tree_whole trees.NumberRange = λ e. cc
tree_whole trees.NulInName = λ e. cc

abbrev HasOffset : List ℕ → Option JsonFault → Type 0
HasOffset text found = IsLocated (length text) (unwrap_or found (at_end text))

last_located : (text : List ℕ) (b : Bool) → HasOffset text (if b then None else Some (record { kind = kinds.NotADocument; at = 0 }))
last_located text true = record { inside = omega arith; whole = λ e. absurd cc; memory = λ e. absurd cc }
last_located text false = record { inside = omega arith; whole = λ e. refl; memory = λ e. refl }

tree_located : (text : List ℕ) (found : Option TreeFault) → HasOffset text (tree_or_none text found)
tree_located text (Some fault) = record {
  inside = omega arith;
  whole = λ e. absurd (tree_whole fault.kind e);
  memory = λ e. absurd (tree_kind fault.kind e);
}
tree_located text None = last_located text (opens_document text)

after_located : (text : List ℕ) (reported : Beyond) → HasOffset text (fault_after text reported)
after_located text (Err stop) = record {
  inside = omega arith;
  whole = λ e. absurd (stop_whole stop.kind e);
  memory = λ e. absurd (stop_kind stop.kind e);
}
after_located text (Ok rest) = tree_located text (value_fault most_brackets most_levels text)

pub reported_located : (text : List ℕ) → IsLocated (length text) (text_fault text)
unfolding first_fault_in
reported_located text = go (is_utf8 text)
  where
    go : (b : Bool) → HasOffset text (if b then fault_after text (beyond_text text) else Some (syntax_reported (utf8_valid_len text)))
    go true = after_located text (beyond_text text)
    go false = record { inside = utf8_valid_len_le text; whole = λ e. absurd cc; memory = λ e. absurd cc }

pub reported_utf8 : (text : List ℕ) → ReportsBadUtf8 text (text_fault text)
reported_utf8 text = record {
  kind = λ bad. ap (λ fault. fault.kind) (of_bad_utf8 text bad);
  at = λ bad. ap (λ fault. fault.at) (of_bad_utf8 text bad);
}
