-- The text of a query by its two documents.
use Rattle.std.proofs.Common.{◌≡◌, ◌≢◌, ℕ, List, [], drop, sym, ap, ◌∙◌, subst, Result, Err}
use Rattle.bd_value.specs.Tree.{Doc}
use Rattle.bd_value.specs.declared.document.Document.{Document}
use Rattle.bd_extjson.specs.Read.{ReadsAs}
use Rattle.bd_extjson_fault.specs.TextFault.{text_fault}
use Rattle.bd_extjson_fault.specs.declared.json_fault.JsonFault.{JsonFault}
use Rattle.bd_extjson_fault.specs.declared.json_fault.JsonFaultKind.{JsonFaultKind}
use Rattle.bd_extjson_fault.specs.declared.json_fault.JsonFaultKind.TheVariants.{NoMemory}
use Rattle.bd_wide_query.specs.inside.Read.{ReadsBoth}
use Rattle.bd_wide_substitute.specs.Both.{IsUnread, both, both_documents, document_of, earlier}
use Rattle.bd_wide_substitute.specs.Reported.{IsReported}
use Rattle.bd_wide_substitute.specs.Substitutes.{ArePieces, Piece, all_values, origin}
use Rattle.bd_wide_substitute.proofs.BothLemmas.{both_of, unread}

-- ---- two texts

pub both_unread : (one other : List ℕ) (f g first : JsonFault) → (f.kind ≢ NoMemory → (d : Doc) → ReadsAs one d → ⊥) → (f.kind ≢ NoMemory → f ≡ text_fault one)
    → (g.kind ≢ NoMemory → (d : Doc) → ReadsAs other d → ⊥) → (g.kind ≢ NoMemory → g ≡ text_fault other)
    → (first.kind ≢ NoMemory → (f.kind ≢ NoMemory) × (g.kind ≢ NoMemory) × (first ≡ earlier f g))
    → first.kind ≢ NoMemory → both (document_of one) (document_of other) ≡ Err first
both_unread one other f g first none is no_other other_is chosen some =
    let c = chosen some in
    (λ i. both (unread one f (none c.0) (is c.0) i) (unread other g (no_other c.1) (other_is c.1) i)) ∙ ap (λ (f : JsonFault). Err f) (sym c.2)

-- ---- a text by its pieces

module _ (source : List ℕ) (pieces : List Piece) (are : ArePieces source pieces) where
  pub query_unread : (first fault : JsonFault) → (first.kind ≢ NoMemory → both_documents pieces ≡ Err first) → fault.at ≡ origin pieces first.at → IsReported (drop fault.at source) first.kind fault.kind
      → fault.kind ≢ NoMemory → IsUnread source fault
  query_unread first fault e at kind some =
      record { pieces = pieces; are = are; first = first; documents = e (λ none. some (subst (λ (k : JsonFaultKind). IsReported (drop fault.at source) k fault.kind) none kind)); at = at; kind = kind }

  -- without values both texts are the text
  pub plain_both : (r : Result (Document × Document) JsonFault) → all_values pieces ≡ [] → ReadsBoth (both (document_of source) (document_of source)) r → ReadsBoth (both_documents pieces) r
  plain_both r none h = subst (λ (b : Result (Doc × Doc) JsonFault). ReadsBoth b r) (sym (both_of source pieces are none)) h
