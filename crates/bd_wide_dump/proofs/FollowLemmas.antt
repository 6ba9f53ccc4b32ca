-- The value that a path leads to.
use Rattle.std.proofs.Common.{◌≡◌, ℕ, zero, suc, ◌+◌, ◌-◌, ◌<◌, ◌≤◌, min, Bool, true, false, List, [], ◌∷◌, inl, inr, length, drop, get_or, Option, Some, None, refl, sym, ap, subst, ◌∙◌, arith}
use Rattle.std.specs.Prelude.{if◌then◌else◌, option_map, option_and_then, string_bytes}
use Rattle.std.specs.{Str.bytes_eq}
use Rattle.std.proofs.lemmas.List.{length-append, length-drop}
use Rattle.std.proofs.lemmas.Bool.{cases_lt}
use Rattle.bd_value.specs.{Limits.longest_document}
use Rattle.bd_value.specs.Tree.{Tree, doc, array, Items, no_items, item, Fields, no_fields, field}
use Rattle.bd_bson_view.specs.declared.raw_parts.ElementType.{ElementType}
use Rattle.bd_bson_view.specs.Spelling.{AreFieldsBy, valued, written_typed}
use Rattle.bd_path.specs.{Path.component_names, Reach.Names, Reach.index_of, Reach.bounded_index}
use Rattle.bd_path.specs.declared.component.Component.{Component}
use Rattle.bd_wide_dump.specs.declared.follow.Found.{Found}
use Rattle.bd_wide_dump.specs.Csv.{field_at, item_at, step_to, follow}
use Rattle.bd_wide_dump.specs.{Raw.raw, Values.values_in}
use Rattle.bd_wide_dump.specs.inside.Begins.{HasElements, HasValue, IsElement, IsTyped, a_number, a_scalar, a_document, an_array, a_code}
use Rattle.bd_wide_dump.specs.inside.{Finds.Finds, Finds.IsAt, Projects.array_type}
use Rattle.bd_wide_dump.proofs.{ElementLemmas.written_by, ValueLemmas.document_here, ValueLemmas.array_here, FieldsLemmas.document_type, FieldsLemmas.array_type_is}
use Rattle.bd_wide_dump.proofs.GoingLemmas.{first_and_rest, rest_of}

module _ (bytes : List ℕ) (start : ℕ) where
  -- ---- the first field of a name

  -- What is looked for is that among the elements from `next` on.
  abbrev pub FieldGoes : List ℕ → ℕ → Type 0
  FieldGoes name next = (e : HasElements (drop start bytes)) → (f : HasElements (drop next bytes)) × (field_at name e.fields ≡ field_at name f.fields)

  module _ (name n : List ℕ) (at begin next : ℕ) (type : ElementType) (so_far : FieldGoes name at)
      (found : (f : HasElements (drop at bytes)) → IsElement bytes at f.fields type n begin next) where
    pub field_other : bytes_eq n name ≡ false → FieldGoes name next
    field_other other e =
        let f = so_far e in
        let x = found f.0 in
        (x.rest, f.1 ∙ ap (field_at name) x.is ∙ ap (λ (b : Bool). if b then Some x.tree else field_at name x.others) other ∙ ap (field_at name) (sym x.rest_is))

    pub field_found : bytes_eq n name ≡ true → (e : HasElements (drop start bytes)) → Finds bytes (field_at name e.fields) (Some (record { typed = type; start = begin }))
    field_found same e =
        let f = so_far e in
        let x = found f.0 in
        let is : field_at name e.fields ≡ Some x.tree = f.1 ∙ ap (field_at name) x.is ∙ ap (λ (b : Bool). if b then Some x.tree else field_at name x.others) same in
        subst (λ (o : Option Tree). Finds bytes o (Some (record { typed = type; start = begin }))) (sym is) (record { here = x.here; inside = x.inside })

  pub no_field : (name : List ℕ) (at : ℕ) → FieldGoes name at → ((f : HasElements (drop at bytes)) → f.fields ≡ no_fields) → (e : HasElements (drop start bytes))
      → Finds bytes (field_at name e.fields) None
  no_field name at so_far none e =
      let f = so_far e in
      subst (λ (o : Option Tree). Finds bytes o None) (sym (f.1 ∙ ap (field_at name) (none f.0))) tt

  -- ---- the element at an index

  abbrev pub ItemGoes : ℕ → ℕ → ℕ → Type 0
  ItemGoes index rest_count next = (e : HasElements (drop start bytes)) → (f : HasElements (drop next bytes)) × (item_at (values_in e.fields) index ≡ item_at (values_in f.fields) rest_count)

  item_later : (t : Tree) (ts : Items) (rest_count : ℕ) → 0 < rest_count → item_at (item t ts) rest_count ≡ item_at ts (rest_count - 1)
  item_later t ts zero some = absurd (omega (arith, some))
  item_later t ts (suc k) some = let e : suc k - 1 ≡ k = omega arith in ap (item_at ts) (sym e)

  module _ (index rest_count : ℕ) (n : List ℕ) (at begin next : ℕ) (type : ElementType) (so_far : ItemGoes index rest_count at)
      (found : (f : HasElements (drop at bytes)) → IsElement bytes at f.fields type n begin next) where
    there : (e : HasElements (drop start bytes)) (f : HasElements (drop at bytes)) (x : IsElement bytes at f.fields type n begin next)
        → item_at (values_in e.fields) index ≡ item_at (values_in f.fields) rest_count → item_at (values_in e.fields) index ≡ item_at (item x.tree (values_in x.others)) rest_count
    there e f x is = is ∙ ap (λ (fs : Fields). item_at (values_in fs) rest_count) x.is

    pub item_other : 0 < rest_count → ItemGoes index (rest_count - 1) next
    item_other some e =
        let f = so_far e in
        let x = found f.0 in
        (x.rest, there e f.0 x f.1 ∙ item_later x.tree (values_in x.others) rest_count some ∙ ap (λ (fs : Fields). item_at (values_in fs) (rest_count - 1)) (sym x.rest_is))

    pub item_found : rest_count ≡ 0 → (e : HasElements (drop start bytes)) → Finds bytes (item_at (values_in e.fields) index) (Some (record { typed = type; start = begin }))
    item_found zero_remaining e =
        let f = so_far e in
        let x = found f.0 in
        let is : item_at (values_in e.fields) index ≡ Some x.tree = there e f.0 x f.1 ∙ ap (item_at (item x.tree (values_in x.others))) zero_remaining in
        subst (λ (o : Option Tree). Finds bytes o (Some (record { typed = type; start = begin }))) (sym is) (record { here = x.here; inside = x.inside })

  pub no_item : (index rest_count at : ℕ) → ItemGoes index rest_count at → ((f : HasElements (drop at bytes)) → f.fields ≡ no_fields) → (e : HasElements (drop start bytes))
      → Finds bytes (item_at (values_in e.fields) index) None
  no_item index rest_count at so_far none e =
      let f = so_far e in
      subst (λ (o : Option Tree). Finds bytes o None) (sym (f.1 ∙ ap (λ (fs : Fields). item_at (values_in fs) rest_count) (none f.0))) tt

-- ---- an index beyond every array

-- how many there are
abbrev pub count : Items → ℕ
count no_items = 0
count (item t ts) = suc (count ts)

beyond : (ts : Items) (i : ℕ) → count ts ≤ i → item_at ts i ≡ None
beyond no_items i h = refl
beyond (item t ts) zero h = absurd (omega (arith, h))
beyond (item t ts) (suc i) h = beyond ts i (omega (arith, h))

counted : (fs : Fields) (body : List ℕ) → AreFieldsBy (valued raw) fs body → count (values_in fs) ≤ length body
counted no_fields body h = omega arith
counted (field n t fs) body h =
    let more = counted fs h.1 h.4 in
    let whole = (written_by n h.0 t h.3).whole in
    omega (arith, more, ap (λ (x : List ℕ). length x) h.5, ap (λ (x : List ℕ). length x) whole, length-append (written_typed t n h.0) h.1)

bounded_by : (ts : Items) (big k : ℕ) → count ts ≤ big → item_at ts (min k big) ≡ item_at ts k
bounded_by ts big k few = elim (cases_lt big k) [
  | inl gt ↦ beyond ts (min k big) (omega (arith, gt, few)) ∙ sym (beyond ts k (omega (arith, gt, few)))
  | inr le ↦ ap (item_at ts) (omega (arith, le))
]

-- the element at an index that counts as the greatest number if it is above it
pub bounded_item : (ts : Items) (o : Option ℕ) (i : ℕ) → count ts ≤ 18446744073709551615 → option_map (λ k. min k 18446744073709551615) o ≡ Some i → option_and_then (item_at ts) o ≡ item_at ts i
bounded_item ts None i few is = absurd cc
bounded_item ts (Some k) i few is = let e : min k 18446744073709551615 ≡ i = cc in sym (bounded_by ts 18446744073709551615 k few) ∙ ap (item_at ts) e

no_index : (ts : Items) (o : Option ℕ) → option_map (λ k. min k 18446744073709551615) o ≡ None → option_and_then (item_at ts) o ≡ None
no_index ts None is = refl
no_index ts (Some k) is = absurd cc

-- ---- where a name leads

none_found : (bytes : List ℕ) (o : Option Tree) → o ≡ None → Finds bytes o None
none_found bytes o is = subst (λ (x : Option Tree). Finds bytes x None) (sym is) tt

module _ (bytes : List ℕ) (tree : Tree) (from : Found) (h : IsAt bytes tree from) where
  pub document_from : Some false ≡ array_type from.typed → (e : HasElements (drop (from.start + 4) bytes)) × (tree ≡ doc e.fields)
  document_from is = document_here bytes from.start tree (subst (λ (t : ElementType). HasValue t (drop from.start bytes) tree) (document_type from.typed (sym is)) h.here)

  pub array_from : Some true ≡ array_type from.typed → (e : HasElements (drop (from.start + 4) bytes)) × (tree ≡ array (values_in e.fields))
  array_from is = array_here bytes from.start tree (subst (λ (t : ElementType). HasValue t (drop from.start bytes) tree) (array_type_is from.typed (sym is)) h.here)

  pub elements_from : (is_array : Bool) → Some is_array ≡ array_type from.typed → HasElements (drop (from.start + 4) bytes)
  elements_from false is = (document_from is).0
  elements_from true is = (array_from is).0

  no_part : (type : ElementType) (content name : List ℕ) → None ≡ array_type type → IsTyped type content tree → step_to tree name ≡ None
  no_part type content name none (a_number n) = ap (λ (t : Tree). step_to t name) n.is
  no_part type content name none (a_scalar s) = ap (λ (t : Tree). step_to t name) s.is
  no_part type content name none (a_document d) = let e : Some false ≡ None = sym (ap array_type d.typed) ∙ sym none in absurd cc
  no_part type content name none (an_array d) = let e : Some true ≡ None = sym (ap array_type d.typed) ∙ sym none in absurd cc
  no_part type content name none (a_code d) = ap (λ (t : Tree). step_to t name) d.is

  -- from a value that contains none by names
  pub no_step : (name : List ℕ) → None ≡ array_type from.typed → Finds bytes (step_to tree name) None
  no_step name none = none_found bytes (step_to tree name) (no_part from.typed h.here.content name none h.here.spells)

  pub field_step : (name : List ℕ) (is_array : Bool) (r : Option Found) → Some is_array ≡ array_type from.typed → is_array ≡ false
      → ((e : HasElements (drop (from.start + 4) bytes)) → Finds bytes (field_at name e.fields) r) → Finds bytes (step_to tree name) r
  field_step name is_array r is other found =
      let d = document_from (sym (ap (λ (b : Bool). Some b) other) ∙ is) in
      subst (λ (t : Tree). Finds bytes (step_to t name) r) (sym d.1) (found d.0)

  few : (e : HasElements (drop (from.start + 4) bytes)) → length bytes ≤ longest_document → count (values_in e.fields) ≤ 18446744073709551615
  few e short =
      omega (arith, short, counted e.fields e.body e.spell, ap (λ (x : List ℕ). length x) e.splits, length-append e.body (0 ∷ e.after), length-drop (from.start + 4) bytes)

  module _ (name : List ℕ) (is_array : Bool) (is : Some is_array ≡ array_type from.typed) (one : is_array ≡ true) where
    pub item_step : (i : ℕ) (r : Option Found) → length bytes ≤ longest_document → bounded_index name ≡ Some i
        → ((e : HasElements (drop (from.start + 4) bytes)) → Finds bytes (item_at (values_in e.fields) i) r) → Finds bytes (step_to tree name) r
    item_step i r short index found =
        let d = array_from (sym (ap (λ (b : Bool). Some b) one) ∙ is) in
        subst (λ (t : Tree). Finds bytes (step_to t name) r) (sym d.1)
        (subst (λ (o : Option Tree). Finds bytes o r) (sym (bounded_item (values_in d.0.fields) (index_of name) i (few d.0 short) index)) (found d.0))

    pub no_index_step : bounded_index name ≡ None → Finds bytes (step_to tree name) None
    no_index_step none =
        let d = array_from (sym (ap (λ (b : Bool). Some b) one) ∙ is) in
        none_found bytes (step_to tree name) (ap (λ (t : Tree). step_to t name) d.1 ∙ no_index (values_in d.0.fields) (index_of name) none)

-- ---- where a path leads

from_none : (path : Names) → follow None path ≡ None
from_none [] = refl
from_none (name ∷ path) = from_none path

module _ (bytes : List ℕ) (names : Names) (from : Found) where
  -- The path leads to where the rest of it leads from what was found.
  abbrev pub FollowGoes : Found → List Component → Type 0
  FollowGoes found rest = (tree : Tree) → IsAt bytes tree from → (t : Tree) × IsAt bytes t found × (follow (Some tree) names ≡ follow (Some t) (component_names rest))

  module _ (found : Found) (rest : List Component) (name : Component) (some : 1 ≤ length rest) (is : name ≡ get_or rest 0 name) (so_far : FollowGoes found rest) where
    parts : component_names rest ≡ string_bytes name.name ∷ component_names (rest_of rest)
    parts = ap component_names (first_and_rest rest name some ∙ ap (λ (x : Component). x ∷ rest_of rest) (sym is))

    pub follow_on : (next : Found) → ((t : Tree) → IsAt bytes t found → Finds bytes (step_to t (string_bytes name.name)) (Some next)) → FollowGoes next (rest_of rest)
    follow_on next step tree h =
        let g = so_far tree h in
        go (step_to g.0 (string_bytes name.name)) (step g.0 g.1) (g.2 ∙ ap (follow (Some g.0)) parts)
      where
        go : (o : Option Tree) → Finds bytes o (Some next) → follow (Some tree) names ≡ follow o (component_names (rest_of rest))
            → (t : Tree) × IsAt bytes t next × (follow (Some tree) names ≡ follow (Some t) (component_names (rest_of rest)))
        go (Some t) there same = (t, there, same)
        go None there same = absurd there

    pub follow_ends : ((t : Tree) → IsAt bytes t found → Finds bytes (step_to t (string_bytes name.name)) None) → (tree : Tree) → IsAt bytes tree from → Finds bytes (follow (Some tree) names) None
    follow_ends step tree h =
        let g = so_far tree h in
        go (step_to g.0 (string_bytes name.name)) (step g.0 g.1) (g.2 ∙ ap (follow (Some g.0)) parts)
      where
        go : (o : Option Tree) → Finds bytes o None → follow (Some tree) names ≡ follow o (component_names (rest_of rest)) → Finds bytes (follow (Some tree) names) None
        go (Some t) there same = absurd there
        go None there same = none_found bytes (follow (Some tree) names) (same ∙ from_none (component_names (rest_of rest)))

  pub follow_done : (found : Found) (rest : List Component) → rest ≡ [] → FollowGoes found rest → (tree : Tree) → IsAt bytes tree from → Finds bytes (follow (Some tree) names) (Some found)
  follow_done found rest none so_far tree h =
      let g = so_far tree h in
      subst (λ (o : Option Tree). Finds bytes o (Some found)) (sym (g.2 ∙ ap (λ (x : List Component). follow (Some g.0) (component_names x)) none)) g.1
