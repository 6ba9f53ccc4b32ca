-- The steps of reading the two documents of a query side by side.
use Rattle.std.proofs.Common.{◌≡◌, ℕ, ℤ, ◌+◌, List, [], ◌∷◌, ◌++◌, drop, Option, Some, None, Result, Ok, Err, IfOk, refl, sym, ap, ap₂, ◌∙◌, subst, append_assoc, append-nil, IsUtf8}
use Rattle.std.proofs.lemmas.List.{drop-drop}
use Rattle.bd_value.specs.Tree.{Tree, doc, array, code_scope, Items, no_items, items_of, list_of, items_of-list_of, Fields, no_fields, field, Doc, fields_of, pairs_of, fields_of-pairs_of}
use Rattle.bd_value.specs.Tree.{values_of, AreParts}
use Rattle.bd_value.specs.Fits.{FieldsFit, Fits, ItemsFit}
use Rattle.bd_value.specs.View.{kind_of}
use Rattle.bd_value.specs.declared.document.Value.{Value}
use Rattle.bd_value.specs.declared.node.Kind.TheVariants as kinds
use Rattle.bd_value.proofs.PartsLemmas.{array_is, doc_is}
use Rattle.bd_query_filter.specs.FilterOf.{first_is_operator, has_value_form}
use Rattle.bd_query_filter.specs.NameKind.{name_kind_of}
use Rattle.bd_wide_number.specs.declared.number.Number.{Number}
use Rattle.bd_wide_order.specs.Renumber.{Code, Codes}
use Rattle.bd_wide_query.specs.Tagged.{count, fields_count, items_count, tagged, tagged_fields, tagged_items}
use Rattle.bd_wide_copy.specs.declared.longs.Longs.{Longs}
use Rattle.bd_wide_query.specs.declared.role.{Role.Role, Pairs.Pairs}
use Rattle.bd_wide_query.specs.declared.role.Role.TheVariants as roles
use Rattle.bd_wide_query.specs.inside.Coding.{codes_of_tags, GivesValue, HasSameTags, IsBeside}
use Rattle.bd_wide_query.specs.inside.Role.{at_role, item_role, items_at, pairs_at, pairs_in, scope_pairs, value_role}
use Rattle.bd_wide_query.proofs.TagLemmas.{first_item, first_pair, item_counted, pair_counted}
use Rattle.bd_wide_query.proofs.RoleLemmas.{at_array, at_document, at_scope}

drop_sum : (a b : ℕ) (ns : List Number) → drop b (drop a ns) ≡ drop (a + b) ns
drop_sum a b ns = drop-drop b a ns

-- ---- fits

part_fits : (done : Doc) (n : List ℕ) (x : Tree) (rest : Doc) → FieldsFit IsUtf8 (fields_of (done ++ (n, x) ∷ rest)) → Fits x
part_fits [] n x rest fits = fits.1.0
part_fits (p ∷ done) n x rest fits = part_fits done n x rest fits.1.1

element_fits : (done : List Tree) (x : Tree) (rest : List Tree) → ItemsFit IsUtf8 (items_of (done ++ x ∷ rest)) → Fits x
element_fits [] x rest fits = fits.0
element_fits (t ∷ done) x rest fits = element_fits done x rest fits.1

-- ---- the pairs of a document

module _ (longs : Longs) (c : Codes) (kind : Pairs) (done : Doc) (n : List ℕ) (w t : Tree) (ws before after texts : Doc) (ns : List Number) (all : Fields) (role : Role)
    (is : before ≡ (n, w) ∷ ws) (beside : IsBeside w texts t after) (there : role ≡ value_role kind (name_kind_of n))
    (so_far : done ++ pairs_of (pairs_at longs c kind (tagged_fields ns (fields_of before) (fields_of texts))) ≡ pairs_of all) where
  abbrev others : Doc
  others = pairs_of (pairs_at longs c kind (tagged_fields (drop (count w t) ns) (fields_of ws) (fields_of after)))

  pair_next : pairs_of (pairs_at longs c kind (tagged_fields ns (fields_of before) (fields_of texts))) ≡ (n, at_role longs c role (tagged ns w t)) ∷ others
  pair_next =
      ap (λ (x : Doc). pairs_of (pairs_at longs c kind (tagged_fields ns (fields_of x) (fields_of texts)))) is
      ∙ ap (λ (x : Fields). pairs_of (pairs_at longs c kind x)) (first_pair w t texts after n ns (fields_of ws) beside)
      ∙ ap (λ (p : Role). (n, at_role longs c p (tagged ns w t)) ∷ others) (sym there)

  pub pairs_go : (new : Doc) (name : List ℕ) (v : Tree) (rest : List Number) → new ≡ done ++ (name, v) ∷ [] → name ≡ n → v ≡ at_role longs c role (tagged ns w t)
      → rest ≡ drop (count w t) ns → new ++ pairs_of (pairs_at longs c kind (tagged_fields rest (fields_of ws) (fields_of after))) ≡ pairs_of all
  pairs_go new name v rest pushed named value taken =
      ap₂ (λ (x : Doc) (r : List Number). x ++ pairs_of (pairs_at longs c kind (tagged_fields r (fields_of ws) (fields_of after)))) pushed taken
      ∙ append_assoc done ((name, v) ∷ []) others
      ∙ ap₂ (λ (m : List ℕ) (x : Tree). done ++ (m, x) ∷ others) named value
      ∙ ap (λ (x : Doc). done ++ x) (sym pair_next)
      ∙ so_far

  pub pairs_stop : (Fits (at_role longs c role (tagged ns w t)) → ⊥) → FieldsFit IsUtf8 all → ⊥
  pairs_stop unfit fits =
      let P : Fields → Type 0 = FieldsFit IsUtf8 in
      let whole : all ≡ fields_of (done ++ (n, at_role longs c role (tagged ns w t)) ∷ others) =
      sym (fields_of-pairs_of all) ∙ ap fields_of (sym so_far ∙ ap (λ (x : Doc). done ++ x) pair_next) in
      unfit (part_fits done n (at_role longs c role (tagged ns w t)) others (subst P whole fits))

  pub pairs_taken : (end rest : List Number) → rest ≡ drop (count w t) ns → drop (fields_count (fields_of before) (fields_of texts)) ns ≡ end
      → drop (fields_count (fields_of ws) (fields_of after)) rest ≡ end
  pairs_taken end rest taken total =
      ap (drop (fields_count (fields_of ws) (fields_of after))) taken
      ∙ drop_sum (count w t) (fields_count (fields_of ws) (fields_of after)) ns
      ∙ ap (λ (k : ℕ). drop k ns) (sym (ap (λ (x : Doc). fields_count (fields_of x) (fields_of texts)) is ∙ pair_counted w t texts after n (fields_of ws) beside))
      ∙ total

pub pairs_end : (done : Doc) (over all : Fields) → over ≡ no_fields → done ++ pairs_of over ≡ pairs_of all → fields_of done ≡ all
pairs_end done over all none so_far =
    ap fields_of (sym (append-nil done) ∙ ap (λ (x : Fields). done ++ pairs_of x) (sym none) ∙ so_far) ∙ fields_of-pairs_of all

-- ---- the elements of an array

module _ (longs : Longs) (c : Codes) (role : Role) (done : List Tree) (n : List ℕ) (w t : Tree) (ws before after texts : Doc) (ns : List Number) (all : Items)
    (is : before ≡ (n, w) ∷ ws) (beside : IsBeside w texts t after)
    (so_far : done ++ list_of (items_at longs c role (tagged_items ns (items_of (values_of before)) (items_of (values_of texts)))) ≡ list_of all) where
  abbrev more : List Tree
  more = list_of (items_at longs c role (tagged_items (drop (count w t) ns) (items_of (values_of ws)) (items_of (values_of after))))

  item_next : list_of (items_at longs c role (tagged_items ns (items_of (values_of before)) (items_of (values_of texts)))) ≡ at_role longs c role (tagged ns w t) ∷ more
  item_next =
      ap (λ (x : Doc). list_of (items_at longs c role (tagged_items ns (items_of (values_of x)) (items_of (values_of texts))))) is
      ∙ ap (λ (x : Items). list_of (items_at longs c role x)) (first_item w t texts after n ns (items_of (values_of ws)) beside)

  pub items_go : (new : List Tree) (v : Tree) (rest : List Number) → new ≡ done ++ v ∷ [] → v ≡ at_role longs c role (tagged ns w t)
      → rest ≡ drop (count w t) ns → new ++ list_of (items_at longs c role (tagged_items rest (items_of (values_of ws)) (items_of (values_of after)))) ≡ list_of all
  items_go new v rest pushed value taken =
      ap₂ (λ (x : List Tree) (r : List Number). x ++ list_of (items_at longs c role (tagged_items r (items_of (values_of ws)) (items_of (values_of after))))) pushed taken
      ∙ append_assoc done (v ∷ []) more
      ∙ ap (λ (x : Tree). done ++ x ∷ more) value
      ∙ ap (λ (x : List Tree). done ++ x) (sym item_next)
      ∙ so_far

  pub items_stop : (Fits (at_role longs c role (tagged ns w t)) → ⊥) → ItemsFit IsUtf8 all → ⊥
  items_stop unfit fits =
      let P : Items → Type 0 = ItemsFit IsUtf8 in
      let whole : all ≡ items_of (done ++ at_role longs c role (tagged ns w t) ∷ more) =
      sym (items_of-list_of all) ∙ ap items_of (sym so_far ∙ ap (λ (x : List Tree). done ++ x) item_next) in
      unfit (element_fits done (at_role longs c role (tagged ns w t)) more (subst P whole fits))

  pub items_taken : (end rest : List Number) → rest ≡ drop (count w t) ns → drop (items_count (items_of (values_of before)) (items_of (values_of texts))) ns ≡ end
      → drop (items_count (items_of (values_of ws)) (items_of (values_of after))) rest ≡ end
  items_taken end rest taken total =
      ap (drop (items_count (items_of (values_of ws)) (items_of (values_of after)))) taken
      ∙ drop_sum (count w t) (items_count (items_of (values_of ws)) (items_of (values_of after))) ns
      ∙ ap (λ (k : ℕ). drop k ns) (sym (ap (λ (x : Doc). items_count (items_of (values_of x)) (items_of (values_of texts))) is ∙ item_counted w t texts after n (items_of (values_of ws)) beside))
      ∙ total

pub items_end : (done : List Tree) (over all : Items) → over ≡ no_items → done ++ list_of over ≡ list_of all → items_of done ≡ all
items_end done over all none so_far =
    ap items_of (sym (append-nil done) ∙ ap (λ (x : Items). done ++ list_of x) (sym none) ∙ so_far) ∙ items_of-list_of all

-- ---- a value

first_kept : (ns : List Number) (ws ts : Fields) → first_is_operator (tagged_fields ns ws ts) ≡ first_is_operator ws
first_kept ns no_fields ts = refl
first_kept ns (field n w ws) no_fields = refl
first_kept ns (field n w ws) (field m t ts) = refl

form_kept : (ns : List Number) (ws ts : Fields) → has_value_form (tagged_fields ns ws ts) ≡ has_value_form ws
form_kept ns no_fields ts = refl
form_kept ns (field n w ws) no_fields = refl
form_kept ns (field n w ws) (field m t ts) = refl

pairs_kept : (p : Role) (ns : List Number) (ws ts : Fields) → pairs_in p (tagged_fields ns ws ts) ≡ pairs_in p ws
pairs_kept roles.Value ns ws ts = rw (first_kept ns ws ts) refl
pairs_kept roles.Element ns ws ts = rw (form_kept ns ws ts) refl
pairs_kept _ ns ws ts = refl

module _ (longs : Longs) (k : Code) (p : Role) (ns : List Number) (w t : Tree) (wps tps : Doc) where
  abbrev c : Codes
  c = λ path. k

  pub document_at : (kind : Pairs) → kind_of w ≡ kinds.Doc → kind_of t ≡ kinds.Doc → AreParts w wps → AreParts t tps → kind ≡ pairs_in p (fields_of wps)
      → (at_role longs c p (tagged ns w t) ≡ doc (pairs_at longs c kind (tagged_fields ns (fields_of wps) (fields_of tps)))) × (count w t ≡ fields_count (fields_of wps) (fields_of tps))
  document_at kind e f are_w are_t is =
      let a = doc_is w wps e are_w in
      let b = doc_is t tps f are_t in
      let ms = tagged_fields ns (fields_of wps) (fields_of tps) in (
        ap₂ (λ (x y : Tree). at_role longs c p (tagged ns x y)) a b ∙ at_document longs k p ms
            ∙ ap (λ (q : Pairs). doc (pairs_at longs c q ms)) (pairs_kept p ns (fields_of wps) (fields_of tps) ∙ sym is),
        ap₂ count a b,
      )

  pub array_at : (q : Role) → kind_of w ≡ kinds.Array → kind_of t ≡ kinds.Array → AreParts w wps → AreParts t tps → q ≡ item_role p
      → (at_role longs c p (tagged ns w t) ≡ array (items_at longs c q (tagged_items ns (items_of (values_of wps)) (items_of (values_of tps)))))
      × (count w t ≡ items_count (items_of (values_of wps)) (items_of (values_of tps)))
  array_at q e f are_w are_t is =
      let a = array_is w wps e are_w in
      let b = array_is t tps f are_t in
      let ms = tagged_items ns (items_of (values_of wps)) (items_of (values_of tps)) in (
        ap₂ (λ (x y : Tree). at_role longs c p (tagged ns x y)) a b ∙ at_array longs k p ms ∙ ap (λ (r : Role). array (items_at longs c r ms)) (sym is),
        ap₂ count a b,
      )

  pub scope_at : (code other : List ℕ) (kind : Pairs) → w ≡ code_scope code (fields_of wps) → t ≡ code_scope other (fields_of tps) → kind ≡ scope_pairs p
      → (at_role longs c p (tagged ns w t) ≡ code_scope code (pairs_at longs c kind (tagged_fields ns (fields_of wps) (fields_of tps))))
      × (count w t ≡ fields_count (fields_of wps) (fields_of tps))
  scope_at code other kind a b is =
      let ms = tagged_fields ns (fields_of wps) (fields_of tps) in (
        ap₂ (λ (x y : Tree). at_role longs c p (tagged ns x y)) a b ∙ at_scope longs k p code ms ∙ ap (λ (q : Pairs). code_scope code (pairs_at longs c q ms)) (sym is),
        ap₂ count a b,
      )

-- a value that has the same tags gives the same
module _ (table : List ℤ) (longs : Longs) (p : Role) (ns : List Number) (w t other : Tree) (after : List Number) (same : HasSameTags w t other) where
  given_alike : (o : Option Value) → GivesValue table longs p ns w other after o → GivesValue table longs p ns w t after o
  given_alike None given = λ fits. given (subst Fits (ap (at_role longs (codes_of_tags table) p) (sym (same.0 ns))) fits)
  given_alike (Some v) given = (given.0 ∙ ap (at_role longs (codes_of_tags table) p) (same.0 ns), given.1 ∙ ap (λ (k : ℕ). drop k ns) same.1)

  pub alike_given : {E : Type 0} (r : Result (Option Value) E) → IfOk r (GivesValue table longs p ns w other after) → IfOk r (GivesValue table longs p ns w t after)
  alike_given (Ok o) given = given_alike o given
  alike_given (Err e) given = given
