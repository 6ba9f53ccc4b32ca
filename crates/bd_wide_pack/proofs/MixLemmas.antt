-- Two documents in step: what was found of the elements so far, and of one value.
use Rattle.std.proofs.Common.{◌≡◌, inl, inr, ℕ, ℤ, ◌≤◌, ◌+◌, ◌-◌, List, [], ◌∷◌, ◌++◌, length, suc, take, drop, Bool, true, false, refl, sym, ap, ◌∙◌, subst, pos, arith, append-nil, append_assoc, length-append, take_at}
use Rattle.bd_value.specs.declared.node.Kind.{Kind}
use Rattle.bd_value.specs.declared.node.Kind.TheVariants as kinds
use Rattle.bd_value.specs.View.{kind_of, scalar_kind}
use Rattle.bd_value.specs.Tree as trees
use Rattle.bd_value.specs.Tree.{Scalar, Tree, leaf, doc, array, code_scope, Items, no_items, item, Fields, no_fields, field, Doc, Pair, pairs_of, fields_of, fields_of-pairs_of, items_of, values_of}
use Rattle.bd_bson_view.specs.declared.raw_parts.ElementType.TheVariants.{Kept}
use Rattle.bd_bson_view.specs.Sound.{Remaining, elements_remaining, Sound, meaning, meaning_is, IsAt, extent_is}
use Rattle.bd_bson_view.specs.Sizes.{HasBytesOf, size_of}
use Rattle.bd_bson_view.specs.declared.views.At.{At}
use Rattle.bd_bson_view.proofs.ValueAtLemmas.{reads_at, size_at}
use Rattle.bd_bson_view.specs.Spelling.{as_int32, as_int64, as_double, as_decimal128, type_byte, is_holder, number, long, string, framed, scoped, IsName, IsText, IsScalar, IsValue, AreFieldsBy, IsValuedScalar, written_typed, nineteen, scalar_bytes}
use Rattle.bd_bson_view.specs.Unique.{values, number_length, no_holder}
use Rattle.bd_wide.proofs.RewriteLemmas.{sealed}
use Rattle.bd_wide_dump.specs.Raw.{raw}
use Rattle.bd_wide_dump.specs.Values.{values_in}
use Rattle.bd_wide_number.specs.declared.number.Number.{Number}
use Rattle.bd_wide_number.specs.declared.number.Number.TheVariants as numbers
use Rattle.bd_wide_pack.specs.Filled.{kept, numeric, IsFilled, AreFilled}
use Rattle.bd_wide_pack.specs.inside.Mixed.{AreAlike, AreMixed, AreUnlike, AreWritten, HasName, IsMixed, IsUnlike, Goes}
use Rattle.bd_wide_pack.specs.Written.{AreFieldsWritten, IsWritten}
use Rattle.bd_wide_pack.proofs.FilledLemmas.{form, forms, one_tree, one_fields, filled_as, fields_as, items_as, alike_fields, fields_alike, alike_items, items_alike}

-- ---- the elements so far

pub goes_start : (named : Bool) (ws ts : Doc) (n : List Number) (out : List ℕ) → Goes named ws ts n 0 ws ts n out out
goes_start named ws ts n out = record { bytes = []; written = sym (append-nil out); few = omega arith; on = λ after more m. m; back = λ fs after h. (fs, h) }

-- equal lists of pairs begin with equal pairs
head_name : (p q : Pair) (ps qs : Doc) → p ∷ ps ≡ q ∷ qs → p.0 ≡ q.0
head_name p q ps qs e = let f : p ≡ q = cc in ap (λ (x : Pair). x.0) f

head_tree : (p q : Pair) (ps qs : Doc) → p ∷ ps ≡ q ∷ qs → p.1 ≡ q.1
head_tree p q ps qs e = let f : p ≡ q = cc in ap (λ (x : Pair). x.1) f

tail_same : (p q : Pair) (ps qs : Doc) → p ∷ ps ≡ q ∷ qs → ps ≡ qs
tail_same p q ps qs e = cc

alike_tail : (named : Bool) (gs : Fields) (name other : List ℕ) (w t tree : Tree) (ws ts : Doc) (before between after : List Number) → IsFilled tree w t before between
    → AreAlike named gs ((name, w) ∷ ws) ((other, t) ∷ ts) before after → (hs : Fields) × AreAlike named hs ws ts between after
alike_tail named no_fields name other w t tree ws ts before between after f h = absurd (let e = h.0 in cc)
alike_tail named (field n x gs) name other w t tree ws ts before between after f h =
    let d : (name, w) ∷ ws ≡ (n, h.0) ∷ h.3 = h.6 in
    let c : (other, t) ∷ ts ≡ (h.2, h.1) ∷ h.4 = h.7 in
    let whole : w ≡ h.0 = head_tree (name, w) (n, h.0) ws h.3 d in
    let text : t ≡ h.1 = head_tree (other, t) (h.2, h.1) ts h.4 c in
    let rest : h.3 ≡ ws = sym (tail_same (name, w) (n, h.0) ws h.3 d) in
    let others : h.4 ≡ ts = sym (tail_same (other, t) (h.2, h.1) ts h.4 c) in
    let same : between ≡ h.5 = (one_tree tree x w t before between h.5 f (filled_as x h.0 w h.1 t before h.5 (sym whole) (sym text) h.9)).1 in
    let P : Doc → Type 0 = λ d. AreAlike named gs d ts between after in
    let Q : Doc → Type 0 = λ d. AreAlike named gs h.3 d between after in
    let R : List Number → Type 0 = λ k. AreAlike named gs h.3 h.4 k after in
    (gs, subst P rest (subst Q others (subst R (sym same) h.10)))

-- the next element is written before the others
written_next : (named : Bool) (index : ℕ) (name under value more : List ℕ) (x : Tree) (fs : Fields) → IsName name → HasName named index name under → IsWritten x value
    → AreWritten named (suc index) fs more → AreWritten named index (field name x fs) (written_typed x under value ++ more)
written_next true index name under value more x fs is_name e is rest = (value, more, is_name, is, rest, ap (λ (k : List ℕ). written_typed x k value ++ more) e)
written_next false index name under value more x fs is_name e is rest = (value, more, is, rest, ap (λ (k : List ℕ). written_typed x k value ++ more) e)

written_none : (named : Bool) (index : ℕ) → AreWritten named index no_fields []
written_none true index = refl
written_none false index = refl

some_bytes : (x : Tree) (name value : List ℕ) → 1 ≤ length (written_typed x name value)
some_bytes (leaf (trees.int64 z)) name [] = omega arith
some_bytes (leaf (trees.int64 z)) name (type ∷ value) = omega arith
some_bytes x name value = omega arith

-- one more element of both
pub goes_next : (named : Bool) (ws0 ts0 ws ts ws1 ts1 : Doc) (n0 n n1 : List Number) (index : ℕ) (name other under : List ℕ) (w t : Tree) (old mid new : List ℕ) → Goes named ws0 ts0 n0 index ws ts n old mid
    → ws ≡ (name, w) ∷ ws1 → ts ≡ (other, t) ∷ ts1 → IsName name → (named ≡ true → name ≡ other) → HasName named index name under → IsMixed under w t n n1 mid new
    → Goes named ws0 ts0 n0 (index + 1) ws1 ts1 n1 old new
goes_next named ws0 ts0 ws ts ws1 ts1 n0 n n1 index name other under w t old mid new g e f is_name same has m =
    let item : List ℕ = written_typed m.tree under m.value in
    let next : index + 1 ≡ suc index = omega arith in
    record {
      bytes = g.bytes ++ item;
      written = m.written ∙ ap (λ (x : List ℕ). x ++ item) g.written ∙ append_assoc old g.bytes item;
      few = omega (arith, length-append g.bytes item, g.few, some_bytes m.tree under m.value);
      on = λ after more x.
          let inner : AreMixed named index ws ts n after (item ++ more) = record {
            fields = field name m.tree x.fields;
            alike = (w, t, other, ws1, ts1, n1, e, f, same, m.filled, x.alike);
            written = written_next named index name under m.value more m.tree x.fields is_name has m.is (subst (λ (k : ℕ). AreWritten named k x.fields more) next x.written);
          } in
          let P : List ℕ → Type 0 = λ b. AreMixed named 0 ws0 ts0 n0 after b in
          subst P (sym (append_assoc g.bytes item more)) (g.on after (item ++ more) inner);
      back = λ fs after h.
          let r = g.back fs after h in
          let P : Doc → Type 0 = λ d. AreAlike named r.0 d ((other, t) ∷ ts1) n after in
          let Q : Doc → Type 0 = λ d. AreAlike named r.0 ws d n after in
          alike_tail named r.0 name other w t m.tree ws1 ts1 n n1 after m.filled (subst P e (subst Q f r.1));
    }

-- nothing remains of either
pub goes_end : (named : Bool) (ws0 ts0 ws ts : Doc) (n0 n : List Number) (index : ℕ) (old new : List ℕ) → Goes named ws0 ts0 n0 index ws ts n old new → ws ≡ [] → ts ≡ []
    → (bytes : List ℕ) × AreMixed named 0 ws0 ts0 n0 n bytes × (new ≡ old ++ bytes)
goes_end named ws0 ts0 ws ts n0 n index old new g e f =
    let all : AreMixed named 0 ws0 ts0 n0 n (g.bytes ++ []) = g.on n [] (record { fields = no_fields; alike = (e, f, refl); written = written_none named index }) in
    (g.bytes ++ [], all, g.written ∙ ap (λ (x : List ℕ). old ++ x) (sym (append-nil g.bytes)))

-- why never elements are alike: one list ends before the other, two names differ, or two values do
module _ (named : Bool) (ws0 ts0 ws ts : Doc) (n0 n : List Number) (index : ℕ) (old new : List ℕ) (g : Goes named ws0 ts0 n0 index ws ts n old new) where
  unlike_by : ((gs : Fields) (after : List Number) → AreAlike named gs ws ts n after → ⊥) → AreUnlike named ws0 ts0 n0
  unlike_by never fs after h = let r = g.back fs after h in never r.0 after r.1

  ends_first : (gs : Fields) (after : List Number) (p : List ℕ × Tree) (more : Doc) → ws ≡ p ∷ more → ts ≡ [] → AreAlike named gs ws ts n after → ⊥
  ends_first no_fields after p more e f h = let c : p ∷ more ≡ [] = sym e ∙ h.0 in cc
  ends_first (field m x gs) after p more e f h = let c : [] ≡ (h.2, h.1) ∷ h.4 = sym f ∙ h.7 in cc

  ends_second : (gs : Fields) (after : List Number) (p : List ℕ × Tree) (more : Doc) → ws ≡ [] → ts ≡ p ∷ more → AreAlike named gs ws ts n after → ⊥
  ends_second no_fields after p more e f h = let c : p ∷ more ≡ [] = sym f ∙ h.1 in cc
  ends_second (field m x gs) after p more e f h = let c : [] ≡ (m, h.0) ∷ h.3 = sym e ∙ h.6 in cc

  pub unlike_ended : (p : List ℕ × Tree) (more : Doc) → ws ≡ p ∷ more → ts ≡ [] → AreUnlike named ws0 ts0 n0
  unlike_ended p more e f = unlike_by (λ gs after h. ends_first gs after p more e f h)

  pub unlike_more : (p : List ℕ × Tree) (more : Doc) → ws ≡ [] → ts ≡ p ∷ more → AreUnlike named ws0 ts0 n0
  unlike_more p more e f = unlike_by (λ gs after h. ends_second gs after p more e f h)

  module _ (name other : List ℕ) (w t : Tree) (ws1 ts1 : Doc) (e : ws ≡ (name, w) ∷ ws1) (f : ts ≡ (other, t) ∷ ts1) where
    names_differ : (gs : Fields) (after : List Number) → named ≡ true → (name ≡ other → ⊥) → AreAlike named gs ws ts n after → ⊥
    names_differ no_fields after is differ h = let c : (name, w) ∷ ws1 ≡ [] = sym e ∙ h.0 in cc
    names_differ (field m x gs) after is differ h =
        let c : (name, w) ∷ ws1 ≡ (m, h.0) ∷ h.3 = sym e ∙ h.6 in
        let d : (other, t) ∷ ts1 ≡ (h.2, h.1) ∷ h.4 = sym f ∙ h.7 in
        differ (head_name (name, w) (m, h.0) ws1 h.3 c ∙ h.8 is ∙ sym (head_name (other, t) (h.2, h.1) ts1 h.4 d))

    values_differ : (gs : Fields) (after : List Number) → IsUnlike w t n → AreAlike named gs ws ts n after → ⊥
    values_differ no_fields after never h = let c : (name, w) ∷ ws1 ≡ [] = sym e ∙ h.0 in cc
    values_differ (field m x gs) after never h =
        let c : (name, w) ∷ ws1 ≡ (m, h.0) ∷ h.3 = sym e ∙ h.6 in
        let d : (other, t) ∷ ts1 ≡ (h.2, h.1) ∷ h.4 = sym f ∙ h.7 in
        never x h.5 (filled_as x h.0 w h.1 t n h.5 (sym (head_tree (name, w) (m, h.0) ws1 h.3 c)) (sym (head_tree (other, t) (h.2, h.1) ts1 h.4 d)) h.9)

    pub unlike_names : named ≡ true → (name ≡ other → ⊥) → AreUnlike named ws0 ts0 n0
    unlike_names is differ = unlike_by (λ gs after h. names_differ gs after is differ h)

    pub unlike_values : IsUnlike w t n → AreUnlike named ws0 ts0 n0
    unlike_values never = unlike_by (λ gs after h. values_differ gs after never h)

-- the name of the first element is one that BSON can have
pub first_name : {bytes : List ℕ} (s : Remaining bytes) (name : List ℕ) (w : Tree) (ws : Doc) → elements_remaining s ≡ (name, w) ∷ ws → IsName name
unfolding elements_remaining
first_name {bytes} s name w ws e = go s.fields s.body s.spell e
  where
    go : (fs : Fields) (body : List ℕ) → AreFieldsBy nineteen fs body → pairs_of fs ≡ (name, w) ∷ ws → IsName name
    go no_fields body h e = absurd cc
    go (field n t fs) body h e =
        subst IsName (head_name (n, t) (name, w) (pairs_of fs) ws e) h.2

-- ---- documents, arrays, code with scope

led : (old : List ℕ) (b : ℕ) (name v : List ℕ) → (old ++ (b ∷ (name ++ 0 ∷ []))) ++ v ≡ old ++ (b ∷ (name ++ 0 ∷ v))
led old b name v = simp append_assoc

module _ (w t : Tree) (ws ts : Doc) (before : List Number) where
  pub document_mixed : (name : List ℕ) (after : List Number) (bytes old mid new : List ℕ) → w ≡ doc (fields_of ws) → t ≡ doc (fields_of ts) → AreMixed true 0 ws ts before after bytes
      → mid ≡ old ++ (3 ∷ (name ++ 0 ∷ [])) → new ≡ mid ++ framed bytes → IsMixed name w t before after old new
  document_mixed name after bytes old mid new e f m put is = record {
    tree = doc m.fields;
    value = framed bytes;
    filled = (fields_of ws, fields_of ts, e, f, alike_fields m.fields ws ts before after m.alike);
    is = (bytes, m.written, refl);
    written = is ∙ ap (λ (x : List ℕ). x ++ framed bytes) put ∙ led old 3 name (framed bytes);
  }

  pub array_mixed : (name : List ℕ) (after : List Number) (bytes old mid new : List ℕ) → w ≡ array (items_of (values_of ws)) → t ≡ array (items_of (values_of ts)) → AreMixed false 0 ws ts before after bytes
      → mid ≡ old ++ (4 ∷ (name ++ 0 ∷ [])) → new ≡ mid ++ framed bytes → IsMixed name w t before after old new
  array_mixed name after bytes old mid new e f m put is = record {
    tree = array (values_in m.fields);
    value = framed bytes;
    filled = (items_of (values_of ws), items_of (values_of ts), e, f, alike_items m.fields ws ts before after m.alike);
    is = (bytes, m.written, refl);
    written = is ∙ ap (λ (x : List ℕ). x ++ framed bytes) put ∙ led old 4 name (framed bytes);
  }

  pub scope_mixed : (code name : List ℕ) (after : List Number) (bytes old mid new : List ℕ) → IsText code → w ≡ code_scope code (fields_of ws) → t ≡ code_scope code (fields_of ts)
      → AreMixed true 0 ws ts before after bytes → mid ≡ old ++ (15 ∷ (name ++ 0 ∷ [])) → new ≡ mid ++ scoped code (framed bytes) → IsMixed name w t before after old new
  scope_mixed code name after bytes old mid new text e f m put is = record {
    tree = code_scope code m.fields;
    value = scoped code (framed bytes);
    filled = (fields_of ws, fields_of ts, e, f, alike_fields m.fields ws ts before after m.alike);
    is = (bytes, m.written, refl, text);
    written = is ∙ ap (λ (x : List ℕ). x ++ scoped code (framed bytes)) put ∙ led old 15 name (scoped code (framed bytes));
  }

  pub document_unlike : w ≡ doc (fields_of ws) → t ≡ doc (fields_of ts) → AreUnlike true ws ts before → IsUnlike w t before
  document_unlike e f never (doc fs) after h =
      let d : doc h.0 ≡ doc (fields_of ws) = sym h.2 ∙ e in
      let c : doc h.1 ≡ doc (fields_of ts) = sym h.3 ∙ f in
      never fs after (fields_alike fs ws ts before after (fields_as fs h.0 (fields_of ws) h.1 (fields_of ts) before before after (cc) (cc) refl h.4))
  document_unlike e f never x after h = let g : 1 ≡ form x = sym (ap form e) ∙ (forms x w t before after h).0 in absurd (omega (arith, g))

  pub array_unlike : w ≡ array (items_of (values_of ws)) → t ≡ array (items_of (values_of ts)) → AreUnlike false ws ts before → IsUnlike w t before
  array_unlike e f never (array is) after h =
      let d : array h.0 ≡ array (items_of (values_of ws)) = sym h.2 ∙ e in
      let c : array h.1 ≡ array (items_of (values_of ts)) = sym h.3 ∙ f in
      let r = items_alike is ws ts before after (items_as is h.0 (items_of (values_of ws)) h.1 (items_of (values_of ts)) before before after (cc) (cc) refl h.4) in
      never r.0 after r.1
  array_unlike e f never x after h = let g : 2 ≡ form x = sym (ap form e) ∙ (forms x w t before after h).0 in absurd (omega (arith, g))

  pub scope_unlike : (code other : List ℕ) → w ≡ code_scope code (fields_of ws) → t ≡ code_scope other (fields_of ts) → (other ≡ code → AreUnlike true ws ts before) → IsUnlike w t before
  scope_unlike code other e f never (code_scope s fs) after h =
      let d : code_scope s h.0 ≡ code_scope code (fields_of ws) = sym h.2 ∙ e in
      let c : code_scope s h.1 ≡ code_scope other (fields_of ts) = sym h.3 ∙ f in
      let one : s ≡ code = cc in
      let two : s ≡ other = cc in
      never (sym two ∙ one) fs after (fields_alike fs ws ts before after (fields_as fs h.0 (fields_of ws) h.1 (fields_of ts) before before after (cc) (cc) refl h.4))
  scope_unlike code other e f never x after h = let g : 3 ≡ form x = sym (ap form e) ∙ (forms x w t before after h).0 in absurd (omega (arith, g))

-- ---- forms and kinds

form_doc : (t : Tree) → form t ≡ 1 → kind_of t ≡ kinds.Doc
form_doc (doc fs) e = refl
form_doc t e = absurd (omega (arith, e))

form_array : (t : Tree) → form t ≡ 2 → kind_of t ≡ kinds.Array
form_array (array is) e = refl
form_array t e = absurd (omega (arith, e))

form_scope : (t : Tree) → form t ≡ 3 → (s : List ℕ) × (fs : Fields) × (t ≡ code_scope s fs)
form_scope (code_scope s fs) e = (s, fs, refl)
form_scope t e = absurd (omega (arith, e))

doc_form : (t : Tree) → kind_of t ≡ kinds.Doc → form t ≡ 1
doc_form (leaf s) e = absurd (no_holder s kinds.Doc e refl)
doc_form (doc fs) e = refl
doc_form (array is) e = absurd cc
doc_form (code_scope s fs) e = absurd cc

array_form : (t : Tree) → kind_of t ≡ kinds.Array → form t ≡ 2
array_form (leaf s) e = absurd (no_holder s kinds.Array e refl)
array_form (doc fs) e = absurd cc
array_form (array is) e = refl
array_form (code_scope s fs) e = absurd cc

-- a value of another form is not alike
pub other_document : (w t : Tree) (before : List Number) → kind_of w ≡ kinds.Doc → (kind_of t ≡ kinds.Doc → ⊥) → IsUnlike w t before
other_document w t before e never x after h = let f = forms x w t before after h in never (form_doc t (f.1 ∙ sym f.0 ∙ doc_form w e))

pub other_array : (w t : Tree) (before : List Number) → kind_of w ≡ kinds.Array → (kind_of t ≡ kinds.Array → ⊥) → IsUnlike w t before
other_array w t before e never x after h = let f = forms x w t before after h in never (form_array t (f.1 ∙ sym f.0 ∙ array_form w e))

pub other_scope : (w t : Tree) (s : List ℕ) (fs : Fields) (before : List Number) → w ≡ code_scope s fs → ((s : List ℕ) (fs : Fields) → t ≡ code_scope s fs → ⊥) → IsUnlike w t before
other_scope w t s fs before e never x after h =
    let f = forms x w t before after h in
    let c = form_scope t (f.1 ∙ sym f.0 ∙ ap form e) in
    never c.0 c.1 c.2

-- the code of code with scope is a text
pub code_text : {kind : Kind} {bytes : List ℕ} (s : Sound kind bytes) (code : List ℕ) (fs : Fields) → meaning s ≡ code_scope code fs → IsText code
code_text {kind} {bytes} s code fs is =
    let P : Tree → Type 0 = λ t. IsValue t s.begins.value in
    let h = subst P (sym (meaning_is s s) ∙ is) s.begins.spells in h.3

-- ---- the bytes of a value

module _ (bytes : List ℕ) (at : At) (tree : Tree) (is : IsAt bytes at tree) where
  here : Sound (kind_of tree) (drop at.start bytes)
  here = record { tree = tree; begins = record { value = is.1.value; after = is.1.after; spells = is.1.spells; typed = refl; splits = is.1.splits; short = is.1.short } }

  pub content_reads : (kind : Kind) → kind ≡ kind_of tree → HasBytesOf kind (drop at.start bytes)
  content_reads kind e = subst (λ (k : Kind). HasBytesOf k (drop at.start bytes)) (sym e) (reads_at (kind_of tree) (drop at.start bytes) here)

  pub content_size : (kind : Kind) → kind ≡ kind_of tree → size_of kind (drop at.start bytes) ≡ length is.1.value
  unfolding here
  content_size kind e = ap (λ (k : Kind). size_of k (drop at.start bytes)) e ∙ size_at (kind_of tree) (drop at.start bytes) here ∙ extent_is here here

  pub content_fits : (kind : Kind) → kind ≡ kind_of tree → size_of kind (drop at.start bytes) ≤ length (drop at.start bytes)
  content_fits kind e = omega (arith, content_size kind e, ap (λ (x : List ℕ). length x) is.1.splits, length-append is.1.value is.1.after)

  pub content_spells : (kind : Kind) (n : ℕ) (content : List ℕ) → kind ≡ kind_of tree → n ≡ size_of kind (drop at.start bytes) → content ≡ take n (drop at.start bytes) → IsValue tree content
  content_spells kind n content e size is_content =
      let same : content ≡ is.1.value = is_content ∙ ap (take n) is.1.splits ∙ take_at is.1.value is.1.after n (sym (size ∙ content_size kind e)) in
      subst (IsValue tree) (sym same) is.1.spells

-- ---- scalars

leaf_is : (w : Tree) → is_holder (kind_of w) ≡ false → (s : Scalar) × (w ≡ leaf s)
leaf_is (leaf s) e = (s, refl)
leaf_is (doc fs) e = absurd cc
leaf_is (array is) e = absurd cc
leaf_is (code_scope s fs) e = absurd cc

pub record KeptValue (s : Scalar) (v : List ℕ) : Type 0 where
  pub value : List ℕ
  pub spells : IsValuedScalar raw (kept s) value
  pub whole : (name : List ℕ) → written_typed (leaf (kept s)) name value ≡ type_byte (scalar_kind s) ∷ (name ++ 0 ∷ v)

long_length : (n : ℕ) → length (long n) ≡ 8
unfolding long
long_length n = refl

pub kept_value : (s : Scalar) (v : List ℕ) → IsScalar s v → KeptValue s v
kept_value (trees.int32 z) v h = record {
  value = 16 ∷ v;
  spells = record { kind = as_int32; value = v; typed = refl; sized = ap (λ (x : List ℕ). length x) h.1 ∙ number_length _; is_worth = ap (raw (Kept kinds.Int32)) h.1 };
  whole = λ name. refl;
}
kept_value (trees.int64 z) v h = record {
  value = 18 ∷ v;
  spells = record { kind = as_int64; value = v; typed = refl; sized = ap (λ (x : List ℕ). length x) h.1 ∙ long_length _; is_worth = ap (raw (Kept kinds.Int64)) h.1 };
  whole = λ name. refl;
}
kept_value trees.min_key v h = record { value = v; spells = h; whole = λ name. refl }
kept_value trees.undefined v h = record { value = v; spells = h; whole = λ name. refl }
kept_value trees.null v h = record { value = v; spells = h; whole = λ name. refl }
kept_value (trees.text s) v h = record { value = v; spells = h; whole = λ name. refl }
kept_value (trees.symbol s) v h = record { value = v; spells = h; whole = λ name. refl }
kept_value (trees.binary k s) v h = record { value = v; spells = h; whole = λ name. refl }
kept_value (trees.object_id s) v h = record { value = v; spells = h; whole = λ name. refl }
kept_value (trees.boolean b) v h = record { value = v; spells = h; whole = λ name. refl }
kept_value (trees.date z) v h = record { value = v; spells = h; whole = λ name. refl }
kept_value (trees.timestamp s i) v h = record { value = v; spells = h; whole = λ name. refl }
kept_value (trees.regex p o) v h = record { value = v; spells = h; whole = λ name. refl }
kept_value (trees.db_pointer s i) v h = record { value = v; spells = h; whole = λ name. refl }
kept_value (trees.code s) v h = record { value = v; spells = h; whole = λ name. refl }
kept_value trees.max_key v h = record { value = v; spells = h; whole = λ name. refl }

module _ (kind : Kind) (w t : Tree) (n : List Number) (plain : is_holder kind ≡ false) (kinded : kind_of w ≡ kind) where
  scalar_there : (s : Scalar) × (w ≡ leaf s)
  scalar_there = leaf_is w (ap is_holder kinded ∙ plain)

  pub scalar_mixed : (name v old mid new : List ℕ) → IsValue w v → t ≡ w → mid ≡ old ++ (type_byte kind ∷ (name ++ 0 ∷ [])) → new ≡ mid ++ v → IsMixed name w t n n old new
  scalar_mixed name v old mid new h same put is =
      let s = scalar_there in
      let P : Tree → Type 0 = λ x. IsValue x v in
      let k = kept_value s.0 v (subst P s.1 h) in
      let byte : type_byte kind ≡ type_byte (scalar_kind s.0) = ap type_byte (sym kinded ∙ ap kind_of s.1) in
      record {
        tree = leaf (kept s.0);
        value = k.value;
        filled = inl (record { scalar = s.0; is = refl; in_whole = s.1; in_text = same ∙ s.1; none = refl });
        is = k.spells;
        written = is ∙ ap (λ (x : List ℕ). x ++ v) put ∙ led old (type_byte kind) name v
            ∙ ap (λ (x : List ℕ). old ++ x) (ap (λ (b : ℕ). b ∷ (name ++ 0 ∷ v)) byte ∙ sym (k.whole name));
      }

  pub scalar_unlike : (t ≡ w → ⊥) → (w ≡ leaf (trees.int32 (pos 0)) → t ≡ leaf (trees.text []) → n ≡ []) → IsUnlike w t n
  scalar_unlike differ none (leaf s) after (inl p) = differ (p.in_text ∙ sym p.in_whole)
  scalar_unlike differ none (leaf s) after (inr p) = let e : [] ≡ p.number ∷ after = sym (none p.in_whole p.in_text) ∙ p.taken in cc
  scalar_unlike differ none x after h = let g : 0 ≡ form x = sym (ap form scalar_there.1) ∙ (forms x w t n after h).0 in absurd (omega (arith, g))

  -- one scalar is spelled by the same bytes
  pub one_spelling : (v b : List ℕ) → IsValue w v → IsValue t b → t ≡ w → b ≡ v
  one_spelling v b h i same =
      let s = scalar_there in
      let P : Tree → Type 0 = λ x. IsValue x v in
      let Q : Tree → Type 0 = λ x. IsValue x b in
      let first : IsScalar s.0 v = subst P s.1 h in
      let second : IsScalar s.0 b = subst Q (same ∙ s.1) i in
      second.1 ∙ sym first.1

pub same_value : (w t : Tree) (v b : List ℕ) → IsValue w v → IsValue t b → kind_of t ≡ kind_of w → b ≡ v → t ≡ w
same_value w t v b h i kind same = (values t w b v [] [] i h kind (ap (λ (x : List ℕ). x ++ []) same)).0

pub number_mixed : (name : List ℕ) (w t : Tree) (x : Number) (n after : List Number) (old new value : List ℕ) → w ≡ leaf (trees.int32 (pos 0)) → t ≡ leaf (trees.text []) → n ≡ x ∷ after
    → IsWritten (leaf (numeric x)) value → new ≡ old ++ written_typed (leaf (numeric x)) name value → IsMixed name w t n after old new
number_mixed name w t x n after old new value e f taken h is =
    record { tree = leaf (numeric x); value = value; filled = inr (record { number = x; is = refl; in_whole = e; in_text = f; taken = taken }); is = h; written = is }

-- ---- the elements that are numbers

pub whole_put : (z : ℤ) (name old mid new : List ℕ) → mid ≡ old ++ (18 ∷ (name ++ 0 ∷ [])) → new ≡ mid ++ scalar_bytes (trees.int64 z)
    → (value : List ℕ) × IsWritten (leaf (numeric (numbers.Whole z))) value × (new ≡ old ++ written_typed (leaf (numeric (numbers.Whole z))) name value)
whole_put z name old mid new put is = (
  18 ∷ scalar_bytes (trees.int64 z),
  record { kind = as_int64; value = scalar_bytes (trees.int64 z); typed = refl; sized = long_length _; is_worth = refl },
  is ∙ ap (λ (x : List ℕ). x ++ scalar_bytes (trees.int64 z)) put ∙ led old 18 name _,
)

pub double_put : (bits : ℕ) (name old mid new : List ℕ) → mid ≡ old ++ (1 ∷ (name ++ 0 ∷ [])) → new ≡ mid ++ long bits
    → (value : List ℕ) × IsWritten (leaf (numeric (numbers.Double bits))) value × (new ≡ old ++ written_typed (leaf (numeric (numbers.Double bits))) name value)
double_put bits name old mid new put is = (
  1 ∷ long bits,
  record { kind = as_double; value = long bits; typed = refl; sized = long_length bits; is_worth = refl },
  is ∙ ap (λ (x : List ℕ). x ++ long bits) put ∙ led old 1 name (long bits),
)

pub decimal_put : (low high : ℕ) (name old mid half new : List ℕ) → mid ≡ old ++ (19 ∷ (name ++ 0 ∷ [])) → half ≡ mid ++ long low → new ≡ half ++ long high
    → (value : List ℕ) × IsWritten (leaf (numeric (numbers.Decimal128 low high))) value × (new ≡ old ++ written_typed (leaf (numeric (numbers.Decimal128 low high))) name value)
decimal_put low high name old mid half new put first is =
    let size : length (long low ++ long high) ≡ 16 = omega (arith, length-append (long low) (long high), long_length low, long_length high) in (
      19 ∷ (long low ++ long high),
      record { kind = as_decimal128; value = long low ++ long high; typed = refl; sized = size; is_worth = refl },
      is ∙ ap (λ (x : List ℕ). x ++ long high) first ∙ append_assoc mid (long low) (long high) ∙ ap (λ (x : List ℕ). x ++ (long low ++ long high)) put ∙ led old 19 name (long low ++ long high),
    )

-- ---- lengths

-- code with scope: four bytes, the code, the scope
pub scoped_out : (o m1 m2 new code scope : List ℕ) (at : ℕ) → at ≡ length o → m1 ≡ o ++ (0 ∷ 0 ∷ 0 ∷ 0 ∷ string code) → m2 ≡ m1 ++ scope
    → new ≡ take at m2 ++ (number (length m2 - at) ++ drop (at + 4) m2) → new ≡ o ++ scoped code scope
scoped_out o m1 m2 new code scope at start a b is =
    let four : List ℕ = 0 ∷ 0 ∷ 0 ∷ 0 ∷ [] in
    let whole : m2 ≡ (o ++ four) ++ (string code ++ scope) = b ∙ ap (λ (x : List ℕ). x ++ scope) a ∙ simp append_assoc in
    is ∙ sealed o four (string code ++ scope) m2 at refl whole start

-- ---- a whole document

pub mixed_whole : (ws ts w t : Doc) (n : List Number) (bytes out new : List ℕ) → ws ≡ w → ts ≡ t → AreMixed true 0 ws ts n [] bytes → new ≡ out ++ framed bytes
    → (d : Doc) × (b : List ℕ) × AreFilled (fields_of d) (fields_of w) (fields_of t) n [] × IsWritten (doc (fields_of d)) b × (new ≡ out ++ b)
mixed_whole ws ts w t n bytes out new e f m is =
    let same : m.fields ≡ fields_of (pairs_of m.fields) = sym (fields_of-pairs_of m.fields) in
    let P : Fields → Type 0 = λ fs. AreFilled fs (fields_of w) (fields_of t) n [] in
    let Q : Fields → Type 0 = λ fs. AreFieldsWritten fs bytes in
    let filled = fields_as m.fields (fields_of ws) (fields_of w) (fields_of ts) (fields_of t) n n [] (ap fields_of e) (ap fields_of f) refl (alike_fields m.fields ws ts n [] m.alike) in
    (pairs_of m.fields, framed bytes, subst P same filled, (bytes, subst Q same m.written, refl), is)

pub unlike_whole : (ws ts w t : Doc) (n : List Number) → ws ≡ w → ts ≡ t → AreUnlike true ws ts n → (fs : Fields) → AreFilled fs (fields_of w) (fields_of t) n [] → ⊥
unlike_whole ws ts w t n e f never fs h =
    never fs [] (fields_alike fs ws ts n [] (fields_as fs (fields_of w) (fields_of ws) (fields_of t) (fields_of ts) n n [] (ap fields_of (sym e)) (ap fields_of (sym f)) refl h))

-- more numbers remain than the document has places for
pub too_many_whole : (ws ts w t : Doc) (n rest : List Number) (bytes : List ℕ) → ws ≡ w → ts ≡ t → AreMixed true 0 ws ts n rest bytes → (rest ≡ [] → ⊥) → (fs : Fields)
    → AreFilled fs (fields_of w) (fields_of t) n [] → ⊥
too_many_whole ws ts w t n rest bytes e f m some fs h =
    let filled = fields_as m.fields (fields_of ws) (fields_of w) (fields_of ts) (fields_of t) n n rest (ap fields_of e) (ap fields_of f) refl (alike_fields m.fields ws ts n rest m.alike) in
    some (one_fields m.fields fs (fields_of w) (fields_of t) n rest [] filled h).1
