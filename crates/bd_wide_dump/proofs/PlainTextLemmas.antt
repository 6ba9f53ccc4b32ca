-- Plain texts of values.
use Rattle.std.proofs.Common.{◌≡◌, ℕ, true, false, List, Result, refl, sym, ap, subst, ◌∙◌}
use Rattle.std.specs.Prelude.{IfOk}
use Rattle.bd_value.specs.{View.scalar_kind}
use Rattle.bd_value.specs.declared.node.Kind.{Kind}
use Rattle.bd_value.specs.declared.node.Kind.TheVariants as kinds
use Rattle.bd_value.specs.Tree as trees
use Rattle.bd_value.specs.Tree.{Scalar, Tree, leaf}
use Rattle.bd_bson_view.specs.declared.raw_parts.ElementType.TheVariants.{Kept}
use Rattle.bd_bson_view.specs.Spelling.{NumberKind, as_double, as_int32, as_int64, as_decimal128, number_type}
use Rattle.bd_bson_view.specs.Sound.{Sound, meaning}
use Rattle.bd_wide_dump.specs.declared.format.JsonFormat.TheVariants.{Relaxed}
use Rattle.bd_wide_dump.specs.Plain.{IsPlainNumber, IsPlainText}
use Rattle.bd_wide_dump.specs.WideText.{AreBytes, IsNumberText, IsRawBy, IsRawText, IsScalarText, IsTextOf}
use Rattle.bd_wide_dump.specs.inside.Begins.{is_whole, IsNumberOf, IsTyped, a_number, a_scalar, a_document, an_array, a_code, HasValue, AppendsBy}
use Rattle.bd_wide_dump.specs.inside.Finds.{is_plain}
use Rattle.bd_wide_dump.proofs.RawLemmas.{raw_same}
use Rattle.bd_wide_dump.proofs.ValueLemmas.{content_bytes, plain_of, plain_viewed}

-- ---- values whose plain text is that of relaxed Extended JSON

whole_plain : (k : NumberKind) (kind : Kind) (value text : List ℕ) → number_type k ≡ Kept kind → IsNumberText Relaxed k value text → IsPlainNumber k value text
whole_plain as_double kind value text h written = absurd cc
whole_plain as_decimal128 kind value text h written = absurd cc
whole_plain as_int32 kind value text h written = written
whole_plain as_int64 kind value text h written = written

number_plain : (kind : Kind) (content text : List ℕ) (tree : Tree) (n : IsNumberOf (Kept kind) content tree) → AreBytes content → IsTextOf Relaxed tree text → IsPlainText tree text
number_plain kind content text tree n fits h =
    let r : IsRawText Relaxed n.z text = subst (λ (t : Tree). IsTextOf Relaxed t text) n.is h in
    let same = raw_same r.kind n.kind r.value content r.fits fits r.sized n.sized (r.is ∙ sym n.worth) in
    let plain : IsRawBy IsPlainNumber n.z text = record {
      kind = r.kind;
      value = r.value;
      fits = r.fits;
      sized = r.sized;
      is = r.is;
      written = whole_plain r.kind kind r.value text (ap number_type same.0 ∙ sym n.typed) r.written;
    } in
    subst (λ (t : Tree). IsPlainText t text) (sym n.is) plain

scalar_plain : (s : Scalar) (text : List ℕ) → is_whole (scalar_kind s) ≡ false → is_plain (scalar_kind s) ≡ false → IsScalarText Relaxed s text → IsPlainText (leaf s) text
scalar_plain (trees.int32 z) text whole plain h = absurd cc
scalar_plain (trees.int64 z) text whole plain h = absurd cc
scalar_plain trees.null text whole plain h = absurd cc
scalar_plain (trees.text s) text whole plain h = absurd cc
scalar_plain (trees.object_id s) text whole plain h = absurd cc
scalar_plain (trees.date z) text whole plain h = absurd cc
scalar_plain (trees.binary k s) text whole plain h = absurd cc
scalar_plain trees.min_key text whole plain h = h
scalar_plain trees.undefined text whole plain h = h
scalar_plain (trees.symbol s) text whole plain h = h
scalar_plain (trees.boolean x) text whole plain h = h
scalar_plain (trees.timestamp s i) text whole plain h = h
scalar_plain (trees.regex p o) text whole plain h = h
scalar_plain (trees.db_pointer s i) text whole plain h = h
scalar_plain (trees.code s) text whole plain h = h
scalar_plain trees.max_key text whole plain h = h

module _ (kind : Kind) (bytes : List ℕ) (fits : AreBytes bytes) where
  pub relaxed_plain : is_plain kind ≡ false → (tree : Tree) → HasValue (Kept kind) bytes tree → (text : List ℕ) → IsTextOf Relaxed tree text → IsPlainText tree text
  relaxed_plain other tree v text h = go v.spells
    where
      go : IsTyped (Kept kind) v.content tree → IsPlainText tree text
      go (a_number n) = number_plain kind v.content text tree n (content_bytes bytes v.content v.after fits v.splits) h
      go (a_scalar s) =
          let e : kind ≡ scalar_kind s.scalar = cc (s.typed) in
          subst (λ (t : Tree). IsPlainText t text) (sym s.is) (scalar_plain s.scalar text s.other (sym (ap is_plain e) ∙ other) (subst (λ (t : Tree). IsTextOf Relaxed t text) s.is h))
      go (a_document d) = subst (λ (t : Tree). IsPlainText t text) (sym d.is) (subst (λ (t : Tree). IsTextOf Relaxed t text) d.is h)
      go (an_array d) = subst (λ (t : Tree). IsPlainText t text) (sym d.is) (subst (λ (t : Tree). IsTextOf Relaxed t text) d.is h)
      go (a_code d) = subst (λ (t : Tree). IsPlainText t text) (sym d.is) (subst (λ (t : Tree). IsTextOf Relaxed t text) d.is h)

-- ---- scalars that have a plain text of their own

pub no_kind : (kind other : Kind) → is_plain other ≡ false → is_plain kind ≡ true → kind ≡ other → ⊥
no_kind kind other none is_one is = let f : true ≡ false = sym is_one ∙ ap is_plain is ∙ none in absurd cc

pub no_whole : (kind : Kind) → is_plain kind ≡ true → is_whole kind ≡ false
no_whole kinds.Int32 h = absurd cc
no_whole kinds.Int64 h = absurd cc
no_whole _ h = refl

module _ (kind : Kind) (bytes : List ℕ) (is_kind_plain : is_plain kind ≡ true) (fits : AreBytes bytes) where
  pub plain_scalar : (tree : Tree) (v : HasValue (Kept kind) bytes tree) → (viewed : Tree) → ((s : Sound kind bytes) → viewed ≡ meaning s)
      → (s : Scalar) × (viewed ≡ leaf s) × (is_plain (scalar_kind s) ≡ true) × (tree ≡ leaf s)
  plain_scalar tree v viewed is =
      let d = no_kind kind kinds.Doc refl is_kind_plain in
      let a = no_kind kind kinds.Array refl is_kind_plain in
      let c = no_kind kind kinds.CodeScope refl is_kind_plain in
      let p = plain_of kind bytes d a c fits tree v in
      (p.scalar, plain_viewed kind bytes d a c fits viewed is tree v, ap is_plain p.kinded ∙ is_kind_plain, p.same (no_whole kind is_kind_plain))

  pub plain_appended : {E : Type 0} (viewed : Tree) (old : List ℕ) (end : ℕ) (new : List ℕ) (r : Result ℕ E) → ((s : Sound kind bytes) → viewed ≡ meaning s)
      → ((s : Scalar) → viewed ≡ leaf s → IfOk r (λ e. AppendsBy (IsPlainText (leaf s)) old end e new)) → (tree : Tree) → HasValue (Kept kind) bytes tree
      → IfOk r (λ e. AppendsBy (IsPlainText tree) old end e new)
  plain_appended viewed old end new r is h tree v =
      let p = plain_scalar tree v viewed is in
      subst (λ (t : Tree). IfOk r (λ e. AppendsBy (IsPlainText t) old end e new)) (sym p.3) (h p.0 p.1)
