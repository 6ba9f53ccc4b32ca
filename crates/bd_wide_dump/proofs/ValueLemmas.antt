-- Values of each type: their bytes, and their texts.
use Rattle.std.proofs.Common.{◌≡◌, ℕ, ℤ, ◌+◌, ◌<◌, ◌≤◌, ◌^◌, List, ◌∷◌, ◌++◌, length, take, drop, true, false, Result, Ok, Err, refl, sym, ap, ap₂, subst, ◌∙◌, append_assoc, arith}
use Rattle.std.specs.Prelude.{IfOk, codes}
use Rattle.std.specs.Int.{w32, w64, from_le_bytes, cast_signed, cast_unsigned}
use Rattle.std.proofs.lemmas.Int.{ints, of_z-to_z}
use Rattle.std.proofs.lemmas.Nat.{le_bytes_4, le_bytes_8}
use Rattle.std.proofs.lemmas.List.{drop_at, take_at, take_all, take-append-le, drop-append-le, length-append, length-drop, drop-drop}
use Rattle.std.specs.Float.{Ieee.of_bits, binary64}
use Rattle.bd_value.specs.{View.scalar_kind}
use Rattle.bd_value.specs.declared.node.Kind.{Kind}
use Rattle.bd_value.specs.declared.node.Kind.TheVariants as kinds
use Rattle.bd_value.specs.Tree as trees
use Rattle.bd_value.specs.Tree.{Scalar, Tree, leaf, doc, array, code_scope, Fields}
use Rattle.bd_bson_view.specs.declared.raw_parts.ElementType.{ElementType}
use Rattle.bd_bson_view.specs.declared.raw_parts.ElementType.TheVariants.{Kept}
use Rattle.bd_bson_view.specs.Spelling.{type_byte, is_holder, number, long, string, framed, scoped, IsScalar}
use Rattle.bd_bson_view.specs.Spelling.{NumberKind, as_double, as_int32, as_int64, as_decimal128, number_type, number_size}
use Rattle.bd_bson_view.specs.Sizes.{number_of, long_of, text_of, TextAt}
use Rattle.bd_bson_view.specs.Unique.{number_after, no_holder, framed_after, string_length, string_text}
use Rattle.bd_bson_view.specs.Sound.{Sound, meaning, meaning_is}
use Rattle.bd_bson_view.proofs.ValueAtLemmas.{text_reads}
use Rattle.bd_bson_check.proofs.FirstFaultLemmas.{IsBytes-take}
use Rattle.bd_wide_text.specs.{Double.IsDoubleText, Decimal128.decimal128_text}
use Rattle.bd_wide_dump.specs.Raw.{raw}
use Rattle.bd_wide_dump.specs.declared.format.JsonFormat.{JsonFormat}
use Rattle.bd_wide_dump.specs.WideText.{AreBytes, IsDoubleIn, IsKindText, IsNumberText, IsRawBy, IsRawText, IsTextOf, is_bare}
use Rattle.bd_wide_dump.specs.Plain.{IsPlainNumber, IsPlainText}
use Rattle.bd_wide_dump.specs.Values.{values_in}
use Rattle.bd_wide_dump.specs.inside.Begins.{HasElements, is_whole, IsNumberOf, IsTyped, a_number, a_scalar, a_document, an_array, a_code, HasValue, AppendsBy, AppendsText}

-- ---- numbers

-- no two kinds of numbers have the same type
pub same_number : (k j : NumberKind) → number_type k ≡ number_type j → k ≡ j
same_number as_double as_double h = refl
same_number as_int32 as_int32 h = refl
same_number as_int64 as_int64 h = refl
same_number as_decimal128 as_decimal128 h = refl
same_number _ _ h = absurd cc

-- a type of number that no kind of value has
abbrev pub IsWide : NumberKind → Type 0
IsWide k = (kind : Kind) → number_type k ≡ Kept kind → ⊥

-- double is a type of `bsonwide` alone
pub double_is_wide : IsWide as_double
double_is_wide kind h = cc

-- decimal128 is a type of `bsonwide` alone
pub decimal128_is_wide : IsWide as_decimal128
decimal128_is_wide kind h = cc

of_number : (k : NumberKind) (content : List ℕ) (tree : Tree) → IsWide k → IsTyped (number_type k) content tree → IsNumberOf (number_type k) content tree
of_number k content tree wide (a_number n) = n
of_number k content tree wide (a_scalar s) = absurd (wide _ s.typed)
of_number k content tree wide (a_document d) = absurd (wide _ d.typed)
of_number k content tree wide (an_array d) = absurd (wide _ d.typed)
of_number k content tree wide (a_code d) = absurd (wide _ d.typed)

content_size : (k : NumberKind) (content : List ℕ) (tree : Tree) (n : IsNumberOf (number_type k) content tree) → length content ≡ number_size k
content_size k content tree n = n.sized ∙ ap number_size (sym (same_number k n.kind n.typed))

pub wide_long : (k : NumberKind) (bytes : List ℕ) (tree : Tree) → IsWide k → HasValue (number_type k) bytes tree → number_size k ≤ length bytes
wide_long k bytes tree wide v =
    let n = of_number k v.content tree wide v.spells in
    omega (arith, content_size k v.content tree n, ap (λ (x : List ℕ). length x) v.splits, length-append v.content v.after)

long_same : (content after : List ℕ) → 8 ≤ length content → long_of (content ++ after) ≡ long_of content
long_same content after le = ap (from_le_bytes w64) (take-append-le 8 content after le)

drop_content : (n : ℕ) (content after : List ℕ) → n ≤ length content → drop n (content ++ after) ≡ drop n content ++ after
drop_content n content after le = drop-append-le n content after le

-- the text of a number depends on its content alone
narrow : (format : JsonFormat) (k : NumberKind) (content after text : List ℕ) → length content ≡ number_size k → IsNumberText format k (content ++ after) text → IsNumberText format k content text
narrow format as_double content after text s h =
    subst (λ (n : ℕ). IsDoubleIn (is_bare format (of_bits binary64 n)) n text) (long_same content after (omega (arith, s))) h
narrow format as_decimal128 content after text s h = h ∙ ap₂ (λ (low high : ℕ). codes "{\"$numberDecimal\":\"" ++ (decimal128_text low high ++ codes "\"}")) (long_same content after (omega (arith, s)))
    (ap long_of (drop_content 8 content after (omega (arith, s))) ∙ long_same (drop 8 content) after (omega (arith, s, length-drop 8 content)))
narrow format as_int32 content after text s h =
    subst (λ (x : List ℕ). IsKindText format (trees.int32 (cast_signed w32 (from_le_bytes w32 x))) text) (take-append-le 4 content after (omega (arith, s))) h
narrow format as_int64 content after text s h =
    subst (λ (n : ℕ). IsKindText format (trees.int64 (cast_signed w64 n)) text) (long_same content after (omega (arith, s))) h

pub content_bytes : (bytes content after : List ℕ) → AreBytes bytes → bytes ≡ content ++ after → AreBytes content
content_bytes bytes content after fits is =
    subst AreBytes (ap (take (length content)) is ∙ take_at content after (length content) refl) (IsBytes-take (length content) bytes fits)

raw_text : (format : JsonFormat) (type : ElementType) (content text : List ℕ) (tree : Tree) (n : IsNumberOf type content tree) → AreBytes content → IsNumberText format n.kind content text
    → IsTextOf format tree text
raw_text format type content text tree n fits h =
    let r : IsRawText format n.z text = record { kind = n.kind; value = content; fits = fits; sized = n.sized; is = n.worth; written = h } in
    subst (λ (t : Tree). IsTextOf format t text) (sym n.is) r

pub wide_text : (format : JsonFormat) (k : NumberKind) (bytes : List ℕ) (tree : Tree) → IsWide k → AreBytes bytes → HasValue (number_type k) bytes tree
    → (text : List ℕ) → IsNumberText format k bytes text → IsTextOf format tree text
wide_text format k bytes tree wide fits v text h =
    let n = of_number k v.content tree wide v.spells in
    let P : List ℕ → Type 0 = λ x. IsNumberText format k x text in
    let mine : IsNumberText format k v.content text = narrow format k v.content v.after text (content_size k v.content tree n) (subst P v.splits h) in
    let Q : NumberKind → Type 0 = λ j. IsNumberText format j v.content text in
    raw_text format (number_type k) v.content text tree n (content_bytes bytes v.content v.after fits v.splits) (subst Q (same_number k n.kind n.typed) mine)

-- the same of its plain text
plain_narrow : (k : NumberKind) (content after text : List ℕ) → IsWide k → length content ≡ number_size k → IsPlainNumber k (content ++ after) text → IsPlainNumber k content text
plain_narrow as_double content after text wide s h = subst (λ (n : ℕ). IsDoubleText n text) (long_same content after (omega (arith, s))) h
plain_narrow as_decimal128 content after text wide s h = h ∙ ap₂ decimal128_text (long_same content after (omega (arith, s)))
    (ap long_of (drop_content 8 content after (omega (arith, s))) ∙ long_same (drop 8 content) after (omega (arith, s, length-drop 8 content)))
plain_narrow as_int32 content after text wide s h = absurd (wide kinds.Int32 refl)
plain_narrow as_int64 content after text wide s h = absurd (wide kinds.Int64 refl)

pub plain_wide : (k : NumberKind) (bytes : List ℕ) (tree : Tree) → IsWide k → AreBytes bytes → HasValue (number_type k) bytes tree → (text : List ℕ) → IsPlainNumber k bytes text → IsPlainText tree text
plain_wide k bytes tree wide fits v text h =
    let n = of_number k v.content tree wide v.spells in
    let P : List ℕ → Type 0 = λ x. IsPlainNumber k x text in
    let mine : IsPlainNumber k v.content text = plain_narrow k v.content v.after text wide (content_size k v.content tree n) (subst P v.splits h) in
    let Q : NumberKind → Type 0 = λ j. IsPlainNumber j v.content text in
    let r : IsRawBy IsPlainNumber n.z text = record {
      kind = n.kind;
      value = v.content;
      fits = content_bytes bytes v.content v.after fits v.splits;
      sized = n.sized;
      is = n.worth;
      written = subst Q (same_number k n.kind n.typed) mine;
    } in
    subst (λ (t : Tree). IsPlainText t text) (sym n.is) r

pub wide_appended : {E : Type 0} (format : JsonFormat) (k : NumberKind) (type : ElementType) (bytes old : List ℕ) (end : ℕ) (new : List ℕ) (tree : Tree) (r : Result ℕ E) → IsWide k
    → type ≡ number_type k → AreBytes bytes → HasValue type bytes tree → IfOk r (λ e. AppendsBy (λ text. IsNumberText format k bytes text) old end e new)
    → IfOk r (λ e. AppendsText format tree old end e new)
wide_appended format k type bytes old end new tree (Ok e) wide is fits v a =
    let w = subst (λ (t : ElementType). HasValue t bytes tree) is v in
    record { text = a.text; is = wide_text format k bytes tree wide fits w a.text a.is; written = a.written; inside = a.inside }
wide_appended format k type bytes old end new tree (Err e) wide is fits v a = tt

-- ---- scalars of the nineteen kinds

whole32 : (content : List ℕ) → AreBytes content → length content ≡ 4 → IsScalar (trees.int32 (cast_signed w32 (number_of content))) content
unfolding number
whole32 content b size =
    let same : take 4 content ≡ content = take_all 4 content (omega (arith, size)) in
    let n = from_le_bytes w32 content in
    let below : from_le_bytes w32 content < 2 ^ 32 = omega (arith, b 0, b 1, b 2, b 3) in
    let back : number (cast_unsigned w32 (cast_signed w32 n)) ≡ content = ap number (of_z-to_z w32 n below) ∙ le_bytes_4 content _ size b refl in
    rw same (search (arith, ints), sym back)

whole64 : (content : List ℕ) → AreBytes content → length content ≡ 8 → IsScalar (trees.int64 (cast_signed w64 (long_of content))) content
unfolding long
whole64 content b size =
    let same : take 8 content ≡ content = take_all 8 content (omega (arith, size)) in
    let n = from_le_bytes w64 content in
    let below : from_le_bytes w64 content < 2 ^ 64 = omega (arith, b 0, b 1, b 2, b 3, b 4, b 5, b 6, b 7) in
    let back : long (cast_unsigned w64 (cast_signed w64 n)) ≡ content = ap long (of_z-to_z w64 n below) ∙ le_bytes_8 content _ size b refl in
    rw same (search (arith, ints), sym back)

-- a scalar of the nineteen kinds, whose text is that of the value
pub record Plain (kind : Kind) (content : List ℕ) (tree : Tree) : Type 0 where
  pub scalar : Scalar
  pub kinded : scalar_kind scalar ≡ kind
  pub spells : IsScalar scalar content
  pub text_is : (format : JsonFormat) (text : List ℕ) → IsKindText format scalar text → IsTextOf format tree text
  pub same : is_whole kind ≡ false → tree ≡ leaf scalar

number_plain : (kind : Kind) (content : List ℕ) (tree : Tree) (k : NumberKind) (z : ℤ) → tree ≡ leaf (trees.int64 z) → Kept kind ≡ number_type k → length content ≡ number_size k
    → raw (number_type k) content ≡ z → AreBytes content → Plain kind content tree
number_plain kind content tree as_double z is typed size worth fits = absurd cc
number_plain kind content tree as_decimal128 z is typed size worth fits = absurd cc
number_plain kind content tree as_int32 z is typed size worth fits =
    record {
      scalar = trees.int32 (cast_signed w32 (number_of content));
      kinded = cc;
      spells = whole32 content fits size;
      text_is = λ format text h.
          let r : IsRawText format z text = record { kind = as_int32; value = content; fits = fits; sized = size; is = worth; written = h } in
          subst (λ (t : Tree). IsTextOf format t text) (sym is) r;
      same = λ h. let e : kind ≡ kinds.Int32 = cc in let f : true ≡ false = sym (ap is_whole e) ∙ h in absurd cc;
    }
number_plain kind content tree as_int64 z is typed size worth fits =
    record {
      scalar = trees.int64 (cast_signed w64 (long_of content));
      kinded = cc;
      spells = whole64 content fits size;
      text_is = λ format text h.
          let r : IsRawText format z text = record { kind = as_int64; value = content; fits = fits; sized = size; is = worth; written = h } in
          subst (λ (t : Tree). IsTextOf format t text) (sym is) r;
      same = λ h. let e : kind ≡ kinds.Int64 = cc in let f : true ≡ false = sym (ap is_whole e) ∙ h in absurd cc;
    }

plain_there : (kind : Kind) (content : List ℕ) (tree : Tree) → (kind ≡ kinds.Doc → ⊥) → (kind ≡ kinds.Array → ⊥) → (kind ≡ kinds.CodeScope → ⊥) → AreBytes content → IsTyped (Kept kind) content tree
    → Plain kind content tree
plain_there kind content tree d a c fits (a_number n) = number_plain kind content tree n.kind n.z n.is n.typed n.sized n.worth fits
plain_there kind content tree d a c fits (a_scalar s) = record {
  scalar = s.scalar;
  kinded = cc (s.typed);
  spells = s.spells;
  text_is = λ format text h. subst (λ (t : Tree). IsTextOf format t text) (sym s.is) (s.text_is format text h);
  same = λ h. s.is;
}
plain_there kind content tree d a c fits (a_document x) = absurd (d (cc (x.typed)))
plain_there kind content tree d a c fits (an_array x) = absurd (a (cc (x.typed)))
plain_there kind content tree d a c fits (a_code x) = absurd (c (cc (x.typed)))

module _ (kind : Kind) (bytes : List ℕ) (d : kind ≡ kinds.Doc → ⊥) (a : kind ≡ kinds.Array → ⊥) (c : kind ≡ kinds.CodeScope → ⊥) (fits : AreBytes bytes) where
  -- the value as a scalar of the nineteen kinds
  pub plain_of : (tree : Tree) (v : HasValue (Kept kind) bytes tree) → Plain kind v.content tree
  plain_of tree v = plain_there kind v.content tree d a c (content_bytes bytes v.content v.after fits v.splits) v.spells

  -- The value of this kind that the bytes spell is sound.
  abbrev pub sound_here : (tree : Tree) → HasValue (Kept kind) bytes tree → Sound kind bytes
  sound_here tree v = let p = plain_of tree v in
      record {
        tree = leaf p.scalar;
        begins = record { value = v.content; after = v.after; spells = p.spells; typed = ap type_byte p.kinded; splits = v.splits; short = v.short };
      }

  -- what a view of the bytes is of
  pub plain_viewed : (viewed : Tree) → ((s : Sound kind bytes) → viewed ≡ meaning s) → (tree : Tree) (v : HasValue (Kept kind) bytes tree) → viewed ≡ leaf (plain_of tree v).scalar
  plain_viewed viewed is tree v = is (sound_here tree v) ∙ meaning_is (sound_here tree v) (sound_here tree v)

  -- what is appended for a scalar, by the view of its bytes, is the text of the value that they are
  pub plain_appended : {E : Type 0} (format : JsonFormat) (viewed : Tree) (old : List ℕ) (end : ℕ) (new : List ℕ) (r : Result ℕ E) → ((s : Sound kind bytes) → viewed ≡ meaning s)
      → ((s : Scalar) → viewed ≡ leaf s → IfOk r (λ e. AppendsBy (λ text. IsKindText format s text) old end e new))
      → (tree : Tree) → HasValue (Kept kind) bytes tree → IfOk r (λ e. AppendsText format tree old end e new)
  plain_appended format viewed old end new (Ok e) is h tree v =
      let p = plain_of tree v in
      let w = h p.scalar (plain_viewed viewed is tree v) in
      record { text = w.text; is = p.text_is format w.text w.is; written = w.written; inside = w.inside }
  plain_appended format viewed old end new (Err e) is h tree v = tt

-- ---- values that contain values

abbrev IsHolder : Kind → Type 0
IsHolder kind = is_holder kind ≡ true

pub number_no_holder : (k : NumberKind) (kind : Kind) → is_holder kind ≡ true → Kept kind ≡ number_type k → ⊥
number_no_holder as_double kind h e = cc
number_no_holder as_decimal128 kind h e = cc
number_no_holder as_int32 kind h e = let same : kind ≡ kinds.Int32 = cc in let f : false ≡ true = sym (ap is_holder same) ∙ h in cc
number_no_holder as_int64 kind h e = let same : kind ≡ kinds.Int64 = cc in let f : false ≡ true = sym (ap is_holder same) ∙ h in cc

module _ (bytes : List ℕ) (start : ℕ) (tree : Tree) where
  body_splits : (content body after : List ℕ) → drop start bytes ≡ content ++ after → content ≡ framed body → drop (start + 4) bytes ≡ body ++ 0 ∷ after
  body_splits content body after splits frame =
      sym (drop-drop 4 start bytes) ∙ ap (drop 4) (splits ∙ ap (λ (x : List ℕ). x ++ after) frame ∙ framed_after body after) ∙ number_after (length body + 5) (body ++ 0 ∷ after)

  -- the value of the type of documents is one, and its elements begin after its length
  pub document_here : HasValue (Kept kinds.Doc) (drop start bytes) tree → (e : HasElements (drop (start + 4) bytes)) × (tree ≡ doc e.fields)
  document_here v = go v.spells
    where
      go : IsTyped (Kept kinds.Doc) v.content tree → (e : HasElements (drop (start + 4) bytes)) × (tree ≡ doc e.fields)
      go (a_number n) = absurd (number_no_holder n.kind kinds.Doc refl n.typed)
      go (a_scalar s) = absurd (no_holder s.scalar kinds.Doc (cc (s.typed)) refl)
      go (a_document d) = (record { fields = d.fields; body = d.body; after = v.after; spell = d.spell; splits = body_splits v.content d.body v.after v.splits d.frame }, d.is)
      go (an_array d) = absurd (cc (d.typed))
      go (a_code d) = absurd (cc (d.typed))

  -- the same of arrays
  pub array_here : HasValue (Kept kinds.Array) (drop start bytes) tree → (e : HasElements (drop (start + 4) bytes)) × (tree ≡ array (values_in e.fields))
  array_here v = go v.spells
    where
      go : IsTyped (Kept kinds.Array) v.content tree → (e : HasElements (drop (start + 4) bytes)) × (tree ≡ array (values_in e.fields))
      go (a_number n) = absurd (number_no_holder n.kind kinds.Array refl n.typed)
      go (a_scalar s) = absurd (no_holder s.scalar kinds.Array (cc (s.typed)) refl)
      go (a_document d) = absurd (cc (d.typed))
      go (an_array d) = (record { fields = d.fields; body = d.body; after = v.after; spell = d.spell; splits = body_splits v.content d.body v.after v.splits d.frame }, d.is)
      go (a_code d) = absurd (cc (d.typed))

-- the parts of code with scope
pub record CodeHere (bytes : List ℕ) (start : ℕ) (tree : Tree) : Type 0 where
  pub code : List ℕ
  pub reads : TextAt (drop (start + 4) bytes)
  pub text_is : text_of (drop (start + 4) bytes) ≡ code
  pub elements : HasElements (drop (start + 13 + length code) bytes)
  pub is : tree ≡ code_scope code elements.fields
  pub inside : start + 13 + length code ≤ length bytes

module _ (bytes : List ℕ) (start : ℕ) (tree : Tree) where
  code_splits : (content code body after : List ℕ) → drop start bytes ≡ content ++ after → content ≡ scoped code (framed body)
      → drop (start + 4) bytes ≡ string code ++ (number (length body + 5) ++ (body ++ 0 ∷ after))
  code_splits content code body after splits frame =
      let n = length (string code ++ framed body) + 4 in
      sym (drop-drop 4 start bytes) ∙ ap (drop 4) (splits ∙ ap (λ (x : List ℕ). x ++ after) frame ∙ append_assoc (number n) (string code ++ framed body) after)
      ∙ number_after n ((string code ++ framed body) ++ after) ∙ append_assoc (string code) (framed body) after
      ∙ ap (λ (x : List ℕ). string code ++ x) (framed_after body after)

  scope_splits : (code body after : List ℕ) → drop (start + 4) bytes ≡ string code ++ (number (length body + 5) ++ (body ++ 0 ∷ after))
      → drop (start + 13 + length code) bytes ≡ body ++ 0 ∷ after
  scope_splits code body after is =
      let e : start + 13 + length code ≡ ((start + 4) + (4 + (length code + 1))) + 4 = omega arith in
      ap (λ (n : ℕ). drop n bytes) e ∙ sym (drop-drop 4 ((start + 4) + (4 + (length code + 1))) bytes) ∙ ap (drop 4) (sym (drop-drop (4 + (length code + 1)) (start + 4) bytes)
      ∙ ap (drop (4 + (length code + 1))) is ∙ drop_at (string code) _ (4 + (length code + 1)) (string_length code)) ∙ number_after (length body + 5) (body ++ 0 ∷ after)

  pub code_here : HasValue (Kept kinds.CodeScope) (drop start bytes) tree → CodeHere bytes start tree
  code_here v = go v.spells
    where
      go : IsTyped (Kept kinds.CodeScope) v.content tree → CodeHere bytes start tree
      go (a_number n) = absurd (number_no_holder n.kind kinds.CodeScope refl n.typed)
      go (a_scalar s) = absurd (no_holder s.scalar kinds.CodeScope (cc (s.typed)) refl)
      go (a_document d) = absurd (cc (d.typed))
      go (an_array d) = absurd (cc (d.typed))
      go (a_code d) =
          let there = code_splits v.content d.code d.body v.after v.splits d.frame in
          let more = scope_splits d.code d.body v.after there in
          let rest = number (length d.body + 5) ++ (d.body ++ 0 ∷ v.after) in
          record {
            code = d.code;
            reads = subst TextAt (sym there) (text_reads d.code rest d.text_fits);
            text_is = ap text_of there ∙ string_text d.code rest d.text_fits.1;
            elements = record { fields = d.fields; body = d.body; after = v.after; spell = d.spell; splits = more };
            is = d.is;
            inside = omega (arith, ap (λ (x : List ℕ). length x) more, length-append d.body (0 ∷ v.after), length-drop (start + 13 + length d.code) bytes);
          }

-- the same for the code that was read
pub code_as : (bytes : List ℕ) (start : ℕ) (tree : Tree) (h : CodeHere bytes start tree) (code : List ℕ) → code ≡ h.code
    → (e : HasElements (drop (start + 13 + length code) bytes)) × (tree ≡ code_scope code e.fields)
code_as bytes start tree h code is =
    let P : List ℕ → Type 0 = λ s. (e : HasElements (drop (start + 13 + length s) bytes)) × (tree ≡ code_scope s e.fields) in
    subst P (sym is) (h.elements, h.is)
