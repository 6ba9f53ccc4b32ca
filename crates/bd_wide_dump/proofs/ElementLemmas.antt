-- The elements of a document of all types, one after another.
use Rattle.std.proofs.Common.{◌≡◌, ◌≢◌, ℕ, ◌+◌, ◌<◌, ◌≤◌, List, [], ◌∷◌, ◌++◌, length, drop, Some, None, false, refl, sym, ap, ap₂, subst, ◌∙◌, append_assoc, arith}
use Rattle.std.specs.Prelude.{slice_index_or}
use Rattle.std.proofs.lemmas.List.{drop_at, length-append, length-drop, drop-drop}
use Rattle.bd_value.specs.{Limits.longest_document, View.scalar_kind}
use Rattle.bd_value.specs.declared.node.Kind.TheVariants as kinds
use Rattle.bd_value.specs.Tree as trees
use Rattle.bd_value.specs.Tree.{Scalar, Tree, leaf, doc, array, code_scope, Items, no_items, item, Fields, no_fields, field}
use Rattle.bd_bson_view.specs.declared.raw_parts.ElementType.{ElementType}
use Rattle.bd_bson_view.specs.declared.raw_parts.ElementType.TheVariants.{Kept, Double, Decimal128}
use Rattle.bd_bson_view.specs.Spelling.{type_at, framed, IsName, IsScalar, IsValueBy, AreFieldsBy, AreItemsBy, IsValuedScalar, written_typed, element, valued}
use Rattle.bd_bson_view.specs.Spelling.{NumberKind, as_double, as_int32, as_int64, as_decimal128, number_type, number_byte, number_size}
use Rattle.bd_bson_view.specs.Sizes.{zero_at, name_of, NameAt}
use Rattle.bd_bson_view.specs.Unique.{type_is, zero_offset, name_prefix, scalar_size}
use Rattle.bd_bson_view.proofs.ValueAtLemmas.{name_reads, scalar_reads, framed_length, framed_size, scoped_length, scoped_size}
use Rattle.bd_bson_view.proofs.ElementsLemmas.{head_at}
use Rattle.bd_wide_dump.specs.Raw.{raw, byte_of}
use Rattle.bd_wide_dump.specs.declared.format.JsonFormat.{JsonFormat}
use Rattle.bd_wide_dump.specs.WideText.{IsKindText, IsScalarText}
use Rattle.bd_wide_dump.specs.Values.{values_in}
use Rattle.bd_wide_dump.specs.inside.Begins.{HasElements, is_whole, IsTyped, a_number, a_scalar, a_document, an_array, a_code, IsElement, wide_size, HasSize}

-- ---- type bytes

-- the type byte of a type reads back as that type
pub byte_type : (type : ElementType) → type_at (byte_of type) ≡ Some type
byte_type Double = refl
byte_type Decimal128 = refl
byte_type (Kept k) = type_is k

-- no type byte is 0
pub some_byte : (type : ElementType) → byte_of type ≢ 0
some_byte type h = let e : Some type ≡ None = sym (byte_type type) ∙ ap type_at h in cc

number_typed : (k : NumberKind) → byte_of (number_type k) ≡ number_byte k
number_typed as_double = refl
number_typed as_int32 = refl
number_typed as_int64 = refl
number_typed as_decimal128 = refl

-- ---- a value, by its type and its content, which follows the name

pub record Written (tree : Tree) (name value : List ℕ) : Type 0 where
  pub type : ElementType
  pub content : List ℕ
  pub spells : IsTyped type content tree
  pub whole : written_typed tree name value ≡ byte_of type ∷ (name ++ 0 ∷ content)

-- the elements of an array as fields
pub from_items : (ts : Items) (b : List ℕ) → AreItemsBy (valued raw) ts b → (fs : Fields) × AreFieldsBy (valued raw) fs b × (values_in fs ≡ ts)
from_items no_items b h = (no_fields, h, refl)
from_items (item t ts) b h = let r = from_items ts h.2 h.5 in (field h.0 t r.0, (h.1, h.2, h.3, h.4, r.1, h.6), ap (item t) r.2)

module _ (name value : List ℕ) where
  plain : (a : Scalar) → is_whole (scalar_kind a) ≡ false → ((format : JsonFormat) (text : List ℕ) → IsKindText format a text → IsScalarText format a text) → written_typed (leaf a) name value ≡ element (leaf a) name value → IsScalar a value
      → Written (leaf a) name value
  plain a other text_is w h = record {
    type = Kept (scalar_kind a);
    content = value;
    spells = a_scalar (record { scalar = a; is = refl; typed = refl; other = other; spells = h; text_is = text_is });
    whole = w;
  }

  pub written_leaf : (a : Scalar) → IsValuedScalar raw a value → Written (leaf a) name value
  written_leaf (trees.int32 z) h = absurd h
  written_leaf (trees.int64 z) h = record {
    type = number_type h.kind;
    content = h.value;
    spells = a_number (record { kind = h.kind; z = z; is = refl; typed = refl; sized = h.sized; worth = h.is_worth });
    whole = ap (λ (x : List ℕ). written_typed (leaf (trees.int64 z)) name x) h.typed ∙ ap (λ (b : ℕ). b ∷ (name ++ 0 ∷ h.value)) (sym (number_typed h.kind));
  }
  written_leaf trees.min_key h = plain trees.min_key refl (λ f x t. t) refl h
  written_leaf trees.undefined h = plain trees.undefined refl (λ f x t. t) refl h
  written_leaf trees.null h = plain trees.null refl (λ f x t. t) refl h
  written_leaf (trees.text s) h = plain (trees.text s) refl (λ f x t. t) refl h
  written_leaf (trees.symbol s) h = plain (trees.symbol s) refl (λ f x t. t) refl h
  written_leaf (trees.binary k s) h = plain (trees.binary k s) refl (λ f x t. t) refl h
  written_leaf (trees.object_id s) h = plain (trees.object_id s) refl (λ f x t. t) refl h
  written_leaf (trees.boolean b) h = plain (trees.boolean b) refl (λ f x t. t) refl h
  written_leaf (trees.date z) h = plain (trees.date z) refl (λ f x t. t) refl h
  written_leaf (trees.timestamp s i) h = plain (trees.timestamp s i) refl (λ f x t. t) refl h
  written_leaf (trees.regex p o) h = plain (trees.regex p o) refl (λ f x t. t) refl h
  written_leaf (trees.db_pointer s i) h = plain (trees.db_pointer s i) refl (λ f x t. t) refl h
  written_leaf (trees.code s) h = plain (trees.code s) refl (λ f x t. t) refl h
  written_leaf trees.max_key h = plain trees.max_key refl (λ f x t. t) refl h

  -- what was written of a value is its text
  unfoldable pub written_by : (t : Tree) → IsValueBy (valued raw) t value → Written t name value
  written_by (leaf a) h = written_leaf a h
  written_by (doc fs) h = record {
    type = Kept kinds.Doc;
    content = value;
    spells = a_document (record { fields = fs; body = h.0; is = refl; typed = refl; spell = h.1; frame = h.2 });
    whole = refl;
  }
  written_by (array ts) h = let f = from_items ts h.0 h.1 in record {
    type = Kept kinds.Array;
    content = value;
    spells = an_array (record { fields = f.0; body = h.0; is = ap array (sym f.2); typed = refl; spell = f.1; frame = h.2 });
    whole = refl;
  }
  written_by (code_scope s fs) h = record {
    type = Kept kinds.CodeScope;
    content = value;
    spells = a_code (record { code = s; fields = fs; body = h.0; is = refl; typed = refl; text_fits = h.3; spell = h.1; frame = h.2 });
    whole = refl;
  }

-- ---- how many bytes it takes

abbrev Sized : List ℕ → List ℕ → ElementType → Type 0
Sized content more type = HasSize type (content ++ more) × (wide_size type (content ++ more) ≡ length content)

number_sized : (k : NumberKind) (content more : List ℕ) → length content ≡ number_size k → Sized content more (number_type k)
number_sized as_double content more s = (tt, sym s)
number_sized as_decimal128 content more s = (tt, sym s)
number_sized as_int32 content more s = (omega (arith, s, length-append content more), sym s)
number_sized as_int64 content more s = (omega (arith, s, length-append content more), sym s)

sized : (type : ElementType) (content more : List ℕ) (tree : Tree) → length content ≤ longest_document → IsTyped type content tree → Sized content more type
sized type content more tree short (a_number n) = subst (Sized content more) (sym n.typed) (number_sized n.kind content more n.sized)
sized type content more tree short (a_scalar s) =
    subst (Sized content more) (sym s.typed) (scalar_reads s.scalar content more s.spells, scalar_size s.scalar content more s.spells)
sized type content more tree short (a_document d) =
    subst (Sized content more) (sym d.typed) (omega (arith, length-append content more, ap (λ (x : List ℕ). length x) d.frame, framed_length d.body), framed_size d.body content more d.frame short)
sized type content more tree short (an_array d) =
    subst (Sized content more) (sym d.typed) (omega (arith, length-append content more, ap (λ (x : List ℕ). length x) d.frame, framed_length d.body), framed_size d.body content more d.frame short)
sized type content more tree short (a_code d) =
    subst (Sized content more) (sym d.typed)
    (omega (arith, length-append content more, ap (λ (x : List ℕ). length x) d.frame, scoped_length d.code (framed d.body)), scoped_size d.code (framed d.body) content more d.frame short)

-- ---- the next element

-- the parts of the next element, if any
pub record Next (bytes : List ℕ) (at : ℕ) (fields : Fields) : Type 0 where
  pub name : List ℕ
  pub type : ElementType
  pub tree : Tree
  pub others : Fields
  pub content : List ℕ
  pub rest : List ℕ
  pub after : List ℕ
  pub value : List ℕ
  pub is : fields ≡ field name tree others
  pub named : IsName name
  pub spelled : IsValueBy (valued raw) tree value
  pub written : written_typed tree name value ≡ byte_of type ∷ (name ++ 0 ∷ content)
  pub spells : IsTyped type content tree
  pub more : AreFieldsBy (valued raw) others rest
  pub splits : drop at bytes ≡ byte_of type ∷ (name ++ 0 ∷ (content ++ (rest ++ 0 ∷ after)))

-- an element and what follows it
pub regroup : (b : ℕ) (n v r x : List ℕ) → ((b ∷ (n ++ 0 ∷ v)) ++ r) ++ x ≡ b ∷ (n ++ 0 ∷ (v ++ (r ++ x)))
regroup b n v r x = simp append_assoc

grouped : (b : ℕ) (n v x : List ℕ) → (b ∷ (n ++ 0 ∷ v)) ++ x ≡ b ∷ (n ++ 0 ∷ (v ++ x))
grouped b n v x = simp append_assoc

module _ (bytes : List ℕ) (at : ℕ) where
  element_splits : (t : Tree) (n value rest after body : List ℕ) (p : Written t n value) → drop at bytes ≡ body ++ 0 ∷ after → body ≡ written_typed t n value ++ rest
      → drop at bytes ≡ byte_of p.type ∷ (n ++ 0 ∷ (p.content ++ (rest ++ 0 ∷ after)))
  element_splits t n value rest after body p splits is =
      splits ∙ ap (λ (y : List ℕ). y ++ 0 ∷ after) (is ∙ ap (λ (y : List ℕ). y ++ rest) p.whole) ∙ regroup (byte_of p.type) n p.content rest (0 ∷ after)

  split : (fs : Fields) (body after : List ℕ) → AreFieldsBy (valued raw) fs body → drop at bytes ≡ body ++ 0 ∷ after → slice_index_or bytes at 0 ≢ 0 → Next bytes at fs
  split no_fields body after h splits not_zero = absurd (not_zero (head_at bytes at 0 after (splits ∙ ap (λ (y : List ℕ). y ++ 0 ∷ after) h)))
  split (field n t fs) body after h splits not_zero =
      let p = written_by n h.0 t h.3 in
      record {
        name = n;
        type = p.type;
        tree = t;
        others = fs;
        content = p.content;
        rest = h.1;
        after = after;
        value = h.0;
        is = refl;
        named = h.2;
        spelled = h.3;
        written = p.whole;
        spells = p.spells;
        more = h.4;
        splits = element_splits t n h.0 h.1 after body p splits h.5;
      }

  ended : (fs : Fields) (body after : List ℕ) → AreFieldsBy (valued raw) fs body → drop at bytes ≡ body ++ 0 ∷ after → slice_index_or bytes at 0 ≡ 0 → fs ≡ no_fields
  ended no_fields body after h splits is_zero = refl
  ended (field n t fs) body after h splits is_zero =
      let p = written_by n h.0 t h.3 in
      absurd (some_byte p.type (sym (head_at bytes at (byte_of p.type) _ (element_splits t n h.0 h.1 after body p splits h.5)) ∙ is_zero))

  pub next_of : (e : HasElements (drop at bytes)) → slice_index_or bytes at 0 ≢ 0 → Next bytes at e.fields
  next_of e not_zero = split e.fields e.body e.after e.spell e.splits not_zero

  pub at_end : (e : HasElements (drop at bytes)) → slice_index_or bytes at 0 ≡ 0 → e.fields ≡ no_fields
  at_end e is_zero = ended e.fields e.body e.after e.spell e.splits is_zero

  -- there is a byte where elements begin
  pub byte_there : HasElements (drop at bytes) → at < length bytes
  byte_there e = omega (arith, ap (λ (y : List ℕ). length y) e.splits, length-append e.body (0 ∷ e.after), length-drop at bytes)

module _ {bytes : List ℕ} {at : ℕ} {fields : Fields} (s : Next bytes at fields) where
  behind : List ℕ
  behind = s.rest ++ 0 ∷ s.after

  pub type_here : type_at (slice_index_or bytes at 0) ≡ Some s.type
  type_here = ap type_at (head_at bytes at (byte_of s.type) _ s.splits) ∙ byte_type s.type

  tail_splits : drop (at + 1) bytes ≡ s.name ++ 0 ∷ (s.content ++ (s.rest ++ 0 ∷ s.after))
  tail_splits = sym (drop-drop 1 at bytes) ∙ ap (drop 1) s.splits

  module _ (tail : List ℕ) (t : tail ≡ drop (at + 1) bytes) where
    pub name_at : NameAt tail
    name_at = subst NameAt (sym (t ∙ tail_splits)) (name_reads s.name (s.content ++ (s.rest ++ 0 ∷ s.after)) s.named)

    name_is : name_of tail ≡ s.name
    name_is = ap name_of (t ∙ tail_splits) ∙ name_prefix s.name (s.content ++ (s.rest ++ 0 ∷ s.after)) s.named

    pub name_ends : zero_at tail ≡ length s.name
    name_ends = ap zero_at (t ∙ tail_splits) ∙ zero_offset s.name (s.content ++ (s.rest ++ 0 ∷ s.after)) s.named.1

  -- the element, and what follows it
  whole_parts : byte_of s.type ∷ (s.name ++ 0 ∷ (s.content ++ (s.rest ++ 0 ∷ s.after))) ≡ written_typed s.tree s.name s.value ++ (s.rest ++ 0 ∷ s.after)
  whole_parts = sym (ap (λ (x : List ℕ). x ++ (s.rest ++ 0 ∷ s.after)) s.written ∙ grouped (byte_of s.type) s.name s.content (s.rest ++ 0 ∷ s.after))

  value_splits : (k : ℕ) → k ≡ length s.name → drop (at + k + 2) bytes ≡ s.content ++ (s.rest ++ 0 ∷ s.after)
  value_splits k p =
      let others = s.content ++ (s.rest ++ 0 ∷ s.after) in
      let e : at + k + 2 ≡ (at + 1) + (k + 1) = omega arith in
      let len : length (s.name ++ 0 ∷ []) ≡ k + 1 = omega (arith, length-append s.name (0 ∷ [])) in
      rw (e, ← drop-drop (k + 1) (at + 1) bytes, tail_splits, ← append_assoc s.name (0 ∷ []) others) (drop_at (s.name ++ 0 ∷ []) others (k + 1) len)

  pub fits : (k : ℕ) → k ≡ length s.name → at + k + 2 + length s.content < length bytes
  fits k p =
      omega (arith, ap (λ (x : List ℕ). length x) (value_splits k p), length-drop (at + k + 2) bytes, length-append s.content (s.rest ++ 0 ∷ s.after), length-append s.rest (0 ∷ s.after))

  -- what was read after the name is the value and what follows it
  module _ (tail here : List ℕ) (k : ℕ) (t : tail ≡ drop (at + 1) bytes) (h : here ≡ drop (zero_at tail + 1) tail) (same : k ≡ zero_at tail) where
    long : k ≡ length s.name
    long = same ∙ name_ends tail t

    here_is : here ≡ s.content ++ (s.rest ++ 0 ∷ s.after)
    here_is =
        let e : at + k + 2 ≡ (at + 1) + (k + 1) = omega arith in
        h ∙ ap₂ (λ (n : ℕ) (x : List ℕ). drop (n + 1) x) (sym same) t ∙ drop-drop (k + 1) (at + 1) bytes ∙ ap (λ (n : ℕ). drop n bytes) (sym e) ∙ value_splits k long

    module _ (short : length bytes ≤ longest_document) (type : ElementType) (typed : type_at (slice_index_or bytes at 0) ≡ Some type) where
      same_type : s.type ≡ type
      same_type = cc (sym type_here ∙ typed)

      size_there : Sized s.content (s.rest ++ 0 ∷ s.after) type
      size_there = subst (Sized s.content (s.rest ++ 0 ∷ s.after)) same_type
          (sized s.type s.content (s.rest ++ 0 ∷ s.after) s.tree (omega (arith, short, fits k long)) s.spells)

      pub size_reads : HasSize type here
      size_reads = subst (HasSize type) (sym here_is) size_there.0

      pub size_is : wide_size type here ≡ length s.content
      size_is = ap (wide_size type) here_is ∙ size_there.1

      pub next_fits : at + k + 2 + wide_size type here < length bytes
      next_fits = omega (arith, fits k long, size_is)

      pub output : (name : List ℕ) (start next : ℕ) → name ≡ name_of tail → start ≡ at + k + 2 → next ≡ start + wide_size type here
          → IsElement bytes at fields type name start next
      output name start next named is to =
          let behind : List ℕ = s.rest ++ 0 ∷ s.after in
          let same_name = named ∙ name_is tail t in
          let there : drop start bytes ≡ s.content ++ behind = ap (λ (n : ℕ). drop n bytes) is ∙ value_splits k long in
          let more : drop next bytes ≡ behind = ap (λ (n : ℕ). drop n bytes) to ∙ sym (drop-drop (wide_size type here) start bytes)
          ∙ ap (drop (wide_size type here)) there ∙ drop_at s.content behind (wide_size type here) (sym size_is) in
          record {
            tree = s.tree;
            others = s.others;
            is = s.is ∙ ap (λ (n : List ℕ). field n s.tree s.others) (sym same_name);
            here = record {
              content = s.content;
              after = behind;
              spells = subst (λ (x : ElementType). IsTyped x s.content s.tree) same_type s.spells;
              splits = there;
              short = omega (arith, short, fits k long);
            };
            rest = record { fields = s.others; body = s.rest; after = s.after; spell = s.more; splits = more };
            rest_is = refl;
            inside = omega (arith, is, fits k long);
            before = omega (arith, is);
            behind = omega (arith, to);
            value = s.value;
            named = subst IsName (sym same_name) s.named;
            spelled = s.spelled;
            whole = s.splits ∙ whole_parts ∙ ap₂ (λ (n x : List ℕ). written_typed s.tree n s.value ++ x) (sym same_name) (sym more);
            headed = s.splits ∙ ap₂ (λ (n x : List ℕ). byte_of s.type ∷ (n ++ 0 ∷ x)) (sym same_name) (sym there)
                ∙ ap (λ (x : ElementType). byte_of x ∷ (name ++ 0 ∷ drop start bytes)) same_type;
          }
