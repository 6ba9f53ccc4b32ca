-- Texts of values on many lines, piece by piece.
use Rattle.std.proofs.Common.{◌≡◌, ℕ, ◌+◌, ◌-◌, ◌<◌, ◌≤◌, ◌/◌, ◌%◌, Bool, true, false, List, [], ◌∷◌, ◌++◌, length, take, drop, Result, Ok, Err, refl, sym, ap, ap₂, subst, ◌∙◌, append_assoc, append-nil, arith, ℤ}
use Rattle.std.specs.Prelude.{IfOk, OnErr, codes, decimal, slice_index, if◌then◌else◌, unsigned_abs}
use Rattle.std.specs.Fmt.{signed_decimal}
use Rattle.std.specs.List.{list_any}
use Rattle.std.proofs.lemmas.List.Folds.{list_any_at}
use Rattle.std.proofs.lemmas.List.{drop_at, take_at, length-append, length-take-le, take-append-drop}
use Rattle.hex.specs.Hex.{encode_with, lower_digits}
use Rattle.bd_value.specs.{Limits.longest_document, View.scalar_kind}
use Rattle.bd_value.specs.declared.node.Kind.{Kind}
use Rattle.bd_value.specs.declared.node.Kind.TheVariants as kinds
use Rattle.bd_value.specs.Tree as trees
use Rattle.bd_value.specs.Tree.{Scalar, Tree, leaf, doc, array, code_scope, Items, no_items, item, Fields, no_fields, field}
use Rattle.bd_bson_view.specs.Spelling.{IsScalar, NumberKind, as_double, as_int32, as_int64, as_decimal128, number_type}
use Rattle.std.specs.Float.{Ieee.of_bits, binary64}
use Rattle.bd_bson_view.specs.Sizes.{long_of}
use Rattle.bd_bson_view.specs.Sound.{Sound, meaning, meaning_is}
use Rattle.bd_bson_view.specs.declared.raw_parts.ElementType.{ElementType}
use Rattle.bd_extjson_text.specs.Buffer.{Appends}
use Rattle.bd_extjson_text.specs.Text.{base64_text, hex_text, id_text, long_text, escape_byte, escaped, needs_escape, object, quoted, text, text, member, scalar_text, wrapper_text}
use Rattle.bd_extjson_text.proofs.BufferLemmas.{chained, prefix, then}
use Rattle.bd_extjson_text.proofs.JsonStringLemmas.{escaped-plain}
use Rattle.bd_extjson_text.proofs.TextLemmas.{before}
use Rattle.bd_wide_text.specs.Double.{IsDoubleText}
use Rattle.bd_wide_dump.specs.declared.format.JsonFormat.{JsonFormat}
use Rattle.bd_wide_dump.specs.declared.format.JsonFormat.TheVariants.{Canonical, Relaxed}
use Rattle.bd_wide_dump.specs.declared.pretty.Position.TheVariants.{Outside}
use Rattle.bd_wide_dump.specs.Pretty.{gap, indented, laid_out, line_end}
use Rattle.bd_wide_dump.specs.RelaxedDate.{IsDateTextBy, day_length, instant_text, is_dated}
use Rattle.bd_wide_dump.specs.Values.{values_in}
use Rattle.bd_wide_dump.specs.WideText.{AreBytes, AreMembers, AreTexts, IsDoubleIn, IsKindText, IsNumberText, IsScalarText, IsTextOf, double_text, is_bare}
use Rattle.bd_wide_dump.specs.inside.Begins.{AppendsBy, HasElements, HasValue, IsElement}
use Rattle.bd_wide_dump.specs.inside.Indents.{IsBinaryText, IsDateAt, IsLaid, IsLaidText, IsWrapped, after_contents, before_contents, is_direct}
use Rattle.bd_wide_dump.proofs.BareLemmas.{dated_wrapped, decimal_bare, decimal_wrapped, double_bare, double_quoted, double_wrapped, signed_bare}
use Rattle.bd_wide_dump.proofs.LineLemmas.{Goes, fields_begun, items_begun, field_goes, item_goes}
use Rattle.bd_wide_dump.proofs.PrettyLemmas.{begins}
use Rattle.bd_wide_dump.proofs.RelaxedLemmas.{other_text}
use Rattle.bd_wide_dump.proofs.ValueLemmas.{IsWide, wide_text}
use Rattle.bd_wide_dump.proofs.WholeLemmas.{AreWhole, IsWhole, around, bare_alone, bare_whole, close_array, close_object, empty_array, empty_object, listed_whole, member_alone, member_whole, object_whole, quoted_alone, quoted_whole, strings_alone, wrapper_alone, wrapper_whole}

-- ---- the texts of values of all types are whole

long_whole : (z : ℤ) → IsWhole (long_text z)
long_whole z = wrapper_whole (codes "$numberLong") (quoted (signed_decimal z)) (quoted_whole (signed_decimal z))

id_whole : (id : List ℕ) → IsWhole (id_text id)
id_whole id = wrapper_whole (codes "$oid") (quoted (hex_text id)) (quoted_whole (hex_text id))

pair_whole : (name a x b y : List ℕ) → IsWhole x → IsWhole y → IsWhole (wrapper_text name (object (member a x ∷ member b y ∷ [])))
pair_whole name a x b y one two =
    wrapper_whole name (object (member a x ∷ member b y ∷ [])) (object_whole (member a x ∷ member b y ∷ []) (member_whole a x one, (member_whole b y two, tt)))

scalar_whole : (s : Scalar) → IsWhole (scalar_text s)
unfolding scalar_text
scalar_whole trees.min_key = wrapper_whole (codes "$minKey") (codes "1") (bare_whole (codes "1") (omega arith, refl))
scalar_whole trees.max_key = wrapper_whole (codes "$maxKey") (codes "1") (bare_whole (codes "1") (omega arith, refl))
scalar_whole trees.undefined = wrapper_whole (codes "$undefined") (codes "true") (bare_whole (codes "true") (omega arith, refl))
scalar_whole trees.null = bare_whole (codes "null") (omega arith, refl)
scalar_whole (trees.boolean true) = bare_whole (codes "true") (omega arith, refl)
scalar_whole (trees.boolean false) = bare_whole (codes "false") (omega arith, refl)
scalar_whole (trees.text s) = quoted_whole s
scalar_whole (trees.symbol s) = wrapper_whole (codes "$symbol") (quoted s) (quoted_whole s)
scalar_whole (trees.code s) = wrapper_whole (codes "$code") (quoted s) (quoted_whole s)
scalar_whole (trees.int32 z) = wrapper_whole (codes "$numberInt") (quoted (signed_decimal z)) (quoted_whole (signed_decimal z))
scalar_whole (trees.int64 z) = long_whole z
scalar_whole (trees.date z) = wrapper_whole (codes "$date") (long_text z) (long_whole z)
scalar_whole (trees.object_id id) = id_whole id
scalar_whole (trees.timestamp s i) = pair_whole (codes "$timestamp") (codes "t") (decimal s) (codes "i") (decimal i) (bare_whole (decimal s) (decimal_bare s)) (bare_whole (decimal i) (decimal_bare i))
scalar_whole (trees.binary k bytes) = pair_whole (codes "$binary") (codes "base64") (quoted (base64_text bytes)) (codes "subType") (quoted (hex_text (k ∷ []))) (quoted_whole (base64_text bytes)) (quoted_whole (hex_text (k ∷ [])))
scalar_whole (trees.regex p o) = pair_whole (codes "$regularExpression") (codes "pattern") (quoted p) (codes "options") (quoted o) (quoted_whole p) (quoted_whole o)
scalar_whole (trees.db_pointer s id) = pair_whole (codes "$dbPointer") (codes "$ref") (quoted s) (codes "$id") (id_text id) (quoted_whole s) (id_whole id)

dated_whole : (in_range : Bool) (z : ℤ) (text : List ℕ) → IsDateTextBy in_range z text → IsWhole text
dated_whole false z text h = subst IsWhole (sym h) (scalar_whole (trees.date z))
dated_whole true z text h =
    let ms = unsigned_abs z % day_length in
    subst IsWhole (sym (h.2 ∙ dated_wrapped h.0 ms (omega arith))) (wrapper_whole (codes "$date") (quoted (instant_text h.0 ms)) (quoted_whole (instant_text h.0 ms)))

kind_whole : (format : JsonFormat) (s : Scalar) (text : List ℕ) → IsKindText format s text → IsWhole text
kind_whole Relaxed (trees.int32 z) text h = subst IsWhole (sym h) (bare_whole (signed_decimal z) (signed_bare z))
kind_whole Relaxed (trees.int64 z) text h = subst IsWhole (sym h) (bare_whole (signed_decimal z) (signed_bare z))
kind_whole Relaxed (trees.date z) text h = dated_whole (is_dated z) z text h
kind_whole Canonical s text h = subst IsWhole (sym h) (scalar_whole s)
kind_whole Relaxed s text h = subst IsWhole (sym h) (scalar_whole s)

double_whole : (bare : Bool) (bits : ℕ) (text : List ℕ) → IsDoubleIn bare bits text → IsWhole text
double_whole true bits text h = subst IsWhole (sym h.2) (bare_whole h.0 (double_bare bits h.0 h.1))
double_whole false bits text h =
    subst IsWhole (sym (h.2 ∙ double_wrapped h.0 (double_bare bits h.0 h.1).1)) (wrapper_whole (codes "$numberDouble") (quoted h.0) (quoted_whole h.0))

number_whole : (format : JsonFormat) (k : NumberKind) (value text : List ℕ) → IsNumberText format k value text → IsWhole text
number_whole format as_int32 value text h = kind_whole format _ text h
number_whole format as_int64 value text h = kind_whole format _ text h
number_whole format as_double value text h = double_whole _ _ text h
number_whole format as_decimal128 value text h = subst IsWhole (sym (h ∙ decimal_wrapped _ _)) (wrapper_whole (codes "$numberDecimal") (quoted _) (quoted_whole _))

leaf_whole : (format : JsonFormat) (s : Scalar) (text : List ℕ) → IsScalarText format s text → IsWhole text
leaf_whole format (trees.int64 z) text h = number_whole format h.kind h.value text h.written
leaf_whole format s text h = kind_whole format s text h

mutual
  pub text_whole : (format : JsonFormat) (t : Tree) (text : List ℕ) → IsTextOf format t text → IsWhole text
  text_whole format (leaf s) text h = leaf_whole format s text h
  text_whole format (doc fs) text h = subst IsWhole (sym h.2) (object_whole h.0 (members_whole format fs h.0 h.1))
  text_whole format (array ts) text h = subst IsWhole (sym h.2) (listed_whole h.0 (texts_whole format ts h.0 h.1))
  text_whole format (code_scope s fs) text h =
      subst IsWhole (sym h.2) (object_whole (member (codes "$code") (quoted s) ∷ member (codes "$scope") (object h.0) ∷ [])
      (member_whole (codes "$code") (quoted s) (quoted_whole s), (member_whole (codes "$scope") (object h.0) (object_whole h.0 (members_whole format fs h.0 h.1)), tt)))

  texts_whole : (format : JsonFormat) (ts : Items) (values : List (List ℕ)) → AreTexts format ts values → AreWhole values
  texts_whole format no_items values h = subst AreWhole (sym h) tt
  texts_whole format (item t ts) values h = subst AreWhole (sym h.4) (text_whole format t h.0 h.2, texts_whole format ts h.1 h.3)

  members_whole : (format : JsonFormat) (fs : Fields) (members : List (List ℕ)) → AreMembers format fs members → AreWhole members
  members_whole format no_fields members h = subst AreWhole (sym h) tt
  members_whole format (field n t fs) members h = subst AreWhole (sym h.4) (member_whole n h.0 (text_whole format t h.0 h.2), members_whole format fs h.1 h.3)

-- ---- elements, one after the other

-- What was written is the layout of a text up to there, within a bracket and after such a byte.
abbrev pub Begun : ℕ → ℕ → List ℕ → List ℕ → Type 0
Begun n b text laid = (rest : List ℕ) → laid_out Outside n 0 (text ++ rest) ≡ laid ++ laid_out Outside (n + 1) b rest

-- the byte before a piece: the bracket, unless there is a piece before
abbrev pub byte_before : Bool → ℕ → ℕ
byte_before later bracket = if later then 0 else bracket

-- what is before a piece
abbrev pub line_before : Bool → ℕ → List ℕ
line_before later n = before later 44 ++ line_end n

module _ (n bracket : ℕ) (opening : gap (n + 1) bracket 0 ≡ line_end (n + 1)) where
  piece_begun : (later : Bool) (text laid x : List ℕ) → IsWhole x → Begun n (byte_before later bracket) text laid
      → Begun n 0 ((text ++ before later 44) ++ x) (laid ++ (line_before later (n + 1) ++ laid_out Outside (n + 1) 0 x))
  piece_begun false text laid x w so_far rest =
      ap (λ (l : List ℕ). laid_out Outside n 0 ((l ++ x) ++ rest)) (append-nil text) ∙ ap (λ (l : List ℕ). laid_out Outside n 0 l) (append_assoc text x rest)
      ∙ so_far (x ++ rest) ∙ ap (λ (l : List ℕ). laid ++ l) (w (n + 1) bracket rest ∙ ap (λ (l : List ℕ). l ++ (laid_out Outside (n + 1) 0 x ++ laid_out Outside (n + 1) 0 rest)) opening)
      ∙ simp append_assoc
  piece_begun true text laid x w so_far rest =
      ap (λ (l : List ℕ). laid_out Outside n 0 l) (append_assoc (text ++ 44 ∷ []) x rest ∙ append_assoc text (44 ∷ []) (x ++ rest))
      ∙ so_far (44 ∷ (x ++ rest)) ∙ ap (λ (l : List ℕ). laid ++ 44 ∷ l) (w (n + 1) 44 rest)
      ∙ simp append_assoc

-- For all elements that there are from the start, what was written continues with those from `next`.
abbrev pub FieldsLaid : JsonFormat → ℕ → List ℕ → ℕ → ℕ → Bool → List ℕ → List ℕ → Type 0
FieldsLaid format n bytes start next later old out =
    (e : HasElements (drop start bytes)) → (f : HasElements (drop next bytes)) × (text : List ℕ) × (laid : List ℕ)
    × Goes format (doc e.fields) (AreMembers format f.fields) later 125 [] text × Begun n (byte_before later 123) text laid × (out ≡ old ++ laid)

abbrev pub ItemsLaid : JsonFormat → ℕ → List ℕ → ℕ → ℕ → Bool → List ℕ → List ℕ → Type 0
ItemsLaid format n bytes start next later old out =
    (e : HasElements (drop start bytes)) → (f : HasElements (drop next bytes)) × (text : List ℕ) × (laid : List ℕ)
    × Goes format (array (values_in e.fields)) (AreTexts format (values_in f.fields)) later 93 [] text × Begun n (byte_before later 91) text laid × (out ≡ old ++ laid)

module _ (format : JsonFormat) (n : ℕ) (bytes : List ℕ) (start : ℕ) (old out : List ℕ) where
  pub fields_laid : out ≡ old ++ 123 ∷ [] → FieldsLaid format n bytes start start false old out
  fields_laid is = λ e. (e, 123 ∷ [], 123 ∷ [], fields_begun format e.fields [] (123 ∷ []) refl, λ rest. refl, is)

  pub items_laid : out ≡ old ++ 91 ∷ [] → ItemsLaid format n bytes start start false old out
  items_laid is = λ e. (e, 91 ∷ [], 91 ∷ [], items_begun format e.fields [] (91 ∷ []) refl, λ rest. refl, is)

grouped : (t b n v r : List ℕ) → ((t ++ (b ++ (n ++ 58 ∷ []))) ++ v) ++ r ≡ ((t ++ b) ++ (n ++ 58 ∷ v)) ++ r
grouped t b n v r = simp append_assoc

labelled : (l b n v : List ℕ) → l ++ (b ++ (n ++ 58 ∷ 32 ∷ v)) ≡ l ++ ((b ++ (n ++ 58 ∷ 32 ∷ [])) ++ v)
labelled l b n v = simp append_assoc

-- the same for a member, with its name
member_begun : (n : ℕ) (later : Bool) (text laid name value : List ℕ) → IsWhole value → Begun n (byte_before later 123) text laid
    → Begun n 0 ((text ++ (before later 44 ++ (quoted name ++ 58 ∷ []))) ++ value)
    (laid ++ ((line_before later (n + 1) ++ (quoted name ++ 58 ∷ 32 ∷ [])) ++ laid_out Outside (n + 1) 0 value))
member_begun n later text laid name value w so_far rest =
    ap (λ (l : List ℕ). laid_out Outside n 0 l) (grouped text (before later 44) (quoted name) value rest)
    ∙ piece_begun n 123 refl later text laid (member name value) (member_whole name value w) so_far rest
    ∙ ap (λ (l : List ℕ). (laid ++ (line_before later (n + 1) ++ l)) ++ laid_out Outside (n + 1) 0 rest) (member_alone (n + 1) name value w)
    ∙ ap (λ (l : List ℕ). l ++ laid_out Outside (n + 1) 0 rest) (labelled laid (line_before later (n + 1)) (quoted name) (laid_out Outside (n + 1) 0 value))

put_after : (old out laid label text same mid new : List ℕ) → out ≡ old ++ laid → mid ≡ out ++ label → new ≡ mid ++ text → text ≡ same → new ≡ old ++ (laid ++ (label ++ same))
put_after old out laid label text same mid new a b c d = rw (c, b, a, d) (simp append_assoc)

module _ (format : JsonFormat) (n : ℕ) (bytes : List ℕ) (start at begin next : ℕ) (type : ElementType) (name : List ℕ) (later : Bool) (old out mid new : List ℕ) (put to : ℕ)
    (found : (f : HasElements (drop at bytes)) → IsElement bytes at f.fields type name begin next)
    (written : (tree : Tree) → HasValue type (drop begin bytes) tree → AppendsBy (IsLaidText format (n + 1) tree) mid put to new) where
  pub fields_laid_on : FieldsLaid format n bytes start at later old out → take put mid ≡ out ++ (line_before later (n + 1) ++ (quoted name ++ 58 ∷ 32 ∷ []))
      → FieldsLaid format n bytes start next true old (take to new)
  fields_laid_on so_far labelled_is = λ e.
      let f = so_far e in
      let x = found f.0 in
      let w = written x.tree x.here in
      let label : List ℕ = line_before later (n + 1) ++ (quoted name ++ 58 ∷ 32 ∷ []) in
      let begun = member_begun n later f.1 f.2 name w.is.0 (text_whole format x.tree w.is.0 w.is.1) f.4 in (
        x.rest,
        (f.1 ++ (before later 44 ++ (quoted name ++ 58 ∷ []))) ++ w.is.0,
        f.2 ++ (label ++ laid_out Outside (n + 1) 0 w.is.0),
        field_goes format (doc e.fields) x.tree f.0.fields x.rest.fields name w.is.0 later [] f.1 _ _ (x.is ∙ ap (λ (o : Fields). field name x.tree o) (sym x.rest_is)) w.is.1 f.3 refl refl,
        begun,
        put_after old out f.2 label w.text (laid_out Outside (n + 1) 0 w.is.0) (take put mid) (take to new) f.5 labelled_is w.written w.is.2,
      )

  pub items_laid_on : ItemsLaid format n bytes start at later old out → take put mid ≡ out ++ line_before later (n + 1) → ItemsLaid format n bytes start next true old (take to new)
  items_laid_on so_far line_is = λ e.
      let f = so_far e in
      let x = found f.0 in
      let w = written x.tree x.here in (
        x.rest,
        (f.1 ++ before later 44) ++ w.is.0,
        f.2 ++ (line_before later (n + 1) ++ laid_out Outside (n + 1) 0 w.is.0),
        item_goes format (array (values_in e.fields)) x.tree f.0.fields x.rest.fields name w.is.0 later [] f.1 _ _ (x.is ∙ ap (λ (o : Fields). field name x.tree o) (sym x.rest_is)) w.is.1 f.3 refl refl,
        piece_begun n 91 refl later f.1 f.2 w.is.0 (text_whole format x.tree w.is.0 w.is.1) f.4,
        put_after old out f.2 (line_before later (n + 1)) w.text (laid_out Outside (n + 1) 0 w.is.0) (take put mid) (take to new) f.5 line_is w.written w.is.2,
      )

ended : (n : ℕ) (later : Bool) → laid_out Outside (n + 1) (byte_before later 123) (125 ∷ []) ≡ (if later then line_end n else []) ++ 125 ∷ []
ended n true = close_object n []
ended n false = empty_object n []

items_ended : (n : ℕ) (later : Bool) → laid_out Outside (n + 1) (byte_before later 91) (93 ∷ []) ≡ (if later then line_end n else []) ++ 93 ∷ []
items_ended n true = close_array n []
items_ended n false = empty_array n []

-- nothing remains, and the last byte is written
finished : {E : Type 0} (format : JsonFormat) (n : ℕ) (tree : Tree) (text laid closing old mid new : List ℕ) (end at : ℕ) (r : Result ℕ E) → IsTextOf format tree text
    → laid_out Outside n 0 text ≡ laid ++ closing → take at mid ≡ take end old ++ laid → Appends mid at r new closing
    → IfOk r (λ to. AppendsBy (IsLaidText format n tree) old end to new)
finished format n tree text laid closing old mid new end at (Ok to) is whole put last =
    record { text = laid ++ closing; is = (text, is, sym whole); written = last.0 ∙ ap (λ (l : List ℕ). l ++ closing) put ∙ append_assoc (take end old) laid closing; inside = last.1 }
finished format n tree text laid closing old mid new end at (Err e) is whole put last = tt

module _ {E : Type 0} (format : JsonFormat) (n : ℕ) (bytes : List ℕ) (start at : ℕ) (later : Bool) (old mid new : List ℕ) (end put : ℕ) (r : Result ℕ E)
    (none : (f : HasElements (drop at bytes)) → f.fields ≡ no_fields) where
  pub fields_laid_done : FieldsLaid format n bytes start at later (take end old) (take put mid) → Appends mid put r new ((if later then line_end n else []) ++ 125 ∷ [])
      → (e : HasElements (drop start bytes)) → IfOk r (λ to. AppendsBy (IsLaidText format n (doc e.fields)) old end to new)
  fields_laid_done so_far last e =
      let f = so_far e in
      let g = f.3 [] (subst (λ (fs : Fields). AreMembers format fs []) (sym (none f.0)) refl) in
      finished format n (doc e.fields) g.0 f.2 ((if later then line_end n else []) ++ 125 ∷ []) old mid new end put r g.1
      (ap (λ (l : List ℕ). laid_out Outside n 0 l) (sym g.2) ∙ f.4 (125 ∷ []) ∙ ap (λ (l : List ℕ). f.2 ++ l) (ended n later)) f.5 last

  pub items_laid_done : ItemsLaid format n bytes start at later (take end old) (take put mid) → Appends mid put r new ((if later then line_end n else []) ++ 93 ∷ [])
      → (e : HasElements (drop start bytes)) → IfOk r (λ to. AppendsBy (IsLaidText format n (array (values_in e.fields))) old end to new)
  items_laid_done so_far last e =
      let f = so_far e in
      let g = f.3 [] (subst (λ (fs : Fields). AreTexts format (values_in fs) []) (sym (none f.0)) refl) in
      finished format n (array (values_in e.fields)) g.0 f.2 ((if later then line_end n else []) ++ 93 ∷ []) old mid new end put r g.1
      (ap (λ (l : List ℕ). laid_out Outside n 0 l) (sym g.2) ∙ f.4 (93 ∷ []) ∙ ap (λ (l : List ℕ). f.2 ++ l) (items_ended n later)) f.5 last

-- the bracket that ends is written on a line of its own
pub closed : {E : Type 0} (is_filled : Bool) (n bracket : ℕ) (old mid new : List ℕ) (end at : ℕ) (r : Result ℕ E) → is_filled ≡ true → end ≤ length old → take at mid ≡ take end old ++ line_end n
    → Appends mid at r new (bracket ∷ []) → Appends old end r new ((if is_filled then line_end n else []) ++ bracket ∷ [])
closed is_filled n bracket old mid new end at r is inside one last =
    subst (λ (b : Bool). Appends old end r new ((if b then line_end n else []) ++ bracket ∷ [])) (sym is) ((then) end at old mid new (line_end n) (bracket ∷ []) r inside one last)

-- ---- a text that is known

module _ {E : Type 0} (n : ℕ) (Is : List ℕ → Type 0) (text old new : List ℕ) (end : ℕ) where
  pub known_laid : (r : Result ℕ E) → Is text → Appends old end r new (laid_out Outside n 0 text) → IfOk r (λ e. AppendsBy (IsLaid n Is) old end e new)
  known_laid (Ok e) is put = record { text = laid_out Outside n 0 text; is = (text, is, refl); written = put.0; inside = put.1 }
  known_laid (Err e) is put = tt

-- the same for a part of a buffer
pub part_laid : {E : Type 0} (n : ℕ) (Is : List ℕ → Type 0) (part text old new : List ℕ) (end : ℕ) (r : Result ℕ E) → part ≡ text → Is text → Appends old end r new (laid_out Outside n 0 part)
    → IfOk r (λ e. AppendsBy (IsLaid n Is) old end e new)
part_laid n Is part text old new end r same is put = known_laid n Is text old new end r is (subst (λ (x : List ℕ). Appends old end r new (laid_out Outside n 0 x)) same put)

-- the same for a value that is a scalar
pub scalar_laid : {E : Type 0} (n : ℕ) (Is : List ℕ → Type 0) (viewed : Tree) (s : Scalar) (old new : List ℕ) (end : ℕ) (r : Result ℕ E) → viewed ≡ leaf s → Is (scalar_text s)
    → Appends old end r new (laid_out Outside n 0 (text viewed)) → IfOk r (λ e. AppendsBy (IsLaid n Is) old end e new)
scalar_laid n Is viewed s old new end r same is put =
    known_laid n Is (scalar_text s) old new end r is (subst (λ (t : Tree). Appends old end r new (laid_out Outside n 0 (text t))) same put)

-- ---- a text in a wrapper

enclosed_as : (n : ℕ) (body : List ℕ) → ((123 ∷ line_end (n + 1)) ++ body) ++ (line_end n ++ 125 ∷ []) ≡ around 123 125 n body
enclosed_as n body = simp append_assoc

-- what is in braces is written, and the last of them
pub enclosed : {E : Type 0} (n : ℕ) (body old m1 m2 new : List ℕ) (end a1 a2 : ℕ) (r : Result ℕ E) → end ≤ length old → take a1 m1 ≡ take end old ++ (123 ∷ line_end (n + 1))
    → take a2 m2 ≡ take a1 m1 ++ body → Appends m2 a2 r new (line_end n ++ 125 ∷ []) → Appends old end r new (around 123 125 n body)
enclosed n body old m1 m2 new end a1 a2 r inside one two last =
    subst (λ (x : List ℕ). Appends old end r new x) (enclosed_as n body)
    ((then) end a2 old m2 new ((123 ∷ line_end (n + 1)) ++ body) (line_end n ++ 125 ∷ []) r inside (chained end a1 a2 old m1 m2 (123 ∷ line_end (n + 1)) body one two) last)

string_alone : (n : ℕ) (name contents : List ℕ) → laid_out Outside n 0 (wrapper_text name (quoted contents)) ≡ around 123 125 n (quoted name ++ 58 ∷ 32 ∷ quoted contents)
string_alone n name contents =
    wrapper_alone n name (quoted contents) (quoted_whole contents) ∙ ap (λ (l : List ℕ). around 123 125 n (quoted name ++ 58 ∷ 32 ∷ l)) (quoted_alone (n + 1) contents)

-- ---- a wrapper of a string, of which the first bytes are written over

module _ (name contents text lead m1 m2 m3 : List ℕ) (at to : ℕ) (inside : at ≤ length m1) (is : text ≡ wrapper_text name (quoted contents)) (lead_is : lead ≡ quoted name ++ codes ": \"")
    (put : take to m2 ≡ take at m1 ++ text) (within : to ≤ length m2) where
  start : List ℕ
  start = 123 ∷ (quoted name ++ 58 ∷ 34 ∷ [])

  rest : List ℕ
  rest = escaped contents ++ 34 ∷ []

  text_parts : text ≡ start ++ (rest ++ 125 ∷ [])
  unfolding quoted start rest
  text_parts = is ∙ simp append_assoc

  same_size : length lead ≡ length start
  unfolding start
  same_size = omega (arith, ap (λ (x : List ℕ). length x) lead_is, length-append (quoted name) (codes ": \""), length-append (quoted name) (58 ∷ 34 ∷ []))

  end_is : to ≡ at + length lead + length rest + 1
  end_is =
      let whole = ap (λ (x : List ℕ). length x) put in
      omega (
        arith,
        same_size,
        whole,
        length-take-le to m2 within,
        length-append (take at m1) text,
        length-take-le at m1 inside,
        ap (λ (x : List ℕ). length x) text_parts,
        length-append start (rest ++ 125 ∷ []),
        length-append rest (125 ∷ []),
      )

  pub over_fits : at + length lead + 1 ≤ to
  over_fits = omega (arith, end_is)

  all_parts : m2 ≡ (take at m1 ++ start) ++ (rest ++ 125 ∷ drop to m2)
  all_parts = sym (take-append-drop to m2) ∙ ap (λ (x : List ℕ). x ++ drop to m2) (put ∙ ap (λ (x : List ℕ). take at m1 ++ x) text_parts) ∙ simp append_assoc

  after_start : drop (at + length lead) m2 ≡ rest ++ 125 ∷ drop to m2
  after_start = ap (drop (at + length lead)) all_parts
      ∙ drop_at (take at m1 ++ start) (rest ++ 125 ∷ drop to m2) (at + length lead) (omega (arith, same_size, length-append (take at m1) start, length-take-le at m1 inside))

  module _ (over : m3 ≡ take at m2 ++ (lead ++ drop (at + length lead) m2)) where
    parts_after : m3 ≡ (take at m1 ++ (lead ++ rest)) ++ 125 ∷ drop to m2
    parts_after = over ∙ ap₂ (λ (x y : List ℕ). x ++ (lead ++ y)) (prefix at to m1 text m2 inside put) after_start ∙ simp append_assoc

    body_is : lead ++ rest ≡ quoted name ++ 58 ∷ 32 ∷ quoted contents
    unfolding quoted rest
    body_is = ap (λ (x : List ℕ). x ++ (escaped contents ++ 34 ∷ [])) lead_is ∙ simp append_assoc

    put_over : take (to - 1) m3 ≡ take at m1 ++ (quoted name ++ 58 ∷ 32 ∷ quoted contents)
    put_over = ap (take (to - 1)) parts_after
        ∙ take_at (take at m1 ++ (lead ++ rest)) (125 ∷ drop to m2) (to - 1) (omega (arith, end_is, length-append (take at m1) (lead ++ rest), length-append lead rest, length-take-le at m1 inside))
        ∙ ap (λ (x : List ℕ). take at m1 ++ x) body_is

    pub wrapped_done : {E : Type 0} (n : ℕ) (old new : List ℕ) (end : ℕ) (r : Result ℕ E) → end ≤ length old → take at m1 ≡ take end old ++ (123 ∷ line_end (n + 1))
        → Appends m3 (to - 1) r new (line_end n ++ 125 ∷ []) → Appends old end r new (laid_out Outside n 0 text)
    wrapped_done n old new end r before_is opened last =
        subst (λ (x : List ℕ). Appends old end r new x) (sym (ap (λ (x : List ℕ). laid_out Outside n 0 x) is ∙ string_alone n name contents))
        (enclosed n (quoted name ++ 58 ∷ 32 ∷ quoted contents) old m1 m3 new end at (to - 1) r before_is opened put_over last)

-- ---- which texts are strings in wrappers

pub int32_wrapped : (s : Scalar) → scalar_kind s ≡ kinds.Int32 → IsWrapped (codes "\"$numberInt\": \"") (scalar_text s)
unfolding scalar_text quoted escape_byte
int32_wrapped (trees.int32 z) is = (codes "$numberInt", signed_decimal z, refl, refl)
int32_wrapped _ is = absurd cc

pub int64_wrapped : (s : Scalar) → scalar_kind s ≡ kinds.Int64 → IsWrapped (codes "\"$numberLong\": \"") (scalar_text s)
unfolding scalar_text quoted escape_byte
int64_wrapped (trees.int64 z) is = (codes "$numberLong", signed_decimal z, refl, refl)
int64_wrapped _ is = absurd cc

pub id_wrapped : (s : Scalar) → scalar_kind s ≡ kinds.ObjectId → IsWrapped (codes "\"$oid\": \"") (scalar_text s)
unfolding scalar_text quoted escape_byte
id_wrapped (trees.object_id id) is = (codes "$oid", hex_text id, refl, refl)
id_wrapped _ is = absurd cc

-- the text of an id is the same in both formats
pub id_known : (format : JsonFormat) (s : Scalar) → scalar_kind s ≡ kinds.ObjectId → IsKindText format s (scalar_text s)
id_known Canonical s is = refl
id_known Relaxed s is = other_text s (λ e. cc) (λ e. cc) (λ e. cc)

-- the text of a scalar in canonical form
pub canonical_known : (format : JsonFormat) (s : Scalar) → format ≡ Canonical → IsKindText format s (scalar_text s)
canonical_known format s is = subst (λ (f : JsonFormat). IsKindText f s (scalar_text s)) (sym is) refl

-- ---- dates

pub record DateHere (s : Scalar) (bytes : List ℕ) : Type 0 where
  pub z : ℤ
  pub long : Sound kinds.Int64 bytes
  pub long_is : meaning long ≡ leaf (trees.int64 z)
  pub is : scalar_text s ≡ wrapper_text (codes "$date") (long_text z)

-- the bytes of a date are those of an int64
pub date_here : (s : Scalar) (bytes : List ℕ) → length bytes ≤ longest_document → IsDateAt s bytes → DateHere s bytes
unfolding scalar_text
date_here (trees.date z) bytes short d =
    let fits : length d.content ≤ longest_document = omega (arith, short, ap (λ (x : List ℕ). length x) d.splits, length-append d.content d.after) in
    let sound : Sound kinds.Int64 bytes = record { tree = leaf (trees.int64 z); begins = record { value = d.content; after = d.after; spells = d.spells; typed = refl; splits = d.splits; short = fits } } in
    record { z = z; long = sound; long_is = meaning_is sound sound; is = refl }
date_here _ bytes short d = absurd (let e = d.kinded in cc)

-- the number in a date is a string in a wrapper
pub long_wrapped : (z : ℤ) (text : List ℕ) → text ≡ long_text z → IsWrapped (codes "\"$numberLong\": \"") text
unfolding quoted escape_byte
long_wrapped z text is = (codes "$numberLong", signed_decimal z, is, refl)

date_alone : (n : ℕ) (z : ℤ) → laid_out Outside n 0 (wrapper_text (codes "$date") (long_text z)) ≡ around 123 125 n (codes "\"$date\": " ++ laid_out Outside (n + 1) 0 (long_text z))
unfolding quoted escape_byte
date_alone n z = wrapper_alone n (codes "$date") (long_text z) (long_whole z)

pub date_done : {E : Type 0} (n : ℕ) (z : ℤ) (whole number old m1 m2 m3 new : List ℕ) (end a1 a2 a3 : ℕ) (r : Result ℕ E) → whole ≡ wrapper_text (codes "$date") (long_text z) → number ≡ long_text z
    → end ≤ length old → take a1 m1 ≡ take end old ++ (123 ∷ line_end (n + 1)) → take a2 m2 ≡ take a1 m1 ++ codes "\"$date\": " → take a3 m3 ≡ take a2 m2 ++ laid_out Outside (n + 1) 0 number
    → Appends m3 a3 r new (line_end n ++ 125 ∷ []) → Appends old end r new (laid_out Outside n 0 whole)
date_done n z whole number old m1 m2 m3 new end a1 a2 a3 r is same inside one two three last =
    let inner : List ℕ = laid_out Outside (n + 1) 0 (long_text z) in
    let written = three ∙ ap (λ (x : List ℕ). take a2 m2 ++ laid_out Outside (n + 1) 0 x) same in
    subst (λ (x : List ℕ). Appends old end r new x) (sym (ap (λ (x : List ℕ). laid_out Outside n 0 x) is ∙ date_alone n z))
    (enclosed n (codes "\"$date\": " ++ inner) old m1 m3 new end a1 a3 r inside one (chained a1 a2 a3 m1 m2 m3 (codes "\"$date\": ") inner two written) last)

-- ---- binary data

digit_plain : (i : ℕ) → i < 16 → needs_escape (slice_index lower_digits i) ≡ false
digit_plain i few = by (needs_escape (slice_index lower_digits i)) refl
  where
    by : (b : Bool) → needs_escape (slice_index lower_digits i) ≡ b → b ≡ false
    by false e = refl
    by true e = sym (list_any_at needs_escape lower_digits i 0 few e)

digits_size : (k : ℕ) → k < 256 → length (quoted (hex_text (k ∷ []))) ≡ 4
unfolding quoted hex_text encode_with
digits_size k byte =
    let digits : List ℕ = slice_index lower_digits (k / 16) ∷ slice_index lower_digits (k % 16) ∷ [] in
    let high = digit_plain (k / 16) (omega arith) in
    let low = digit_plain (k % 16) (omega arith) in
    let plain : list_any needs_escape digits ≡ false = rw (high, low) refl in
    ap (λ (x : List ℕ). length (34 ∷ (x ++ 34 ∷ []))) (escaped-plain digits plain)

pub binary_text : (s : Scalar) (content : List ℕ) → scalar_kind s ≡ kinds.Binary → IsScalar s content → (contents : List ℕ) × (digits : List ℕ) × IsBinaryText contents digits (scalar_text s)
unfolding scalar_text
binary_text (trees.binary k bytes) content is spells = (base64_text bytes, hex_text (k ∷ []), (digits_size k spells.0.0, refl))
binary_text _ content is spells = absurd cc

-- its text is the same in both formats
pub binary_known : (format : JsonFormat) (s : Scalar) → scalar_kind s ≡ kinds.Binary → IsKindText format s (scalar_text s)
binary_known Canonical s is = refl
binary_known Relaxed s is = other_text s (λ e. cc) (λ e. cc) (λ e. cc)

-- the text on one line in pieces
spread : (n p a x q b y e : List ℕ) → (n ++ (p ++ (((a ++ x) ++ (q ++ (b ++ y))) ++ e))) ++ e ≡ n ++ (p ++ (a ++ (x ++ (q ++ (b ++ (y ++ (e ++ e)))))))
spread n p a x q b y e = simp append_assoc

one_line : (x y : List ℕ) → wrapper_text (codes "$binary") (object (member (codes "base64") x ∷ member (codes "subType") y ∷ []))
    ≡ codes "{\"$binary\":{\"base64\":" ++ (x ++ (codes ",\"subType\":" ++ (y ++ codes "}}")))
unfolding quoted escape_byte
one_line x y =
    ap (λ (l : List ℕ). 123 ∷ l) (spread (quoted (codes "$binary")) (58 ∷ 123 ∷ []) (quoted (codes "base64")) (58 ∷ x) (44 ∷ []) (quoted (codes "subType")) (58 ∷ y) (125 ∷ []))

part : (pre x post text : List ℕ) (a b : ℕ) → text ≡ pre ++ (x ++ post) → length pre ≡ a → a + length x ≡ b → take (b - a) (drop a text) ≡ x
part pre x post text a b is from to =
    ap (λ (l : List ℕ). take (b - a) (drop a l)) is ∙ ap (take (b - a)) (drop_at pre (x ++ post) a from) ∙ take_at x post (b - a) (omega (arith, to))

module _ (contents digits text : List ℕ) (is : IsBinaryText contents digits text) where
  pub binary_size : length text ≡ length (quoted contents) + 38
  binary_size =
      let rest : List ℕ = codes ",\"subType\":" ++ (quoted digits ++ codes "}}") in
      omega (
        arith,
        is.0,
        ap (λ (x : List ℕ). length x) (is.1 ∙ one_line (quoted contents) (quoted digits)),
        length-append (codes "{\"$binary\":{\"base64\":") (quoted contents ++ rest),
        length-append (quoted contents) rest,
        length-append (codes ",\"subType\":") (quoted digits ++ codes "}}"),
        length-append (quoted digits) (codes "}}"),
      )

  pub contents_there : (n : ℕ) → n ≡ length text → take (n - 17 - 21) (drop 21 text) ≡ quoted contents
  contents_there n all =
      part (codes "{\"$binary\":{\"base64\":") (quoted contents) (codes ",\"subType\":" ++ (quoted digits ++ codes "}}")) text 21 (n - 17) (is.1 ∙ one_line (quoted contents) (quoted digits)) refl
      (omega (arith, all, binary_size))

  pub digits_there : (n : ℕ) → n ≡ length text → take (n - 2 - (n - 6)) (drop (n - 6) text) ≡ quoted digits
  digits_there n all =
      let start : List ℕ = codes "{\"$binary\":{\"base64\":" ++ (quoted contents ++ codes ",\"subType\":") in
      let size = length-append (codes "{\"$binary\":{\"base64\":") (quoted contents ++ codes ",\"subType\":") in
      let inner = length-append (quoted contents) (codes ",\"subType\":") in
      part start (quoted digits) (codes "}}") text (n - 6) (n - 2) (is.1 ∙ one_line (quoted contents) (quoted digits) ∙ simp append_assoc)
      (omega (arith, all, binary_size, size, inner)) (omega (arith, all, binary_size, is.0))

-- the text on many lines in pieces
lines_spread : (n p a c x q b y e l m k : List ℕ) → l ++ ((n ++ (p ++ (m ++ (((a ++ (c ++ x)) ++ (q ++ (m ++ (b ++ y)))) ++ (l ++ e))))) ++ (k ++ e))
    ≡ (l ++ (n ++ (p ++ (m ++ (a ++ c))))) ++ (x ++ (q ++ (m ++ (b ++ (y ++ (l ++ (e ++ (k ++ e))))))))
lines_spread n p a c x q b y e l m k = simp append_assoc

many_lines : (n : ℕ) (x y : List ℕ) → around 123 125 n (quoted (codes "$binary") ++ 58 ∷ 32 ∷ around 123 125 (n + 1) ((quoted (codes "base64") ++ 58 ∷ 32 ∷ x)
    ++ 44 ∷ (line_end (n + 1 + 1) ++ (quoted (codes "subType") ++ 58 ∷ 32 ∷ y)))) ≡ before_contents n ++ (x ++ after_contents n y)
unfolding quoted escape_byte
many_lines n x y =
    ap (λ (l : List ℕ). 123 ∷ l) (lines_spread (quoted (codes "$binary")) (codes ": {") (quoted (codes "base64")) (codes ": ") x (44 ∷ []) (quoted (codes "subType")) (58 ∷ 32 ∷ y) (125 ∷ [])
    (line_end (n + 1)) (line_end (n + 1 + 1)) (line_end n))

binary_alone : (n : ℕ) (contents digits text : List ℕ) → IsBinaryText contents digits text → laid_out Outside n 0 text ≡ before_contents n ++ (quoted contents ++ after_contents n (quoted digits))
binary_alone n contents digits text is =
    let first : List ℕ = member (codes "base64") (quoted contents) in
    let second : List ℕ = member (codes "subType") (quoted digits) in
    let one = member_whole (codes "base64") (quoted contents) (quoted_whole contents) in
    let two = member_whole (codes "subType") (quoted digits) (quoted_whole digits) in
    ap (λ (l : List ℕ). laid_out Outside n 0 l) is.1 ∙ wrapper_alone n (codes "$binary") (object (first ∷ second ∷ [])) (object_whole (first ∷ second ∷ []) (one, (two, tt)))
    ∙ ap (λ (l : List ℕ). around 123 125 n (quoted (codes "$binary") ++ 58 ∷ 32 ∷ l)) (strings_alone (n + 1) (codes "base64") contents (codes "subType") digits) ∙ many_lines n (quoted contents) (quoted digits)

pub binary_done : (n : ℕ) (contents digits text old m1 m2 new : List ℕ) (end a1 a2 a3 : ℕ) → IsBinaryText contents digits text → take a1 m1 ≡ take end old ++ before_contents n
    → take a2 m2 ≡ take a1 m1 ++ quoted contents → take a3 new ≡ take a2 m2 ++ after_contents n (quoted digits) → take a3 new ≡ take end old ++ laid_out Outside n 0 text
binary_done n contents digits text old m1 m2 new end a1 a2 a3 is one two three =
    let rest : List ℕ = quoted contents ++ after_contents n (quoted digits) in
    chained end a1 a3 old m1 new (before_contents n) rest one (chained a1 a2 a3 m1 m2 new (quoted contents) (after_contents n (quoted digits)) two three)
    ∙ ap (λ (l : List ℕ). take end old ++ l) (sym (binary_alone n contents digits text is))

-- both parts in the pieces in which they are written
pub before_pieces : (old : List ℕ) (n : ℕ) → ((((old ++ codes "{") ++ line_end (n + 1)) ++ codes "\"$binary\": {") ++ line_end (n + 1 + 1)) ++ codes "\"base64\": " ≡ old ++ before_contents n
before_pieces old n = five old (codes "{") (line_end (n + 1)) (codes "\"$binary\": {") (line_end (n + 1 + 1)) (codes "\"base64\": ")
  where
    five : (o a b c d e : List ℕ) → ((((o ++ a) ++ b) ++ c) ++ d) ++ e ≡ o ++ (a ++ (b ++ (c ++ (d ++ e))))
    five o a b c d e = simp append_assoc

pub after_pieces : (old : List ℕ) (n : ℕ) (digits : List ℕ)
    → (((((((old ++ codes ",") ++ line_end (n + 1 + 1)) ++ codes "\"subType\": ") ++ digits) ++ line_end (n + 1)) ++ codes "}") ++ line_end n) ++ codes "}" ≡ old ++ after_contents n digits
after_pieces old n digits = eight old (codes ",") (line_end (n + 1 + 1)) (codes "\"subType\": ") digits (line_end (n + 1)) (codes "}") (line_end n) (codes "}")
  where
    eight : (o a b c d e f g h : List ℕ) → (((((((o ++ a) ++ b) ++ c) ++ d) ++ e) ++ f) ++ g) ++ h ≡ o ++ (a ++ (b ++ (c ++ (d ++ (e ++ (f ++ (g ++ h)))))))
    eight o a b c d e f g h = simp append_assoc

-- ---- doubles

double_alone : (n bits : ℕ) (number : List ℕ) → IsDoubleText bits number
    → laid_out Outside n 0 (double_text false number) ≡ around 123 125 n ((codes "\"$numberDouble\": \"" ++ number) ++ codes "\"")
double_alone n bits number is =
    ap (λ (l : List ℕ). laid_out Outside n 0 l) (double_wrapped number (double_bare bits number is).1) ∙ string_alone n (codes "$numberDouble") number
    ∙ ap (around 123 125 n) (double_quoted number (double_bare bits number is).1)

pub double_done : {E : Type 0} (n bits : ℕ) (digits old m1 m2 m3 m4 new : List ℕ) (end a1 a2 a3 a4 : ℕ) (r : Result ℕ E) → IsDoubleIn true bits digits → end ≤ length old
    → take a1 m1 ≡ take end old ++ (123 ∷ line_end (n + 1)) → take a2 m2 ≡ take a1 m1 ++ codes "\"$numberDouble\": \"" → take a3 m3 ≡ take a2 m2 ++ digits → take a4 m4 ≡ take a3 m3 ++ codes "\""
    → Appends m4 a4 r new (line_end n ++ 125 ∷ []) → IfOk r (λ e. AppendsBy (IsLaid n (IsDoubleIn false bits)) old end e new)
double_done n bits digits old m1 m2 m3 m4 new end a1 a2 a3 a4 r is inside one two three four last =
    let number = is.0 in
    let lead : List ℕ = codes "\"$numberDouble\": \"" in
    let body = chained a1 a3 a4 m1 m3 m4 (lead ++ number) (codes "\"") (chained a1 a2 a3 m1 m2 m3 lead number two (three ∙ ap (λ (x : List ℕ). take a2 m2 ++ x) is.2)) four in
    known_laid n (IsDoubleIn false bits) (double_text false number) old new end r (number, is.1, refl)
    (subst (λ (x : List ℕ). Appends old end r new x) (sym (double_alone n bits number is.1)) (enclosed n ((lead ++ number) ++ codes "\"") old m1 m4 new end a1 a4 r inside one body last))

-- ---- texts of one token

-- whether the text of a kind of value is one token in a format
abbrev pub is_token : JsonFormat → Kind → Bool
is_token format kinds.Text = true
is_token format kinds.Null = true
is_token format kinds.Bool = true
is_token Relaxed kinds.Int32 = true
is_token Relaxed kinds.Int64 = true
is_token _ _ = false

token_alone : (format : JsonFormat) (s : Scalar) (text : List ℕ) (n : ℕ) → is_token format (scalar_kind s) ≡ true → IsKindText format s text → laid_out Outside n 0 text ≡ text
unfolding scalar_text
token_alone Canonical (trees.text z) text n t h = subst (λ (l : List ℕ). laid_out Outside n 0 l ≡ l) (sym h) (quoted_alone n z)
token_alone Relaxed (trees.text z) text n t h = subst (λ (l : List ℕ). laid_out Outside n 0 l ≡ l) (sym h) (quoted_alone n z)
token_alone Canonical trees.null text n t h = subst (λ (l : List ℕ). laid_out Outside n 0 l ≡ l) (sym h) refl
token_alone Relaxed trees.null text n t h = subst (λ (l : List ℕ). laid_out Outside n 0 l ≡ l) (sym h) refl
token_alone Canonical (trees.boolean true) text n t h = subst (λ (l : List ℕ). laid_out Outside n 0 l ≡ l) (sym h) refl
token_alone Canonical (trees.boolean false) text n t h = subst (λ (l : List ℕ). laid_out Outside n 0 l ≡ l) (sym h) refl
token_alone Relaxed (trees.boolean true) text n t h = subst (λ (l : List ℕ). laid_out Outside n 0 l ≡ l) (sym h) refl
token_alone Relaxed (trees.boolean false) text n t h = subst (λ (l : List ℕ). laid_out Outside n 0 l ≡ l) (sym h) refl
token_alone Relaxed (trees.int32 z) text n t h = subst (λ (l : List ℕ). laid_out Outside n 0 l ≡ l) (sym h) (bare_alone n (signed_decimal z) (signed_bare z))
token_alone Relaxed (trees.int64 z) text n t h = subst (λ (l : List ℕ). laid_out Outside n 0 l ≡ l) (sym h) (bare_alone n (signed_decimal z) (signed_bare z))
token_alone _ _ text n t h = absurd cc

pub token_laid : {E : Type 0} (format : JsonFormat) (n : ℕ) (tree : Tree) (s : Scalar) (old new : List ℕ) (end : ℕ) (r : Result ℕ E) → is_token format (scalar_kind s) ≡ true
    → ((text : List ℕ) → IsKindText format s text → IsTextOf format tree text) → IfOk r (λ e. AppendsBy (λ text. IsKindText format s text) old end e new)
    → IfOk r (λ e. AppendsBy (IsLaidText format n tree) old end e new)
token_laid format n tree s old new end (Ok e) token text_is a =
    record { text = a.text; is = (a.text, text_is a.text a.is, sym (token_alone format s a.text n token a.is)); written = a.written; inside = a.inside }
token_laid format n tree s old new end (Err e) token text_is a = tt

-- the same for a double without a wrapper
pub bare_laid : {E : Type 0} (n bits : ℕ) (Is : List ℕ → Type 0) (old new : List ℕ) (end : ℕ) (r : Result ℕ E) → ((text : List ℕ) → IsDoubleIn true bits text → Is text)
    → IfOk r (λ e. AppendsBy (λ text. IsDoubleIn true bits text) old end e new) → IfOk r (λ e. AppendsBy (IsLaid n Is) old end e new)
bare_laid n bits Is old new end (Ok e) text_is a =
    let alone_is : laid_out Outside n 0 a.text ≡ a.text = subst (λ (l : List ℕ). laid_out Outside n 0 l ≡ l) (sym a.is.2) (bare_alone n a.is.0 (double_bare bits a.is.0 a.is.1)) in
    record { text = a.text; is = (a.text, text_is a.text a.is, sym alone_is); written = a.written; inside = a.inside }
bare_laid n bits Is old new end (Err e) text_is a = tt

-- the same in its wrapper
pub wrapped_laid : {E : Type 0} (n bits : ℕ) (Is : List ℕ → Type 0) (old new : List ℕ) (end : ℕ) (r : Result ℕ E) → ((text : List ℕ) → IsDoubleIn false bits text → Is text)
    → IfOk r (λ e. AppendsBy (IsLaid n (IsDoubleIn false bits)) old end e new) → IfOk r (λ e. AppendsBy (IsLaid n Is) old end e new)
wrapped_laid n bits Is old new end (Ok e) text_is a = record { text = a.text; is = (a.is.0, text_is a.is.0 a.is.1, a.is.2); written = a.written; inside = a.inside }
wrapped_laid n bits Is old new end (Err e) text_is a = tt

-- the text of the double that bytes begin with
pub double_in : (format : JsonFormat) (value : List ℕ) (bits : ℕ) (bare : Bool) → bits ≡ long_of value → is_bare format (of_bits binary64 bits) ≡ bare → (text : List ℕ) → IsDoubleIn bare bits text
    → IsNumberText format as_double value text
double_in format value bits bare is form text h =
    subst (λ (n : ℕ). IsDoubleIn (is_bare format (of_bits binary64 n)) n text) is (subst (λ (b : Bool). IsDoubleIn b bits text) (sym form) h)

-- what is written of a number is the text of the value
pub number_laid : {E : Type 0} (format : JsonFormat) (n : ℕ) (k : NumberKind) (type : ElementType) (bytes old : List ℕ) (end : ℕ) (new : List ℕ) (tree : Tree) (r : Result ℕ E) → IsWide k
    → type ≡ number_type k → AreBytes bytes → HasValue type bytes tree → IfOk r (λ e. AppendsBy (IsLaid n (IsNumberText format k bytes)) old end e new)
    → IfOk r (λ e. AppendsBy (IsLaidText format n tree) old end e new)
number_laid format n k type bytes old end new tree (Ok e) wide is fits v a =
    let w = subst (λ (t : ElementType). HasValue t bytes tree) is v in
    record { text = a.text; is = (a.is.0, wide_text format k bytes tree wide fits w a.is.0 a.is.1, a.is.2); written = a.written; inside = a.inside }
number_laid format n k type bytes old end new tree (Err e) wide is fits v a = tt

-- ---- kinds of values

pub direct_no_holder : (format : JsonFormat) (kind : Kind) → is_direct format kind ≡ true → (kind ≡ kinds.Doc → ⊥) × (kind ≡ kinds.Array → ⊥) × (kind ≡ kinds.CodeScope → ⊥)
direct_no_holder format kind h =
    let P : Kind → Type 0 = λ k. is_direct format k ≡ true in
    (λ e. let f : false ≡ true = subst P e h in absurd cc, λ e. let f : false ≡ true = subst P e h in absurd cc, λ e. let f : false ≡ true = subst P e h in absurd cc)

pub token_kind : (format : JsonFormat) (kind : Kind) → is_direct format kind ≡ true → (kind ≡ kinds.ObjectId → ⊥) → (kind ≡ kinds.Date → ⊥) → (kind ≡ kinds.Binary → ⊥) → (kind ≡ kinds.Int32 → ⊥)
    → (kind ≡ kinds.Int64 → ⊥) → is_token format kind ≡ true
token_kind format kinds.Text h a b c d e = refl
token_kind format kinds.Null h a b c d e = refl
token_kind format kinds.Bool h a b c d e = refl
token_kind format kinds.ObjectId h a b c d e = absurd (a refl)
token_kind format kinds.Date h a b c d e = absurd (b refl)
token_kind format kinds.Binary h a b c d e = absurd (c refl)
token_kind format kinds.Int32 h a b c d e = absurd (d refl)
token_kind format kinds.Int64 h a b c d e = absurd (e refl)
token_kind format _ h a b c d e = absurd cc

canonical_date : (format : JsonFormat) → is_direct format kinds.Date ≡ true → format ≡ Canonical
canonical_date Canonical h = refl
canonical_date Relaxed h = absurd cc

-- dates are printed at once in canonical form alone
pub direct_date : (format : JsonFormat) (kind : Kind) → is_direct format kind ≡ true → kind ≡ kinds.Date → format ≡ Canonical
direct_date format kind h is = canonical_date format (subst (λ (k : Kind). is_direct format k ≡ true) is h)

pub on_refusal : {E : Type 0} (old new x : List ℕ) (end : ℕ) (r : Result ℕ E) → Appends old end r new x → OnErr r (take end new ≡ take end old)
on_refusal old new x end (Ok e) put = tt
on_refusal old new x end (Err e) put = put

-- ---- a whole document

module _ {E : Type 0} (format : JsonFormat) (fs : Fields) (old new : List ℕ) (end : ℕ) where
  -- what was written is the text of the document on many lines
  pub laid_document : (Is : List ℕ → Type 0) (r : Result ℕ E) → ((line : List ℕ) → IsTextOf format (doc fs) line → Is line) → IfOk r (λ to. AppendsBy (IsLaidText format 0 (doc fs)) old end to new)
      → IfOk r (λ to. (line : List ℕ) × Is line × (take to new ≡ take end old ++ indented line))
  laid_document Is (Ok to) more w = (w.is.0, more w.is.0 w.is.1, w.written ∙ ap (λ (l : List ℕ). take end old ++ l) (w.is.2 ∙ sym (begins w.is.0)))
  laid_document Is (Err e) more w = tt

  -- it ends within the buffer
  pub laid_within : (r : Result ℕ E) → IfOk r (λ to. AppendsBy (IsLaidText format 0 (doc fs)) old end to new) → IfOk r (λ to. to ≤ length new)
  laid_within (Ok to) w = w.inside
  laid_within (Err e) w = tt
