-- A document read from a text can be written: it nests at most 200 levels, and no name and no text of a regular
-- expression contains a zero.
use Rattle.std.proofs.Common.{◌≡◌, ◌≤◌, ℕ, zero, suc, ◌-◌, ℤ, List, Bool, true, false, ◌||◌, Option, Some, None, refl, sym, ap, ◌∙◌, arith}
use Rattle.std.specs.Prelude.{codes, option_map, option_and_then, unwrap_or, if◌then◌else◌}
use Rattle.std.specs.Option.{option_map_or, option_zip}
use Rattle.std.proofs.lemmas.Bool.{cond_both, or_from}
use Rattle.bd_value.specs.{Limits.most_levels, Fits.has_zero, Fits.zero_in, Fits.zero_in_scalar, Fits.zero_in_fields, Fits.zero_in_items}
use Rattle.bd_value.specs.Tree.{depth, fields_depth, items_depth}
use Rattle.bd_value.specs.Tree.{Scalar, Tree, leaf, doc, array, code_scope, Items, no_items, item, Fields, no_fields, field, Doc, fields_of, pairs_of, fields_of-pairs_of}
use Rattle.json.specs.{Token.Token, Json.Json, Find.as_bool, Find.as_str}
use Rattle.json.specs.Json as json
use Rattle.bd_value.specs.Tree as trees
use Rattle.bd_extjson_wrapper.specs.{WholeNumber.fits_bits, WholeNumber.whole_64, WholeNumber.whole_32, Wrapper.through, declared.wrapper.Wrapper.Wrapper}
use Rattle.bd_extjson_wrapper.specs.Wrapper.{wrapper_of, single, name_in, both_in, pair, id_of, data_in, subtype_in, word_in, only, long_in, one}
use Rattle.bd_extjson.specs.Read.{wrap, wrap_items, wrap_object, wrapped, wrap_fields, bare_number, nested, add_item, add_field, with_scope, two, ReadsAs, document}
use Rattle.bd_extjson.specs.Read as reads
use Rattle.bd_extjson_wrapper.specs.declared.wrapper.Wrapper.TheVariants as kinds

-- a value, if any, nests at most n levels, and contains no zero where none is allowed
abbrev IsTree : ℕ → Option Tree → Type 0
IsTree depth_left None = Unit {0}
IsTree depth_left (Some t) = (depth t ≤ depth_left) × (zero_in t ≡ false)

abbrev AreItems : ℕ → Option Items → Type 0
AreItems depth_left None = Unit {0}
AreItems depth_left (Some ts) = (items_depth ts ≤ depth_left) × (zero_in_items ts ≡ false)

abbrev AreFields : ℕ → Option Fields → Type 0
AreFields depth_left None = Unit {0}
AreFields depth_left (Some fs) = (fields_depth fs ≤ depth_left) × (zero_in_fields fs ≡ false)

-- ---- scalars

abbrev IsScalar : Option Scalar → Type 0
IsScalar None = Unit {0}
IsScalar (Some s) = zero_in_scalar s ≡ false

mapped : {A : Type 0} (f : A → Scalar) → ((x : A) → zero_in_scalar (f x) ≡ false) → (o : Option A) → IsScalar (option_map f o)
mapped f h None = tt
mapped f h (Some x) = h x

abbrev HasNone : Option (List ℕ) → Type 0
HasNone None = Unit {0}
HasNone (Some s) = has_zero s ≡ false

none_in : (s : List ℕ) → HasNone (if has_zero s then None else Some s)
none_in s = cond_both (has_zero s) None (Some s) HasNone (λ e. tt) (λ e. e)

name_plain : (j : Json) → HasNone (name_in j)
name_plain j = go (as_str j)
  where
    go : (o : Option (List ℕ)) → HasNone (option_and_then (λ s. if has_zero s then None else Some s) o)
    go None = tt
    go (Some s) = none_in s

regex_plain : (a b : Option (List ℕ)) → HasNone a → HasNone b → IsScalar (option_map (λ p. trees.regex p.0 p.1) (option_zip a b))
regex_plain (Some s) (Some t) p q = or_from (has_zero s) (has_zero t) p q
regex_plain _ _ p q = tt

pair_plain : (o : Option (Json × Json)) → IsScalar (option_map (λ p. trees.regex p.0 p.1) (option_and_then (both_in name_in name_in) o))
pair_plain None = tt
pair_plain (Some p) = regex_plain (name_in p.0) (name_in p.1) (name_plain p.0) (name_plain p.1)

true_plain : (b : Bool) (s : Scalar) → zero_in_scalar s ≡ false → IsScalar (if b then Some s else None)
true_plain true s h = h
true_plain false s h = tt

single_plain : (w : Wrapper) (j : Json) → IsScalar (single w j)
single_plain kinds.NumberInt j = mapped (λ z. trees.int32 z) (λ z. refl) (option_and_then whole_32 (as_str j))
single_plain kinds.NumberLong j = mapped (λ z. trees.int64 z) (λ z. refl) (long_in j)
single_plain kinds.Oid j = mapped (λ b. trees.object_id b) (λ b. refl) (id_of j)
single_plain kinds.Symbol j = mapped (λ s. trees.symbol s) (λ s. refl) (as_str j)
single_plain kinds.Binary j = mapped (λ (p : List ℕ × ℕ). trees.binary p.1 p.0) (λ p. refl) (option_and_then (both_in data_in subtype_in) (pair (codes "base64") (codes "subType") j))
single_plain kinds.Code j = mapped (λ s. trees.code s) (λ s. refl) (as_str j)
single_plain kinds.Timestamp j = mapped (λ (p : ℕ × ℕ). trees.timestamp p.0 p.1) (λ p. refl) (option_and_then (both_in word_in word_in) (pair (codes "t") (codes "i") j))
single_plain kinds.RegularExpression j = pair_plain (pair (codes "pattern") (codes "options") j)
single_plain kinds.DbPointer j = mapped (λ (p : List ℕ × List ℕ). trees.db_pointer p.0 p.1) (λ p. refl)
    (option_and_then (both_in as_str (λ i. option_and_then id_of (only (codes "$oid") i))) (pair (codes "$ref") (codes "$id") j))
single_plain kinds.Date j = mapped (λ z. trees.date z) (λ z. refl) (option_and_then long_in (only (codes "$numberLong") j))
single_plain kinds.MinKey j = true_plain (one j) trees.min_key refl
single_plain kinds.MaxKey j = true_plain (one j) trees.max_key refl
single_plain kinds.Undefined j = true_plain (unwrap_or (as_bool j) false) trees.undefined refl
single_plain _ j = tt

leaf_plain : (depth_left : ℕ) (o : Option Scalar) → IsScalar o → IsTree depth_left (option_map leaf o)
leaf_plain depth_left None h = tt
leaf_plain depth_left (Some s) h = (omega arith, h)

number_plain : (depth_left : ℕ) (o : Option ℤ) → IsTree depth_left (bare_number o)
number_plain depth_left None = tt
number_plain depth_left (Some z) = cond_both (fits_bits 31 z) (trees.int32 z) (trees.int64 z) (λ s. IsTree depth_left (Some (leaf s))) (λ e. (omega arith, refl)) (λ e. (omega arith, refl))

-- ---- lists

item_plain : (depth_left : ℕ) (t : Option Tree) (ts : Option Items) → IsTree depth_left t → AreItems depth_left ts → AreItems depth_left (add_item t ts)
item_plain depth_left (Some t) (Some ts) p q = (let a = p.0 in let b = q.0 in omega arith, or_from (zero_in t) (zero_in_items ts) p.1 q.1)
item_plain depth_left _ _ p q = tt

field_plain : (depth_left : ℕ) (name : List ℕ) (t : Option Tree) (fs : Option Fields) → IsTree depth_left t → AreFields depth_left fs → AreFields depth_left (add_field name t fs)
field_plain depth_left name (Some t) (Some fs) p q =
    let a = p.0 in
    let b = q.0 in
    cond_both (has_zero name) None (Some (field name t fs)) (AreFields depth_left) (λ e. tt)
    (λ e. (omega arith, or_from (has_zero name) (zero_in t || zero_in_fields fs) e (or_from (zero_in t) (zero_in_fields fs) p.1 q.1)))
field_plain depth_left name _ _ p q = tt

array_plain : (depth_left : ℕ) (ts : Option Items) → AreItems (depth_left - 1) ts → IsTree depth_left (nested depth_left (option_map array ts))
array_plain (suc depth_left) (Some ts) p = (let a = p.0 in omega arith, p.1)
array_plain _ _ p = tt

doc_plain : (depth_left : ℕ) (fs : Option Fields) → AreFields (depth_left - 1) fs → IsTree depth_left (nested depth_left (option_map doc fs))
doc_plain (suc depth_left) (Some fs) p = (let a = p.0 in omega arith, p.1)
doc_plain _ _ p = tt

-- ---- objects that mean values of other kinds

scope_plain : (depth_left : ℕ) (s : Option (List ℕ)) (t : Option Tree) → IsTree (depth_left - 1) t → IsTree depth_left (nested depth_left (with_scope s t))
scope_plain (suc depth_left) (Some s) (Some (doc fs)) p = (let a = p.0 in omega arith, p.1)
scope_plain _ _ _ p = tt

two_plain : (depth_left : ℕ) (w : Wrapper) (j : Json) (t : Option Tree) (v : Option Wrapper) (i : Json) (u : Option Tree) (ms : json.Members)
    → IsTree (depth_left - 1) t → IsTree (depth_left - 1) u → IsTree depth_left (nested depth_left (two w j t v i u ms))
two_plain depth_left kinds.Code j t (Some kinds.Scope) i u json.no_members p q = scope_plain depth_left (as_str j) u q
two_plain depth_left kinds.Scope j t (Some kinds.Code) i u json.no_members p q = scope_plain depth_left (as_str i) t p
two_plain zero _ j t _ i u _ p q = tt
two_plain (suc depth_left) _ j t _ i u _ p q = tt

either_plain : (depth_left : ℕ) (o : Option Wrapper) (f : Wrapper → Option Tree) (d : Option Tree) → ((w : Wrapper) → IsTree depth_left (f w)) → IsTree depth_left d → IsTree depth_left (option_map_or f o d)
either_plain depth_left None f d p q = q
either_plain depth_left (Some w) f d p q = p w

-- ---- values

mutual
  wrap_plain : (depth_left : ℕ) (j : Json) → IsTree depth_left (wrap depth_left j)
  wrap_plain depth_left json.null = (omega arith, refl)
  wrap_plain depth_left (json.boolean b) = (omega arith, refl)
  wrap_plain depth_left (json.number s) = number_plain depth_left (whole_64 s)
  wrap_plain depth_left (json.string s) = (omega arith, refl)
  wrap_plain depth_left (json.array js) = array_plain depth_left (wrap_items (depth_left - 1) js) (wrap_items_plain (depth_left - 1) js)
  wrap_plain depth_left (json.object ms) = wrap_object_plain depth_left ms

  wrap_items_plain : (depth_left : ℕ) (js : json.Items) → AreItems depth_left (wrap_items depth_left js)
  wrap_items_plain depth_left json.no_items = (omega arith, refl)
  wrap_items_plain depth_left (json.item j js) = item_plain depth_left (wrap depth_left j) (wrap_items depth_left js) (wrap_plain depth_left j) (wrap_items_plain depth_left js)

  wrap_object_plain : (depth_left : ℕ) (ms : json.Members) → IsTree depth_left (wrap_object depth_left ms)
  wrap_object_plain depth_left json.no_members = doc_plain depth_left (Some no_fields) (omega arith, refl)
  wrap_object_plain depth_left (json.member name j ms) =
      either_plain depth_left (wrapper_of name) (λ w. wrapped depth_left w j (wrap (depth_left - 1) j) ms) (nested depth_left (option_map doc (add_field name (wrap (depth_left - 1) j) (wrap_fields (depth_left - 1) ms))))
      (λ w. wrapped_plain depth_left w j (wrap (depth_left - 1) j) ms (wrap_plain (depth_left - 1) j))
      (doc_plain depth_left (add_field name (wrap (depth_left - 1) j) (wrap_fields (depth_left - 1) ms))
      (field_plain (depth_left - 1) name (wrap (depth_left - 1) j) (wrap_fields (depth_left - 1) ms) (wrap_plain (depth_left - 1) j) (wrap_fields_plain (depth_left - 1) ms)))

  wrapped_plain : (depth_left : ℕ) (w : Wrapper) (j : Json) (t : Option Tree) (ms : json.Members) → IsTree (depth_left - 1) t → IsTree depth_left (wrapped depth_left w j t ms)
  wrapped_plain depth_left w j t json.no_members p = leaf_plain depth_left (single w j) (single_plain w j)
  wrapped_plain depth_left w j t (json.member name i ms) p = two_plain depth_left w j t (wrapper_of name) i (wrap (depth_left - 1) i) ms p (wrap_plain (depth_left - 1) i)

  wrap_fields_plain : (depth_left : ℕ) (ms : json.Members) → AreFields depth_left (wrap_fields depth_left ms)
  wrap_fields_plain depth_left json.no_members = (omega arith, refl)
  wrap_fields_plain depth_left (json.member name j ms) = field_plain depth_left name (wrap depth_left j) (wrap_fields depth_left ms) (wrap_plain depth_left j) (wrap_fields_plain depth_left ms)

-- ---- documents

abbrev IsPlain : Doc → Type 0
IsPlain d = (depth (doc (fields_of d)) ≤ most_levels) × (zero_in (doc (fields_of d)) ≡ false)

of_tree : (t : Option Tree) (d : Doc) → IsTree most_levels t → option_map pairs_of (option_and_then document t) ≡ Some d → IsPlain d
of_tree (Some (doc fs)) d p e =
    let is : pairs_of fs ≡ d = cc in
    let same : fields_of d ≡ fs = ap fields_of (sym is) ∙ fields_of-pairs_of fs in
    rw same p
of_tree _ d p e = absurd cc

-- a document read from a text is plain: no document in it begins with the name of a wrapper
pub reads_plain : (text : List ℕ) (d : Doc) → ReadsAs text d → IsPlain d
reads_plain text d = of_json (reads.json text)
  where
    of_json : (o : Option Json) → option_map pairs_of (option_and_then document (option_and_then (wrap most_levels) o)) ≡ Some d → IsPlain d
    of_json None e = absurd cc
    of_json (Some j) e = of_tree (wrap most_levels j) d (wrap_plain most_levels j) e

-- ---- parts

kept : (o : Option Tree) (t : Tree) (ts rest : List Token) → option_map {U = Tree × List Token} (λ a. (a, ts)) o ≡ Some (t, rest) → o ≡ Some t
kept None t ts rest e = absurd cc
kept (Some u) t ts rest e = ap (λ (x : Option (Tree × List Token)). option_map (λ (p : Tree × List Token). p.0) x) e

pub object_plain : (depth_left : ℕ) (r : Option (json.Members × List Token)) (t : Tree) (rest : List Token) → through (wrap_object depth_left) r ≡ Some (t, rest) → zero_in t ≡ false
object_plain depth_left None t rest e = absurd cc
object_plain depth_left (Some p) t rest e = (rw (kept (wrap_object depth_left p.0) t p.1 rest e) at (wrap_object_plain depth_left p.0)).1
