-- The canonical text determines a plain document: from its JSON value back to the tree. Unlike `wrap` the way back
-- accepts U+0000 in names and in regular expressions.
use Rattle.std.proofs.Common.{◌≡◌, ℕ, ◌+◌, List, [], Option, Some, None, option_map, option_and_then, arith, refl, sym, ap, ap₂, ◌∙◌}
use Rattle.std.specs.Prelude.{codes}
use Rattle.json.specs.Json as kit
use Rattle.json.specs.Json.{Json, value}
use Rattle.json.specs.Find.{as_str}
use Rattle.json.specs.Lex.{tokens}
use Rattle.json.specs.Token.{Token}
use Rattle.json.specs.Tree as kit_tree
use Rattle.bd_value.specs.Fits.{ScalarFits, FitsTypes, ItemsFit, FieldsFit, IsAny}
use Rattle.bd_value.specs.Tree.{Scalar, null, text as plain_text, boolean, regex, code}
use Rattle.bd_value.specs.Tree.{Tree, leaf, doc, array, code_scope, Items, no_items, item, Fields, no_fields, field, Doc, fields_of, pairs_in, pairs_of-fields_of}
use Rattle.bd_extjson_text.specs.Text.{text}
use Rattle.bd_extjson_wrapper.specs.Wrapper.{wrapper_of, single, pair, both_in}
use Rattle.bd_extjson_wrapper.specs.declared.wrapper.Wrapper.{Wrapper}
use Rattle.bd_extjson_wrapper.specs.declared.wrapper.Wrapper.TheVariants as kinds
use Rattle.bd_extjson.specs.Laws.{IsPlainFirst, IsPlain, ArePlainItems, ArePlainFields}
use Rattle.bd_extjson.proofs.ReadBackLemmas.{scalar_back}
use Rattle.bd_extjson.proofs.TreeJsonLemmas.{scalar_json, json, elements_json, members_json, value-text}

abbrev scalar_in : Wrapper → Json → Option Scalar
scalar_in kinds.RegularExpression x = option_map (λ p. regex p.0 p.1) (option_and_then (both_in as_str as_str) (pair (codes "pattern") (codes "options") x))
scalar_in w x = single w x

abbrev or_null : Option Tree → Tree
or_null None = leaf null
or_null (Some t) = t

abbrev fields_in : Tree → Fields
fields_in (doc fs) = fs
fields_in t = no_fields

abbrev code_in : Option Scalar → List ℕ
code_in (Some (code s)) = s
code_in o = []

-- the value of an object with a wrapper's name: with a second field, which is the scope, it is code with scope
abbrev with_scope : Option Scalar → Fields → Tree
with_scope o (field n t (field m u fs)) = code_scope (code_in o) (fields_in u)
with_scope o fs = or_null (option_map leaf o)

abbrev settled : Option Wrapper → Json → Fields → Tree
settled None x fs = doc fs
settled (Some w) x fs = with_scope (scalar_in w x) fs

abbrev back_object : kit.Members → Fields → Tree
back_object kit.no_members fs = doc fs
back_object (kit.member n x ms) fs = settled (wrapper_of n) x fs

abbrev mutual
  back : Json → Tree
  back kit.null = leaf null
  back (kit.boolean b) = leaf (boolean b)
  back (kit.number ds) = leaf null
  back (kit.string s) = leaf (plain_text s)
  back (kit.array xs) = array (back_elements xs)
  back (kit.object ms) = back_object ms (back_members ms)

  back_elements : kit.Items → Items
  back_elements kit.no_items = no_items
  back_elements (kit.item x xs) = item (back x) (back_elements xs)

  back_members : kit.Members → Fields
  back_members kit.no_members = no_fields
  back_members (kit.member n x ms) = field n (back x) (back_members ms)

back-scalar : (s : Scalar) → ScalarFits IsAny s → back (scalar_json s) ≡ leaf s
unfolding wrapper_of pair
back-scalar (regex p o) fits = refl
back-scalar s fits = ap or_null (scalar_back s 0 fits refl)

-- a document whose first name is not a wrapper's comes back as a document, if its fields do
back-object : (fs : Fields) → IsPlainFirst fs → back_members (members_json fs) ≡ fs → back (kit.object (members_json fs)) ≡ doc fs
back-object no_fields plain same = refl
back-object (field n t fs) plain same = rw plain (ap doc same)

back-scope : (s : List ℕ) (fs : Fields) → back (kit.object (members_json fs)) ≡ doc fs → back (json (code_scope s fs)) ≡ code_scope s fs
unfolding wrapper_of
back-scope s fs same = ap (λ (t : Tree). code_scope s (fields_in t)) same

mutual
  back-json : (t : Tree) → FitsTypes t → IsPlain t → back (json t) ≡ t
  back-json (leaf s) fits plain = back-scalar s fits
  back-json (doc fs) fits plain = back-object fs plain.0 (back-members fs fits plain.1)
  back-json (array ts) fits plain = ap array (back-elements ts fits plain)
  back-json (code_scope s fs) fits plain = back-scope s fs (back-object fs plain.0 (back-members fs fits.1 plain.1))

  back-elements : (ts : Items) → ItemsFit IsAny ts → ArePlainItems ts → back_elements (elements_json ts) ≡ ts
  back-elements no_items fits plain = refl
  back-elements (item t ts) fits plain = ap₂ item (back-json t fits.0 plain.0) (back-elements ts fits.1 plain.1)

  back-members : (fs : Fields) → FieldsFit IsAny fs → ArePlainFields fs → back_members (members_json fs) ≡ fs
  back-members no_fields fits plain = refl
  back-members (field n t fs) fits plain = ap₂ (field n) (back-json t fits.1.0 plain.0) (back-members fs fits.1.1 plain.1)

-- a text has one JSON value, since it is read as that value
json-determined : (t u : Tree) → FitsTypes t → FitsTypes u → text t ≡ text u → json t ≡ json u
json-determined t u ft fu e =
    let n : ℕ = kit_tree.depth (json t) + kit_tree.depth (json u) in
    let both = sym (value-text t n ft (omega arith)) ∙ ap (λ (l : List ℕ). value n (tokens l)) e ∙ value-text u n fu (omega arith) in
    let same : Some (json t) ≡ Some (json u) = ap (λ (x : Option (Json × List Token)). option_map (λ (p : Json × List Token). p.0) x) both in
    cc

pub document_determined : (c d : Doc) → FitsTypes (doc (fields_of c)) → FitsTypes (doc (fields_of d)) → IsPlain (doc (fields_of c)) → IsPlain (doc (fields_of d))
    → text (doc (fields_of c)) ≡ text (doc (fields_of d)) → c ≡ d
document_determined c d fc fd pc pd e =
    let t : Tree = doc (fields_of c) in
    let u : Tree = doc (fields_of d) in
    let same = sym (back-json t fc pc) ∙ ap back (json-determined t u fc fd e) ∙ back-json u fd pd in
    sym (pairs_of-fields_of c) ∙ ap pairs_in same ∙ pairs_of-fields_of d
