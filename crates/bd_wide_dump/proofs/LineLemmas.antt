-- Texts of documents and arrays, piece by piece.
use Rattle.std.proofs.Common.{◌≡◌, ℕ, ◌+◌, ◌≤◌, Bool, true, false, List, [], ◌∷◌, ◌++◌, length, take, drop, None, Result, Ok, Err, refl, sym, ap, subst, ◌∙◌, append_assoc, arith}
use Rattle.std.proofs.lemmas.List.{take_all}
use Rattle.std.specs.Io.{StartsWith}
use Rattle.std.specs.Prelude.{IfOk, OnErr, codes}
use Rattle.std.specs.{List.join_with_byte, Result.result_err}
use Rattle.bd_value.specs.Tree.{Tree, doc, array, code_scope, Fields, no_fields, field, Doc, fields_of}
use Rattle.bd_bson_check.specs.Fault.{Fault}
use Rattle.bd_bson_check.specs.FirstFault.{fault_under, skip_document}
use Rattle.bd_bson_check.specs.declared.profile.Profile.TheVariants.{All}
use Rattle.bd_bson_check.proofs.WideLemmas.{document_by_value}
use Rattle.bd_extjson_text.specs.Text.{quoted, escape_byte, member, object, listed}
use Rattle.bd_extjson_text.specs.Buffer.{Appends}
use Rattle.bd_extjson_text.proofs.BufferLemmas.{splits, rises, prefix}
use Rattle.bd_extjson_text.proofs.TextLemmas.{before, to_come, to_come-all, piece_step}
use Rattle.bd_bson_view.specs.Spelling.{IsDocumentBy, valued}
use Rattle.bd_bson_view.specs.Unique.{number_after}
use Rattle.bd_wide_dump.specs.Raw.{raw}
use Rattle.bd_wide_dump.specs.declared.format.JsonFormat.{JsonFormat}
use Rattle.bd_wide_dump.specs.WideText.{AreBytes, IsTextOf, IsTextOfBytes, AreTexts, AreMembers}
use Rattle.bd_bson_view.specs.declared.raw_parts.ElementType.{ElementType}
use Rattle.bd_wide_dump.specs.Values.{values_in}
use Rattle.bd_wide_dump.specs.inside.Begins.{HasElements, HasValue, IsElement, AppendsBy, AppendsText}

-- With the texts that remain, what is written is a whole text.
abbrev pub Goes : JsonFormat → Tree → (List (List ℕ) → Type 0) → Bool → ℕ → List ℕ → List ℕ → Type 0
Goes format tree Remain later close old out =
    (ts : List (List ℕ)) → Remain ts → (text : List ℕ) × IsTextOf format tree text × (out ++ (to_come later 44 ts ++ close ∷ []) ≡ old ++ text)

begun : (open_ close : ℕ) (ts : List (List ℕ)) (old : List ℕ) → (old ++ open_ ∷ []) ++ (to_come false 44 ts ++ close ∷ []) ≡ old ++ open_ ∷ (join_with_byte 44 ts ++ close ∷ [])
begun open_ close ts old = rw (to_come-all 44 ts) (append_assoc old (open_ ∷ []) (join_with_byte 44 ts ++ close ∷ []))

pub fields_begun : (format : JsonFormat) (fs : Fields) (old out : List ℕ) → out ≡ old ++ 123 ∷ [] → Goes format (doc fs) (AreMembers format fs) false 125 old out
fields_begun format fs old out is = λ ts h. (object ts, (ts, h, refl), ap (λ (x : List ℕ). x ++ (to_come false 44 ts ++ 125 ∷ [])) is ∙ begun 123 125 ts old)

pub items_begun : (format : JsonFormat) (fs : Fields) (old out : List ℕ) → out ≡ old ++ 91 ∷ [] → Goes format (array (values_in fs)) (AreTexts format (values_in fs)) false 93 old out
items_begun format fs old out is = λ ts h. (listed ts, (ts, h, refl), ap (λ (x : List ℕ). x ++ (to_come false 44 ts ++ 93 ∷ [])) is ∙ begun 91 93 ts old)

step : (format : JsonFormat) (tree : Tree) (Remain Others : List (List ℕ) → Type 0) (later : Bool) (close : ℕ) (old out new x : List ℕ) → Goes format tree Remain later close old out
    → ((ts : List (List ℕ)) → Others ts → Remain (x ∷ ts)) → new ≡ (out ++ before later 44) ++ x → Goes format tree Others true close old new
step format tree Remain Others later close old out new x goes more is = λ ts h.
    let g = goes (x ∷ ts) (more ts h) in
    (g.0, g.1, ap (λ (y : List ℕ). y ++ (to_come true 44 ts ++ close ∷ [])) is ∙ piece_step later 44 x (x ∷ ts) ts out (close ∷ []) (old ++ g.0) refl g.2)

regroup : (a b n t : List ℕ) → (a ++ (b ++ (n ++ 58 ∷ []))) ++ t ≡ (a ++ b) ++ (n ++ 58 ∷ t)
regroup a b n t = simp append_assoc

pub field_goes : (format : JsonFormat) (tree t : Tree) (fs others : Fields) (n value : List ℕ) (later : Bool) (old out named new : List ℕ) → fs ≡ field n t others → IsTextOf format t value
    → Goes format tree (AreMembers format fs) later 125 old out → named ≡ out ++ (before later 44 ++ (quoted n ++ 58 ∷ [])) → new ≡ named ++ value → Goes format tree (AreMembers format others) true 125 old new
field_goes format tree t fs others n value later old out named new is has goes put is_new =
    step format tree (AreMembers format fs) (AreMembers format others) later 125 old out new (member n value) goes
    (λ ts h. subst (λ (f : Fields). AreMembers format f (member n value ∷ ts)) (sym is) (value, ts, has, h, refl))
    (is_new ∙ ap (λ (x : List ℕ). x ++ value) put ∙ regroup out (before later 44) (quoted n) value)

pub item_goes : (format : JsonFormat) (tree t : Tree) (fs others : Fields) (n value : List ℕ) (later : Bool) (old out named new : List ℕ) → fs ≡ field n t others → IsTextOf format t value
    → Goes format tree (AreTexts format (values_in fs)) later 93 old out → named ≡ out ++ before later 44 → new ≡ named ++ value → Goes format tree (AreTexts format (values_in others)) true 93 old new
item_goes format tree t fs others n value later old out named new is has goes put is_new =
    step format tree (AreTexts format (values_in fs)) (AreTexts format (values_in others)) later 93 old out new value goes
    (λ ts h. subst (λ (f : Fields). AreTexts format (values_in f) (value ∷ ts)) (sym is) (value, ts, has, h, refl))
    (is_new ∙ ap (λ (x : List ℕ). x ++ value) put)

-- nothing remains, and the last byte is written
pub finished : {E : Type 0} (format : JsonFormat) (tree : Tree) (Remain : List (List ℕ) → Type 0) (later : Bool) (close : ℕ) (old mid new : List ℕ) (end at : ℕ) (r : Result ℕ E)
    → Remain [] → Goes format tree Remain later close (take end old) (take at mid) → Appends mid at r new (close ∷ []) → IfOk r (λ e. AppendsText format tree old end e new)
finished format tree Remain later close old mid new end at (Ok e) none goes put =
    let g = goes [] none in
    record { text = g.0; is = g.1; written = put.0 ∙ g.2; inside = put.1 }
finished format tree Remain later close old mid new end at (Err e) none goes put = tt

-- ---- the bytes before the text, on an error

-- what holds in any case holds on an error
pub on_err : {E P : Type 0} (r : Result ℕ E) → P → OnErr r P
on_err (Ok e) h = tt
on_err (Err e) h = h

-- more is written later in the buffer
pub kept : {E : Type 0} (end at : ℕ) (old out new bytes : List ℕ) (r : Result ℕ E) → end ≤ at → take end out ≡ take end old → Appends out at r new bytes
    → OnErr r (take end new ≡ take end old)
kept end at old out new bytes (Ok e) after same put = tt
kept end at old out new bytes (Err e) after same put = splits end at new out after put ∙ same

-- a part of a number is written
pub number_in_part : (end : ℕ) (old out new lead : List ℕ) → end ≤ length old → out ≡ take end old ++ lead → StartsWith new out → take end new ≡ take end old
number_in_part end old out new lead inside is begins = prefix end (length out) old lead new inside (begins ∙ is)

-- what follows a number is written
pub tail_kept : {E : Type 0} (old mid new lead number tail : List ℕ) (end at : ℕ) (r : Result ℕ E) → end ≤ length old → take at mid ≡ (take end old ++ lead) ++ number
    → Appends mid at r new tail → OnErr r (take end new ≡ take end old)
tail_kept old mid new lead number tail end at r inside is put =
    let whole : take at mid ≡ take end old ++ (lead ++ number) = is ∙ append_assoc (take end old) lead number in
    kept end at old mid new tail r (rises end at old (lead ++ number) mid inside whole) (prefix end at old (lead ++ number) mid inside whole) put

pub number_kept : {E : Type 0} (old mid new lead number tail : List ℕ) (end at : ℕ) (r : Result ℕ E) → end ≤ length old → mid ≡ (take end old ++ lead) ++ number → at ≡ length mid
    → Appends mid at r new tail → OnErr r (take end new ≡ take end old)
number_kept old mid new lead number tail end at r inside is all put = tail_kept old mid new lead number tail end at r inside (take_all at mid (omega (arith, all)) ∙ is) put

-- ---- code with scope

code_whole : (s : List ℕ) (members : List (List ℕ))
    → (((codes "{\"$code\":" ++ quoted s) ++ codes ",\"$scope\":") ++ object members) ++ 125 ∷ []
    ≡ object (member (codes "$code") (quoted s) ∷ member (codes "$scope") (object members) ∷ [])
unfolding quoted escape_byte
code_whole s members = simp append_assoc

pub code_text : (format : JsonFormat) (s : List ℕ) (fs : Fields) (text : List ℕ) → IsTextOf format (doc fs) text
    → IsTextOf format (code_scope s fs) ((((codes "{\"$code\":" ++ quoted s) ++ codes ",\"$scope\":") ++ text) ++ 125 ∷ [])
code_text format s fs text h = (h.0, h.1, ap (λ (x : List ℕ). (((codes "{\"$code\":" ++ quoted s) ++ codes ",\"$scope\":") ++ x) ++ 125 ∷ []) h.2 ∙ code_whole s h.0)

-- ---- the loops

-- For all elements that there are from the start, what was written continues with those from `next`.
abbrev pub FieldsGo : JsonFormat → List ℕ → ℕ → ℕ → Bool → List ℕ → List ℕ → Type 0
FieldsGo format bytes start next later old out =
    (e : HasElements (drop start bytes)) → (f : HasElements (drop next bytes)) × Goes format (doc e.fields) (AreMembers format f.fields) later 125 old out

abbrev pub ItemsGo : JsonFormat → List ℕ → ℕ → ℕ → Bool → List ℕ → List ℕ → Type 0
ItemsGo format bytes start next later old out =
    (e : HasElements (drop start bytes)) → (f : HasElements (drop next bytes)) × Goes format (array (values_in e.fields)) (AreTexts format (values_in f.fields)) later 93 old out

pub fields_go : (format : JsonFormat) (bytes : List ℕ) (start : ℕ) (old out : List ℕ) → out ≡ old ++ 123 ∷ [] → FieldsGo format bytes start start false old out
fields_go format bytes start old out is = λ e. (e, fields_begun format e.fields old out is)

pub items_go : (format : JsonFormat) (bytes : List ℕ) (start : ℕ) (old out : List ℕ) → out ≡ old ++ 91 ∷ [] → ItemsGo format bytes start start false old out
items_go format bytes start old out is = λ e. (e, items_begun format e.fields old out is)

module _ (format : JsonFormat) (bytes : List ℕ) (start at begin next : ℕ) (type : ElementType) (name : List ℕ) (later : Bool) (old out mid new : List ℕ) (put to : ℕ)
    (found : (f : HasElements (drop at bytes)) → IsElement bytes at f.fields type name begin next)
    (written : (tree : Tree) → HasValue type (drop begin bytes) tree → AppendsText format tree mid put to new) where
  pub fields_go_on : FieldsGo format bytes start at later old out → take put mid ≡ out ++ (before later 44 ++ (quoted name ++ 58 ∷ [])) → FieldsGo format bytes start next true old (take to new)
  fields_go_on so_far named = λ e.
      let f = so_far e in
      let x = found f.0 in
      let w = written x.tree x.here in (
        x.rest,
        field_goes format (doc e.fields) x.tree f.0.fields x.rest.fields name w.text later old out (take put mid) (take to new)
            (x.is ∙ ap (λ (o : Fields). field name x.tree o) (sym x.rest_is)) w.is f.1 named w.written,
      )

  pub items_go_on : ItemsGo format bytes start at later old out → take put mid ≡ out ++ before later 44 → ItemsGo format bytes start next true old (take to new)
  items_go_on so_far named = λ e.
      let f = so_far e in
      let x = found f.0 in
      let w = written x.tree x.here in (
        x.rest,
        item_goes format (array (values_in e.fields)) x.tree f.0.fields x.rest.fields name w.text later old out (take put mid) (take to new)
            (x.is ∙ ap (λ (o : Fields). field name x.tree o) (sym x.rest_is)) w.is f.1 named w.written,
      )

module _ {E : Type 0} (format : JsonFormat) (bytes : List ℕ) (start at : ℕ) (later : Bool) (old mid new : List ℕ) (end put : ℕ) (r : Result ℕ E)
    (ended : (f : HasElements (drop at bytes)) → f.fields ≡ no_fields) where
  pub fields_done : FieldsGo format bytes start at later (take end old) (take put mid) → Appends mid put r new (125 ∷ [])
      → (e : HasElements (drop start bytes)) → IfOk r (λ to. AppendsText format (doc e.fields) old end to new)
  fields_done so_far last e =
      let f = so_far e in
      finished format (doc e.fields) (AreMembers format f.0.fields) later 125 old mid new end put r (subst (λ (fs : Fields). AreMembers format fs []) (sym (ended f.0)) refl) f.1 last

  pub items_done : ItemsGo format bytes start at later (take end old) (take put mid) → Appends mid put r new (93 ∷ [])
      → (e : HasElements (drop start bytes)) → IfOk r (λ to. AppendsText format (array (values_in e.fields)) old end to new)
  items_done so_far last e =
      let f = so_far e in
      finished format (array (values_in e.fields)) (AreTexts format (values_in f.0.fields)) later 93 old mid new end put r
      (subst (λ (fs : Fields). AreTexts format (values_in fs) []) (sym (ended f.0)) refl) f.1 last

-- ---- a number, between what precedes it and what follows it

-- the text of a number is written
pub tail_done : {E : Type 0} (Is : List ℕ → Type 0) (old mid new lead number tail : List ℕ) (end at : ℕ) (r : Result ℕ E) → take at mid ≡ (take end old ++ lead) ++ number
    → Is (lead ++ (number ++ tail)) → Appends mid at r new tail → IfOk r (λ e. AppendsBy Is old end e new)
tail_done Is old mid new lead number tail end at (Ok e) whole text put =
    record {
      text = lead ++ (number ++ tail);
      is = text;
      written = put.0 ∙ ap (λ (x : List ℕ). x ++ tail) whole ∙ simp append_assoc;
      inside = put.1;
    }
tail_done Is old mid new lead number tail end at (Err e) whole text put = tt

pub number_done : {E : Type 0} (Is : List ℕ → Type 0) (old mid new lead number tail : List ℕ) (end at : ℕ) (r : Result ℕ E) → mid ≡ (take end old ++ lead) ++ number → at ≡ length mid
    → Is (lead ++ (number ++ tail)) → Appends mid at r new tail → IfOk r (λ e. AppendsBy Is old end e new)
number_done Is old mid new lead number tail end at r is all text put = tail_done Is old mid new lead number tail end at r (take_all at mid (omega (arith, all)) ∙ is) text put

shift : (o a b x y : List ℕ) → (((o ++ a) ++ b) ++ x) ++ y ≡ o ++ (((a ++ b) ++ x) ++ y)
shift o a b x y = simp append_assoc

pub scope_done : {E : Type 0} (format : JsonFormat) (code : List ℕ) (tree : Tree) (fs : Fields) (old m1 m2 m3 new : List ℕ) (end a1 a2 a3 : ℕ) (r : Result ℕ E) → tree ≡ code_scope code fs
    → take a1 m1 ≡ take end old ++ (codes "{\"$code\":" ++ quoted code) → take a2 m2 ≡ take a1 m1 ++ codes ",\"$scope\":" → AppendsText format (doc fs) m2 a2 a3 m3
    → Appends m3 a3 r new (125 ∷ []) → IfOk r (λ to. AppendsText format tree old end to new)
scope_done format code tree fs old m1 m2 m3 new end a1 a2 a3 (Ok e) is one two w last =
    let whole : List ℕ = (((codes "{\"$code\":" ++ quoted code) ++ codes ",\"$scope\":") ++ w.text) ++ 125 ∷ [] in
    let P : Tree → Type 0 = λ t. IsTextOf format t whole in
    let pieces : take e new ≡ (((take end old ++ (codes "{\"$code\":" ++ quoted code)) ++ codes ",\"$scope\":") ++ w.text) ++ 125 ∷ [] =
    last.0 ∙ ap (λ (x : List ℕ). x ++ 125 ∷ []) (w.written ∙ ap (λ (x : List ℕ). x ++ w.text) (two ∙ ap (λ (x : List ℕ). x ++ codes ",\"$scope\":") one)) in
    record {
      text = whole;
      is = subst P (sym is) (code_text format code fs w.text w.is);
      written = pieces ∙ shift (take end old) (codes "{\"$code\":" ++ quoted code) (codes ",\"$scope\":") w.text (125 ∷ []);
      inside = last.1;
    }
scope_done format code tree fs old m1 m2 m3 new end a1 a2 a3 (Err e) is one two w last = tt

-- ---- a whole document

no_err : (r : Result (Unit {0}) Fault) → result_err r ≡ None → r ≡ Ok tt
no_err (Ok tt) is = refl
no_err (Err f) is = absurd cc

-- bytes without a fault are a document
pub document_of : (bytes : List ℕ) → AreBytes bytes → (base : ℕ) × (fault_under All base bytes ≡ None) → (d : Doc) × IsDocumentBy (valued raw) d bytes
document_of bytes fits (base, is) = document_by_value raw (base + length bytes) bytes fits (no_err (skip_document All (base + length bytes) bytes) is)

-- the elements of a document that is all of the bytes
pub whole_elements : (d : Doc) (bytes : List ℕ) → IsDocumentBy (valued raw) d bytes → (e : HasElements (drop 4 bytes)) × (e.fields ≡ fields_of d)
whole_elements d bytes is =
    let body = is.spells.0 in
    (record { fields = fields_of d; body = body; after = []; spell = is.spells.1; splits = ap (drop 4) is.spells.2 ∙ number_after (length body + 5) (body ++ 0 ∷ []) }, refl)

pub text_is : {E : Type 0} (format : JsonFormat) (r : Result ℕ E) (bytes old new : List ℕ) (end : ℕ) (d : Doc) (is : IsDocumentBy (valued raw) d bytes)
    → IfOk r (λ to. AppendsText format (doc (whole_elements d bytes is).0.fields) old end to new) → IfOk r (λ to. (text : List ℕ) × IsTextOfBytes format bytes text × (take to new ≡ take end old ++ text))
unfolding whole_elements
text_is format (Ok to) bytes old new end d is w = (w.text, (d, is, w.is), w.written)
text_is format (Err e) bytes old new end d is w = tt

-- what ends the text is within the output
pub text_within : {E : Type 0} (format : JsonFormat) (r : Result ℕ E) (tree : Tree) (old new : List ℕ) (end : ℕ) → IfOk r (λ to. AppendsText format tree old end to new) → IfOk r (λ to. to ≤ length new)
text_within format (Ok to) tree old new end w = w.inside
text_within format (Err e) tree old new end w = tt
