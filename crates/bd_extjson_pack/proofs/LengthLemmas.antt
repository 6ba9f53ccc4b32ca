-- Why nothing is written: what was written is among the bytes of the whole, which is then too long.
use Rattle.std.proofs.Common.{◌≡◌, ◌≤◌, ◌+◌, ℕ, zero, suc, List, [], ◌∷◌, ◌++◌, length, Bool, true, false, Option, Some, None, Result, Ok, Err, IfErr, option_map, option_and_then, refl, sym, ap, ◌∙◌, arith}
use Rattle.std.proofs.Common.{append_assoc, length-append}
use Rattle.std.specs.Prelude.{decimal, if◌then◌else◌}
use Rattle.json.specs.{Token.Token, Json.Json, Json.parse_map, Json.value, Json.items, Json.members, Json.after_end_array}
use Rattle.json.specs.Json as json
use Rattle.bd_value.specs.Tree.{Tree, Items, item, Fields, field, Doc, fields_of, items_of, doc, array}
use Rattle.bd_value.specs.{Fits.has_zero}
use Rattle.bd_bson_view.specs.Spelling.{number, element}
use Rattle.bd_bson_view.proofs.ValueAtLemmas.{framed_length}
use Rattle.bd_bson_write.specs.TreeBytes.{OverrunsLimit, bytes_of, fields_bytes, items_bytes}
use Rattle.bd_bson_write.specs.declared.writing.WriteFault.{WriteFault}
use Rattle.bd_bson_write.specs.declared.writing.WriteFault.TheVariants as faults
use Rattle.bd_bson_view.specs.Unique.{number_length}
use Rattle.bd_extjson_wrapper.specs.{Wrapper.through, Wrapper.after_key}
use Rattle.bd_extjson.specs.Read.{wrap, wrap_items, wrap_fields, add_field}
use Rattle.bd_extjson_pack.specs.Packable.{plain}
use Rattle.bd_extjson.proofs.ReadLemmas.{items_before, fields_before, items_refused, items_go_on}
use Rattle.bd_extjson_pack.specs.inside.Writes.{NotWritten}
use Rattle.bd_extjson_pack.specs.declared.refusal.Refusal.{Refusal}
use Rattle.bd_extjson_pack.specs.declared.refusal.Refusal.TheVariants as refusals

-- ---- a part and the whole

-- more bytes overrun the limit too
overruns_more : (n m : ℕ) (fault : WriteFault) → n ≤ m → OverrunsLimit n fault → OverrunsLimit m fault
overruns_more n m faults.TooDeep le o = absurd o
overruns_more n m faults.NulInName le o = absurd o
overruns_more n m faults.TooLong le o = omega arith
overruns_more n m faults.NoMemory le o = _

-- a body that was begun, after its length
begun_size : (old body out : List ℕ) → out ≡ (old ++ number 0) ++ body → length out ≡ length old + (4 + length body)
begun_size old body out is = omega (arith, ap (λ xs. length xs) is, length-append (old ++ number 0) body, length-append old (number 0), number_length 0)

-- what is not written of a part is not of the whole, if that is only read where the part is, and is as long
pub not_written_by : {A B : Type 0} (part : A → ℕ) (total : B → ℕ) (e : Refusal) (x : Option A) (y : Option B)
    → ((b : B) → y ≡ Some b → (a : A) × (x ≡ Some a) × (part a ≤ total b)) → NotWritten part e x → NotWritten total e y
not_written_by part total refusals.Unread x None f h = refl
not_written_by part total refusals.Unread x (Some b) f h =
    let p = f b refl in
    let none : None ≡ Some p.0 = sym h ∙ p.1 in
    absurd cc
not_written_by part total (refusals.Unwritten fault) x y f h = λ b is. let p = f b is in overruns_more (part p.0) (total b) fault p.2 (h p.0 p.1)

-- bytes that overrun the limit are among those of the whole
pub overruns : {B : Type 0} (n : ℕ) (total : B → ℕ) (fault : WriteFault) (y : Option B) → ((b : B) → y ≡ Some b → n ≤ total b) → OverrunsLimit n fault
    → NotWritten total (refusals.Unwritten fault) y
overruns n total fault y f h = λ b is. overruns_more n (total b) fault (f b is) h

-- the bytes of the one value that is read overrun the limit
pub value_overruns : (t : Tree) (rest : List Token) (old : List ℕ) (fault : WriteFault) (read : Option (Tree × List Token)) → read ≡ Some (t, rest)
    → OverrunsLimit (length old + length (bytes_of t)) fault → NotWritten (λ p. length old + length (bytes_of p.0)) (refusals.Unwritten fault) read
value_overruns t rest old fault read is o = λ b some.
    let same : (t, rest) ≡ b = cc in
    overruns_more (length old + length (bytes_of t)) (length old + length (bytes_of b.0)) fault (omega (arith, ap (λ q. length (bytes_of q.0)) same)) o

-- what is made of what is read
pub made_of : {A B : Type 0} (make : A → B) (r : Option (A × List Token)) (b : B × List Token) → parse_map make r ≡ Some b
    → (a : A × List Token) × (r ≡ Some a) × (b.0 ≡ make a.0)
made_of make None b e = absurd cc
made_of make (Some a) b e =
    let same : (make a.0, a.1) ≡ b = cc in
    (a, refl, ap (λ p. p.0) (sym same))

-- ---- documents

fields_parts : (ps : Doc) (rest : Fields) → fields_bytes (fields_before ps rest) ≡ fields_bytes (fields_of ps) ++ fields_bytes rest
fields_parts [] rest = refl
fields_parts (p ∷ ps) rest =
    let one = element p.1 p.0 (bytes_of p.1) in
    ap (λ x. one ++ x) (fields_parts ps rest) ∙ sym (append_assoc one (fields_bytes (fields_of ps)) (fields_bytes rest))

-- the fields that were written, and a byte more, are within the document
pub fields_within : (ps : Doc) (old out : List ℕ) (r : Option (Fields × List Token)) (b : Fields × List Token) → out ≡ (old ++ number 0) ++ fields_bytes (fields_of ps)
    → parse_map (fields_before ps) r ≡ Some b → length out + 1 ≤ length old + length (bytes_of (doc b.0))
fields_within ps old out r b is read =
    let p = made_of (fields_before ps) r b read in
    let parts = ap (λ fs. fields_bytes fs) p.2 ∙ fields_parts ps p.0.0 in
    let whole : length (bytes_of (doc b.0)) ≡ length (fields_bytes b.0) + 5 = framed_length (fields_bytes b.0) in
    omega (arith, whole, begun_size old (fields_bytes (fields_of ps)) out is, ap (λ xs. length xs) parts, length-append (fields_bytes (fields_of ps)) (fields_bytes p.0.0))

-- the value after a name, where fields are read
a_field : (k : List ℕ) (depth_left depth n : ℕ) (ts : List Token) (x : Fields × List Token) → through (wrap_fields depth_left) (after_key depth n (Some k) ts) ≡ Some x
    → (a : Tree × List Token) × (fs : Fields) × (through (wrap depth_left) (value depth ts) ≡ Some a) × (x.0 ≡ field k a.0 fs)
a_field k depth_left depth n ts x = turn (value depth ts)
  where
    zeros : (z : Bool) (j : Tree) (r q : List Token) (fs : Fields) → option_map {U = Fields × List Token} (λ f. (f, q)) (if z then None else Some (field k j fs)) ≡ Some x
        → (a : Tree × List Token) × (gs : Fields) × (Some (j, r) ≡ Some a) × (x.0 ≡ field k a.0 gs)
    zeros true j r q fs e = absurd cc
    zeros false j r q fs e =
        let same : (field k j fs, q) ≡ x = cc in
        ((j, r), fs, refl, ap (λ p. p.0) (sym same))

    parts : (o : Option Tree) (r q : List Token) (s : Option Fields) → option_map {U = Fields × List Token} (λ f. (f, q)) (add_field k o s) ≡ Some x
        → (a : Tree × List Token) × (fs : Fields) × (option_map {U = Tree × List Token} (λ t. (t, r)) o ≡ Some a) × (x.0 ≡ field k a.0 fs)
    parts (Some t) r q (Some fs) e = zeros (has_zero k) t r q fs e
    parts (Some t) r q None e = absurd cc
    parts None r q s e = absurd cc

    more : (j : Json) (r : List Token) (m : Option (json.Members × List Token)) → through (wrap_fields depth_left) (parse_map (json.member k j) m) ≡ Some x
        → (a : Tree × List Token) × (fs : Fields) × (through (wrap depth_left) (Some (j, r)) ≡ Some a) × (x.0 ≡ field k a.0 fs)
    more j r None e = absurd cc
    more j r (Some q) e = parts (wrap depth_left j) r q.1 (wrap_fields depth_left q.0) e

    turn : (v : Option (Json × List Token)) → through (wrap_fields depth_left) (option_and_then (λ p. parse_map (json.member k p.0) (members (value depth) n p.1)) v) ≡ Some x
        → (a : Tree × List Token) × (fs : Fields) × (through (wrap depth_left) v ≡ Some a) × (x.0 ≡ field k a.0 fs)
    turn None e = absurd cc
    turn (Some p) e = more p.0 p.1 (members (value depth) n p.1) e

-- the next value is read where the document is, and is within it
pub field_within : (k : List ℕ) (depth_left depth n first : ℕ) (ts : List Token) (ps : Doc) (old out labelled : List ℕ) (b : Fields × List Token)
    → out ≡ (old ++ number 0) ++ fields_bytes (fields_of ps) → labelled ≡ out ++ (first ∷ (k ++ 0 ∷ []))
    → parse_map (fields_before ps) (through (wrap_fields depth_left) (after_key depth n (Some k) ts)) ≡ Some b
    → (a : Tree × List Token) × (through (wrap depth_left) (value depth ts) ≡ Some a) × (length labelled + length (bytes_of a.0) ≤ length old + length (bytes_of (doc b.0)))
field_within k depth_left depth n first ts ps old out labelled b is label read =
    let p = made_of (fields_before ps) (through (wrap_fields depth_left) (after_key depth n (Some k) ts)) b read in
    let one = a_field k depth_left depth n ts p.0 p.1 in
    let v = bytes_of one.0.0 in
    let written = fields_bytes (fields_of ps) in
    let piece = element one.0.0 k v in
    let parts = ap (λ fs. fields_bytes fs) p.2 ∙ fields_parts ps p.0.0 ∙ ap (λ fs. written ++ fields_bytes fs) one.3 in
    let whole : length (bytes_of (doc b.0)) ≡ length (fields_bytes b.0) + 5 = framed_length (fields_bytes b.0) in
    let all : length (fields_bytes b.0) ≡ length (written ++ (piece ++ fields_bytes one.1)) = ap (λ xs. length xs) parts in
    let size : length piece ≡ length k + 2 + length v = omega (arith, length-append k (0 ∷ v)) in
    let before : length labelled ≡ length out + length k + 2 = omega (arith, ap (λ xs. length xs) label, length-append out (first ∷ (k ++ 0 ∷ [])), length-append k (0 ∷ [])) in
    (one.0, one.2, omega (arith, whole, all, size, before, begun_size old written out is, length-append written (piece ++ fields_bytes one.1), length-append piece (fields_bytes one.1)))

-- ---- arrays

items_parts : (index : ℕ) (ts : List Tree) (rest : Items) → items_bytes index (items_before ts rest) ≡ items_bytes index (items_of ts) ++ items_bytes (index + length ts) rest
items_parts index [] rest =
    let here : index ≡ index + 0 = omega arith in
    ap (λ n. items_bytes n rest) here
items_parts index (t ∷ ts) rest =
    let one = element t (decimal index) (bytes_of t) in
    let next : suc index + length ts ≡ index + suc (length ts) = omega arith in
    ap (λ x. one ++ x) (items_parts (suc index) ts rest ∙ ap (λ n. items_bytes (suc index) (items_of ts) ++ items_bytes n rest) next)
    ∙ sym (append_assoc one (items_bytes (suc index) (items_of ts)) (items_bytes (index + suc (length ts)) rest))

many_items : (index : ℕ) (ts : List Tree) → length ts ≤ length (items_bytes index (items_of ts))
many_items index [] = omega arith
many_items index (t ∷ ts) =
    let one = element t (decimal index) (bytes_of t) in
    omega (arith, many_items (suc index) ts, length-append one (items_bytes (suc index) (items_of ts)))

-- there are no more elements than bytes
pub items_fit : (ts : List Tree) (old out : List ℕ) → out ≡ (old ++ number 0) ++ items_bytes 0 (items_of ts) → length ts ≤ length out
items_fit ts old out is = omega (arith, many_items 0 ts, begun_size old (items_bytes 0 (items_of ts)) out is)

-- the elements that were written, and a byte more, are within the array
pub items_within : (ts : List Tree) (old out : List ℕ) (r : Option (Items × List Token)) (b : Items × List Token) → out ≡ (old ++ number 0) ++ items_bytes 0 (items_of ts)
    → parse_map (items_before ts) r ≡ Some b → length out + 1 ≤ length old + length (bytes_of (array b.0))
items_within ts old out r b is read =
    let p = made_of (items_before ts) r b read in
    let parts = ap (λ xs. items_bytes 0 xs) p.2 ∙ items_parts 0 ts p.0.0 in
    let whole : length (bytes_of (array b.0)) ≡ length (items_bytes 0 b.0) + 5 = framed_length (items_bytes 0 b.0) in
    omega (arith, whole, begun_size old (items_bytes 0 (items_of ts)) out is, ap (λ xs. length xs) parts, length-append (items_bytes 0 (items_of ts)) (items_bytes (0 + length ts) p.0.0))

-- the next element, where elements are read
an_item : (depth_left depth n : ℕ) (ts : List Token) (x : Items × List Token) → after_end_array ts ≡ None → through (wrap_items depth_left) (items (value depth) n ts) ≡ Some x
    → (a : Tree × List Token) × (rest : Items) × (through (wrap depth_left) (value depth ts) ≡ Some a) × (x.0 ≡ item a.0 rest)
unfolding items
an_item depth_left depth zero ts x going e = absurd cc
an_item depth_left depth (suc n) ts x going e = turn (through (wrap depth_left) (value depth ts)) refl
  where
    turn : (o : Option (Tree × List Token)) → through (wrap depth_left) (value depth ts) ≡ o
        → (a : Tree × List Token) × (rest : Items) × (o ≡ Some a) × (x.0 ≡ item a.0 rest)
    turn None is =
        let none = sym (items_refused depth_left depth (suc n) ts going is) ∙ e in
        absurd cc
    turn (Some a) is =
        let go = items_go_on depth_left depth (suc n) ts a.1 a.0 (omega arith) going is in
        let p = made_of (item a.0) _ x (sym go ∙ e) in
        (a, p.0.0, refl, p.2)

-- the next element is read where the array is, and is within it
pub item_within : (index depth_left depth n first : ℕ) (ts : List Token) (vs : List Tree) (old out labelled : List ℕ) (b : Items × List Token) → index ≡ length vs
    → out ≡ (old ++ number 0) ++ items_bytes 0 (items_of vs) → labelled ≡ out ++ (first ∷ (decimal index ++ 0 ∷ [])) → after_end_array ts ≡ None
    → parse_map (items_before vs) (through (wrap_items depth_left) (items (value depth) n ts)) ≡ Some b
    → (a : Tree × List Token) × (through (wrap depth_left) (value depth ts) ≡ Some a) × (length labelled + length (bytes_of a.0) ≤ length old + length (bytes_of (array b.0)))
item_within index depth_left depth n first ts vs old out labelled b here is label going read =
    let p = made_of (items_before vs) (through (wrap_items depth_left) (items (value depth) n ts)) b read in
    let one = an_item depth_left depth n ts p.0 going p.1 in
    let v = bytes_of one.0.0 in
    let k = decimal index in
    let written = items_bytes 0 (items_of vs) in
    let piece = element one.0.0 k v in
    let same : 0 + length vs ≡ index = omega (arith, here) in
    let parts = ap (λ xs. items_bytes 0 xs) p.2 ∙ items_parts 0 vs p.0.0 ∙ ap (λ xs. written ++ items_bytes (0 + length vs) xs) one.3 ∙ ap (λ m. written ++ items_bytes m (item one.0.0 one.1)) same in
    let whole : length (bytes_of (array b.0)) ≡ length (items_bytes 0 b.0) + 5 = framed_length (items_bytes 0 b.0) in
    let more = items_bytes (suc index) one.1 in
    let all : length (items_bytes 0 b.0) ≡ length (written ++ (piece ++ more)) = ap (λ xs. length xs) parts in
    let size : length piece ≡ length k + 2 + length v = omega (arith, length-append k (0 ∷ v)) in
    let before : length labelled ≡ length out + length k + 2 = omega (arith, ap (λ xs. length xs) label, length-append out (first ∷ (k ++ 0 ∷ [])), length-append k (0 ∷ [])) in
    (one.0, one.2, omega (arith, whole, all, size, before, begun_size old written out is, length-append written (piece ++ more), length-append piece more))

-- ---- a whole line

-- what is not written after no bytes
pub after_none : {X : Type 0} (out : List ℕ) (read : Option Doc) (result : Result X Refusal) → out ≡ []
    → IfErr result (λ e. NotWritten (λ d. length out + length (plain d)) e read) → IfErr result (λ e. NotWritten (λ d. length (plain d)) e read)
after_none out read (Ok u) empty h = _
after_none out read (Err e) empty h =
    let none : length out ≡ 0 = ap (λ xs. length xs) empty in
    not_written_by (λ d. length out + length (plain d)) (λ d. length (plain d)) e read read (λ d is. (d, is, omega (arith, none))) h
