use Rattle.std.proofs.Common.{◌≡◌, ◌<◌, ◌≤◌, ◌-◌, ◌+◌, ◌++◌, ℕ, List, Option, Some, None, option_and_then, [], ◌∷◌, length, option_map}
use Rattle.std.proofs.Common.{refl, sym, ap, ◌∙◌, rules, arith, append_assoc, append-nil, length-append}
use Rattle.std.specs.Prelude.{decimal}
use Rattle.json.specs.{Json.value, Json.parse_map, Json.after_end_array, Reads.token_of}
use Rattle.json.proofs.Grammar.{items_end, read_key-shorter}
use Rattle.bd_value.specs.Tree as trees
use Rattle.bd_value.specs.declared.node.Kind.TheVariants as kinds
use Rattle.bd_bson_view.specs.Spelling.{type_byte}
use Rattle.bd_value.specs.View.{tree_of, kind_of}
use Rattle.bd_extjson_wrapper.specs.WholeNumber.{whole_64}
use Rattle.bd_value.specs.Tree.{Tree, leaf, doc, array, field, fields_of, items_of}
use Rattle.bd_bson_view.specs.Spelling.{framed}
use Rattle.bd_bson_write.specs.TreeBytes.{fields_bytes, items_bytes}
use Rattle.bd_extjson_wrapper.specs.{Wrapper.wrapper_of, declared.wrapper.Wrapper.Wrapper, Wrapper.through, Wrapper.after_key}
use Rattle.bd_extjson.specs.Read.{bare_number, wrap, wrap_items, wrap_fields, wrap_object}
use Rattle.bd_extjson.proofs.ReadLemmas as steps
use Rattle.bd_extjson.proofs.ReadLemmas.{items_before, fields_before}
use Rattle.std.proofs.lemmas.Result.{err_from_is_err_and}
use Rattle.bd_bson_write.specs.TreeBytes.{bytes_of}
use Rattle.bd_extjson_pack.proofs.BodyLemmas as bodies
use Rattle.bd_extjson_pack.proofs.LengthLemmas as lengths
use Rattle.bd_extjson_pack.proofs.tokens.+tokens.Goals as goal

named_by : (key : Option (List ℕ)) (w : Wrapper) → option_and_then wrapper_of key ≡ Some w → (first : List ℕ) × (wrapper_of first ≡ Some w)
named_by None w e = absurd cc
named_by (Some k) w e = (k, e)

-- ---- append_fields

pub append_fields-loop-next-init : goal.append_fields-loop-next-init
append_fields-loop-next-init t c =
    let begun = c.in_ok-at.ensures.begun ∙ sym (append-nil _) in
    (length c.args.reader.now, [], omega arith, bodies.no_fields_before _, omega arith, begun)

pub append_fields-loop-next-preserved : goal.append_fields-loop-next-preserved
append_fields-loop-next-preserved t c =
    let l = c.loop-next in
    let n = l.invariant.0 in
    let ps = l.invariant.1 in
    let k = c.in-Some.name.now in
    let g = c.in_ok-kind.ensures.gives in
    let v = g.0 in
    let here : c.len-element.result ≡ length l.out.items = search rules in
    let put = bodies.element_put l.out.items c.append_label.new.out.items c.append_next.new.out.items c.end_element.new.out.items c.len-element.result c.in_ok-kind.kind (type_byte kinds.Null) k v
    here c.in_ok-append_label.ensures.ok.0 g.2 g.3 c.end_element.ensures in
    let r = c.append_next.new.reader in
    let s = c.next_key.new.self in
    let after = option_map (λ s. s.now) c.in_ok-next.next in
    let named = ap (λ k. through (wrap_fields c.args.depth_left) (after_key c.args.depth n (option_map (λ s. s.now) k) l.reader)) c.in-Some.is in
    let turn = steps.field_goes_on k c.args.depth_left c.args.depth n l.reader r v (sym c.if-has_zero.ensures) g.1 in
    let key = c.in_ok-next.ensures.value in
    let less = read_key-shorter r after s key in
    let lesser = c.in_ok-kind.ensures.shorter in
    let within : length r ≤ n = omega (arith, l.invariant.2, lesser) in
    let next = ap (through (wrap_fields c.args.depth_left)) (steps.next_name c.args.depth n r s after within key) in (
      n - 1,
      ps ++ (k, v) ∷ [],
      omega (arith, within, less),
      l.invariant.3 ∙ ap (parse_map (fields_before ps)) (named ∙ turn ∙ ap (parse_map (field k v)) next) ∙ steps.one_more_field ps k v _,
      omega (arith, l.invariant.4, less, lesser),
      rw (put, l.invariant.5, bodies.one_more_field ps k v) (simp append_assoc),
    )

pub append_fields-end_element-requires : goal.append_fields-end_element-requires
append_fields-end_element-requires t c =
    let g = c.in_ok-kind.ensures.gives in
    let here : c.len-element.result ≡ length c.loop-next.out.items = search rules in
    let inside = bodies.element_inside c.loop-next.out.items c.append_label.new.out.items c.append_next.new.out.items c.len-element.result (type_byte kinds.Null) c.in-Some.name.now g.0
    here c.in_ok-append_label.ensures.ok.0 g.3 in
    search rules

pub append_fields-end_body-requires : goal.append_fields-end_body-requires
append_fields-end_body-requires t c =
    let size = bodies.body_size c.in_ok-at.at c.args.out.now.items
    (fields_bytes (fields_of c.loop-next.invariant.1)) c.loop-next.out.items c.in_ok-at.ensures.offset c.loop-next.invariant.5 in
    search rules

pub append_fields-returns-clause-gives : goal.append_fields-returns-clause-gives
append_fields-returns-clause-gives t c =
    let l = c.loop-next in
    let ps = l.invariant.1 in
    let named = ap (λ k. through (wrap_fields c.args.depth_left) (after_key c.args.depth l.invariant.0 (option_map (λ s. s.now) k) l.reader)) c.in_default.is in
    let read = l.invariant.3 ∙ ap (parse_map (fields_before ps)) named ∙ ap (λ x. Some (x, l.reader)) (steps.fields_before-none ps) in
    let ended = bodies.ended framed c.in_ok-at.at c.args.out.now.items (fields_bytes (fields_of ps))
    l.out.items c.in_ok-at.ensures.offset l.invariant.5 in
    (fields_of ps, read, refl, c.in_ok-end_body.ensures.ok ∙ ended)

pub append_fields-returns-in_err-append_label-clause-gives : goal.append_fields-returns-in_err-append_label-clause-gives
append_fields-returns-in_err-append_label-clause-gives t c =
    let l = c.loop-next in
    let p = err_from_is_err_and c.from_residual-in_err-append_label.result c.from_residual-in_err-append_label.ensures.1 in
    rw (p.1, p.2) (lengths.overruns (length l.out.items) (λ b. length c.args.out.now.items + length (bytes_of (doc b.0))) c.in_err-append_label.field-0.0 _
    (λ b is. let within = lengths.fields_within l.invariant.1 c.args.out.now.items l.out.items _ b l.invariant.5 (sym l.invariant.3 ∙ is) in omega (arith, within))
    c.in_err-append_label.ensures.fault)

pub append_fields-returns-in_err-kind-clause-gives : goal.append_fields-returns-in_err-kind-clause-gives
append_fields-returns-in_err-kind-clause-gives t c =
    let l = c.loop-next in
    let ps = l.invariant.1 in
    let p = err_from_is_err_and c.from_residual-in_err-kind.result c.from_residual-in_err-kind.ensures.1 in
    let named = ap (λ k. parse_map (fields_before ps) (through (wrap_fields c.args.depth_left) (after_key c.args.depth l.invariant.0 (option_map (λ s. s.now) k) l.reader))) c.in-Some.is in
    rw (p.1, p.2) (lengths.not_written_by (λ a. length c.append_label.new.out.items + length (bytes_of a.0)) (λ b. length c.args.out.now.items + length (bytes_of (doc b.0)))
    c.in_err-kind.field-0.0 (through (wrap c.args.depth_left) (value c.args.depth l.reader)) _
    (λ b is. lengths.field_within c.in-Some.name.now c.args.depth_left c.args.depth l.invariant.0 (type_byte kinds.Null) l.reader ps c.args.out.now.items l.out.items
    c.append_label.new.out.items b l.invariant.5 c.in_ok-append_label.ensures.ok.0 (sym named ∙ sym l.invariant.3 ∙ is))
    c.in_err-kind.ensures.gives)

pub append_fields-returns-in_err-end_body-clause-gives : goal.append_fields-returns-in_err-end_body-clause-gives
append_fields-returns-in_err-end_body-clause-gives t c =
    let l = c.loop-next in
    let p = err_from_is_err_and c.from_residual-in_err-end_body.result c.from_residual-in_err-end_body.ensures.1 in
    rw (p.1, p.2) (lengths.overruns (length l.out.items + 1) (λ b. length c.args.out.now.items + length (bytes_of (doc b.0))) c.in_err-end_body.field-0.0 _
    (λ b is. lengths.fields_within l.invariant.1 c.args.out.now.items l.out.items _ b l.invariant.5 (sym l.invariant.3 ∙ is)) c.in_err-end_body.ensures.fault)

-- ---- append_items

pub append_items-overflow_add-index : goal.append_items-overflow_add-index
append_items-overflow_add-index t c =
    let l = c.loop-alloc in
    let few = lengths.items_fit l.invariant.1 c.args.out.now.items l.out.items l.invariant.5 in
    let short = c.in_ok-element.ensures.within in
    omega (arith, few, short, l.invariant.6)

pub append_items-returns-in_err-element-clause-gives : goal.append_items-returns-in_err-element-clause-gives
append_items-returns-in_err-element-clause-gives t c =
    let l = c.loop-alloc in
    let p = err_from_is_err_and c.from_residual-in_err-element.result c.from_residual-in_err-element.ensures.1 in
    rw (p.1, p.2) (lengths.overruns (length l.out.items) (λ b. length c.args.out.now.items + length (bytes_of (array b.0))) c.in_err-element.field-0.0 _
    (λ b is. let within = lengths.items_within l.invariant.1 c.args.out.now.items l.out.items _ b l.invariant.5 (sym l.invariant.3 ∙ is) in omega (arith, within))
    c.in_err-element.ensures.fault)

pub append_items-returns-in_err-kind-clause-gives : goal.append_items-returns-in_err-kind-clause-gives
append_items-returns-in_err-kind-clause-gives t c =
    let l = c.loop-alloc in
    let going : (after_end_array l.reader ≡ None) × (c.take_end_array.new.self ≡ l.reader) = grind arith in
    let p = err_from_is_err_and c.from_residual-in_err-kind.result c.from_residual-in_err-kind.ensures.1 in
    let begun = c.in_ok-element.ensures.ok in
    rw (p.1, p.2) (lengths.not_written_by (λ a. length c.begin_item.new.out.items + length (bytes_of a.0)) (λ b. length c.args.out.now.items + length (bytes_of (array b.0)))
    c.in_err-kind.field-0.0 (through (wrap c.args.depth_left) (value c.args.depth l.reader)) _
    (λ b is. lengths.item_within l.index c.args.depth_left c.args.depth l.invariant.0 begun.1.0 l.reader l.invariant.1 c.args.out.now.items l.out.items
    c.begin_item.new.out.items b l.invariant.6 l.invariant.5 begun.1.1 going.0 (sym l.invariant.3 ∙ is))
    (rw going.1 at c.in_err-kind.ensures.gives))

pub append_items-returns-in_err-end_body-clause-gives : goal.append_items-returns-in_err-end_body-clause-gives
append_items-returns-in_err-end_body-clause-gives t c =
    let l = c.loop-alloc in
    let p = err_from_is_err_and c.from_residual-in_err-end_body.result c.from_residual-in_err-end_body.ensures.1 in
    rw (p.1, p.2) (lengths.overruns (length l.out.items + 1) (λ b. length c.args.out.now.items + length (bytes_of (array b.0))) c.in_err-end_body.field-0.0 _
    (λ b is. lengths.items_within l.invariant.1 c.args.out.now.items l.out.items _ b l.invariant.5 (sym l.invariant.3 ∙ is)) c.in_err-end_body.ensures.fault)

pub append_items-loop-alloc-init : goal.append_items-loop-alloc-init
append_items-loop-alloc-init t c =
    let begun = c.in_ok-at.ensures.begun ∙ sym (append-nil _) in
    (length c.args.reader.now, [], omega arith, bodies.no_items_before _, omega arith, begun, refl)

pub append_items-loop-alloc-preserved : goal.append_items-loop-alloc-preserved
append_items-loop-alloc-preserved t c =
    let l = c.loop-alloc in
    let n = l.invariant.0 in
    let ts = l.invariant.1 in
    let going : (after_end_array l.reader ≡ None) × (c.take_end_array.new.self ≡ l.reader) = grind arith in
    let g = c.in_ok-kind.ensures.gives in
    let v = g.0 in
    let begun = c.in_ok-element.ensures.ok in
    let put = bodies.element_put l.out.items c.begin_item.new.out.items c.append_next.new.out.items c.end_element.new.out.items c.in_ok-element.element c.in_ok-kind.kind begun.1.0 (decimal l.index) v
    begun.0 begun.1.1 g.2 g.3 c.end_element.ensures in
    let r = c.append_next.new.reader in
    let less : length r < length l.reader = rw (← going.1) c.in_ok-kind.ensures.shorter in
    let turn = steps.items_go_on c.args.depth_left c.args.depth n l.reader r v (omega (arith, l.invariant.2, less)) going.0 (rw (← going.1) g.1) in (
      n - 1,
      ts ++ v ∷ [],
      omega (arith, l.invariant.2, less),
      l.invariant.3 ∙ ap (parse_map (items_before ts)) turn ∙ steps.one_more_item ts v _,
      omega (arith, l.invariant.4, less),
      rw (put, l.invariant.6, l.invariant.5, bodies.one_more_item ts v) (simp append_assoc),
      omega (arith, l.invariant.6, length-append ts (v ∷ [])),
    )

pub append_items-end_element-requires : goal.append_items-end_element-requires
append_items-end_element-requires t c =
    let begun = c.in_ok-element.ensures.ok in
    let g = c.in_ok-kind.ensures.gives in
    let inside = bodies.element_inside c.loop-alloc.out.items c.begin_item.new.out.items c.append_next.new.out.items c.in_ok-element.element begun.1.0 (decimal c.loop-alloc.index) g.0 begun.0 begun.1.1 g.3 in
    search rules

pub append_items-end_body-requires : goal.append_items-end_body-requires
append_items-end_body-requires t c =
    let size = bodies.body_size c.in_ok-at.at c.args.out.now.items
    (items_bytes 0 (items_of c.loop-alloc.invariant.1)) c.loop-alloc.out.items c.in_ok-at.ensures.offset c.loop-alloc.invariant.5 in
    search rules

pub append_items-returns-clause-gives : goal.append_items-returns-clause-gives
append_items-returns-clause-gives t c =
    let l = c.loop-alloc in
    let ts = l.invariant.1 in
    let r = c.take_end_array.new.self in
    let read = l.invariant.3 ∙ ap (λ x. parse_map (items_before ts) (through (wrap_items c.args.depth_left) x))
    (items_end (value c.args.depth) l.invariant.0 l.reader r l.invariant.2 (grind arith)) ∙ ap (λ x. Some (x, r)) (steps.items_before-none ts) in
    let ended = bodies.ended framed c.in_ok-at.at c.args.out.now.items (items_bytes 0 (items_of ts))
    l.out.items c.in_ok-at.ensures.offset l.invariant.5 in
    (items_of ts, read, refl, c.in_ok-end_body.ensures.ok ∙ ended)

-- ---- append_next

pub append_next-returns-in_ok-append_read-in-Number-clause-gives : goal.append_next-returns-in_ok-append_read-in-Number-clause-gives
append_next-returns-in_ok-append_read-in-Number-clause-gives t c =
    let first : c.args.reader.now ≡ token_of c.in_ok-token.token ∷ c.next.new.self = grind arith in
    let v = c.in_ok-ok_or-in-Number.field-0 in
    let is : bare_number (whole_64 c.in-Number.text.now) ≡ Some (tree_of v) = sym c.bare_number.ensures ∙ ap (option_map tree_of) c.in_ok-ok_or-in-Number.ensures.ok_part in
    let written = c.in_ok-append_read-in-Number.ensures.ok in
    rw (first, c.in-Number.is, steps.read_number c.args.depth_left c.args.depth c.in-Number.text.now c.next.new.self)
    (tree_of v, ap (option_map (λ (x : Tree). (x, c.next.new.self))) is, written.0, written.1)

pub append_next-returns-in_ok-append_leaf-in-String-clause-gives : goal.append_next-returns-in_ok-append_leaf-in-String-clause-gives
append_next-returns-in_ok-append_leaf-in-String-clause-gives t c =
    let first : c.args.reader.now ≡ token_of c.in_ok-token.token ∷ c.next.new.self = grind arith in
    let s = c.in-String.text.now in
    let written = c.in_ok-append_leaf-in-String.ensures.ok in
    (leaf (trees.text s), rw (first, c.in-String.is) (steps.read_string c.args.depth_left c.args.depth s c.next.new.self), written.0, written.1)

pub append_next-returns-in_ok-append_leaf-in-Bool-clause-gives : goal.append_next-returns-in_ok-append_leaf-in-Bool-clause-gives
append_next-returns-in_ok-append_leaf-in-Bool-clause-gives t c =
    let first : c.args.reader.now ≡ token_of c.in_ok-token.token ∷ c.next.new.self = grind arith in
    let b = c.in-Bool.b in
    let written = c.in_ok-append_leaf-in-Bool.ensures.ok in
    (leaf (trees.boolean b), rw (first, c.in-Bool.is) (steps.read_boolean c.args.depth_left c.args.depth b c.next.new.self), written.0, written.1)

pub append_next-returns-in-Null-clause-gives : goal.append_next-returns-in-Null-clause-gives
append_next-returns-in-Null-clause-gives t c =
    let first : c.args.reader.now ≡ token_of c.in_ok-token.token ∷ c.next.new.self = grind arith in
    (leaf trees.null, rw (first, c.in-Null.is) (steps.read_null c.args.depth_left c.args.depth c.next.new.self), refl, sym (append-nil _))

pub append_next-returns-in_err-append_read-in-Number-clause-gives : goal.append_next-returns-in_err-append_read-in-Number-clause-gives
append_next-returns-in_err-append_read-in-Number-clause-gives t c =
    let first : c.args.reader.now ≡ token_of c.in_ok-token.token ∷ c.next.new.self = grind arith in
    let v = c.in_ok-ok_or-in-Number.field-0 in
    let is : bare_number (whole_64 c.in-Number.text.now) ≡ Some (tree_of v) = sym c.bare_number.ensures ∙ ap (option_map tree_of) c.in_ok-ok_or-in-Number.ensures.ok_part in
    let p = err_from_is_err_and c.from_residual-in_err-append_read-in-Number.result c.from_residual-in_err-append_read-in-Number.ensures.1 in
    rw (p.1, p.2, first, c.in-Number.is, steps.read_number c.args.depth_left c.args.depth c.in-Number.text.now c.next.new.self)
    (lengths.value_overruns (tree_of v) c.next.new.self c.args.out.now.items c.in_err-append_read-in-Number.field-0.0 _
    (ap (option_map (λ (x : Tree). (x, c.next.new.self))) is) c.in_err-append_read-in-Number.ensures.fault)

pub append_next-returns-in_err-append_leaf-in-String-clause-gives : goal.append_next-returns-in_err-append_leaf-in-String-clause-gives
append_next-returns-in_err-append_leaf-in-String-clause-gives t c =
    let first : c.args.reader.now ≡ token_of c.in_ok-token.token ∷ c.next.new.self = grind arith in
    let s = c.in-String.text.now in
    let p = err_from_is_err_and c.from_residual-in_err-append_leaf-in-String.result c.from_residual-in_err-append_leaf-in-String.ensures.1 in
    rw (p.1, p.2) (lengths.value_overruns (leaf (trees.text s)) c.next.new.self c.args.out.now.items c.in_err-append_leaf-in-String.field-0.0 _
    (rw (first, c.in-String.is) (steps.read_string c.args.depth_left c.args.depth s c.next.new.self)) c.in_err-append_leaf-in-String.ensures.fault)

pub append_next-returns-in_err-append_leaf-in-Bool-clause-gives : goal.append_next-returns-in_err-append_leaf-in-Bool-clause-gives
append_next-returns-in_err-append_leaf-in-Bool-clause-gives t c =
    let first : c.args.reader.now ≡ token_of c.in_ok-token.token ∷ c.next.new.self = grind arith in
    let b = c.in-Bool.b in
    let p = err_from_is_err_and c.from_residual-in_err-append_leaf-in-Bool.result c.from_residual-in_err-append_leaf-in-Bool.ensures.1 in
    rw (p.1, p.2) (lengths.value_overruns (leaf (trees.boolean b)) c.next.new.self c.args.out.now.items c.in_err-append_leaf-in-Bool.field-0.0 _
    (rw (first, c.in-Bool.is) (steps.read_boolean c.args.depth_left c.args.depth b c.next.new.self)) c.in_err-append_leaf-in-Bool.ensures.fault)

pub append_next-returns-else-depth_left-eq0-clause-gives : goal.append_next-returns-else-depth_left-eq0-clause-gives
append_next-returns-else-depth_left-eq0-clause-gives t c =
    let first : c.args.reader.now ≡ token_of c.in_ok-token.token ∷ c.next.new.self = grind arith in
    rw (first, c.in-BeginArray.is) (bodies.if_read array (λ _. kinds.Array) kind_of (λ ts. bytes_of (array ts)) bytes_of c.args.out.now.items _ _ c.append_items.result _ _
    (steps.array_read c.args.depth_left c.args.depth c.next.new.self (omega arith) (omega arith)) (λ ts. refl) (λ ts. refl) c.append_items.ensures.gives)

-- ---- append_object

pub append_object-append_wrapper-requires : goal.append_object-append_wrapper-requires
append_object-append_wrapper-requires t c = named_by (option_map (λ s. s.now) c.in_ok-first.first) c.in-Some.wrapper (sym (steps.wrapper_is _ _ c.and_then.ensures) ∙ c.in-Some.is)

pub append_object-returns-in-Some-clause-gives : goal.append_object-returns-in-Some-clause-gives
append_object-returns-in-Some-clause-gives t c =
    let start = steps.first_name c.args.depth c.args.reader.now c.next_key.new.self _ c.in_ok-first.ensures.value in
    rw start (bodies.if_wrapper _ _ _ _ c.append_wrapper.result c.in-Some.wrapper c.args.depth_left c.args.depth _ _ _
    (sym (steps.wrapper_is _ _ c.and_then.ensures) ∙ c.in-Some.is) c.append_wrapper.ensures.gives)

pub append_object-returns-then-depth_left-eq0-clause-gives : goal.append_object-returns-then-depth_left-eq0-clause-gives
append_object-returns-then-depth_left-eq0-clause-gives t c =
    let key = option_map (λ s. s.now) c.in_ok-first.first in
    let start = ap (through (wrap_object c.args.depth_left)) (steps.first_name c.args.depth c.args.reader.now c.next_key.new.self key c.in_ok-first.ensures.value) in
    start ∙ steps.object_refused c.args.depth_left c.args.depth _ c.next_key.new.self key (omega arith) (sym (steps.wrapper_is _ _ c.and_then.ensures) ∙ c.in_default.is)

pub append_object-returns-clause-gives : goal.append_object-returns-clause-gives
append_object-returns-clause-gives t c =
    let start = steps.first_name c.args.depth c.args.reader.now c.next_key.new.self _ c.in_ok-first.ensures.value in
    let plain = steps.object_is_plain c.args.depth_left c.args.depth (length c.next_key.new.self) c.next_key.new.self _ (omega arith) (sym (steps.wrapper_is _ _ c.and_then.ensures) ∙ c.in_default.is) in
    rw start (bodies.if_read doc (λ _. kinds.Doc) kind_of (λ fs. bytes_of (doc fs)) bytes_of c.args.out.now.items _ _ c.append_fields.result _ _ plain (λ fs. refl) (λ fs. refl) c.append_fields.ensures.gives)
