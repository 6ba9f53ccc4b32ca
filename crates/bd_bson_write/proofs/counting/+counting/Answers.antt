use Rattle.std.proofs.Common.{rules, arith, ◌≡◌, ◌+◌, ◌++◌, [], ℕ, suc, length, sym, ap, ◌∙◌, length-append, decimal}
use Rattle.bd_value.specs.Tree.{doc, fields_of, items_of, values_of}
use Rattle.bd_value.proofs.PartsLemmas as parted
use Rattle.bd_bson_view.proofs.ValueAtLemmas.{framed_length, scoped_length}
use Rattle.bd_bson_view.specs.Spelling.{element, string}
use Rattle.bd_bson_write.specs.TreeBytes.{bytes_of, fields_bytes, items_bytes}
use Rattle.bd_bson_write.proofs.WritingLemmas.{code_parts, element_size}
use Rattle.bd_bson_write.proofs.CountingLemmas as counts
use Rattle.bd_bson_write.proofs.counting.+counting.Goals as goal

pub remaining_after-after_fields-requires : goal.remaining_after-after_fields-requires
remaining_after-after_fields-requires g t c κs within =
    let s = parted.parts_smaller (g.N.Reading.tree c.args.node) (g.N.Reading.remaining c.parts.result) c.parts.ensures.parts in
    let e = c.decreases in
    (omega arith, within)

pub remaining_after-after_items-requires : goal.remaining_after-after_items-requires
remaining_after-after_items-requires g t c κs within =
    let s = parted.parts_smaller (g.N.Reading.tree c.args.node) (g.N.Reading.remaining c.parts-in-Array.result) c.parts-in-Array.ensures.parts in
    let e = c.decreases in
    (omega arith, within)

pub remaining_after-returns-in-Doc : goal.remaining_after-returns-in-Doc
remaining_after-returns-in-Doc g t c =
    let is = parted.doc_is (g.N.Reading.tree c.args.node) (g.N.Reading.remaining c.parts.result) (sym c.kind.ensures ∙ c.in-Doc.is) c.parts.ensures.parts in
    rw is c.after_fields.ensures

pub remaining_after-returns-in-Array : goal.remaining_after-returns-in-Array
remaining_after-returns-in-Array g t c =
    let is = parted.array_is (g.N.Reading.tree c.args.node) (g.N.Reading.remaining c.parts-in-Array.result) (sym c.kind.ensures ∙ c.in-Array.is) c.parts-in-Array.ensures.parts in
    rw is c.after_items.ensures

pub after_fields-returns-in_err-remaining : goal.after_fields-returns-in_err-remaining
after_fields-returns-in_err-remaining g t c = rw c.from_residual.ensures (omega (arith, c.in_err-remaining.ensures, framed_length (fields_bytes (fields_of (g.N.Reading.remaining c.args.fields)))))

pub after_fields-loop-next-preserved : goal.after_fields-loop-next-preserved
after_fields-loop-next-preserved g t c =
    let l = c.loop-next in
    let some = c.in-Some.ensures.some in
    let whole = rw some at l.invariant.whole in
    let less = rw some at l.invariant.fewer in
    let piece = element (g.N.Reading.tree c.in-Some.next.1) c.in-Some.next.0.now (bytes_of (g.N.Reading.tree c.in-Some.next.1)) in
    let size = length-append piece (fields_bytes (fields_of (g.N.Reading.remaining c.in-Some.next.2))) in
    record { whole = omega (arith, whole, size, c.in_ok-remaining-2.ensures); fewer = omega (arith, less) }

pub after_fields-returns-in_err-remaining-2 : goal.after_fields-returns-in_err-remaining-2
after_fields-returns-in_err-remaining-2 g t c =
    let whole = rw c.in-Some.ensures.some at c.loop-next.invariant.whole in
    let piece = element (g.N.Reading.tree c.in-Some.next.1) c.in-Some.next.0.now (bytes_of (g.N.Reading.tree c.in-Some.next.1)) in
    let size = length-append piece (fields_bytes (fields_of (g.N.Reading.remaining c.in-Some.next.2))) in
    rw c.from_residual-in_err-remaining-2.ensures (omega (arith, whole, size, c.in_err-remaining-2.ensures))

pub after_fields-returns : goal.after_fields-returns
after_fields-returns g t c =
    let none : g.N.Reading.remaining c.loop-next.rest ≡ [] = search rules in
    let whole = rw none at c.loop-next.invariant.whole in
    omega (arith, whole)

pub after_items-returns-in_err-remaining : goal.after_items-returns-in_err-remaining
after_items-returns-in_err-remaining g t c = rw c.from_residual.ensures (omega (arith, c.in_err-remaining.ensures, framed_length (items_bytes 0 (items_of (values_of (g.N.Reading.remaining c.args.items))))))

pub after_items-loop-next-preserved : goal.after_items-loop-next-preserved
after_items-loop-next-preserved g t c =
    let l = c.loop-next in
    let some = c.in-Some.ensures.some in
    let name : c.format.result.now ≡ decimal l.index = c.format.ensures.text in
    let whole = rw some at l.invariant.whole in
    let less = rw some at l.invariant.fewer in
    let after = items_of (values_of (g.N.Reading.remaining c.in-Some.next.2)) in
    let piece = element (g.N.Reading.tree c.in-Some.next.1) (decimal l.index) (bytes_of (g.N.Reading.tree c.in-Some.next.1)) in
    let size = length-append piece (items_bytes (suc l.index) after) in
    let one = element_size (g.N.Reading.tree c.in-Some.next.1) (decimal l.index) (bytes_of (g.N.Reading.tree c.in-Some.next.1)) in
    let next : l.index + 1 ≡ suc l.index = omega arith in
    let later = ap (λ (n : ℕ). length (items_bytes n after)) next in
    let remaining = rw name at c.in_ok-remaining-2.ensures in
    record { whole = omega (arith, whole, size, later, remaining); fewer = omega (arith, less); few = omega (arith, l.invariant.few, one, remaining) }

pub after_items-returns-in_err-remaining-2 : goal.after_items-returns-in_err-remaining-2
after_items-returns-in_err-remaining-2 g t c =
    let l = c.loop-next in
    let name : c.format.result.now ≡ decimal l.index = c.format.ensures.text in
    let whole = rw c.in-Some.ensures.some at l.invariant.whole in
    let piece = element (g.N.Reading.tree c.in-Some.next.1) (decimal l.index) (bytes_of (g.N.Reading.tree c.in-Some.next.1)) in
    let size = length-append piece (items_bytes (suc l.index) (items_of (values_of (g.N.Reading.remaining c.in-Some.next.2)))) in
    rw c.from_residual-in_err-remaining-2.ensures (omega (arith, whole, size, rw name at c.in_err-remaining-2.ensures))

pub after_items-returns : goal.after_items-returns
after_items-returns g t c =
    let none : g.N.Reading.remaining c.loop-next.rest ≡ [] = search rules in
    let whole = rw none at c.loop-next.invariant.whole in
    omega (arith, whole)

pub after_leaf-returns-in_err-after_bytes : goal.after_leaf-returns-in_err-after_bytes
after_leaf-returns-in_err-after_bytes g t c =
    let code = code_parts (g.N.Reading.tree c.args.node) _ _ (sym c.in-Some.ensures) (sym c.in-Some-scope.ensures.scope) in
    rw (c.from_residual.ensures, code.2) (omega (arith, c.in_err-after_bytes.ensures, scoped_length code.0 (bytes_of (doc code.1))))

pub after_leaf-returns-in_err-after_scalar : goal.after_leaf-returns-in_err-after_scalar
after_leaf-returns-in_err-after_scalar g t c =
    let code = code_parts (g.N.Reading.tree c.args.node) _ _ (sym c.in-Some.ensures) (sym c.in-Some-scope.ensures.scope) in
    let scope = bytes_of (doc code.1) in
    let first = rw code.3 at c.in_err-after_scalar.ensures in
    rw (c.from_residual-in_err-after_scalar.ensures, code.2) (omega (arith, first, c.in_ok-after_bytes.ensures, scoped_length code.0 scope, length-append (string code.0) scope))

pub after_leaf-returns : goal.after_leaf-returns
after_leaf-returns g t c =
    let code = code_parts (g.N.Reading.tree c.args.node) _ _ (sym c.in-Some.ensures) (sym c.in-Some-scope.ensures.scope) in
    let scope = bytes_of (doc code.1) in
    let first = rw code.3 at c.in_ok-after_scalar.ensures in
    let total = scoped_length code.0 scope in
    let more = length-append (string code.0) scope in
    rw code.2 (counts.remainder_then c.args.limit (4 + length (string code.0)) (length scope) _ _ c.remaining_after.result
    (omega (arith, c.in_ok-after_bytes.ensures, first)) (rw code.4 at c.remaining_after.ensures) (omega (arith, total, more)))

pub after_fields-loop-next-init : goal.after_fields-loop-next-init
after_fields-loop-next-init g t c = record {
  whole = omega (arith, c.in_ok-remaining.ensures, framed_length (fields_bytes (fields_of (g.N.Reading.remaining c.args.fields))));
  fewer = omega arith;
}

pub after_items-loop-next-init : goal.after_items-loop-next-init
after_items-loop-next-init g t c = record {
  whole = omega (arith, c.in_ok-remaining.ensures, framed_length (items_bytes 0 (items_of (values_of (g.N.Reading.remaining c.args.items)))));
  fewer = omega arith;
  few = omega (arith, c.in_ok-remaining.ensures);
}
