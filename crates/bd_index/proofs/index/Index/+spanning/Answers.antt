use Rattle.std.proofs.Common.{◌≡◌, ◌≤◌, length, arith}
use Rattle.std.proofs.lemmas.List.Elements.{All-append}
use Rattle.bd_index_bounds.specs.BoundsView.{keys_between}
use Rattle.bd_index.proofs.EntryLemmas.{count_stored}
use Rattle.bd_index.proofs.PlacesLemmas.{covers_one, gaps_on, gaps_whole, keys_within-Range, order_within, union_on, union_whole}
use Rattle.bd_index.proofs.index.Index.+spanning.Goals as goal

pub spans_within-returns-in_ok-vec-in-Range : goal.spans_within-returns-in_ok-vec-in-Range
spans_within-returns-in_ok-vec-in-Range t c h =
    let n = count_stored c.args.dump.now c.args.self.now h in
    let e = c.span_between.ensures.bound in
    rw (c.in-Range.is, keys_within-Range c.in-Range.from c.in-Range.to)
    (covers_one h.keeps.entries (keys_between c.in-Range.from c.in-Range.to) _ c.span_between.result
    c.in_ok-vec-in-Range.ensures.items c.span_between.ensures.order (omega arith) (c.span_between.ensures.keys h))

pub spans_of_any-in_order-requires : goal.spans_of_any-in_order-requires
spans_of_any-in_order-requires t c = λ k d lt. let below = c.loop-part.invariant.below k d lt in let e = c.len.ensures in omega arith

pub spans_of_any-loop-part-preserved : goal.spans_of_any-loop-part-preserved
spans_of_any-loop-part-preserved t c =
    let n = count_stored c.args.dump.now c.args.self.now c.requires in
    let cover = c.in_ok-spans.ensures c.requires in
    let added = rw c.deref.ensures.value at c.in_ok-extend_from_slice.ensures.items in
    record {
      below = rw added (All-append (λ s. s.to ≤ length c.args.self.now.entries.items) c.loop-part.all.items c.in_ok-spans.spans.items c.loop-part.invariant.below
          (λ k d lt. let b = (order_within 0 (length c.requires.keeps.entries) c.in_ok-spans.spans.items cover.order k d lt).1 in omega arith));
      so_far = λ h. union_on h.keeps.entries c.loop-part.all.items c.extend_from_slice.new.self.items c.in_ok-spans.spans.items c.args.parts.now
          c.loop-part.part-index c.part-item.result c.loop-part-test.true c.part-item.is added (c.in_ok-spans.ensures h) (c.loop-part.invariant.so_far h);
    }

pub spans_of_any-returns : goal.spans_of_any-returns
spans_of_any-returns t c h =
    union_whole h.keeps.entries c.loop-part.all.items c.in_ok-ordered.ordered.items c.args.parts.now c.loop-part.part-index c.len.result
    (omega (arith, c.len.ensures, count_stored c.args.dump.now c.args.self.now h)) c.loop-part-test.false c.in_ok-ordered.ensures.order
    c.in_ok-ordered.ensures.same (c.loop-part.invariant.so_far h)

pub spans_of_all-append_gaps-requires-clause-order : goal.spans_of_all-append_gaps-requires-clause-order
spans_of_all-append_gaps-requires-clause-order t c =
    let n : c.len-count.result ≡ length c.requires.keeps.entries = omega (arith, c.len-count.ensures, count_stored c.args.dump.now c.args.self.now c.requires) in
    rw (c.deref.ensures.value, n) (c.in_ok-spans.ensures c.requires).order

pub spans_of_all-loop-part-preserved : goal.spans_of_all-loop-part-preserved
spans_of_all-loop-part-preserved t c = record {
  below = c.in_ok-append_gaps.ensures.below;
  so_far = λ h. gaps_on h.keeps.entries c.loop-part.gaps.items c.append_gaps.new.gaps.items c.deref.result.now c.args.parts.now
      c.loop-part.part-index c.part-item.result c.len-count.result (omega (arith, c.len-count.ensures, count_stored c.args.dump.now c.args.self.now h))
      c.loop-part-test.true c.part-item.is c.in_ok-append_gaps.ensures.added (rw c.deref.ensures.value (c.in_ok-spans.ensures h)) (c.loop-part.invariant.so_far h);
}

pub spans_of_all-returns : goal.spans_of_all-returns
spans_of_all-returns t c h =
    gaps_whole h.keeps.entries c.loop-part.gaps.items c.in_ok-spans-2.spans.items c.args.parts.now c.loop-part.part-index c.len-count.result
    (omega (arith, c.len-count.ensures, count_stored c.args.dump.now c.args.self.now h)) c.loop-part-test.false c.in_ok-spans-2.ensures.order
    c.in_ok-spans-2.ensures.others (c.loop-part.invariant.so_far h)
