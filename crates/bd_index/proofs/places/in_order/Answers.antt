use Rattle.std.proofs.Common.{◌≡◌, ◌≤◌, All, get_or, refl, rules, ap, arith}
use Rattle.std.specs.List.Sorted.{IsNonDecreasingBy}
use Rattle.std.proofs.lemmas.List.{drop_all, get_or_default}
use Rattle.std.proofs.lemmas.List.Sorted.{All-permutation, IsNonDecreasingBy-from_sort_by_key, list_any-IsPermutation}
use Rattle.bd_index.specs.{inside.Places.is_in_span, declared.places.Span.Span}
use Rattle.bd_index.proofs.PlacesLemmas.{order_to, orders_one, orders_passed}
use Rattle.bd_index.proofs.places.in_order.Goals.{then-from-span+in_ok-push, else-from-span}
use Rattle.bd_index.proofs.places.in_order.Goals as goal

pub loop-span-preserved : goal.loop-span-preserved
loop-span-preserved c =
    let spans = c.deref-span-items.result.now in
    let ordered = c.loop-span.ordered.items in
    let i = c.loop-span.span-index in
    let end = c.loop-span.end in
    let lt = c.loop-span-test.true in
    let o = c.loop-span.invariant.orders in
    let b = c.loop-span.invariant.bound in
    let d : Span = record { from = 0; to = 0 } in
    let s : Span = get_or spans i d in
    let is : s ≡ get_or spans i s = get_or_default spans i d s lt in
    let sorted : IsNonDecreasingBy (λ x. x.from) spans = rw c.deref-span-items.ensures.value
    (IsNonDecreasingBy-from_sort_by_key (λ x. x.from) _ c.sort_unstable_by_key.ensures.sorted (λ a r q k. search rules)) in
    let all : All (λ x. x.to ≤ c.args.count) spans = rw c.deref-span-items.ensures.value
    (All-permutation (λ x. x.to ≤ c.args.count) c.args.spans.items c.sort_unstable_by_key.new.self.items c.sort_unstable_by_key.ensures.permutation c.requires) in
    let low : s.to ≤ c.args.count = all i d lt in
    elim c.if-from-span.branch [
      | then-from-span+in_ok-push w ↦ record {
        orders = rw (ap (λ v. v.items) w.ordered-is, w.end-is) (orders_one spans ordered i end s lt is o w.push.new.self.items
            (record { from = c.max-from.result; to = s.to }) sorted c.max-from.ensures refl w.if-from-span.true w.in_ok-push.ensures.items);
        bound = (let e = w.end-is in omega arith);
      }
      | else-from-span w ↦ record {
        orders = rw (ap (λ v. v.items) w.ordered-is, w.end-is)
            (orders_passed spans ordered i end s lt is o (let f = w.if-from-span.false in let m = c.max-from.ensures in omega arith));
        bound = (let e = w.end-is in omega arith);
      }
    ]

pub returns-clause-order : goal.returns-clause-order
returns-clause-order c = order_to 0 c.loop-span.end c.args.count c.loop-span.ordered.items c.loop-span.invariant.orders.order c.loop-span.invariant.bound

pub returns-clause-same : goal.returns-clause-same
returns-clause-same c k =
    let all = rw (drop_all c.loop-span.span-index c.deref-span-items.result.now (omega arith), c.deref-span-items.ensures.value) at (c.loop-span.invariant.orders.same k) in
    let moved = list_any-IsPermutation (is_in_span k) c.args.spans.items c.sort_unstable_by_key.new.self.items c.sort_unstable_by_key.ensures.permutation in
    grind (arith, all, moved)
