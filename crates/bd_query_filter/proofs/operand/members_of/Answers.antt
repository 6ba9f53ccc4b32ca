use Rattle.std.proofs.Common.{◌≡◌, map, length, length-append, [], ◌∷◌, sym, ap, ◌∙◌, decimal, ◌+◌}
use Rattle.bd_value.specs.{Tree.values_of, Tree.items_of, View.tree_of}
use Rattle.bd_query_filter.specs.FilterOf.{member_value, member_values, members_of, read_at}
use Rattle.bd_query_filter.proofs.FilterOfLemmas.{all_read, joined, members_start, one_read, refused}
use Rattle.bd_query_filter.proofs.operand.members_of.Goals as goal

pub loop-next-init : goal.loop-next-init
loop-next-init g c =
    rw c.new-members.ensures.items (members_start (g.N.Reading.tree c.args.operand) (g.N.Reading.remaining c.parts-remaining.result) (sym c.kind.ensures ∙ c.in-Array.is) c.parts-remaining.ensures.parts)

pub returns-in-Err : goal.returns-in-Err
returns-in-Err g c =
    let i = length c.loop-next.members.items in
    let part = member_value (g.N.Reading.tree c.in-Some.next.1) in
    let rest = member_values (i + 1) (items_of (values_of (g.N.Reading.remaining c.in-Some.next.2))) in
    refused (map tree_of c.loop-next.members.items) (decimal c.len.result) part _ rest (members_of (g.N.Reading.tree c.args.operand)) c.in-Err.stop c.under_index.result
    (ap (λ ps. member_values i (items_of (values_of ps))) c.in-Some.ensures.some ∙ ap (λ n. read_at (decimal n) part rest) (sym (c.len.ensures ∙ c.loop-next.members.ok.0)))
    c.loop-next.invariant c.under_index.ensures c.in-Err.ensures

pub loop-next-preserved : goal.loop-next-preserved
loop-next-preserved g c =
    let old = c.loop-next.members.items in
    let i = length old in
    let part = member_value (g.N.Reading.tree c.in-Some.next.1) in
    let rest = items_of (values_of (g.N.Reading.remaining c.in-Some.next.2)) in
    let pushed = c.in_ok-push-in-Ok.ensures.items in
    let longer : length c.push.new.self.items ≡ i + 1 = ap (λ xs. length xs) pushed ∙ length-append old (c.in-Ok.value ∷ []) in
    ap (λ n. joined (map tree_of c.push.new.self.items) (member_values n rest)) longer
    ∙ one_read tree_of old c.push.new.self.items c.in-Ok.value (decimal i) part _ (member_values (i + 1) rest) _ pushed c.in-Ok.ensures
    (ap (λ ps. member_values i (items_of (values_of ps))) c.in-Some.ensures.some) c.loop-next.invariant

pub returns : goal.returns
returns g c =
    let i = length c.loop-next.members.items in
    all_read (map tree_of c.loop-next.members.items) (member_values i (items_of (values_of (g.N.Reading.remaining c.loop-next.remaining)))) _ c.loop-next.invariant
    (ap (λ ps. member_values i (items_of (values_of ps))) c.in_default-next.ensures.none)
