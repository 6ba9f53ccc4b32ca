use Rattle.std.proofs.Common.{◌++◌, ap₂, string_bytes}
use Rattle.bd_value.specs.{View.node_tree, View.node_parts, Tree.Doc, View.pairs, View.tree_of}
use Rattle.bd_cursor_request.specs.Request.{sort_written}
use Rattle.bd_cursor_request.proofs.RequestLemmas.{written_on, parts_are}
use Rattle.bd_cursor_request.proofs.request.written_sort.Goals as goal

pub loop-next-init : goal.loop-next-init
loop-next-init c =
    ap₂ (λ (prefix remaining : Doc). prefix ++ sort_written remaining) c.new-written.ensures (parts_are (pairs c.args.sort.now) (node_parts c.parts-remaining.result) c.parts-remaining.ensures.parts)

pub loop-next-preserved : goal.loop-next-preserved
loop-next-preserved c =
    written_on (pairs c.loop-next.written) (node_parts c.loop-next.remaining) (node_parts c.in-Some.next.2) (sort_written (pairs c.args.sort.now))
    (pairs c.push.new.self) c.in-Some.next.0.now (string_bytes c.in_ok-name.name)
    (node_tree c.in-Some.next.1) (tree_of c.written_direction.result) c.loop-next.invariant c.in-Some.ensures.some c.in_ok-push.ensures.ok c.in_ok-name.ensures.ok c.written_direction.ensures
