use Rattle.bd_cursor_sort.proofs.sort_key.SortKey.compare.Goals as goal

pub returns-in-Some : goal.returns-in-Some
returns-in-Some c = c.in_direction.ensures _ _ (c.in-Some.ensures.order _ _ c.args.self.now.prefixed c.args.other.now.prefixed)
