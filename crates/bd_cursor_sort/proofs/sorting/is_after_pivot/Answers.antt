use Rattle.std.proofs.Common.{◌∙◌, ap}
use Rattle.std.specs.Ordering.{is_gt}
use Rattle.bd_bson_dump.specs.Collection.{documents}
use Rattle.bd_cursor_sort.proofs.PivotLemmas.{after_is_before}
use Rattle.bd_cursor_sort.proofs.sorting.is_after_pivot.Goals as goal

pub returns-in-Some : goal.returns-in-Some
returns-in-Some c = λ ss h. rw c.in-Some.is (
    c.is_gt.ensures ∙ ap is_gt (c.compare.ensures ss (rw c.in-Some.is at h))
    ∙ after_is_before (documents c.args.dump.now) ss c.args.place c.in-Some.pivot.place
    )
