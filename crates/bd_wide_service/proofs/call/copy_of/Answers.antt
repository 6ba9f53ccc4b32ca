use Rattle.std.proofs.Common.{◌∙◌, refl}
use Rattle.bd_value.specs.View.{node_parts, pairs}
use Rattle.bd_wide_find.proofs.QuestionLemmas.{parts_are}
use Rattle.bd_wide_service.proofs.CallLemmas.{copied}
use Rattle.bd_wide_service.proofs.call.copy_of.Goals as goal

pub returns : goal.returns
returns c =
    let f = c.args.find.now in
    copied f (record { filter = c.in_ok-filter.filter; sort = c.in_ok-sort.sort; skip = f.skip; limit = f.limit; hint = c.in_ok-hint.hint })
    (c.in_ok-filter.ensures ∙ parts_are (pairs f.filter) (node_parts c.parts.result) c.parts.ensures.parts)
    (c.in_ok-sort.ensures ∙ parts_are (pairs f.sort) (node_parts c.parts-2.result) c.parts-2.ensures.parts) refl refl c.in_ok-hint.ensures
