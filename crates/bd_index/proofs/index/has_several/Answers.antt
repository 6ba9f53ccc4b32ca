use Rattle.std.proofs.Common.{sym, ◌∙◌}
use Rattle.bd_value.specs.Tree.{pairs_in}
use Rattle.bd_bson_view.specs.Sound.{meaning}
use Rattle.bd_bson_dump.specs.Collection.{documents}
use Rattle.bd_path.specs.PathNames.{names_of}
use Rattle.bd_index.specs.Entries.{has_two_keys}
use Rattle.bd_index.proofs.EntryLemmas.{any_next}
use Rattle.bd_index.proofs.index.has_several.Goals as goal

pub returns-then-are_several : goal.returns-then-are_several
returns-then-are_several c =
    let fact = rw (c.deref.ensures.value, c.in_ok-keys.ensures.distinct) at c.are_several.ensures in
    let next = any_next (has_two_keys (names_of c.args.path.now)) c.loop-i.i (documents c.args.dump.now) (pairs_in (meaning c.document.result.sound))
    (meaning c.value.result.sound) c.are_several.result c.document.ensures.document c.value.ensures.document fact in
    sym (rw c.if-are_several.true at next) ∙ c.loop-i.invariant

pub loop-i-preserved : goal.loop-i-preserved
loop-i-preserved c =
    let fact = rw (c.deref.ensures.value, c.in_ok-keys.ensures.distinct) at c.are_several.ensures in
    let next = any_next (has_two_keys (names_of c.args.path.now)) c.loop-i.i (documents c.args.dump.now) (pairs_in (meaning c.document.result.sound))
    (meaning c.value.result.sound) c.are_several.result c.document.ensures.document c.value.ensures.document fact in
    sym (rw c.if-are_several.false at next) ∙ c.loop-i.invariant
