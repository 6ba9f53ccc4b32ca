use Rattle.std.proofs.{Common.◌∷◌, Common.[], Common.ap, Common.sym, Common.◌∙◌, lemmas.Option.IfSome_then}
use Rattle.bd_bson_view.specs.Sound.{meaning}
use Rattle.bd_index_prefix.specs.Prefix.{stored_key}
use Rattle.bd_path.specs.PathNames.{names_of}
use Rattle.bd_cursor_sort.proofs.SortKeyLemmas.{ends_there, goes_on}
use Rattle.bd_cursor_sort.proofs.sort_key.plain_key.Goals as goal

pub returns-in-None : goal.returns-in-None
returns-in-None c =
    let root = meaning c.args.document.sound in
    let names = names_of c.args.path.now in
    IfSome_then c.unless_array.result c.unless_array.ensures
    (λ k h. ends_there root (meaning c.loop-i.value.sound) names c.loop-i.i c.component.result.now c.component.ensures c.in-None.ensures.first h.1
    c.loop-i.invariant ∙ ap (λ j. stored_key j ∷ []) (sym h.0))

pub loop-i-preserved : goal.loop-i-preserved
loop-i-preserved c =
    goes_on (meaning c.args.document.sound) (meaning c.loop-i.value.sound) (meaning c.in-Some.next.sound) (names_of c.args.path.now) c.loop-i.i
    c.component.result.now c.component.ensures c.in-Some.ensures.first c.loop-i.invariant
