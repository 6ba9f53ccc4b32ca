use Rattle.std.proofs.Common.{◌∷◌, [], ap, map, ◌∙◌}
use Rattle.std.proofs.lemmas.List.{map-append}
use Rattle.bd_path.specs.Key.{key_tree}
use Rattle.bd_path.proofs.KeyLemmas.{equal_there}
use Rattle.bd_path.proofs.key.add_key.Goals as goal

pub returns-then-has_equal-clause-added : goal.returns-then-has_equal-clause-added
returns-then-has_equal-clause-added g c =
    rw (equal_there (key_tree g.N.Reading.tree) c.args.keys.now.items c.deref.result.now c.args.key c.has_equal.result c.has_equal.ensures c.deref.ensures.value, c.if-has_equal.true)

pub returns-clause-added : goal.returns-clause-added
returns-clause-added g c =
    rw (equal_there (key_tree g.N.Reading.tree) c.args.keys.now.items c.deref.result.now c.args.key c.has_equal.result c.has_equal.ensures c.deref.ensures.value, c.if-has_equal.false)
    (ap (map (key_tree g.N.Reading.tree)) c.in_ok-push.ensures.items ∙ map-append (key_tree g.N.Reading.tree) c.args.keys.now.items (c.args.key ∷ []))
