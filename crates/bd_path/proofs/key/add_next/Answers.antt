use Rattle.std.proofs.Common.{◌-◌, length, sym, ap, ◌∙◌}
use Rattle.std.specs.{Prelude.slice_get, Ordering.is_eq}
use Rattle.bd_path.specs.Key.{key_tree}
use Rattle.bd_path.proofs.KeyLemmas.{equals_last}
use Rattle.bd_path.proofs.key.add_next.Goals as goal

pub returns-in-Some-clause-added : goal.returns-in-Some-clause-added
returns-in-Some-clause-added g c =
    equals_last (key_tree g.N.Reading.tree) c.args.keys.now.items _ c.in-Some.last.now c.args.key
    (ap (λ ks. slice_get ks (length c.deref.result.now - 1)) (sym c.deref.ensures.value) ∙ sym c.in-Some.ensures.value)
    (ap is_eq (sym c.compare_keys.ensures) ∙ sym c.is_eq.ensures ∙ c.if-is_eq.true)
