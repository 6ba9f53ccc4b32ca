use Rattle.std.proofs.Common.{◌≡◌, ◌∙◌, Some, ap, sym, rules}
use Rattle.bd_value.specs.View.{view_of}
use Rattle.std.specs.Prelude.{true, unsigned_abs}
use Rattle.bd_bson_view.specs.Raw.{value_tree}
use Rattle.bd_value.specs.Tree as trees
use Rattle.bd_wide_dump.specs.RelaxedDate.{IsDatedText, is_dated}
use Rattle.bd_wide_dump.specs.WideText.{IsKindText}
use Rattle.bd_wide_dump.specs.declared.format.JsonFormat.TheVariants.{Relaxed}
use Rattle.bd_wide_dump.proofs.RelaxedLemmas.{dated, scalar_is, weaker}
use Rattle.bd_wide_dump.proofs.relaxed.append_relaxed.Goals as goal

pub returns-then-is_dated-clause-text : goal.returns-then-is_dated-clause-text
returns-then-is_dated-clause-text c s e =
    let z = c.in-Some-Date.milliseconds in
    let same : trees.date z ≡ s = scalar_is (trees.date z) s (value_tree c.args.node) (ap (λ x. Some (view_of x)) (sym c.in-Some-Date.field-0-is) ∙ c.in-Some-Date.ensures) e in
    let in_range : is_dated z ≡ true = search rules in
    let abs : c.unsigned_abs.result ≡ unsigned_abs z = search rules in
    weaker c.args.out.now.items c.args.end c.append_dated.new.out.items (λ text. IsDatedText c.unsigned_abs.result text) (λ text. IsKindText Relaxed s text) c.append_dated.result
    (λ text h. dated z c.unsigned_abs.result s text same abs in_range h) c.append_dated.ensures.text
