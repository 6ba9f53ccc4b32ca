use Rattle.std.proofs.Common.{◌∙◌, ap, codes}
use Rattle.bd_wide_substitute.specs.declared.wrapped.ValueType.TheVariants as types
use Rattle.bd_wide_substitute.specs.Substitutes.{named}
use Rattle.bd_wide_substitute.proofs.wrapped.wrapper_inside.Goals as goal

pub returns : goal.returns
returns c =
    let inside = c.args.inside.now in
    let date = c.named-date.ensures ∙ ap (named types.Date (codes "\"$date\"") inside) c.named-uuid.ensures in
    let decimal = c.named-decimal.ensures ∙ ap (named types.Decimal128 (codes "\"$numberDecimal\"") inside) date in
    c.named.ensures ∙ ap (named types.Double (codes "\"$numberDouble\"") inside) decimal
