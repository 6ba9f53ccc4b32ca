use Rattle.std.proofs.Common.{◌++◌, append_assoc, refl}
use Rattle.bd_bson_view.specs.Spelling.{long}
use Rattle.bd_wide_number.specs.declared.number.Number.TheVariants.{Double, Decimal128}
use Rattle.bd_wide_pack.specs.Filled.{numeric}
use Rattle.bd_value.specs.Tree.{leaf}
use Rattle.std.proofs.lemmas.Option.{MatchOption-at_some as of_some}
use Rattle.bd_wide_pack.proofs.CanonicalLineLemmas.{number_line}
use Rattle.bd_wide_pack.proofs.canonical_line.append_number.Goals as goal

pub returns-in-Some : goal.returns-in-Some
returns-in-Some c =
    let g = c.in-Some.ensures in
    let bits = c.in-Some.bits in
    (leaf (numeric (Double bits)), g.0, long bits, g.2, number_line (Double bits) g.0 1 (long bits) g.1 refl, c.in_ok-append_long.ensures.ok)

pub returns : goal.returns
returns c =
    let g = of_some _ _ _ c.in_ok-low.ensures.ok_part c.decimal128.ensures in
    let low = c.in_ok-low.low in
    let high = c.in_ok-low.high in
    (leaf (numeric (Decimal128 low high)), g.0, long low ++ long high, g.2, number_line (Decimal128 low high) g.0 19 (long low ++ long high) g.1 refl, rw (c.in_ok-append_long-3.ensures.ok, c.in_ok-append_long-2.ensures.ok) (append_assoc c.args.out.now.items (long low) (long high)))
