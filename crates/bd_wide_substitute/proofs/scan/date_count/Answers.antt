use Rattle.std.proofs.Common.{◌≡◌, ◌+◌, ◌∙◌, ap, length, of_z, sym, to_z}
use Rattle.std.proofs.lemmas.Int.{to_z-of_z}
use Rattle.std.specs.Fmt.{signed_decimal}
use Rattle.std.specs.Int.{w64}
use Rattle.bd_wide_substitute.proofs.OriginLemmas.{date_long}
use Rattle.bd_wide_substitute.proofs.scan.date_count.Goals as goal

pub returns : goal.returns
returns c =
    let z = c.args.milliseconds in
    let back : to_z w64 (of_z w64 z) ≡ z = to_z-of_z w64 z c.ranges.milliseconds in
    ap (λ t. 28 + length t) (c.format.ensures.text ∙ ap signed_decimal back) ∙ sym (date_long z c.ranges.milliseconds)
