use Rattle.std.proofs.Common.{◌-◌, ◌∙◌, ap, length, drop}
use Rattle.bd_wide_substitute.specs.Substitutes.{after_string}
use Rattle.bd_wide_substitute.proofs.PieceLemmas.{string_found}
use Rattle.bd_wide_substitute.proofs.scan.string_piece.Goals as goal

pub returns : goal.returns
returns c =
    let bytes = c.args.bytes.now in
    let inside = c.split_at.ensures.back ∙ ap (drop 1) c.requires.1 in
    string_found bytes c.requires.0 (length bytes - length c.skip_string.result.now) c.requires.1
    (ap (λ t. length bytes - length t) (c.skip_string.ensures.rest ∙ ap after_string inside))
