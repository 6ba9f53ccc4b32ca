use Rattle.std.proofs.Common.{◌∙◌}
use Rattle.bd_wide_text.proofs.LimitedTextLemmas.{kept_long, kept_up, kept_down}
use Rattle.bd_wide_text.proofs.limited.put_kept.Goals as goal

pub put_up-requires-clause-digits : goal.put_up-requires-clause-digits
put_up-requires-clause-digits c =
    let n = c.without_last_zeros-number in
    kept_long c.as_bytes-digits.result.now n.result.0 n.result.1 c.args.kept c.args.up c.args.down (c.as_bytes-digits.ensures.value ∙ c.format.ensures.text) n.ensures.same n.ensures.last c.requires.bounds.1

pub put_down-requires-clause-digits : goal.put_down-requires-clause-digits
put_down-requires-clause-digits c =
    let n = c.without_last_zeros-number in
    kept_long c.as_bytes-digits.result.now n.result.0 n.result.1 c.args.kept c.args.up c.args.down (c.as_bytes-digits.ensures.value ∙ c.format.ensures.text) n.ensures.same n.ensures.last c.requires.bounds.1

pub returns-then-above-down-clause-appended : goal.returns-then-above-down-clause-appended
returns-then-above-down-clause-appended c =
    let n = c.without_last_zeros-number in (
      _,
      kept_up c.as_bytes-digits.result.now n.result.0 n.result.1 c.args.kept c.args.up c.args.down (c.as_bytes-digits.ensures.value ∙ c.format.ensures.text) n.ensures.same n.ensures.last c.requires.bounds.1 c.if-above-down.true,
      c.put_up.ensures.appended,
    )

pub returns-clause-appended : goal.returns-clause-appended
returns-clause-appended c =
    let n = c.without_last_zeros-number in (
      _,
      kept_down c.as_bytes-digits.result.now n.result.0 n.result.1 c.args.kept c.args.up c.args.down (c.as_bytes-digits.ensures.value ∙ c.format.ensures.text) n.ensures.same n.ensures.last c.requires.bounds.1 c.if-above-down.false,
      c.put_down.ensures.appended,
    )
