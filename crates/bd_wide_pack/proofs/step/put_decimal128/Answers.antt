use Rattle.bd_wide_pack.proofs.MixLemmas.{decimal_put}
use Rattle.bd_wide_pack.proofs.step.put_decimal128.Goals as goal

pub returns : goal.returns
returns c =
    decimal_put c.args.low c.args.high c.args.name.now _ _ _ _ c.in_ok-put_name.ensures c.in_ok-append_long.ensures.ok c.in_ok-append_long-2.ensures.ok
