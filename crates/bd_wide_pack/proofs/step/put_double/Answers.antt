use Rattle.bd_wide_pack.proofs.MixLemmas.{double_put}
use Rattle.bd_wide_pack.proofs.step.put_double.Goals as goal

pub returns : goal.returns
returns c =
    double_put c.args.bits c.args.name.now _ _ _ c.in_ok-put_name.ensures c.in_ok-append_long.ensures.ok
