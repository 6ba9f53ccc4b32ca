use Rattle.std.proofs.Common.{arith}
use Rattle.bd_extjson_wrapper.specs.Wrapper.{only}
use Rattle.bd_extjson_wrapper.proofs.WrapperLemmas.{not_one}
use Rattle.bd_extjson_wrapper.proofs.wrapper.only.Goals as goal

pub returns-then-members-ne1 : goal.returns-then-members-ne1
unfolding only
returns-then-members-ne1 c = rw (← c.in_ok-members.ensures) (not_one c.in_ok-members.members.now c.args.name.now (λ e. omega (arith, e, c.if-members-ne1.true)))
