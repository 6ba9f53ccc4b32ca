use Rattle.std.proofs.Common.{arith}
use Rattle.bd_extjson_wrapper.specs.Wrapper.{pair}
use Rattle.bd_extjson_wrapper.proofs.WrapperLemmas.{not_two}
use Rattle.bd_extjson_wrapper.proofs.wrapper.pair.Goals as goal

pub returns-then-members-ne2 : goal.returns-then-members-ne2
unfolding pair
returns-then-members-ne2 c = rw (← c.in_ok-members.ensures) (not_two c.in_ok-members.members.now c.args.a.now c.args.b.now (λ e. omega (arith, e, c.if-members-ne2.true)))
