use Rattle.std.proofs.Common.{sym, ◌∙◌}
use Rattle.bd_extjson_fault.proofs.TreeFaultLemmas.{many_members}
use Rattle.bd_extjson_fault.proofs.tree_fault.members_fault.Goals as goal

pub returns-then-members-ne1 : goal.returns-then-members-ne1
returns-then-members-ne1 c = sym (many_members c.args.wrapper c.args.members.now c.index-members-0.result c.if-members-ne1.true c.index-members-0.is
    (sym c.is_outside_profile.ensures ∙ c.if-is_outside_profile.false))
