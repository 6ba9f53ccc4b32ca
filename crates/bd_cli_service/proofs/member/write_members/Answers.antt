use Rattle.std.proofs.Common.{map}
use Rattle.bd_value.proofs.PrefixLemmas.{prefix_all, prefix_more}
use Rattle.bd_cli_service.specs.inside.Reply.{member_pair}
use Rattle.bd_cli_service.proofs.MemberLemmas.{object_begins}
use Rattle.bd_cli_service.proofs.member.write_members.Goals as goal

pub loop-name-init : goal.loop-name-init
loop-name-init c = record {
  whole = object_begins c.args.ok (map member_pair c.args.members.now) c.args.out.now.items _ _ c.in_ok-extend_from_slice.ensures.items c.in_ok-write_truth.ensures.ok;
  prefix = prefix_more _ _ _ _ (prefix_all _ _ c.in_ok-extend_from_slice.ensures.items) c.in_ok-write_truth.ensures.ok;
}
