use Rattle.std.proofs.Common.{arith}
use Rattle.bd_cli_service.proofs.MemberLemmas.{wrapped_text}
use Rattle.bd_cli_service.proofs.member.write_wrapped.Goals as goal

pub returns-clause-ok : goal.returns-clause-ok
returns-clause-ok c =
    wrapped_text c.args.number c.args.out.now.items c.args.lead.now _ _ _ _ (omega (arith, c.ranges.number.fits)) c.in_ok-extend_from_slice.ensures.items
    c.in_ok-push.ensures.items c.in_ok-write_number.ensures.ok c.in_ok-extend_from_slice-2.ensures.items
