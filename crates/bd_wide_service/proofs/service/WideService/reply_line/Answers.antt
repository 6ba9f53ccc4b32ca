use Rattle.std.proofs.Common.{Err, List, map, refl, string_bytes, subst, sym}
use Rattle.std.specs.{Global.Global, Prelude.String}
use Rattle.bd_cursor.specs.SessionView.{dump_of}
use Rattle.bd_cli_service.specs.Reply.{reported_refusal}
use Rattle.bd_wide_service.specs.Call.{IsCallIn, types_refusal}
use Rattle.bd_wide_service.proofs.ServiceLemmas.{on_ok, over_copy, refused_line}
use Rattle.bd_wide_service.proofs.service.WideService.reply_line.Goals as goal

pub returns-in-Err-Refused-clause-replies : goal.returns-in-Err-Refused-clause-replies
returns-in-Err-Refused-clause-replies c =
    let s = c.args.self.now in
    on_ok c.refuse.result
    (λ added. (
      _,
      added,
      refused_line s c.args.line.now _ (reported_refusal c.in-Err-Refused.refusal)
          (λ bytes v over. rw c.in-Err-Refused.field-0-is at (c.in-Err-Refused.ensures.fault bytes v (dump_of s.session) (over_copy v s over))) refl,
    ))
    c.refuse.ensures.ok

pub returns-in-Err-Types-clause-replies : goal.returns-in-Err-Types-clause-replies
returns-in-Err-Types-clause-replies c =
    let s = c.args.self.now in
    on_ok c.write_types.result
    (λ added. (
      _,
      added,
      refused_line s c.args.line.now _ (types_refusal (map string_bytes c.deref.result.now))
          (λ bytes v over. subst (λ (names : List (String Global)). IsCallIn v c.args.line.now (Err (types_refusal (map string_bytes names))))
          (sym c.deref.ensures.value) (rw c.in-Err-Types.field-0-is at (c.in-Err-Types.ensures.fault bytes v (dump_of s.session) (over_copy v s over)))) refl,
    ))
    c.write_types.ensures.ok
