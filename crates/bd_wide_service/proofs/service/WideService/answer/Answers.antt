use Rattle.std.proofs.Common.{length, refl, subst, sym}
use Rattle.bd_bson_dump.specs.Collection.{documents}
use Rattle.bd_bson_dump.specs.declared.collection.Dump.{Dump}
use Rattle.bd_cursor.specs.SessionView.{dump_of}
use Rattle.bd_cli_service.specs.ServiceView.{session_call}
use Rattle.bd_wide_copy.specs.Dump.{IsCount, bytes_of}
use Rattle.bd_wide_service.proofs.ServiceLemmas.{lacks, on_err, on_ok, performed_over, replied}
use Rattle.bd_wide_service.proofs.service.WideService.answer.Goals as goal

pub invariant_of-self : goal.invariant_of-self
invariant_of-self c = record {
  counted =
      subst (λ (d : Dump). IsCount (bytes_of c.args.self.now.dump) (length (documents d)))
      (sym (performed_over (session_call (dump_of c.args.self.now.session) c.args.call) c.args.self.now.session c.perform.result c.perform.new.session c.perform.ensures.performs))
      c.args.self.now.counted;
}

pub returns-clause-replies : goal.returns-clause-replies
returns-clause-replies c =
    on_ok c.write.result (λ (text, added, written). (
      text,
      added,
      replied c.args.self.now _ c.args.line.now (session_call (dump_of c.args.self.now.session) c.args.call) c.in_ok-reply.reply refl refl
          c.in_ok-reply.ensures.performs c.requires.call text written,
    ))
    c.write.ensures.ok

pub returns-clause-err : goal.returns-clause-err
returns-clause-err c =
    on_err c.write.result (λ same. (
      same,
      lacks c.args.self.now _ c.args.line.now (session_call (dump_of c.args.self.now.session) c.args.call) c.in_ok-reply.reply refl refl
          c.in_ok-reply.ensures.performs c.requires.call,
    ))
    c.write.ensures.err
