use Rattle.std.proofs.Common.{◌≡◌, ◌∙◌, length, refl, inl, subst, sym}
use Rattle.bd_value.specs.View.{pairs}
use Rattle.bd_bson_dump.specs.Collection.{documents}
use Rattle.bd_bson_dump.specs.declared.collection.Dump.{Dump}
use Rattle.bd_wide_copy.specs.Dump.{IsCount, bytes_of}
use Rattle.bd_wide_service.specs.Places as places
use Rattle.bd_wide_service.proofs.PlacesLemmas.{lacks_some, wide_absent, wide_documents, wide_numbers}
use Rattle.bd_wide_service.proofs.ServiceLemmas.{on_err, on_ok, still_over}
use Rattle.bd_wide_service.proofs.service.WideServiceReplier.reply.Goals as goal

pub returns-in-Ok-Absent-clause-replies : goal.returns-in-Ok-Absent-clause-replies
returns-in-Ok-Absent-clause-replies c =
    let is : places.absent ≡ _ = rw c.in-Ok-Absent.field-0-is at c.in-Ok-Absent.ensures in
    on_ok c.reply_line.result (λ (reply, added, replies). (reply, added, wide_absent c.args.self.now _ c.args.command.now reply is replies))
    c.reply_line.ensures.replies

pub returns-in-Ok-Absent-clause-out_of_memory : goal.returns-in-Ok-Absent-clause-out_of_memory
returns-in-Ok-Absent-clause-out_of_memory c =
    on_err c.reply_line.result (λ lacks. inl (lacks_some c.args.self.now _ c.args.command.now lacks.1)) c.reply_line.ensures.err

pub returns-in-Ok-clause-replies : goal.returns-in-Ok-clause-replies
returns-in-Ok-clause-replies c =
    let is : places.documents (pairs c.in-Ok-Documents.document) ≡ _ = rw c.in-Ok-Documents.field-0-is at c.in-Ok-Documents.ensures in
    on_ok c.reply_line-in-Ok.result
    (λ (reply, added, replies). (
      reply,
      added,
      wide_documents c.args.self.now _ c.args.command.now reply (pairs c.in-Ok-Documents.document) _ is (c.deref.ensures.value ∙ c.in-Ok.ensures) replies,
    ))
    c.reply_line-in-Ok.ensures.replies

pub returns-in-Ok-clause-out_of_memory : goal.returns-in-Ok-clause-out_of_memory
returns-in-Ok-clause-out_of_memory c =
    on_err c.reply_line-in-Ok.result (λ lacks. inl (lacks_some c.args.self.now _ _ lacks.1)) c.reply_line-in-Ok.ensures.err

pub invariant_of-self : goal.invariant_of-self
invariant_of-self c = record {
  counted =
      subst (λ (d : Dump). IsCount (bytes_of c.args.self.now.dump) (length (documents d))) (sym c.reply_numbers.ensures.dump) c.args.self.now.counted;
}

pub returns-in-Ok-Numbers-clause-replies : goal.returns-in-Ok-Numbers-clause-replies
returns-in-Ok-Numbers-clause-replies c =
    let is : places.numbers c.in-Ok-Numbers.id c.in-Ok-Numbers.batch ≡ _ = rw c.in-Ok-Numbers.field-0-is at c.in-Ok-Numbers.ensures in
    on_ok c.reply_numbers.result
    (λ (added, moves). (
      _,
      added,
      wide_numbers c.args.self.now _ c.args.command.now _ c.in-Ok-Numbers.id c.in-Ok-Numbers.batch is refl moves
          (λ bytes v over. still_over v c.args.self.now _ refl refl c.reply_numbers.ensures.dump over),
    ))
    c.reply_numbers.ensures.ok

pub returns-in-Ok-Numbers-clause-out_of_memory : goal.returns-in-Ok-Numbers-clause-out_of_memory
returns-in-Ok-Numbers-clause-out_of_memory c =
    on_err c.reply_numbers.result
    (λ lacks. inl (λ bytes v over. (lacks.1, still_over v c.args.self.now _ refl refl c.reply_numbers.ensures.dump over))) c.reply_numbers.ensures.err
