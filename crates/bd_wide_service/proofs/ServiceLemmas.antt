-- A session in memory over a dump of all types replies as the machine does by value.
use Rattle.std.proofs.Common.{◌≡◌, ◌∙◌, ◌++◌, ℕ, List, length, refl, sym, ap, subst, inr, Ok, Err, Option, Some, None, Result, option_map}
use Rattle.std.specs.Prelude.{ℤ, OnErr, OnOk, nat_lt}
use Rattle.std.specs.List.{filter}
use Rattle.bd_value.specs.Tree.{Doc}
use Rattle.bd_bson_dump.specs.Collection.{bytes_of as bytes_of_dump, documents}
use Rattle.bd_bson_dump.specs.declared.collection.Dump.{Dump}
use Rattle.bd_cursor_model.specs.Session as machine
use Rattle.bd_cursor_request.specs.{Token.token_text, Results.positioned_text, declared.token.Token.Token, declared.results.Batch.Batch}
use Rattle.bd_cursor.specs.SessionView.{dump_of, given_batch, positioned_token}
use Rattle.bd_cli_service.specs.Reply.{AreTextsAt, ReportedRefusal, given_text, line_reply, refuses, reply_text}
use Rattle.bd_cli_service.specs.{ServiceView.GivesBatch, ServiceView.IsPerformed, ServiceView.Performs, Talk.reply_output}
use Rattle.bd_cli_service.specs.declared.reply.Reply.{Reply}
use Rattle.bd_cursor.specs.declared.session.Session.{Session}
use Rattle.std.specs.declared.alloc.AllocError.{AllocError}
use Rattle.bd_cli_service.specs.declared.reply.Reply.TheVariants as replies
use Rattle.bd_wide_rank.specs.{Rank.code, Table.worths, Worth.worth}
use Rattle.bd_wide_copy.specs.{Classes.no_longs, Copy.number_coded, Dump.AreDocuments, Dump.IsCount, Dump.bytes_of}
use Rattle.bd_wide_copy.proofs.ClassLemmas.{are_classed}
use Rattle.bd_wide_find.specs.{Coded.CopiesDump, Coded.IsTableOf, Printer.IsWideText}
use Rattle.bd_wide_find.proofs.SearchLemmas.{coded_count, count_is}
use Rattle.bd_wide_service.specs.Call.{ByValue, IsCallIn}
use Rattle.bd_wide_service.specs.Reply.{AnswersByValue, IsReplyText}
use Rattle.bd_wide_service.specs.inside.Call.{IsOver}
use Rattle.bd_wide_service.specs.ServiceView.{IsServiceOver, service_state}
use Rattle.bd_wide_service.specs.inside.ServiceView.{IsWritten, LacksReplyTo, RepliesTo}
use Rattle.bd_wide_service.specs.declared.service.WideService.{WideService}

-- what holds after success holds if it implies another fact
pub on_ok : {A E B D : Type 0} (r : Result A E) → (B → D) → OnOk r B → OnOk r D
on_ok (Ok x) implies is = implies is
on_ok (Err e) implies is = tt

-- the same of what is true after an error
pub on_err : {A E B D : Type 0} (r : Result A E) → (B → D) → OnErr r B → OnErr r D
on_err (Ok x) implies is = tt
on_err (Err e) implies is = implies is

-- ---- a new session

module _ (bytes : List ℕ) (table : List ℤ) (copy : Dump) (are : AreDocuments bytes) (copies : CopiesDump no_longs bytes table copy) where
  -- the copy has as many documents as the dump
  pub counted : IsCount bytes (length (documents copy))
  counted =
      let (ds, joined) = are_classed no_longs worth bytes are in
      let same : length (documents copy) ≡ length ds = ap (λ (es : List Doc). length es) (copies.documents_are ds joined) ∙ coded_count (number_coded (code table)) ds in
      subst (λ n. IsCount bytes n) (sym same) (count_is no_longs ds bytes joined)

  -- a dump by value, by its table and its copy
  pub by_value : IsTableOf bytes table → (v : ByValue bytes) × IsOver v table copy
  by_value is =
      let (ds, joined) = are_classed no_longs worth bytes are in (
        record { ds = ds; table = table; has = is no_longs ds joined; copy = bytes_of_dump copy; copied = copies.copied },
        record { table_is = refl; bytes_are = refl; documents_are = copies.documents_are ds joined },
      )

-- the table and the copy of a service are those of its dump
pub over_copy : {bytes : List ℕ} (v : ByValue bytes) (s : WideService) → IsServiceOver v s → IsOver v (worths s.table) (dump_of s.session)
over_copy v s over = record { table_is = over.table_is; bytes_are = over.copy_is; documents_are = over.copies_are }

pub service_over : {bytes : List ℕ} (v : ByValue bytes) (s : WideService) → bytes_of s.dump ≡ bytes → IsOver v (worths s.table) (dump_of s.session)
    → IsServiceOver v s
service_over v s same over = record { bytes_are = same; table_is = over.table_is; copy_is = over.bytes_are; copies_are = over.documents_are }

-- ---- the text of a reply

pub tokens : (token : Option Token) → option_map token_text token ≡ option_map positioned_text (option_map positioned_token token)
tokens None = refl
tokens (Some t) = refl

-- a reply without documents, by what the machine replies
other_text : {bytes : List ℕ} (v : ByValue bytes) (ds : List Doc) (m : machine.Reply) (text : List ℕ)
    → ((b : machine.GivenBatch) → m ≡ machine.gave b → ⊥) → text ≡ reply_text (reply_output ds m) → IsReplyText v (Ok m) text
other_text v ds (machine.opened id) text other is = is
other_text v ds (machine.gave b) text other is = absurd (other b refl)
other_text v ds machine.killed text other is = is
other_text v ds (machine.made counts) text other is = is
other_text v ds machine.dropped text other is = is
other_text v ds (machine.explained e) text other is = is
other_text v ds machine.no_index text other is = is
other_text v ds machine.index_there text other is = is
other_text v ds machine.too_many_indexes text other is = is
other_text v ds machine.too_many_cursors text other is = is
other_text v ds machine.no_cursor text other is = is
other_text v ds machine.foreign_token text other is = is
other_text v ds machine.token_place text other is = is
other_text v ds machine.out_of_range text other is = is

module _ {bytes : List ℕ} (v : ByValue bytes) (s : WideService) (over : IsServiceOver v s) where
  abbrev ds : List Doc
  ds = documents (dump_of s.session)

  counts : length ds ≡ length v.ds
  counts = ap (λ (es : List Doc). length es) over.copies_are ∙ coded_count (number_coded (code v.table)) v.ds

  batch_text : (b : Batch) (text : List ℕ) → IsWritten s (replies.Gave b) text → IsReplyText v (Ok (machine.gave (given_batch b))) text
  batch_text b text (texts, are, is) = (
    texts,
    subst (λ n. AreTextsAt (IsWideText bytes) (filter (λ place. nat_lt place n) b.places.items) texts) counts
        (subst (λ bs. AreTextsAt (IsWideText bs) (filter (λ place. nat_lt place (length ds)) b.places.items) texts) over.bytes_are are),
    is ∙ ap (λ t. given_text texts b.end t) (tokens b.token),
  )

  -- the text of a reply in memory is that of the machine's reply
  pub text_by_value : (m : machine.Reply) (r : Reply) (text : List ℕ) → line_reply ds r ≡ reply_output ds m
      → ((b : Batch) → r ≡ replies.Gave b → m ≡ machine.gave (given_batch b)) → IsWritten s r text → IsReplyText v (Ok m) text
  text_by_value m (replies.Gave b) text reports gives is = subst (λ (x : machine.Reply). IsReplyText v (Ok x) text) (sym (gives b refl)) (batch_text b text is)
  text_by_value m replies.Done text reports gives is =
      other_text v ds m text (λ b e. let no : ⊥ = (let all = reports ∙ ap (reply_output ds) e in cc) in no) (is ∙ ap reply_text reports)
  text_by_value m (replies.Opened id) text reports gives is =
      other_text v ds m text (λ b e. let no : ⊥ = (let all = reports ∙ ap (reply_output ds) e in cc) in no) (is ∙ ap reply_text reports)
  text_by_value m (replies.Made made) text reports gives is =
      other_text v ds m text (λ b e. let no : ⊥ = (let all = reports ∙ ap (reply_output ds) e in cc) in no) (is ∙ ap reply_text reports)
  text_by_value m (replies.Explained e) text reports gives is =
      other_text v ds m text (λ b f. let no : ⊥ = (let all = reports ∙ ap (reply_output ds) f in cc) in no) (is ∙ ap reply_text reports)
  text_by_value m (replies.Refused why) text reports gives is =
      other_text v ds m text (λ b e. let no : ⊥ = (let all = reports ∙ ap (reply_output ds) e in cc) in no) (is ∙ ap reply_text reports)

-- a batch was written
pub batch_written : (s : WideService) (d : Dump) (b : Batch) (r : Reply) (old new : List ℕ) → d ≡ dump_of s.session → r ≡ replies.Gave b
    → (texts : List (List ℕ)) × AreTextsAt (IsWideText (bytes_of s.dump)) (filter (λ p. nat_lt p (length (documents d))) b.places.items) texts
    × (new ≡ old ++ given_text texts b.end (option_map token_text b.token))
    → (written : List ℕ) × (new ≡ old ++ written) × IsWritten s r written
batch_written s d b r old new same is (texts, are, added) =
    let written = given_text texts b.end (option_map token_text b.token) in
    let there = subst (λ (e : Dump). AreTextsAt (IsWideText (bytes_of s.dump)) (filter (λ p. nat_lt p (length (documents e))) b.places.items) texts) same are in
    (written, added, subst (λ x. IsWritten s x written) (sym is) (texts, there, refl))

-- ---- a line

-- two services over the same dump, table and copy
pub still_over : {bytes : List ℕ} (v : ByValue bytes) (old new : WideService) → new.dump ≡ old.dump → new.table ≡ old.table
    → dump_of new.session ≡ dump_of old.session → IsServiceOver v old → IsServiceOver v new
still_over v old new dump table copy over =
    let there = subst (λ t. IsOver v (worths t) (dump_of new.session)) (sym table) (subst (λ (d : Dump). IsOver v (worths old.table) d) (sym copy) (over_copy v old over)) in
    service_over v new (ap (λ d. bytes_of d) dump ∙ over.bytes_are) there

-- a line that is refused
pub refused_line : (s : WideService) (line text : List ℕ) (why : ReportedRefusal)
    → ((bytes : List ℕ) (v : ByValue bytes) → IsServiceOver v s → IsCallIn v line (Err why)) → text ≡ reply_text (refuses why) → RepliesTo s line text s
refused_line s line text why is written = λ bytes v over.
    ((Err why, record { call = Err why; is = is bytes v over; reports = refl; moves = refl }, written), over)

module _ (old new : WideService) (line : List ℕ) (call : machine.Call) (r : Reply) (dump : new.dump ≡ old.dump) (table : new.table ≡ old.table)
    (performs : Performs call old.session r new.session)
    (is : (bytes : List ℕ) (v : ByValue bytes) → IsServiceOver v old → IsCallIn v line (Ok call)) where
  answers : (bytes : List ℕ) (v : ByValue bytes) → IsServiceOver v old
      → AnswersByValue v (service_state old) line (Ok (machine.reply (service_state old) call)) (service_state new)
  answers bytes v over = record { call = Ok call; is = is bytes v over; reports = refl; moves = performs.moves }

  -- the call was made, and its reply written
  pub replied : (text : List ℕ) → IsWritten new r text → RepliesTo old line text new
  replied text written = λ bytes v over.
      let after = still_over v old new dump table performs.unchanged over in
      let reports = subst (λ (d : Dump). line_reply (documents d) r ≡ reply_output (documents d) (machine.reply (service_state old) call)) (sym performs.unchanged) performs.reports in (
        (
          Ok (machine.reply (service_state old) call),
          answers bytes v over,
          text_by_value v new after (machine.reply (service_state old) call) r text reports
              (λ b e. subst (λ (x : Reply). GivesBatch x (machine.reply (service_state old) call)) e performs.gives) written,
        ),
        after,
      )

  -- the call was made, and its reply was not
  pub lacks : LacksReplyTo old line new
  lacks = λ bytes v over. (inr (Ok (machine.reply (service_state old) call), answers bytes v over), still_over v old new dump table performs.unchanged over)

-- whatever came of a call, the dump is the same
pub performed_over : (call : machine.Call) (old : Session) (result : Result Reply AllocError) (new : Session) → IsPerformed call old result new
    → dump_of new ≡ dump_of old
performed_over call old (Ok r) new p = p.unchanged
performed_over call old (Err e) new p = p.dump
