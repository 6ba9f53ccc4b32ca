-- A talk is the calls among its lines, with their replies.
use Rattle.std.proofs.Common.{◌≡◌, ◌==◌, ℕ, Bool, true, false, cond, List, [], ◌∷◌, ◌++◌, map, Option, Some, None, Result, Ok, Err, refl, sym, ap, ◌∙◌, ap₂}
use Rattle.std.proofs.lemmas.List.{map-append}
use Rattle.std.specs.Prelude.{unwrap_or}
use Rattle.std.specs.{List.cons_option, Result.result_ok}
use Rattle.bd_value.specs.Tree.{Doc}
use Rattle.bd_cursor_model.specs.Session.{Call, GivenBatch, PositionedToken, Query, State, find_call, gave, next_call, resume_call, state_after, opened}
use Rattle.bd_cursor_model.specs.{Answer.answer, Answer.rest, Laws.batch_in, Laws.batch_to, Laws.batches_to, Laws.new_state, Laws.replies, Laws.state_after_all}
use Rattle.bd_cursor_model.proofs.SessionLemmas.{find_gives, resume_gives}
use Rattle.bd_cli_service.specs.Reply.{LineReply, ReportedRefusal, opens}
use Rattle.bd_cli_service.specs.Talk.{call_in, reply_to, reply_output, state_then, OpensInTalk, PrintsInTurn, Talks, batch_is_output, batches_output, calls_in, given_in}
use Rattle.bd_cli_service.specs.Talk.{line_call}
use Rattle.bd_cli_service.proofs.FairLemmas.{line_fair}
use Rattle.bd_cursor_model.specs.Session as machine

-- ---- one line

-- the state after a line
abbrev state_at : State → Option Call → State
state_at s None = s
state_at s (Some call) = state_after s call

-- the batch that the reply to a call has for a cursor
abbrev given_by_call : ℕ → State → Option Call → List GivenBatch
given_by_call id s None = []
given_by_call id s (Some call) = batch_to id call (machine.reply s call)

abbrev batch_reply_output : List Doc → GivenBatch → LineReply
batch_reply_output ds b = reply_output ds (gave b)

moved : (s : State) (part : Result Call ReportedRefusal) → state_then s part ≡ state_at s (result_ok part)
moved s (Ok call) = refl
moved s (Err why) = refl

given_output : (ds : List Doc) (r : machine.Reply) → given_in (reply_output ds r) ≡ map (batch_reply_output ds) (batch_in r)
given_output ds (machine.gave b) = refl
given_output ds r = refl

output_to : (ds : List Doc) (id : ℕ) (b : Bool) (r : machine.Reply)
    → cond b (given_in (reply_output ds r)) [] ≡ map (batch_reply_output ds) (cond b (batch_in r) [])
output_to ds id true r = given_output ds r
output_to ds id false r = refl

call_output : (ds : List Doc) (id : ℕ) (s : State) (call : Call)
    → batch_is_output id (Some call) (reply_output ds (machine.reply s call)) ≡ map (batch_reply_output ds) (batch_to id call (machine.reply s call))
call_output ds id s (next_call i n) = output_to ds id (i == id) (machine.reply s (next_call i n))
call_output ds id s call = refl

part_output : (ds : List Doc) (id : ℕ) (s : State) (part : Result Call ReportedRefusal)
    → batch_is_output id (result_ok part) (reply_to ds s part) ≡ map (batch_reply_output ds) (given_by_call id s (result_ok part))
part_output ds id s (Ok call) = call_output ds id s call
part_output ds id s (Err why) = refl

-- ---- all lines

-- the batches of the calls among lines, one line at a time
given_all : (bytes : List ℕ) (ds : List Doc) (id : ℕ) (s : State) (o : Option Call) (cs : List Call)
    → batches_to id (cons_option o cs) (replies s (cons_option o cs)) ≡ given_by_call id s o ++ batches_to id cs (replies (state_at s o) cs)
given_all bytes ds id s None cs = refl
given_all bytes ds id s (Some call) cs = refl

state_all : (s : State) (o : Option Call) (cs : List Call) → state_after_all s (cons_option o cs) ≡ state_after_all (state_at s o) cs
state_all s None cs = refl
state_all s (Some call) cs = refl

-- the state after lines is the state after their calls
pub state_after_talk : (bytes : List ℕ) (ds : List Doc) (s : State) (lines : List (List ℕ)) (rs : List LineReply) (t : State)
    → Talks bytes ds s lines rs t → t ≡ state_after_all s (calls_in bytes ds lines)
state_after_talk bytes ds s [] [] t e = e
state_after_talk bytes ds s [] (r ∷ rs) t h = absurd h
state_after_talk bytes ds s (line ∷ lines) [] t h = absurd h
state_after_talk bytes ds s (line ∷ lines) (r ∷ rs) t (mid, a, talks) =
    let o = line_call bytes ds line in
    let cs = calls_in bytes ds lines in
    let part = call_in bytes ds line in
    let mid_is : mid ≡ state_at s o = a.moves ∙ moved s part in
    state_after_talk bytes ds mid lines rs t talks ∙ ap (λ (x : State). state_after_all x cs) mid_is ∙ sym (state_all s o cs)

-- the batches in replies to lines are those of their calls
pub batches_of_talk : (bytes : List ℕ) (ds : List Doc) (id : ℕ) (s : State) (lines : List (List ℕ)) (rs : List LineReply) (t : State)
    → Talks bytes ds s lines rs t
    → batches_output bytes ds id lines rs ≡ map (batch_reply_output ds) (batches_to id (calls_in bytes ds lines) (replies s (calls_in bytes ds lines)))
batches_of_talk bytes ds id s [] [] t e = refl
batches_of_talk bytes ds id s [] (r ∷ rs) t h = absurd h
batches_of_talk bytes ds id s (line ∷ lines) [] t h = absurd h
batches_of_talk bytes ds id s (line ∷ lines) (r ∷ rs) t (mid, a, talks) =
    let o = line_call bytes ds line in
    let cs = calls_in bytes ds lines in
    let part = call_in bytes ds line in
    let mid_is : mid ≡ state_at s o = a.moves ∙ moved s part in
    let first : batch_is_output id o r ≡ map (batch_reply_output ds) (given_by_call id s o) =
    ap (λ (x : LineReply). batch_is_output id o x) a.reports ∙ part_output ds id s part in
    let later = batches_of_talk bytes ds id mid lines rs t talks
    ∙ ap (λ (x : State). map (batch_reply_output ds) (batches_to id cs (replies x cs))) mid_is in
    ap₂ (λ (x y : List LineReply). x ++ y) first later
    ∙ sym (map-append (batch_reply_output ds) (given_by_call id s o) (batches_to id cs (replies (state_at s o) cs)))
    ∙ ap (λ (x : List GivenBatch). map (batch_reply_output ds) x) (sym (given_all bytes ds id s o cs))

-- ---- the laws

abbrev opened_id : LineReply → ℕ
opened_id (opens id) = id
opened_id _ = 0

-- a reply with an opened cursor is the machine's
opens_only : (ds : List Doc) (r : machine.Reply) (id : ℕ) → opens id ≡ reply_output ds r → r ≡ opened id
opens_only ds (machine.opened i) id e = ap (λ (r : LineReply). opened (opened_id r)) (sym e)
opens_only ds r id e = absurd (let h : ⊥ = cc in h)

ok_of : (part : Result Call ReportedRefusal) (call : Call) → result_ok part ≡ Some call → part ≡ Ok call
ok_of (Ok c) call e = ap (λ (o : Option Call). Ok (unwrap_or o c)) e
ok_of (Err why) call e = absurd (let h : ⊥ = cc in h)

-- the line that opens the cursor, as a call in the state after the earlier ones
pub record Opening (bytes : List ℕ) (ds : List Doc) (call : Call) (id : ℕ) (lines : List (List ℕ)) (rs : List LineReply) : Type 0 where
  pub earlier : List Call
  pub opens_it : machine.reply (state_after_all new_state earlier) call ≡ opened id
  pub output : batches_output bytes ds id lines rs ≡ map (batch_reply_output ds)
      (batches_to id (calls_in bytes ds lines) (replies (state_after (state_after_all new_state earlier) call) (calls_in bytes ds lines)))

opening_of : (bytes : List ℕ) (ds : List Doc) (call : Call) (id : ℕ) (lines : List (List ℕ)) (rs : List LineReply)
    → OpensInTalk bytes ds call id lines rs → Opening bytes ds call id lines rs
opening_of bytes ds call id lines rs o =
    let cs = calls_in bytes ds o.earlier in
    let s_is = state_after_talk bytes ds new_state o.earlier o.replies o.before o.begins in
    let whole : call_in bytes ds o.line ≡ Ok call = ok_of (call_in bytes ds o.line) call o.requests in
    let reported : opens id ≡ reply_output ds (machine.reply o.before call) = o.opened.reports ∙ ap (λ (p : Result Call ReportedRefusal). reply_to ds o.before p) whole in
    let after_is : o.after ≡ state_after (state_after_all new_state cs) call =
    o.opened.moves ∙ ap (λ (p : Result Call ReportedRefusal). state_then o.before p) whole ∙ ap (λ (x : State). state_after x call) s_is in
    record {
      earlier = cs;
      opens_it = ap (λ (x : State). machine.reply x call) (sym s_is) ∙ opens_only ds (machine.reply o.before call) id reported;
      output = batches_of_talk bytes ds id o.after lines rs o.end o.goes_on
          ∙ ap (λ (x : State). map (batch_reply_output ds) (batches_to id (calls_in bytes ds lines) (replies x (calls_in bytes ds lines)))) after_is;
    }

pub talks_give_the_answer : (bytes : List ℕ) (ds : List Doc) (q : Query) (hint : Option (List ℕ)) (id : ℕ) (lines : List (List ℕ)) (rs : List LineReply)
    → OpensInTalk bytes ds (find_call q hint) id lines rs → PrintsInTurn bytes ds q id (answer q.selection) lines rs
talks_give_the_answer bytes ds q hint id lines rs o =
    let opening = opening_of bytes ds (find_call q hint) id lines rs o in
    record {
      given = batches_to id (calls_in bytes ds lines) (replies (state_after (state_after_all new_state opening.earlier) (find_call q hint)) (calls_in bytes ds lines));
      in_turn = find_gives opening.earlier (calls_in bytes ds lines) q hint id (line_fair bytes ds o.line (find_call q hint) o.requests) opening.opens_it;
      output = opening.output;
    }

pub talks_give_the_rest : (bytes : List ℕ) (ds : List Doc) (q : Query) (hint : Option (List ℕ)) (t : PositionedToken) (id : ℕ) (lines : List (List ℕ)) (rs : List LineReply)
    → OpensInTalk bytes ds (resume_call q hint t) id lines rs → PrintsInTurn bytes ds q id (rest q.selection t.position) lines rs
talks_give_the_rest bytes ds q hint t id lines rs o =
    let opening = opening_of bytes ds (resume_call q hint t) id lines rs o in
    record {
      given = batches_to id (calls_in bytes ds lines) (replies (state_after (state_after_all new_state opening.earlier) (resume_call q hint t)) (calls_in bytes ds lines));
      in_turn = resume_gives opening.earlier (calls_in bytes ds lines) q hint t id (line_fair bytes ds o.line (resume_call q hint t) o.requests) opening.opens_it;
      output = opening.output;
    }
