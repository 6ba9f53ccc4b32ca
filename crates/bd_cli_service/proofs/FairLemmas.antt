-- The request in a line has a total order and a limit that can be counted.
use Rattle.std.proofs.Common.{◌≡◌, ◌≤◌, ℕ, Bool, true, cond, List, Option, Some, Result, Ok, Err, refl, subst, arith}
use Rattle.std.proofs.{lemmas.Bool.leb-true, lemmas.Cmp.on_total}
use Rattle.std.specs.Prelude.{◌&&◌, IfOk, nat_le}
use Rattle.std.specs.{Option.ok_or, Result.result_ok}
use Rattle.bd_value.specs.{Limits.greatest_count, Tree.Doc}
use Rattle.bd_cursor_model.specs.Session.{Call, drop_call, explain_call, find_call, most_given, resume_call}
use Rattle.bd_cursor_model.specs.Laws.{IsFair}
use Rattle.bd_bson_dump.specs.Collection.{document_at}
use Rattle.bd_cli_command.specs.Command.{Command, FindCommand, creates_index, drops_index, explains, finds, gets_more, kills_cursor, resumes}
use Rattle.bd_cli_command.specs.CommandOf.{command_of}
use Rattle.bd_query_filter.specs.{Fault.Refusal, Filter.Filter, FilterOf.filter_of}
use Rattle.bd_path.specs.{Sort.SortPath, Path.path_of, declared.path.PathFault.PathFault}
use Rattle.bd_path.proofs.SortLemmas.{sort_total}
use Rattle.bd_cursor_request.specs.Refused.{bad_filter, plain, then_part, error_as}
use Rattle.bd_cursor_request.specs.Request.{Request, named_index, request_with, token_part, sort_of}
use Rattle.bd_cli_service.specs.Reply.{command_refusal, path_refusal, session_refusal, ReportedRefusal}
use Rattle.bd_cursor_sort.specs.Selection.{query_to}
use Rattle.bd_cursor.specs.{Explanation.explanation_for, SessionView.make_of, SessionView.positioned_token}
use Rattle.bd_cli_service.specs.Talk.{call_in, call_of, document_call, line_document, hint_path, line_call, request_for, way_by}
use Rattle.bd_cursor_request.specs.declared.results.Refused.TheVariants as reasons

-- a call that searches has a fair request
abbrev pub RequestsFairly : Call → Type 0
RequestsFairly (find_call q hint) = IsFair q
RequestsFairly (resume_call q hint t) = IsFair q
RequestsFairly _ = Unit {0}

abbrev IsFairPart : Result Call ReportedRefusal → Type 0
IsFairPart part = IfOk part RequestsFairly

-- whatever the first part is, the whole is fair if the next part is
after_any : {A : Type 0} (part : Result A ReportedRefusal) (next : A → Result Call ReportedRefusal) → ((x : A) → IsFairPart (next x)) → IsFairPart (then_part part next)
after_any (Ok x) next fair = fair x
after_any (Err why) next fair = tt

-- a call that is fair for each request with such a limit is fair for the request of a search
after_search : (f : FindCommand) (call : Request → Call) → ((r : Request) → r.limit ≤ most_given → RequestsFairly (call r))
    → IsFairPart (then_part (request_for f) (λ r. Ok (call r)))
after_search f call fair =
    go (filter_of f.filter) (sort_of f.sort) (nat_le f.skip greatest_count) (nat_le f.limit greatest_count) refl (named_index (hint_path f.hint))
  where
    go : (g : Result Filter Refusal) (ss : Option (List SortPath)) (a b : Bool) → nat_le f.limit greatest_count ≡ b → (index : Result (Unit {0}) PathFault)
        → IsFairPart (then_part (then_part (error_as session_refusal (then_part (error_as bad_filter g) (λ h. then_part (ok_or ss (plain reasons.BadSort))
        (λ ps. cond (a && b) (Ok (request_with f.filter f.sort f.skip f.limit h ps)) (Err (plain reasons.Range))))))
        (λ r. then_part (error_as path_refusal index) (λ _. Ok r))) (λ r. Ok (call r)))
    go (Ok g) (Some ss) true true is (Ok named) =
        fair (request_with f.filter f.sort f.skip f.limit g ss) (let le = leb-true f.limit greatest_count is in omega (arith, le))
    go g ss a b is index = tt

module _ (bytes : List ℕ) (ds : List Doc) where
  query_fair : (r : Request) → r.limit ≤ most_given → IsFair (query_to bytes ds r)
  query_fair r counted = (on_total (document_at ds) (sort_total r.sorts), counted)

  call_fair : (c : Command) → IsFairPart (call_of bytes ds c)
  call_fair (creates_index path sparse) =
      after_any (error_as path_refusal (path_of path)) (λ _. Ok (make_of ds (record { path = path; is_sparse = sparse }))) (λ _. tt)
  call_fair (drops_index path) = after_any (error_as path_refusal (path_of path)) (λ _. Ok (drop_call path)) (λ _. tt)
  call_fair (finds f) = after_search f (λ r. find_call (query_to bytes ds r) (hint_path f.hint)) query_fair
  call_fair (resumes token f) =
      after_any (error_as session_refusal (token_part token))
      (λ t. then_part (request_for f) (λ r. Ok (resume_call (query_to bytes ds r) (hint_path f.hint) (positioned_token t))))
      (λ t. after_search f (λ r. resume_call (query_to bytes ds r) (hint_path f.hint) (positioned_token t)) query_fair)
  call_fair (gets_more id batch) = tt
  call_fair (kills_cursor id) = tt
  call_fair (explains f) = after_search f (λ r. explain_call (hint_path f.hint) (explanation_for ds r (way_by f.hint))) (λ r counted. tt)

  document_fair : (d : Doc) → IsFairPart (document_call bytes ds d)
  document_fair d = after_any (error_as command_refusal (command_of d)) (call_of bytes ds) call_fair

  pub line_fair : (line : List ℕ) (call : Call) → line_call bytes ds line ≡ Some call → RequestsFairly call
  line_fair line call = go (call_in bytes ds line) (after_any (line_document line) (document_call bytes ds) document_fair)
    where
      go : (part : Result Call ReportedRefusal) → IsFairPart part → result_ok part ≡ Some call → RequestsFairly call
      go (Ok c) fair is = subst RequestsFairly (let same : c ≡ call = cc in same) fair
      go (Err why) fair is = absurd (let h : ⊥ = cc in h)
