-- Each line has a reply, so a talk can continue.
use Rattle.std.proofs.Common.{ℕ, List, [], ◌∷◌, ◌++◌, refl}
use Rattle.bd_value.specs.Tree.{Doc}
use Rattle.bd_cursor_model.specs.Session.{State}
use Rattle.bd_io_lines.specs.Serving.{RepliesInTurn}
use Rattle.bd_io_lines.proofs.ServingLemmas.{replied_then}
use Rattle.bd_cli_service.specs.Reply.{reply_text}
use Rattle.bd_cli_service.specs.Talk.{RepliesInText, call_in, reply_to, state_then}

module _ (bytes : List ℕ) (ds : List Doc) where
  abbrev AreReplied : State → List (List ℕ) → List ℕ → State → Type 0
  AreReplied = RepliesInTurn (RepliesInText bytes ds)

  -- ---- one line

  abbrev HasReply : State → List ℕ → Type 0
  HasReply s line = (text : List ℕ) × (t : State) × RepliesInText bytes ds s line text t

  some_reply : (s : State) (line : List ℕ) → HasReply s line
  some_reply s line =
      let part = call_in bytes ds line in
      let r = reply_to ds s part in
      (reply_text r, state_then s part, (r, record { reports = refl; moves = refl }, refl))

  -- ---- all lines

  abbrev HasReplies : State → List (List ℕ) → Type 0
  HasReplies s lines = (text : List ℕ) × (t : State) × AreReplied s lines text t

  some_replies : (s : State) (lines : List (List ℕ)) → HasReplies s lines
  some_replies s [] = ([], s, (refl, refl))
  some_replies s (line ∷ lines) =
      let first = some_reply s line in
      let later = some_replies first.1 lines in
      (first.0 ++ 10 ∷ later.0, later.1, (first.0, first.1, later.0, first.2, later.2, refl))

pub replies_on : (bytes : List ℕ) (ds : List Doc) (s : State) (lines later : List (List ℕ)) (text : List ℕ) (t : State) → RepliesInTurn (RepliesInText bytes ds) s lines text t
    → (rest : List ℕ) × (end : State) × RepliesInTurn (RepliesInText bytes ds) s (lines ++ later) (text ++ rest) end
replies_on bytes ds s lines later text t replied =
    let more = some_replies bytes ds t later in
    (more.0, more.1, replied_then (RepliesInText bytes ds) s t more.1 lines later text more.0 replied more.2)
