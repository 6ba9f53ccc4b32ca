-- A line has one reply.
use Rattle.std.proofs.Common.{◌≡◌, ℕ, List, [], ◌∷◌, ◌++◌, sym, ap, ap₂, ◌∙◌, subst}
use Rattle.bd_value.specs.Tree.{Doc}
use Rattle.bd_cursor_model.specs.Session.{State}
use Rattle.bd_io_lines.specs.Serving.{RepliesInTurn}
use Rattle.bd_cli_service.specs.Reply.{reply_text}
use Rattle.bd_cli_service.specs.Talk.{RepliesInText}

module _ (bytes : List ℕ) (ds : List Doc) where
  -- the text of a reply, and the state after it
  reply_once : (s t u : State) (line text other : List ℕ) → RepliesInText bytes ds s line text t → RepliesInText bytes ds s line other u
      → (text ≡ other) × (t ≡ u)
  reply_once s t u line text other (r, a, written) (o, b, wrote) =
      (written ∙ ap reply_text (a.reports ∙ sym b.reports) ∙ sym wrote, a.moves ∙ sym b.moves)

  pub texts_once : (s : State) (lines : List (List ℕ)) (text other : List ℕ) (t u : State) → RepliesInTurn (RepliesInText bytes ds) s lines text t
      → RepliesInTurn (RepliesInText bytes ds) s lines other u → (text ≡ other) × (t ≡ u)
  texts_once s [] text other t u (same, none) (is, bare) = (none ∙ sym bare, same ∙ sym is)
  texts_once s (line ∷ lines) text other t u (reply, mid, rest, one, more, is) (answer, half, later, two, others, was) =
      let first = reply_once s mid half line reply answer one two in
      let unchanged = subst (λ x. RepliesInTurn (RepliesInText bytes ds) x lines later u) (sym first.1) others in
      let next = texts_once mid lines rest later t u more unchanged in
      (is ∙ ap₂ (λ (x y : List ℕ). x ++ 10 ∷ y) first.0 next.0 ∙ sym was, next.1)
