use Rattle.std.proofs.Common.{ℕ, ◌∙◌, ap, drop, length, refl, sym}
use Rattle.std.specs.Option.{option_map}
use Rattle.bd_cursor_model.specs.{Answer.limited, Session.remaining_after}
use Rattle.bd_query_filter.specs.Filter.{filter_tree}
use Rattle.bd_cursor_sort.specs.Selection.{matches_at_of, selection_of}
use Rattle.bd_cursor.specs.SessionView.{position_of, positioned_token}
use Rattle.bd_cursor.proofs.CursorLemmas.{answer_limited, rest_limited, unseen}
use Rattle.bd_cursor.proofs.cursor.ScanPosition.of.Goals.{in-Some, in-None}
use Rattle.bd_cursor.proofs.cursor.ScanPosition.of.Goals as goal

pub returns : goal.returns
returns c ds none =
    let r = c.args.request.now in
    let remaining = λ (n : ℕ × ℕ × ℕ). drop n.1 (unseen (length ds) (matches_at_of ds (filter_tree r.filter)) n.0) in
    c.most_remaining.ensures (remaining c.match-token.next) ∙ elim c.match-token.branch [
      | in-Some w ↦ ap (λ (n : ℕ × ℕ × ℕ). limited r.limit n.2 (remaining n)) w.next-is ∙ rest_limited ds r none r.limit (position_of w.in-Some.token) refl
          ∙ ap (λ t. remaining_after (selection_of ds r) (option_map positioned_token t)) (sym w.in-Some.is)
      | in-None w ↦ ap (λ (n : ℕ × ℕ × ℕ). limited r.limit n.2 (remaining n)) w.next-is ∙ answer_limited ds r none r.skip r.limit refl refl
          ∙ ap (λ t. remaining_after (selection_of ds r) (option_map positioned_token t)) (sym w.in-None.is)
    ]
