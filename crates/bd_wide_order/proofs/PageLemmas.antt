-- Cursors with the same remaining places, and tokens with the same positions, have the same pages.
use Rattle.std.proofs.Common.{◌≡◌, ℕ, ◌+◌, List, [], ◌∷◌, take, drop, length, min, refl, sym, ap, ap₂, ◌∙◌, Option, Some, None}
use Rattle.std.specs.Prelude.{option_map, slice_index_or}
use Rattle.bd_cursor_model.specs.Answer.{Position, Selection, answer, is_empty, rest}
use Rattle.bd_cursor_model.specs.Session.{PositionedToken, OpenCursor, Query, given_by, remaining_after, most_given, moved, token_after}
use Rattle.bd_wide_order.specs.Pages.{HaveOneAnswer, cursor_at, position_of, pages_from, token_at}

abbrev given_at : Option Position → ℕ
given_at None = 0
given_at (Some m) = m.given

given_is : (t : Option PositionedToken) → given_by t ≡ given_at (position_of t)
given_is None = refl
given_is (Some t) = refl

-- the position of the token after some places depends on the position before them
token_stays : (d e : List ℕ) (t u : Option PositionedToken) → position_of t ≡ position_of u → (ps : List ℕ) → position_of (token_after d t ps) ≡ position_of (token_after e u ps)
token_stays d e t u same [] = same
token_stays d e t u same (p ∷ ps) =
    ap (λ (n : ℕ). let m : Position = record { given = min most_given (n + length (p ∷ ps)); last = slice_index_or (p ∷ ps) (length ps) 0 } in Some m)
    (given_is t ∙ ap given_at same ∙ sym (given_is u))

pages_stay : (sizes : List ℕ) (c e : OpenCursor) → c.remaining ≡ e.remaining → position_of c.token ≡ position_of e.token → pages_from c sizes ≡ pages_from e sizes
pages_stay [] c e remaining positions = refl
pages_stay (n ∷ ns) c e remaining positions =
    let token : position_of (token_after c.digest c.token (take n c.remaining)) ≡ position_of (token_after e.digest e.token (take n e.remaining))
    = token_stays c.digest e.digest c.token e.token positions (take n c.remaining) ∙ ap (λ ps. position_of (token_after e.digest e.token (take n ps))) remaining in
    ap₂ ◌∷◌ (λ i. record { places = take n (remaining i); position = token i; ends = is_empty (drop n (remaining i)) })
    (pages_stay ns (moved c n) (moved e n) (ap (drop n) remaining) token)

remaining_stays : (a b : Selection) (d e : List ℕ) → a ≡ b → (position : Option Position) → remaining_after a (option_map (λ m. record { position = m; digest = d }) position) ≡ remaining_after b (option_map (λ m. record { position = m; digest = e }) position)
remaining_stays a b d e same None = ap answer same
remaining_stays a b d e same (Some m) = ap (λ s. rest s m) same

positions_stay : (q r : Query) (position : Option Position) → position_of (token_at q position) ≡ position_of (token_at r position)
positions_stay q r None = refl
positions_stay q r (Some m) = refl

pub one_answer : (q r : Query) → q.selection ≡ r.selection → HaveOneAnswer q r
one_answer q r same = record {
  selection = same;
  pages_alike = λ position sizes. pages_stay sizes (cursor_at q position) (cursor_at r position) (remaining_stays q.selection r.selection q.digest r.digest same position) (positions_stay q r position);
}
