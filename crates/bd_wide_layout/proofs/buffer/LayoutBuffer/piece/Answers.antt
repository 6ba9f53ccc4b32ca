use Rattle.std.proofs.Common.{take, ap, ap₂, ◌∙◌, List, ℕ, ◌++◌, append_assoc}
use Rattle.bd_wide_layout.specs.Layout.{before, ending, layout_view}
use Rattle.bd_wide_layout.proofs.buffer.LayoutBuffer.piece.Goals as goal

pub returns : goal.returns
returns c =
    let layout = layout_view c.args.layout.now in
    let t = c.in_ok-end-2.ensures.text in
    let first = c.in_ok-end.ensures.text.0 ∙ c.before-2.ensures in
    let whole = ap (λ (x : List ℕ). take c.in_ok-end-3.end x) c.deref.ensures.value ∙ c.in_ok-end-3.ensures.text.0
    ∙ ap₂ (λ (x y : List ℕ). x ++ y) (t.2 ∙ ap (λ (x : List ℕ). x ++ t.0) first) c.ending.ensures
    ∙ append_assoc (before layout c.args.number) t.0 (ending layout) in
    (t.1.0, t.1.1, (t.0, t.1.2, whole))
