use Rattle.std.proofs.Common.{take, ap, ◌∙◌, List, ℕ, [], ◌∷◌, ◌++◌}
use Rattle.bd_wide_dump.proofs.fields.FieldsBuffer.line.Goals as goal

pub returns : goal.returns
returns c =
    let t = c.in_ok-end.ensures.text in
    (t.0, t.1, ap (λ (x : List ℕ). take c.in_ok-end-2.end x) c.deref.ensures.value ∙ c.in_ok-end-2.ensures.text.0 ∙ ap (λ (x : List ℕ). x ++ 10 ∷ []) t.2)
