use Rattle.std.proofs.Common.{rules, ◌≡◌, ◌++◌, ◌∷◌, [], List, ℕ, arith, take, ap, ap₂, ◌∙◌, append_assoc}
use Rattle.bd_extjson_text.specs.Text.{hex_text}
use Rattle.bd_extjson_text.proofs.ScalarLemmas.{id_written}
use Rattle.bd_extjson_text.proofs.scalar.put_id.Goals as goal

pub returns-clause-appended : goal.returns-clause-appended
returns-clause-appended c =
    let digits = c.digit_pairs.result.0 ++ c.digit_pairs.result.1 in
    let before = take c.args.end c.args.buffer.now in
    let put : take c.put.result c.put.new.buffer ≡ before ++ digits =
    c.put.ensures.appended ∙ ap (λ (l : List ℕ). l ++ c.as_array-2.result.now) c.put-after.ensures.appended ∙ append_assoc before c.as_array.result.now c.as_array-2.result.now
    ∙ ap₂ (λ (a b : List ℕ). before ++ (a ++ b)) c.as_array.ensures c.as_array-2.ensures in
    let zeros : List ℕ = 0 ∷ 0 ∷ 0 ∷ 0 ∷ [] in
    let copied : c.copy_from_slice.new.self ≡ c.args.id.now = search rules in
    let all = c.digit_pairs.ensures.digits ∙ ap (λ (l : List ℕ). hex_text (l ++ zeros)) copied in
    id_written c.args.end c.put.result c.args.buffer.now c.put.new.buffer digits c.args.id.now zeros (omega arith) (omega (arith, c.put.ensures.end)) put all (search rules)
