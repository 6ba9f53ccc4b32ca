use Rattle.std.proofs.Common.{arith, ◌≡◌, ℕ, List, ◌+◌, ◌-◌, ◌++◌, take, drop, sym, ap, ◌∙◌}
use Rattle.std.proofs.Math.Seq.{take-add}
use Rattle.std.proofs.lemmas.List.{length-take, length-drop}
use Rattle.bd_extjson_text.specs.Text.{needs_escape}
use Rattle.bd_extjson_text.proofs.BufferLemmas.{prefix, chained, none_of_two}
use Rattle.bd_extjson_text.proofs.json_string.copy_many.Goals as goal

pub returns-then-any_escape-clause-unchanged : goal.returns-then-any_escape-clause-unchanged
returns-then-any_escape-clause-unchanged c =
    prefix c.args.end (c.args.end + c.loop-passed.passed) c.args.buffer.now (take c.loop-passed.passed c.args.text.now) c.loop-passed.buffer (omega arith) c.loop-passed.invariant.copied

pub loop-passed-preserved : goal.loop-passed-preserved
loop-passed-preserved c =
    let i = c.loop-passed.invariant in
    let k : ℕ = c.loop-passed.passed in
    let text = c.args.text.now in
    let part : List ℕ = take (k + 16 - k) (drop k text) in
    let size : k + 16 - k ≡ 16 = omega arith in
    let parts : take (k + 16) text ≡ take k text ++ part = take-add k 16 text ∙ ap (λ n. take k text ++ take n (drop k text)) (sym size) in
    let after : c.put.result ≡ c.args.end + (k + 16) = omega (arith, c.put.ensures.end, length-take (k + 16 - k) (drop k text), length-drop k text) in
    record {
      inside = omega arith;
      copied = ap (λ n. take n c.put.new.buffer) (sym after) ∙ chained c.args.end _ _ c.args.buffer.now c.loop-passed.buffer c.put.new.buffer (take k text) part i.copied c.put.ensures.appended
          ∙ ap (λ (l : List ℕ). take c.args.end c.args.buffer.now ++ l) (sym parts);
      plain = none_of_two needs_escape (take k text) part (take (k + 16) text) parts i.plain (sym c.any_escape.ensures ∙ c.if-any_escape.false);
    }

pub returns-clause-unchanged : goal.returns-clause-unchanged
returns-clause-unchanged c =
    let k : ℕ = c.loop-passed.passed in
    let text = c.args.text.now in
    prefix c.args.end (c.args.end + k) c.args.buffer.now (take k text) c.copy_ends.new.buffer (omega arith)
    (prefix (c.args.end + k) _ c.loop-passed.buffer _ c.copy_ends.new.buffer (omega arith) c.copy_ends.ensures.copied ∙ c.loop-passed.invariant.copied)
