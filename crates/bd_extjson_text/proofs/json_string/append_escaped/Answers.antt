use Rattle.std.proofs.Common.{◌≡◌, ◌++◌, List, ℕ, Some, None, length, take, sym, ap, ◌∙◌, refl, arith}
use Rattle.std.specs.List.{position}
use Rattle.std.proofs.lemmas.List.{length-take, length-drop}
use Rattle.std.proofs.lemmas.List.Quantifiers.{position-Some}
use Rattle.bd_extjson_text.specs.Text.{needs_escape, escaped}
use Rattle.bd_extjson_text.proofs.JsonStringLemmas.{run_step, escaped-to_end}
use Rattle.bd_extjson_text.proofs.BufferLemmas.{splits, prefix, rises, chained, lent}
use Rattle.bd_extjson_text.proofs.json_string.append_escaped.Goals as goal

pub put_escape-at-requires-clause-escape : goal.put_escape-at-requires-clause-escape
put_escape-at-requires-clause-escape c =
    let e : position needs_escape c.loop-run.rest.now ≡ Some c.in-Some.run' = cc in
    (position-Some needs_escape c.loop-run.rest.now c.in-Some.run' 0 e).1

pub loop-run-preserved : goal.loop-run-preserved
loop-run-preserved c =
    let e : position needs_escape c.loop-run.rest.now ≡ Some c.in-Some.run' = cc in
    let i = c.loop-run.invariant in
    let step =
    run_step c.loop-run.rest.now (take c.loop-run.at c.loop-run.out.items) (take c.args.end c.args.out.now.items ++ escaped c.args.text.now)
    c.in-Some.run' (length c.loop-run.rest.now) e refl i.whole in
    let buffer = c.put_escape-at.new.buffer in
    let items = c.grow_buffer.new.out.items in
    let same : length buffer ≡ length items = omega (arith, c.put_escape-at.auto.buffer, c.put-at.auto.buffer, c.as_mut_slice-buffer.ensures.len, c.grow_buffer.new.out.ok.0) in
    let back = lent c.grow_buffer.new.out.len buffer items same c.grow_buffer.new.out.ok.0 in
    let lead : take c.loop-run.at c.as_mut_slice-buffer.result.now ≡ take c.loop-run.at c.loop-run.out.items =
    ap (λ (l : List ℕ). take c.loop-run.at l) c.as_mut_slice-buffer.ensures.value ∙ c.grow_buffer.ensures.unchanged in
    let put = chained c.loop-run.at c.put-at.result c.put_escape-at.result c.loop-run.out.items c.put-at.new.buffer buffer _ _ (c.put-at.ensures.appended
    ∙ ap (λ (l : List ℕ). l ++ take c.in-Some.run' c.loop-run.rest.now) lead) c.put_escape-at.ensures.appended in
    record {
      inside = rw back (omega (arith, same, c.put_escape-at.ensures.end, c.put-at.ensures.end, c.in_ok-grow_buffer.ensures.capacity, length-take c.in-Some.run' c.loop-run.rest.now));
      whole = rw (back, c.put_escape-at.ensures.appended, c.put-at.ensures.appended, lead) step;
      unchanged = rw back (splits _ _ _ _ i.after (prefix c.loop-run.at c.put_escape-at.result c.loop-run.out.items _ buffer i.inside put) ∙ i.unchanged);
      after = let r = rises c.loop-run.at c.put_escape-at.result c.loop-run.out.items _ buffer i.inside put in omega (arith, i.after, r);
      shorter = omega (arith, i.shorter, length-take {A = ℕ}, length-drop {A = ℕ});
    }

pub returns-clause-text : goal.returns-clause-text
returns-clause-text c =
    let e : position needs_escape c.loop-run.rest.now ≡ None = sym c.first_escape.ensures ∙ c.in_default.is in
    let i = c.loop-run.invariant in
    let buffer = c.put.new.buffer in
    let items = c.grow_buffer-2.new.out.items in
    let same : length buffer ≡ length items = omega (arith, c.put.auto.buffer, c.as_mut_slice.ensures.len, c.grow_buffer-2.new.out.ok.0) in
    let back = lent c.grow_buffer-2.new.out.len buffer items same c.grow_buffer-2.new.out.ok.0 in
    let lead : take c.loop-run.at c.as_mut_slice.result.now ≡ take c.loop-run.at c.loop-run.out.items = ap (λ (l : List ℕ). take c.loop-run.at l)
    c.as_mut_slice.ensures.value ∙ c.grow_buffer-2.ensures.unchanged in (
      ap (λ (l : List ℕ). take c.put.result l) back ∙ c.put.ensures.appended ∙ ap (λ (l : List ℕ). l ++ c.loop-run.rest.now) lead
          ∙ ap (λ (l : List ℕ). take c.loop-run.at c.loop-run.out.items ++ l) (sym (escaped-to_end c.loop-run.rest.now e)) ∙ i.whole,
      rw back (omega (arith, same, c.put.ensures.end, c.in_ok-grow_buffer-2.ensures.capacity)),
    )
