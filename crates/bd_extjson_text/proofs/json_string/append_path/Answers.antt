use Rattle.std.proofs.Common.{◌+◌, ◌++◌, ◌∷◌, [], List, ℕ, take, drop, map, ap, ◌∙◌, arith}
use Rattle.std.specs.Prelude.{string_bytes}
use Rattle.std.specs.List.{join_with_byte}
use Rattle.bd_extjson_text.specs.Text.{escaped}
use Rattle.bd_extjson_text.proofs.TextLemmas.{to_come-all, name_written, drop-map}
use Rattle.bd_extjson_text.proofs.BufferLemmas.{begun, splits, failed, prefix, goes_on, still_unchanged}
use Rattle.bd_extjson_text.proofs.json_string.append_path.Goals as goal

pub loop-name-init : goal.loop-name-init
loop-name-init c =
    let names = map string_bytes c.args.path.now in
    let old = c.args.out.now.items in
    let quote = c.put_byte_in-at.ensures.appended ∙ ap (λ (l : List ℕ). l ++ 34 ∷ []) c.grow_buffer.ensures.unchanged in
    record {
      inside = omega (arith, c.put_byte_in-at.ensures.size, c.put_byte_in-at.ensures.end, c.in_ok-grow_buffer.ensures.capacity);
      whole = rw (to_come-all 46 names) (begun c.args.end c.put_byte_in-at.result 34 old c.put_byte_in-at.new.out.items (escaped (join_with_byte 46 names)) quote);
      unchanged = prefix c.args.end c.put_byte_in-at.result old (34 ∷ []) _ (omega arith) quote;
      after = omega (arith, c.put_byte_in-at.ensures.end);
    }

pub returns-in_err-at : goal.returns-in_err-at
returns-in_err-at c =
    let i = c.loop-name.invariant in
    failed _ _ _ _ c.from_residual-in_err-at.result c.from_residual-in_err-at.ensures.0 (splits c.args.end c.loop-name.at _ _ i.after c.in_err-at.ensures.text ∙ i.unchanged)

pub returns-in_err-at-2 : goal.returns-in_err-at-2
returns-in_err-at-2 c =
    let l = c.loop-name in
    let i = l.invariant in
    failed _ _ _ _ c.from_residual-in_err-at-2.result c.from_residual-in_err-at-2.ensures.0
    (still_unchanged c.args.end l.at c.args.out.now.items l.out.items i.after (omega (arith, i.inside)) i.unchanged c.in_ok-at.at
    c.append_separator.new.out.items c.append_text.new.out.items _ c.in_ok-at.ensures.text.0 c.in_err-at-2.ensures.text)

pub loop-name-preserved : goal.loop-name-preserved
loop-name-preserved c =
    let names = map string_bytes c.args.path.now in
    let l = c.loop-name in
    let i = l.invariant in
    let old = c.args.out.now.items in
    let on = goes_on c.args.end l.at old l.out.items i.after (omega (arith, i.inside)) i.unchanged c.in_ok-at.at c.in_ok-at-2.at
    c.append_separator.new.out.items c.append_text.new.out.items _ _ c.in_ok-at.ensures.text.0 c.in_ok-at-2.ensures.text.0 in
    let next = drop-map string_bytes c.args.path.now l.name-index c.name-item.result c.loop-name-test.true c.name-item.is in
    record {
      inside = omega (arith, c.in_ok-at-2.ensures.capacity);
      whole = name_written l.later c.as_bytes.result.now (string_bytes c.name-item.result) (drop l.name-index names) (drop (l.name-index + 1) names)
          (take l.at l.out.items) (take c.in_ok-at.at c.append_separator.new.out.items)
          (take c.in_ok-at-2.at c.append_text.new.out.items) (take c.args.end old ++ 34 ∷ escaped (join_with_byte 46 names)) c.in_ok-at.ensures.text.0
          c.in_ok-at-2.ensures.text.0 c.as_bytes.ensures.value next i.whole;
      unchanged = on.0;
      after = on.1;
    }
