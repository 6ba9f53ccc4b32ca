use Rattle.std.proofs.Common.{◌-◌, [], Some, sym, ap, append-nil, ◌∙◌}
use Rattle.bd_wide.specs.declared.element.Part.{Part}
use Rattle.bd_wide_copy.specs.inside.Collected.{level_numbers}
use Rattle.bd_wide_copy.proofs.CollectLemmas as collects
use Rattle.bd_wide_copy.proofs.numbers.+collecting.Goals as goal

pub elements-returns-then-levels-eq0-clause-ok : goal.elements-returns-then-levels-eq0-clause-ok
elements-returns-then-levels-eq0-clause-ok t c = collects.no_levels c.args.numbers.now.items c.args.levels c.args.bytes.now c.if-levels-eq0.true

pub elements-loop-typed-init : goal.elements-loop-typed-init
elements-loop-typed-init t c = record {
  comes = collects.begins c.args.numbers.now.items c.args.levels c.args.bytes.now c.if-levels-eq0.false;
  begins = ([], sym (append-nil c.args.numbers.now.items));
}

pub elements-loop-typed-preserved-in_ok-value_numbers : goal.elements-loop-typed-preserved-in_ok-value_numbers
elements-loop-typed-preserved-in_ok-value_numbers t c =
    let l = c.loop-typed in
    let s = c.in-Some in
    record {
      comes = collects.goes_on (level_numbers (c.args.levels - 1)) c.args.numbers.now.items (level_numbers c.args.levels c.args.bytes.now) l.numbers.items
          c.value_numbers.new.numbers.items l.rest.now c.split_at.result.1.now c.split_at-in-Some.result.0.now c.split_at-in-Some.result.1.now s.typed s.k s.n _
          l.invariant.comes s.ensures.gives c.split_at.ensures.back c.split_at-in-Some.ensures.front c.split_at-in-Some.ensures.back
          c.in-Some-looked_into.ensures c.in_ok-value_numbers.ensures.ok;
      begins = collects.extends_more c.args.numbers.now.items l.numbers.items c.value_numbers.new.numbers.items _ l.invariant.begins c.in_ok-value_numbers.ensures.ok;
    }

pub elements-loop-typed-preserved : goal.elements-loop-typed-preserved
elements-loop-typed-preserved t c =
    let l = c.loop-typed in
    let s = c.in-Some in
    record {
      comes = collects.goes_on (level_numbers (c.args.levels - 1)) c.args.numbers.now.items (level_numbers c.args.levels c.args.bytes.now) l.numbers.items
          l.numbers.items l.rest.now c.split_at.result.1.now c.split_at-in-Some.result.0.now c.split_at-in-Some.result.1.now s.typed s.k s.n _
          l.invariant.comes s.ensures.gives c.split_at.ensures.back c.split_at-in-Some.ensures.front c.split_at-in-Some.ensures.back
          c.in_default-looked_into.ensures (sym (append-nil l.numbers.items));
      begins = l.invariant.begins;
    }

pub elements-returns-clause-ok : goal.elements-returns-clause-ok
elements-returns-clause-ok t c =
    collects.ends (level_numbers (c.args.levels - 1)) c.args.numbers.now.items (level_numbers c.args.levels c.args.bytes.now) c.loop-typed.numbers.items c.loop-typed.rest.now
    c.in_default.ensures.gives c.loop-typed.invariant.comes

pub value_numbers-inside-requires : goal.value_numbers-inside-requires
value_numbers-inside-requires t c = collects.holder_fits c.args.typed c.in-Values.holder c.args.value.now (c.requires.part ∙ ap (λ (p : Part). Some p) c.in-Values.is) c.requires.value
