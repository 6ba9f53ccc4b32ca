use Rattle.std.proofs.Common.{drop, arith}
use Rattle.bd_bson_view.specs.Raw.{value_tree}
use Rattle.bd_bson_check.proofs.FirstFaultLemmas.{IsBytes-drop}
use Rattle.bd_wide_dump.specs.declared.format.JsonFormat.TheVariants.{Relaxed}
use Rattle.bd_wide_dump.proofs.ValueLemmas as v
use Rattle.bd_wide_dump.proofs.line.append_relaxed_scalar.Goals as goal

pub there-requires : goal.there-requires
there-requires c = record {
  short = omega (arith, c.requires.short);
  inside = c.requires.inside;
  sound = v.sound_here c.args.kind (drop c.args.start c.args.bytes.now) c.requires.scalar.0 c.requires.scalar.1.0 c.requires.scalar.1.1
      (IsBytes-drop c.args.start c.args.bytes.now (λ i. (c.type_inv.bytes i).fits)) c.requires.value.0 c.requires.value.1;
}

pub append_relaxed-requires-clause-scalar : goal.append_relaxed-requires-clause-scalar
append_relaxed-requires-clause-scalar c =
    let fits = IsBytes-drop c.args.start c.args.bytes.now (λ i. (c.type_inv.bytes i).fits) in
    let here = drop c.args.start c.args.bytes.now in
    (_, v.plain_viewed c.args.kind here c.requires.scalar.0 c.requires.scalar.1.0 c.requires.scalar.1.1 fits (value_tree c.there.result) c.there.ensures.meaning c.requires.value.0 c.requires.value.1)

pub returns-clause-text : goal.returns-clause-text
returns-clause-text c = λ tree h.
    v.plain_appended c.args.kind (drop c.args.start c.args.bytes.now) c.requires.scalar.0 c.requires.scalar.1.0 c.requires.scalar.1.1
    (IsBytes-drop c.args.start c.args.bytes.now (λ i. (c.type_inv.bytes i).fits)) Relaxed (value_tree c.there.result) c.args.out.now.items c.args.end c.append_relaxed.new.out.items c.append_relaxed.result
    c.there.ensures.meaning c.append_relaxed.ensures.text tree h
