use Rattle.std.proofs.Common.{drop, sym, ◌∙◌, refl, arith}
use Rattle.bd_bson_view.specs.Raw.{value_tree}
use Rattle.bd_bson_check.proofs.FirstFaultLemmas.{IsBytes-drop}
use Rattle.bd_value.specs.declared.node.Kind.TheVariants as kinds
use Rattle.bd_wide_dump.specs.declared.format.JsonFormat.TheVariants.{Relaxed}
use Rattle.bd_wide_dump.specs.Plain.{IsPlainText}
use Rattle.bd_wide_dump.specs.WideText.{IsTextOf}
use Rattle.bd_wide_dump.proofs.PlainTextLemmas.{no_kind, plain_appended, plain_scalar, relaxed_plain}
use Rattle.bd_wide_dump.proofs.RelaxedLemmas.{weaker}
use Rattle.bd_wide_dump.proofs.ValueLemmas as v
use Rattle.bd_wide_dump.proofs.plain.append_kept.Goals as goal

pub there-requires : goal.there-requires
there-requires c =
    let is_kind_plain = sym c.is_plain.ensures ∙ c.if-is_plain.true in
    let fits = IsBytes-drop c.args.start c.args.bytes.now (λ i. (c.type_inv.bytes i).fits) in
    let here = drop c.args.start c.args.bytes.now in
    record {
      short = omega (arith, c.requires.short);
      inside = c.requires.inside;
      sound = v.sound_here c.args.kind here (no_kind c.args.kind kinds.Doc refl is_kind_plain) (no_kind c.args.kind kinds.Array refl is_kind_plain) (no_kind c.args.kind kinds.CodeScope refl is_kind_plain) fits c.requires.value.0
          c.requires.value.1;
    }

pub append_scalar-requires-clause-scalar : goal.append_scalar-requires-clause-scalar
append_scalar-requires-clause-scalar c =
    let is_kind_plain = sym c.is_plain.ensures ∙ c.if-is_plain.true in
    let fits = IsBytes-drop c.args.start c.args.bytes.now (λ i. (c.type_inv.bytes i).fits) in
    let p = plain_scalar c.args.kind (drop c.args.start c.args.bytes.now) is_kind_plain fits c.requires.value.0 c.requires.value.1 (value_tree c.there.result) c.there.ensures.meaning in
    (p.0, p.1, p.2)

pub returns-then-is_plain : goal.returns-then-is_plain
returns-then-is_plain c =
    let is_kind_plain = sym c.is_plain.ensures ∙ c.if-is_plain.true in
    let fits = IsBytes-drop c.args.start c.args.bytes.now (λ i. (c.type_inv.bytes i).fits) in
    plain_appended c.args.kind (drop c.args.start c.args.bytes.now) is_kind_plain fits (value_tree c.there.result) c.args.out.now.items c.args.end c.append_scalar.new.out.items c.append_scalar.result
    c.there.ensures.meaning c.append_scalar.ensures

pub returns : goal.returns
returns c = λ tree h.
    let fits = IsBytes-drop c.args.start c.args.bytes.now (λ i. (c.type_inv.bytes i).fits) in
    weaker c.args.out.now.items c.args.end c.append_value.new.out.items (IsTextOf Relaxed tree) (IsPlainText tree) c.append_value.result
    (relaxed_plain c.args.kind (drop c.args.start c.args.bytes.now) fits (sym c.is_plain.ensures ∙ c.if-is_plain.false) tree h) (c.append_value.ensures.text tree h)
