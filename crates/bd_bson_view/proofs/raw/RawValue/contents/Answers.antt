use Rattle.std.proofs.Common.{◌∙◌, length, List, ℕ, refl, sym, ap, subst, arith}
use Rattle.bd_value.specs.Tree.{scalar_leaf}
use Rattle.bd_bson_view.specs.Sizes.{TextAt, HasBytesOf, number_of, text_of, scalar_at}
use Rattle.bd_bson_view.proofs.ValueAtLemmas.{reads_at}
use Rattle.bd_bson_view.proofs.ContentsLemmas as v
use Rattle.bd_bson_view.proofs.raw.RawValue.contents.Goals as goal

pub invariant_of-result : goal.invariant_of-result
invariant_of-result c = record { short = c.args.self.short; remaining = (v.document_has_elements c.args.self.bytes.now c.args.self.start c.args.self.kind c.args.self.sound c.in-Doc.is).0 }

pub returns-in-Doc : goal.returns-in-Doc
returns-in-Doc c = ((v.document_has_elements c.args.self.bytes.now c.args.self.start c.args.self.kind c.args.self.sound c.in-Doc.is).1 _, refl)

pub invariant_of-result-in-Array : goal.invariant_of-result-in-Array
invariant_of-result-in-Array c = record { short = c.args.self.short; remaining = (v.array_has_elements c.args.self.bytes.now c.args.self.start c.args.self.kind c.args.self.sound c.in-Array.is).0 }

pub returns-in-Array : goal.returns-in-Array
returns-in-Array c = ((v.array_has_elements c.args.self.bytes.now c.args.self.start c.args.self.kind c.args.self.sound c.in-Array.is).1 _, refl)

pub split_at-requires-in-CodeScope : goal.split_at-requires-in-CodeScope
split_at-requires-in-CodeScope c =
    omega (arith, v.code_long c.args.self.bytes.now c.args.self.start c.args.self.kind c.args.self.sound c.in-CodeScope.is, ap (λ (x : List ℕ). length x) c.split_at.ensures.back)

pub number-requires : goal.number-requires
number-requires c =
    let after = v.after_four c.args.self.bytes.now c.args.self.start _ _ c.split_at.ensures.back c.split_at-in-CodeScope.ensures.back in
    let t = v.code_reads c.args.self.bytes.now c.args.self.start c.args.self.kind c.args.self.sound c.in-CodeScope.is in
    omega (arith, t.inside, ap (λ (x : List ℕ). length x) after)

pub text-requires : goal.text-requires
text-requires c =
    let after = v.after_four c.args.self.bytes.now c.args.self.start _ _ c.split_at.ensures.back c.split_at-in-CodeScope.ensures.back in
    subst TextAt (sym after) (v.code_reads c.args.self.bytes.now c.args.self.start c.args.self.kind c.args.self.sound c.in-CodeScope.is)

pub invariant_of-scope : goal.invariant_of-scope
invariant_of-scope c =
    let after = v.after_four c.args.self.bytes.now c.args.self.start _ _ c.split_at.ensures.back c.split_at-in-CodeScope.ensures.back in
    let n = c.number.ensures ∙ ap number_of after in
    let inside = v.scope_inside c.args.self.bytes.now c.args.self.start c.args.self.kind c.args.self.sound c.in-CodeScope.is c.number.result n in
    let sound = v.scope_sound c.args.self.bytes.now c.args.self.start c.args.self.kind c.args.self.sound c.in-CodeScope.is c.number.result n in
    record { short = c.args.self.short; inside = inside; sound = sound }

pub returns-in-CodeScope : goal.returns-in-CodeScope
returns-in-CodeScope c =
    let after = v.after_four c.args.self.bytes.now c.args.self.start _ _ c.split_at.ensures.back c.split_at-in-CodeScope.ensures.back in (
      v.code_is c.args.self.bytes.now c.args.self.start c.args.self.kind c.args.self.sound c.in-CodeScope.is c.number.result c.text.result.now _
          (c.number.ensures ∙ ap number_of after) (c.text.ensures.text ∙ ap text_of after),
      refl,
    )

pub scalar-requires : goal.scalar-requires
scalar-requires c =
    let none = v.no_holder_remaining c.args.self.kind c.in_default.not-Doc c.in_default.not-Array c.in_default.not-CodeScope in
    record { scalar = none; reads = subst (HasBytesOf c.args.self.kind) (sym c.split_at.ensures.back) (reads_at c.args.self.kind _ c.args.self.sound) }

pub returns-in_default : goal.returns-in_default
returns-in_default c =
    let none = v.no_holder_remaining c.args.self.kind c.in_default.not-Doc c.in_default.not-Array c.in_default.not-CodeScope in
    (_, v.leaf_is c.args.self.kind _ c.args.self.sound none, c.scalar.ensures ∙ ap (λ (x : List ℕ). scalar_leaf (scalar_at c.args.self.kind x)) c.split_at.ensures.back)
