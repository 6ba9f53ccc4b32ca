use Rattle.std.proofs.Common.{arith, ap, ◌∙◌, drop, ◌+◌, ℕ}
use Rattle.bd_bson_view.specs.Sizes.{size_of}
use Rattle.bd_bson_view.proofs.ValueAtLemmas.{reads_at, size_at}
use Rattle.bd_bson_view.proofs.ElementsLemmas.{value_fits}
use Rattle.bd_bson_view.proofs.raw.RawValue.end.Goals as goal

pub overflow_add-result : goal.overflow_add-result
overflow_add-result c =
    let e = c.size.ensures ∙ ap (size_of c.args.self.kind) c.split_at.ensures.back ∙ size_at c.args.self.kind (drop c.args.self.start c.args.self.bytes.now) c.args.self.sound in
    let f = value_fits c.args.self.bytes.now c.args.self.start c.args.self.kind c.args.self.sound c.args.self.inside in
    omega arith

pub size-requires : goal.size-requires
size-requires c = rw c.split_at.ensures.back (reads_at c.args.self.kind (drop c.args.self.start c.args.self.bytes.now) c.args.self.sound)

pub returns : goal.returns
returns c = ap (λ (n : ℕ). c.args.self.start + n) (c.size.ensures ∙ ap (size_of c.args.self.kind) c.split_at.ensures.back
    ∙ size_at c.args.self.kind (drop c.args.self.start c.args.self.bytes.now) c.args.self.sound)
