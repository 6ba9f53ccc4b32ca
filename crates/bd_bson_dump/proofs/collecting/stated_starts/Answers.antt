use Rattle.std.proofs.Common.{◌≡◌, ◌+◌, ◌∙◌, ℕ, List, ap, arith, length, rules}
use Rattle.std.proofs.lemmas.{List.length-drop}
use Rattle.bd_bson_view.specs.Sizes.{number_of}
use Rattle.bd_bson_dump.proofs.CollectionLemmas.{first, takes_first}
use Rattle.bd_bson_dump.proofs.collecting.stated_starts.Goals as goal

pub number-requires : goal.number-requires
number-requires c =
    let f = first c.args.bytes.now c.loop-at.at (omega arith) c.loop-at.invariant.1 in
    omega (arith, f.five, f.inside, length-drop c.loop-at.at c.args.bytes.now, ap (λ (x : List ℕ). length x) c.split_at.ensures.back)

pub loop-at-smaller : goal.loop-at-smaller
loop-at-smaller c =
    let f = first c.args.bytes.now c.loop-at.at (omega arith) c.loop-at.invariant.1 in
    let n : c.number.result ≡ length f.prefix = c.number.ensures ∙ ap number_of c.split_at.ensures.back ∙ f.states in
    omega (arith, f.five, f.inside, n)

pub loop-at-preserved : goal.loop-at-preserved
loop-at-preserved c =
    let f = first c.args.bytes.now c.loop-at.at (omega arith) c.loop-at.invariant.1 in
    let n : c.number.result ≡ length f.prefix = c.number.ensures ∙ ap number_of c.split_at.ensures.back ∙ f.states in
    let step = takes_first c.args.bytes.now c.loop-at.starts.items c.push.new.self.items c.loop-at.at (c.loop-at.at + c.number.result)
    c.loop-at.invariant.0 f (ap (λ (k : ℕ). c.loop-at.at + k) n) (search rules) in
    (step.0, step.1, c.loop-at.invariant.2)
