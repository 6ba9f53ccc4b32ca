use Rattle.std.proofs.Common.{length, drop, arith, ap, ◌∙◌, List, ℕ}
use Rattle.bd_wide_copy.proofs.StartsLemmas.{number_inside, start_inside, framed_here, document_here, sound_here}
use Rattle.bd_wide_copy.proofs.dump.WideDump.document.Goals as goal

pub index-requires : goal.index-requires
index-requires c = let d = c.args.self.now in omega (arith, number_inside d.bytes.items d.starts.items d.fit d.begin d.sound c.args.n c.requires)

pub split_at-requires : goal.split_at-requires
split_at-requires c =
    let d = c.args.self.now in
    let lt = number_inside d.bytes.items d.starts.items d.fit d.begin d.sound c.args.n c.requires in
    omega (arith, start_inside d.bytes.items d.starts.items d.fit d.begin d.sound c.args.n c.index.result.now lt c.index.ensures, ap (λ (x : List ℕ). length x) c.deref.ensures.value)

pub number-size-requires : goal.number-size-requires
number-size-requires c =
    let d = c.args.self.now in
    let lt = number_inside d.bytes.items d.starts.items d.fit d.begin d.sound c.args.n c.requires in
    let rest = c.split_at.ensures.back ∙ ap (drop c.index.result.now) c.deref.ensures.value in
    let f = framed_here d.bytes.items d.starts.items d.fit d.begin d.sound c.args.n c.index.result.now c.split_at.result.1.now lt c.index.ensures rest in
    omega (arith, f.0, f.1)

pub split_at-requires-2 : goal.split_at-requires-2
split_at-requires-2 c =
    let d = c.args.self.now in
    let lt = number_inside d.bytes.items d.starts.items d.fit d.begin d.sound c.args.n c.requires in
    let rest = c.split_at.ensures.back ∙ ap (drop c.index.result.now) c.deref.ensures.value in
    let f = framed_here d.bytes.items d.starts.items d.fit d.begin d.sound c.args.n c.index.result.now c.split_at.result.1.now lt c.index.ensures rest in
    rw c.number-size.ensures f.1

pub returns-clause-document : goal.returns-clause-document
returns-clause-document c =
    let d = c.args.self.now in
    let lt = number_inside d.bytes.items d.starts.items d.fit d.begin d.sound c.args.n c.requires in
    let rest = c.split_at.ensures.back ∙ ap (drop c.index.result.now) c.deref.ensures.value in
    document_here d.bytes.items d.starts.items d.fit d.begin d.sound c.args.n c.index.result.now c.number-size.result c.split_at.result.1.now c.split_at-2.result.0.now
    lt c.index.ensures rest c.number-size.ensures c.split_at-2.ensures.front

pub returns-clause-sound : goal.returns-clause-sound
returns-clause-sound c =
    let d = c.args.self.now in
    let lt = number_inside d.bytes.items d.starts.items d.fit d.begin d.sound c.args.n c.requires in
    let rest = c.split_at.ensures.back ∙ ap (drop c.index.result.now) c.deref.ensures.value in
    sound_here d.bytes.items d.starts.items d.fit d.begin d.sound c.args.n c.index.result.now c.number-size.result c.split_at.result.1.now c.split_at-2.result.0.now
    lt c.index.ensures rest c.number-size.ensures c.split_at-2.ensures.front
