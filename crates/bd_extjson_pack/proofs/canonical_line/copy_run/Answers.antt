use Rattle.std.proofs.Common.{rules, ◌≡◌, ◌≤◌, ◌+◌, ◌-◌, ◌++◌, ℕ, List, length, take, drop, arith, ap, sym, ◌∙◌, add_assoc}
use Rattle.std.proofs.lemmas.List.{take_all}
use Rattle.bd_extjson_pack.proofs.CanonicalLemmas.{part_long, part_within, more_plain, more_copied, copied_back}
use Rattle.bd_extjson_pack.proofs.canonical_line.copy_run.Goals as goal

pub returns-then-plain-lt-BLOCK : goal.returns-then-plain-lt-BLOCK
returns-then-plain-lt-BLOCK c =
    let l = c.loop-block in
    let bytes = c.args.bytes.now in
    let old = c.args.out.now.items in
    let block = c.in-Some.block.now in
    let n = c.plain_length-plain in
    let first = c.in-Some.ensures.cases in
    let within = part_within bytes old l.out.items l.passed l.invariant.within l.invariant.copied block 32 n.result first.same first.enough (omega arith) in
    let size : c.len-start.result + (l.passed + n.result) + 1 ≡ length old + (l.passed + (n.result + 1)) = omega arith in
    let copied = copied_back bytes old l.out.items l.passed l.invariant.within l.invariant.copied block 32 (n.result + 1) first.same first.enough (omega arith) c.truncate.new.self.items
    (c.truncate.ensures.items ∙ ap (λ k. take k c.extend_from_slice.new.self.items) size
    ∙ ap (λ (x : List ℕ). take (length old + (l.passed + (n.result + 1))) x) c.in_ok-extend_from_slice.ensures.items) in (
      omega arith,
      more_plain bytes old l.out.items l.passed l.invariant.within l.invariant.copied block 32 n.result first.same first.enough (omega arith) l.invariant.plain n.ensures.plain,
      copied ∙ ap (λ k. old ++ take k bytes) (sym (add_assoc l.passed n.result 1)),
    )

pub loop-block-preserved : goal.loop-block-preserved
loop-block-preserved c =
    let l = c.loop-block in
    let bytes = c.args.bytes.now in
    let old = c.args.out.now.items in
    let block = c.in-Some.block.now in
    let n = c.plain_length-plain in
    let first = c.in-Some.ensures.cases in
    let long = part_long bytes old l.out.items l.passed l.invariant.within l.invariant.copied block 32 32 first.same first.enough (omega arith) in
    let within = part_within bytes old l.out.items l.passed l.invariant.within l.invariant.copied block 32 32 first.same first.enough (omega arith) in
    let all : n.result ≡ 32 = omega (arith, n.ensures.within, long) in
    let whole : take n.result block ≡ block = take_all n.result block (omega arith) in
    record {
      within = omega arith;
      copied = more_copied bytes old l.out.items l.passed l.invariant.within l.invariant.copied block 32 n.result first.same first.enough (omega arith) c.extend_from_slice.new.self.items
          (c.in_ok-extend_from_slice.ensures.items ∙ ap (λ (x : List ℕ). l.out.items ++ x) (sym whole));
      plain = more_plain bytes old l.out.items l.passed l.invariant.within l.invariant.copied block 32 n.result first.same first.enough (omega arith) l.invariant.plain n.ensures.plain;
    }

pub returns : goal.returns
returns c =
    let l = c.loop-block in
    let bytes = c.args.bytes.now in
    let old = c.args.out.now.items in
    let rest : List ℕ = take (length bytes - l.passed) (drop l.passed bytes) in
    let n = c.plain_length-plain-2 in
    let run : c.in_ok-run.run'.now ≡ take (n.result + 1) rest = search rules in
    let inside : n.result + 1 ≤ length rest = search rules in
    let whole : rest ≡ take (length rest) rest = sym (take_all (length rest) rest (omega arith)) in
    let within = part_within bytes old l.out.items l.passed l.invariant.within l.invariant.copied rest (length rest) (length rest) whole (omega arith) (omega arith) in
    let copied = more_copied bytes old l.out.items l.passed l.invariant.within l.invariant.copied rest (length rest) (n.result + 1) whole (omega arith) inside c.extend_from_slice-2.new.self.items
    (c.in_ok-extend_from_slice-2.ensures.items ∙ ap (λ (x : List ℕ). l.out.items ++ x) run) in (
      omega arith,
      more_plain bytes old l.out.items l.passed l.invariant.within l.invariant.copied rest (length rest) n.result whole (omega arith) (omega arith) l.invariant.plain n.ensures.plain,
      copied ∙ ap (λ k. old ++ take k bytes) (sym (add_assoc l.passed n.result 1)),
    )
