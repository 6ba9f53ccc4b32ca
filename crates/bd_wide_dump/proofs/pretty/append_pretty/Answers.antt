use Rattle.std.proofs.Common.{List, ℕ, [], length, drop, sym, ap, subst, arith, slice_index_or}
use Rattle.std.proofs.lemmas.List.{length-drop}
use Rattle.bd_extjson_text.proofs.BufferLemmas.{failed}
use Rattle.bd_wide_dump.specs.Pretty.{laid_out}
use Rattle.bd_wide_dump.specs.declared.pretty.Position.TheVariants.{Outside}
use Rattle.bd_wide_dump.proofs.GoingLemmas as g
use Rattle.bd_wide_dump.proofs.PrettyLemmas.{open_bound}
use Rattle.bd_wide_dump.proofs.pretty.append_pretty.Goals as goal

pub loop-rest-init : goal.loop-rest-init
loop-rest-init c =
    let old = c.args.buffer.now.items in
    let text = c.args.text.now in
    let whole = laid_out Outside c.args.base 0 text in
    record {
      going = g.goes_on old c.args.end whole old c.append_few.new.out.items [] whole c.args.end c.in_ok-at.at (g.begun old c.args.end whole c.requires.buffer)
          c.in_ok-at.ensures.text.0 c.in_ok-at.ensures.text.1;
      level = omega arith;
      space = c.in_ok-at.ensures.capacity;
    }

pub returns-in_err-at-2 : goal.returns-in_err-at-2
returns-in_err-at-2 c =
    let i = c.loop-rest in
    let old = c.args.buffer.now.items in
    let whole = laid_out Outside c.args.base 0 c.args.text.now in
    failed c.args.end old c.append_gap.new.out.items whole c.from_residual-in_err-at-2.result c.from_residual-in_err-at-2.ensures.0
    (g.stopped old c.args.end whole i.buffer.items c.append_gap.new.out.items _ i.at i.invariant.going c.in_err-at-2.ensures.text)

pub returns-in_err-at-3 : goal.returns-in_err-at-3
returns-in_err-at-3 c =
    let i = c.loop-rest in
    let old = c.args.buffer.now.items in
    let whole = laid_out Outside c.args.base 0 c.args.text.now in
    let P : List ℕ → Type 0 = λ x. g.Going old c.args.end whole i.buffer.items i.at x in
    let so_far = subst P (c.token_length-size.ensures.token i.level i.before) i.invariant.going in
    let spaced = g.goes_on old c.args.end whole i.buffer.items c.append_gap.new.out.items _ _ i.at c.in_ok-at-2.at so_far c.in_ok-at-2.ensures.text.0 c.in_ok-at-2.ensures.text.1 in
    failed c.args.end old c.append_prefix.new.out.items whole c.from_residual-in_err-at-3.result c.from_residual-in_err-at-3.ensures.0
    (g.stopped old c.args.end whole c.append_gap.new.out.items c.append_prefix.new.out.items _ c.in_ok-at-2.at spaced c.in_err-at-3.ensures.text)

pub loop-rest-preserved : goal.loop-rest-preserved
loop-rest-preserved c =
    let i = c.loop-rest in
    let old = c.args.buffer.now.items in
    let whole = laid_out Outside c.args.base 0 c.args.text.now in
    let rest = i.rest.now in
    let b = slice_index_or rest 0 0 in
    let P : List ℕ → Type 0 = λ x. g.Going old c.args.end whole i.buffer.items i.at x in
    let so_far = subst P (c.token_length-size.ensures.token i.level i.before) i.invariant.going in
    let spaced = g.goes_on old c.args.end whole i.buffer.items c.append_gap.new.out.items _ _ i.at c.in_ok-at-2.at so_far c.in_ok-at-2.ensures.text.0 c.in_ok-at-2.ensures.text.1 in
    let put = g.goes_on old c.args.end whole c.append_gap.new.out.items c.append_prefix.new.out.items _ _ c.in_ok-at-2.at c.in_ok-at-3.at spaced c.in_ok-at-3.ensures.text.0 c.in_ok-at-3.ensures.text.1 in
    let Q : ℕ → List ℕ → Type 0 = λ n xs. g.Going old c.args.end whole c.append_prefix.new.out.items c.in_ok-at-3.at (laid_out Outside n b xs) in
    let levelled = subst (λ (n : ℕ). Q n (drop c.token_length-size.result rest)) (sym c.open_after-level.ensures) put in
    record {
      going = subst (λ (xs : List ℕ). Q c.open_after-level.result xs) (sym c.split_at.ensures.back) levelled;
      level = omega (arith, i.invariant.level, open_bound i.level b, c.open_after-level.ensures, c.token_length-size.ensures.within.0, c.token_length-size.ensures.within.1, ap (λ (x : List ℕ). length x) c.split_at.ensures.back, length-drop c.token_length-size.result rest);
      space = c.in_ok-at-3.ensures.capacity;
    }
