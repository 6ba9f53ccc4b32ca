use Rattle.std.proofs.Common.{rules, ◌≡◌, ◌≤◌, ◌<◌, ◌∙◌, ap, sym, arith, drop, length, None}
use Rattle.bd_cursor_model.specs.Answer.{at_most}
use Rattle.bd_bson_dump.specs.Collection.{documents}
use Rattle.bd_query_filter.specs.Filter.{filter_tree}
use Rattle.bd_cursor_sort.specs.Selection.{matches_at_of}
use Rattle.std.specs.List.{cons_option}
use Rattle.bd_cursor.proofs.CursorLemmas.{all_found, at_most_none, met, missed, passed_over, unseen}
use Rattle.bd_cursor.proofs.cursor.ScanPosition.look.Goals as goal

pub loop-place-preserved-then-self-gt0 : goal.loop-place-preserved-then-self-gt0
loop-place-preserved-then-self-gt0 c =
    let s = c.loop-place.self in
    let n = length (documents c.args.dump.now) in
    let matches_at = matches_at_of (documents c.args.dump.now) (filter_tree c.args.filter.now) in
    let below : s.next < n = omega arith in
    record {
      remaining = ap (λ ys. at_most s.most (cons_option s.found ys)) (sym (passed_over n s.next s.skip matches_at below (sym c.is_match.ensures
          ∙ c.if-is_match.true) c.if-self-gt0.true)) ∙ c.loop-place.invariant.remaining;
      most = c.loop-place.invariant.most;
    }

pub loop-place-preserved-else-self-gt0 : goal.loop-place-preserved-else-self-gt0
loop-place-preserved-else-self-gt0 c =
    let s = c.loop-place.self in
    let n = length (documents c.args.dump.now) in
    let matches_at = matches_at_of (documents c.args.dump.now) (filter_tree c.args.filter.now) in
    let below : s.next < n = omega arith in
    let no_skip : s.skip ≡ 0 = omega arith in
    let none : s.found ≡ None = search rules in
    record {
      remaining = ap (at_most s.most) (sym (met n s.next s.skip matches_at below (sym c.is_match.ensures ∙ c.if-is_match.true) no_skip))
          ∙ ap (λ f. at_most s.most (cons_option f (drop s.skip (unseen n matches_at s.next)))) (sym none) ∙ c.loop-place.invariant.remaining;
      most = c.loop-place.invariant.most;
    }

pub loop-place-preserved : goal.loop-place-preserved
loop-place-preserved c =
    let s = c.loop-place.self in
    let n = length (documents c.args.dump.now) in
    let matches_at = matches_at_of (documents c.args.dump.now) (filter_tree c.args.filter.now) in
    let below : s.next < n = omega arith in
    record {
      remaining = ap (λ ys. at_most s.most (cons_option s.found ys)) (sym (missed n s.next s.skip matches_at below (sym c.is_match.ensures ∙ c.if-is_match.false))) ∙ c.loop-place.invariant.remaining;
      most = c.loop-place.invariant.most;
    }

pub returns-else-self-len-clause-none : goal.returns-else-self-len-clause-none
returns-else-self-len-clause-none c = λ none.
    let s = c.loop-place.self in
    let n = length (documents c.args.dump.now) in
    let matches_at = matches_at_of (documents c.args.dump.now) (filter_tree c.args.filter.now) in
    let beyond : n ≤ s.next = omega arith in
    ap (λ f. at_most s.most (cons_option f (drop s.skip (unseen n matches_at s.next)))) none ∙ ap (at_most s.most) (all_found n s.next s.skip matches_at beyond) ∙ at_most_none s.most
