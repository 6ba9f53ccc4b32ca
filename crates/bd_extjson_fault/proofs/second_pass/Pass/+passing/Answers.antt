use Rattle.std.proofs.Common.{◌≡◌, ◌<◌, ◌∙◌, sym, refl, ap, ap₂, ◌-◌, ◌==◌, ◌||◌, not, [], ◌∷◌, map, Bool, true, false, Ok, arith, length}
use Rattle.std.proofs.lemmas.Result.{err_from_is_err_and}
use Rattle.bd_extjson_fault.specs.JsonSyntax.{opens_object, opens_array, ◌>>=◌, beyond_member, beyond_parts, beyond_value, beyond_array, beyond_object}
use Rattle.std.specs.Option.{option_or}
use Rattle.bd_extjson_fault.specs.inside.SecondPass.{found, found_in_scope}
use Rattle.bd_extjson_fault.specs.TreeFault.{array_fault, code_fault, document_fault, part_of, first_in, member_fault, parts_from, value_fault}
use Rattle.bd_extjson_fault.proofs.PassingLemmas.{begun_at, part_on, part_stopped, part_halted, next_stopped, member_halted, member_passed, more_passes, group_closed, scalar_value, passes_object, passes_array, reports_deep}
use Rattle.bd_extjson_fault.proofs.FindingLemmas.{array_begun, document_begun, document_closed, finds_part, finds_ended, scalar_found, finds_object, finds_array, member_found, more_finds, members_none, first_halted, first_ended, one_passed, one_listed, second_halted, second_ended, two_passed, two_listed, more_halted, more_passed, more_bad}
use Rattle.bd_extjson_fault.proofs.second_pass.Pass.+passing.Goals.{value-else-not-is_object-via-then-not-is_object+else-not-begins, value-else-not-is_object-via-else-not-is_object}
use Rattle.bd_extjson_fault.proofs.second_pass.Pass.+passing.Goals as goal

or_left : (a b : Bool) → a ≡ true → a || b ≡ true
or_left a b e = rw e refl

or_right : (a b : Bool) → b ≡ true → a || b ≡ true
or_right true b e = refl
or_right false b e = e

-- ---- arrays

pub array-loop-more-init : goal.array-loop-more-init
array-loop-more-init t c = record {
  beyond = begun_at (λ b. b == 93) (beyond_value c.args.level) c.args.self.now.rest.now _ _ c.closes-more.result c.deeper-depth_left.ensures.same
      c.closes-more.ensures.reports c.closes-more.ensures.beyond;
  finds = rw c.closes-more.ensures.same (array_begun (beyond_value c.args.level) (value_fault c.args.level) c.args.depth_left c.args.self.now.fault c.args.text.now
      c.args.self.now.rest.now _ _ _ _ c.closes-more.result c.deeper-depth_left.ensures.fault c.deeper-depth_left.ensures.less c.deeper-depth_left.ensures.same
      c.closes-more.ensures.reports c.closes-more.ensures.beyond);
  shorter = omega (arith, ap length c.deeper-depth_left.ensures.same, c.closes-more.ensures.shorter);
}

pub array-returns-in_err-value-clause-beyond : goal.array-returns-in_err-value-clause-beyond
array-returns-in_err-value-clause-beyond t c =
    let p = err_from_is_err_and c.from_residual.result c.from_residual.ensures.1 in
    let l = c.loop-more in
    rw (p.1, p.2) (part_halted (λ b. b == 93) (beyond_value c.args.level) (beyond_array (beyond_value c.args.level) c.args.self.now.rest.now) l.self.rest.now l.more _
    c.loop-more-test.true c.in_err-value.ensures.beyond l.invariant.beyond)

pub array-returns-in_err-more-clause-beyond : goal.array-returns-in_err-more-clause-beyond
array-returns-in_err-more-clause-beyond t c =
    let p = err_from_is_err_and c.from_residual-in_err-more.result c.from_residual-in_err-more.ensures.1 in
    let l = c.loop-more in
    rw (p.1, p.2) (next_stopped (λ b. b == 93) (beyond_value c.args.level) (beyond_array (beyond_value c.args.level) c.args.self.now.rest.now) l.self.rest.now
    c.value.new.self.rest.now l.more _ c.loop-more-test.true c.in_ok-value.ensures.beyond c.in_err-more.ensures.beyond l.invariant.beyond)

pub array-loop-more-preserved : goal.array-loop-more-preserved
array-loop-more-preserved t c =
    let l = c.loop-more in
    record {
      beyond = part_on (λ b. b == 93) (beyond_value c.args.level) (beyond_array (beyond_value c.args.level) c.args.self.now.rest.now) l.self.rest.now
          c.value.new.self.rest.now c.goes_on.new.self.rest.now l.more c.in_ok-more.more c.loop-more-test.true c.in_ok-value.ensures.beyond
          c.in_ok-value.ensures.shorter c.in_ok-more.ensures.beyond c.in_ok-more.ensures.shorter l.invariant.beyond;
      finds = finds_part (λ b. b == 93) (beyond_value c.args.level) (value_fault c.args.level) c.deeper-depth_left.result l.self.fault c.goes_on.new.self.fault
          (found c.args.self.now.fault c.args.depth_left (λ r. array_fault (beyond_value c.args.level) (value_fault c.args.level) r c.args.text.now c.args.self.now.rest.now))
          l.self.rest.now c.value.new.self.rest.now c.goes_on.new.self.rest.now l.more c.in_ok-more.more c.loop-more-test.true c.in_ok-value.ensures.beyond
          c.in_ok-more.ensures.beyond (omega (arith, c.in_ok-value.ensures.shorter, c.in_ok-more.ensures.shorter))
          (c.in_ok-more.ensures.same ∙ c.in_ok-value.ensures.fault) l.invariant.finds;
      shorter = omega (arith, c.in_ok-value.ensures.shorter, c.in_ok-more.ensures.shorter, l.invariant.shorter);
    }

pub array-returns-clause-fault : goal.array-returns-clause-fault
array-returns-clause-fault t c =
    let l = c.loop-more in
    finds_ended (λ b. b == 93) (beyond_value c.args.level) (value_fault c.args.level) c.deeper-depth_left.result l.more l.self.fault
    (found c.args.self.now.fault c.args.depth_left (λ r. array_fault (beyond_value c.args.level) (value_fault c.args.level) r c.args.text.now c.args.self.now.rest.now))
    l.self.rest.now c.loop-more-test.false l.invariant.finds

-- ---- members

pub members-returns-then-closes-clause-beyond : goal.members-returns-then-closes-clause-beyond
members-returns-then-closes-clause-beyond t c = group_closed (λ b. b == 125) (beyond_member (beyond_value c.args.level)) c.args.self.now.rest.now _ _ c.closes.result
    c.deeper-depth_left.ensures.same c.closes.ensures.reports c.closes.ensures.beyond c.if-closes.true

pub members-returns-then-closes-clause-fault : goal.members-returns-then-closes-clause-fault
members-returns-then-closes-clause-fault t c = c.closes.ensures.same ∙ document_closed (beyond_value c.args.level) (value_fault c.args.level) c.args.depth_left
    c.args.self.now.fault c.args.text.now c.args.self.now.rest.now _ _ _ _ c.closes.result c.deeper-depth_left.ensures.fault c.deeper-depth_left.ensures.less
    c.deeper-depth_left.ensures.same c.closes.ensures.reports c.closes.ensures.beyond c.if-closes.true

pub members-returns-clause-beyond : goal.members-returns-clause-beyond
members-returns-clause-beyond t c = more_passes c.more_members.result c.more_members.new.self.rest.now (λ b. b == 125) (beyond_member (beyond_value c.args.level))
    c.closes.new.self.rest.now (beyond_object (beyond_value c.args.level) c.args.self.now.rest.now) (not c.closes.result) (ap not c.if-closes.false)
    c.more_members.ensures.beyond (begun_at (λ b. b == 125) (beyond_member (beyond_value c.args.level)) c.args.self.now.rest.now _ _ c.closes.result
    c.deeper-depth_left.ensures.same c.closes.ensures.reports c.closes.ensures.beyond)

pub members-returns-clause-fault : goal.members-returns-clause-fault
members-returns-clause-fault t c = more_finds c.more_members.result c.more_members.new.self.fault (λ b. b == 125) (beyond_member (beyond_value c.args.level))
    (λ r. member_fault (value_fault c.args.level r)) c.deeper-depth_left.result (not c.closes.result) c.closes.new.self.fault
    (found c.args.self.now.fault c.args.depth_left (λ r. document_fault (beyond_value c.args.level) (value_fault c.args.level) r c.args.text.now c.args.self.now.rest.now))
    c.closes.new.self.rest.now (ap not c.if-closes.false) c.more_members.ensures.fault
    (rw c.closes.ensures.same (document_begun (beyond_value c.args.level) (value_fault c.args.level) c.args.depth_left c.args.self.now.fault c.args.text.now
    c.args.self.now.rest.now _ _ _ _ c.closes.result c.deeper-depth_left.ensures.fault c.deeper-depth_left.ensures.less c.deeper-depth_left.ensures.same
    c.closes.ensures.reports c.closes.ensures.beyond))

pub more_members-returns-in_err-key-clause-beyond : goal.more_members-returns-in_err-key-clause-beyond
more_members-returns-in_err-key-clause-beyond t c = λ n lt.
    let p = err_from_is_err_and c.from_residual.result c.from_residual.ensures.1 in
    let l = c.loop-more in
    rw (p.1, p.2) (part_stopped (λ b. b == 125) (beyond_member (beyond_value c.args.level)) (beyond_parts (λ b. b == 125) (beyond_member (beyond_value c.args.level)) n c.args.self.now.rest.now)
    l.self.rest.now l.more _ c.loop-more-test.true (ap (λ r. r >>= beyond_value c.args.level) c.in_err-key.ensures.beyond) (l.invariant.beyond n lt))

pub more_members-returns-in_err-value-clause-beyond : goal.more_members-returns-in_err-value-clause-beyond
more_members-returns-in_err-value-clause-beyond t c = λ n lt.
    let p = err_from_is_err_and c.from_residual-in_err-value.result c.from_residual-in_err-value.ensures.1 in
    let l = c.loop-more in
    rw (p.1, p.2) (part_halted (λ b. b == 125) (beyond_member (beyond_value c.args.level)) (beyond_parts (λ b. b == 125) (beyond_member (beyond_value c.args.level)) n c.args.self.now.rest.now)
    l.self.rest.now l.more _ c.loop-more-test.true
    (member_halted (beyond_value c.args.level) l.self.rest.now _ _ c.in_ok-key.ensures.beyond c.in_err-value.ensures.beyond) (l.invariant.beyond n lt))

pub more_members-returns-in_err-more-clause-beyond : goal.more_members-returns-in_err-more-clause-beyond
more_members-returns-in_err-more-clause-beyond t c = λ n lt.
    let p = err_from_is_err_and c.from_residual-in_err-more.result c.from_residual-in_err-more.ensures.1 in
    let l = c.loop-more in
    rw (p.1, p.2) (next_stopped (λ b. b == 125) (beyond_member (beyond_value c.args.level)) (beyond_parts (λ b. b == 125) (beyond_member (beyond_value c.args.level)) n c.args.self.now.rest.now)
    l.self.rest.now c.value.new.self.rest.now l.more _ c.loop-more-test.true
    (member_passed (beyond_value c.args.level) l.self.rest.now _ _ c.in_ok-key.ensures.beyond c.in_ok-value.ensures.beyond) c.in_err-more.ensures.beyond (l.invariant.beyond n lt))

pub more_members-loop-more-preserved : goal.more_members-loop-more-preserved
more_members-loop-more-preserved t c =
    let l = c.loop-more in
    let shorter : length c.value.new.self.rest.now < length l.self.rest.now = omega (arith, c.in_ok-value.ensures.shorter, c.in_ok-key.ensures.shorter) in
    let passed = member_passed (beyond_value c.args.level) l.self.rest.now _ _ c.in_ok-key.ensures.beyond c.in_ok-value.ensures.beyond in
    record {
      beyond = λ n lt. part_on (λ b. b == 125) (beyond_member (beyond_value c.args.level))
          (beyond_parts (λ b. b == 125) (beyond_member (beyond_value c.args.level)) n c.args.self.now.rest.now) l.self.rest.now
          c.value.new.self.rest.now c.goes_on.new.self.rest.now l.more c.in_ok-more.more c.loop-more-test.true passed
          shorter c.in_ok-more.ensures.beyond c.in_ok-more.ensures.shorter (l.invariant.beyond n lt);
      finds = λ n lt. finds_part (λ b. b == 125) (beyond_member (beyond_value c.args.level)) (λ r. member_fault (value_fault c.args.level r)) c.args.depth_left l.self.fault
          c.goes_on.new.self.fault
          (found c.args.self.now.fault c.args.depth_left (λ r. first_in (member_fault (value_fault c.args.level r))
          (parts_from (λ b. b == 125) (beyond_member (beyond_value c.args.level)) n c.args.self.now.rest.now)))
          l.self.rest.now c.value.new.self.rest.now c.goes_on.new.self.rest.now l.more c.in_ok-more.more c.loop-more-test.true passed
          c.in_ok-more.ensures.beyond (omega (arith, shorter, c.in_ok-more.ensures.shorter))
          (c.in_ok-more.ensures.same ∙ member_found l.self.fault c.check_name.new.self.fault c.value.new.self.fault c.args.depth_left (value_fault c.args.level)
          l.self.rest.now _ _ _ c.in_ok-key.ensures.beyond c.in_ok-key.ensures.quoted c.in_ok-key.ensures.from c.in_ok-check_name.ensures.fault
          c.in_ok-value.ensures.fault) (l.invariant.finds n lt);
      shorter = omega (arith, c.in_ok-value.ensures.shorter, c.in_ok-key.ensures.shorter, c.in_ok-more.ensures.shorter, l.invariant.shorter);
    }

pub more_members-returns-clause-fault : goal.more_members-returns-clause-fault
more_members-returns-clause-fault t c = λ n lt.
    let l = c.loop-more in
    finds_ended (λ b. b == 125) (beyond_member (beyond_value c.args.level)) (λ r. member_fault (value_fault c.args.level r)) c.args.depth_left l.more l.self.fault
    (found c.args.self.now.fault c.args.depth_left (λ r. first_in (member_fault (value_fault c.args.level r))
    (parts_from (λ b. b == 125) (beyond_member (beyond_value c.args.level)) n c.args.self.now.rest.now)))
    l.self.rest.now c.loop-more-test.false (l.invariant.finds n lt)

-- ---- values

pub value-returns-in_err-scalar-clause-beyond : goal.value-returns-in_err-scalar-clause-beyond
value-returns-in_err-scalar-clause-beyond t c =
    let p = err_from_is_err_and c.from_residual.result c.from_residual.ensures.1 in
    rw (p.1, p.2) (scalar_value _ c.args.level c.args.self.now.rest.now c.skip_white-here.result.now c.skip_white-here.ensures.beyond
    (sym c.begins-is_object.ensures ∙ c.if-not-is_object.true) (sym c.begins.ensures ∙ c.if-not-begins.true) c.in_err-scalar.ensures.beyond)

pub value-returns-then-not-begins-clause-beyond : goal.value-returns-then-not-begins-clause-beyond
value-returns-then-not-begins-clause-beyond t c = scalar_value _ c.args.level c.args.self.now.rest.now c.skip_white-here.result.now c.skip_white-here.ensures.beyond
    (sym c.begins-is_object.ensures ∙ c.if-not-is_object.true) (sym c.begins.ensures ∙ c.if-not-begins.true) c.in_ok-scalar.ensures.beyond

pub value-returns-then-not-begins-clause-fault : goal.value-returns-then-not-begins-clause-fault
value-returns-then-not-begins-clause-fault t c = scalar_found c.scalar.new.self.fault c.args.self.now.fault c.args.depth_left c.args.level
    c.args.self.now.rest.now c.skip_white-here.result.now c.skip_white-here.ensures.beyond
    (sym c.begins-is_object.ensures ∙ c.if-not-is_object.true) (sym c.begins.ensures ∙ c.if-not-begins.true) c.in_ok-scalar.ensures.fault

pub value-returns-then-level-eq0-clause-beyond : goal.value-returns-then-level-eq0-clause-beyond
value-returns-then-level-eq0-clause-beyond t c =
    let opens : opens_object c.skip_white-here.result.now || opens_array c.skip_white-here.result.now ≡ true = elim c.else-not-is_object.branch [
      | value-else-not-is_object-via-then-not-is_object+else-not-begins w ↦ or_right _ _ (sym w.begins.ensures ∙ w.if-not-begins.false)
      | value-else-not-is_object-via-else-not-is_object w ↦ or_left _ _ (sym c.begins-is_object.ensures ∙ w.if-not-is_object.false)
    ] in
    reports_deep c.args.level c.args.self.now.rest.now c.skip_white-here.result.now c.at.result c.skip_white-here.ensures.beyond c.if-level-eq0.true opens c.at.ensures

pub value-returns-then-is_object-clause-beyond : goal.value-returns-then-is_object-clause-beyond
value-returns-then-is_object-clause-beyond t c =
    passes_object c.object.result c.object.new.self.rest.now c.args.level c.args.self.now.rest.now c.skip_white-here.result.now c.skip_byte-self.result.now
    c.skip_white-here.ensures.beyond (omega arith) (sym c.begins-is_object.ensures ∙ c.if-is_object.true) c.skip_byte-self.ensures.beyond c.object.ensures.beyond

pub value-returns-then-is_object-clause-fault : goal.value-returns-then-is_object-clause-fault
value-returns-then-is_object-clause-fault t c =
    finds_object c.object.result c.object.new.self.fault c.args.self.now.fault c.args.depth_left c.args.level c.args.self.now.rest.now c.skip_white-here.result.now
    c.skip_byte-self.result.now c.skip_white-here.ensures.beyond (omega arith) (sym c.begins-is_object.ensures ∙ c.if-is_object.true)
    c.skip_byte-self.ensures.beyond c.object.ensures.fault

pub value-returns-else-is_object-clause-beyond : goal.value-returns-else-is_object-clause-beyond
value-returns-else-is_object-clause-beyond t c =
    let opens : opens_array c.skip_white-here.result.now ≡ true = elim c.else-not-is_object.branch [
      | value-else-not-is_object-via-then-not-is_object+else-not-begins w ↦ sym w.begins.ensures ∙ w.if-not-begins.false
      | value-else-not-is_object-via-else-not-is_object w ↦ absurd (let a = w.if-not-is_object.false in let b = c.if-is_object.false in cc)
    ] in
    passes_array c.array.result c.array.new.self.rest.now c.args.level c.args.self.now.rest.now c.skip_white-here.result.now c.skip_byte-self.result.now
    c.skip_white-here.ensures.beyond (omega arith) (sym c.begins-is_object.ensures ∙ c.if-is_object.false) opens c.skip_byte-self.ensures.beyond c.array.ensures.beyond

pub value-returns-else-is_object-clause-fault : goal.value-returns-else-is_object-clause-fault
value-returns-else-is_object-clause-fault t c =
    let opens : opens_array c.skip_white-here.result.now ≡ true = elim c.else-not-is_object.branch [
      | value-else-not-is_object-via-then-not-is_object+else-not-begins w ↦ sym w.begins.ensures ∙ w.if-not-begins.false
      | value-else-not-is_object-via-else-not-is_object w ↦ absurd (let a = w.if-not-is_object.false in let b = c.if-is_object.false in cc)
    ] in
    finds_array c.array.result c.array.new.self.fault c.args.self.now.fault c.args.depth_left c.args.level c.args.self.now.rest.now c.skip_white-here.result.now
    c.skip_byte-self.result.now c.skip_white-here.ensures.beyond (omega arith) (sym c.begins-is_object.ensures ∙ c.if-is_object.false) opens
    c.skip_byte-self.ensures.beyond c.array.ensures.fault

-- ---- code and its scope

pub code_parts-returns-then-closes-clause-beyond : goal.code_parts-returns-then-closes-clause-beyond
code_parts-returns-then-closes-clause-beyond t c = group_closed (λ b. b == 125) (beyond_member (beyond_value c.args.level)) c.args.self.now.rest.now
    c.args.self.now.rest.now c.closes.new.self.rest.now c.closes.result refl c.closes.ensures.reports c.closes.ensures.beyond c.if-closes.true

pub code_parts-returns-then-closes-clause-fault : goal.code_parts-returns-then-closes-clause-fault
code_parts-returns-then-closes-clause-fault t c = λ none. c.bad_wrapper.ensures
    ∙ sym (ap (λ ms. code_fault (value_fault c.args.level) c.args.levels c.args.text.now (map part_of ms))
    (members_none (beyond_value c.args.level) c.args.self.now.rest.now (sym c.closes.ensures.reports ∙ c.if-closes.true)))

pub code_parts-returns-in_err-first-clause-beyond : goal.code_parts-returns-in_err-first-clause-beyond
code_parts-returns-in_err-first-clause-beyond t c =
    let p = err_from_is_err_and c.from_residual.result c.from_residual.ensures.1 in
    rw (p.1, p.2) (first_halted (beyond_value c.args.level) c.args.self.now.rest.now c.closes.new.self.rest.now c.closes.result c.closes.ensures.reports
    c.closes.ensures.beyond c.if-closes.false _ c.in_err-first.ensures.beyond)

pub code_parts-returns-in_err-goes_on-clause-beyond : goal.code_parts-returns-in_err-goes_on-clause-beyond
code_parts-returns-in_err-goes_on-clause-beyond t c =
    let p = err_from_is_err_and c.from_residual-in_err-goes_on.result c.from_residual-in_err-goes_on.ensures.1 in
    rw (p.1, p.2) (first_ended (beyond_value c.args.level) c.args.self.now.rest.now c.closes.new.self.rest.now c.closes.result c.closes.ensures.reports
    c.closes.ensures.beyond c.if-closes.false c.code_part.new.self.rest.now c.in_ok-first.ensures.beyond c.in_ok-first.ensures.shorter _ c.in_err-goes_on.ensures.beyond)

pub code_parts-returns-then-not-branch-clause-beyond : goal.code_parts-returns-then-not-branch-clause-beyond
code_parts-returns-then-not-branch-clause-beyond t c = one_passed (beyond_value c.args.level) c.args.self.now.rest.now c.closes.new.self.rest.now c.closes.result
    c.closes.ensures.reports c.closes.ensures.beyond c.if-closes.false c.code_part.new.self.rest.now c.in_ok-first.ensures.beyond c.in_ok-first.ensures.shorter
    c.goes_on.new.self.rest.now c.in_ok-goes_on.field-0 c.in_ok-goes_on.ensures.beyond c.in_ok-goes_on.ensures.shorter c.if-not-branch.true

pub code_parts-returns-then-not-branch-clause-fault : goal.code_parts-returns-then-not-branch-clause-fault
code_parts-returns-then-not-branch-clause-fault t c = λ none.
    let listed = one_listed (beyond_value c.args.level) c.args.self.now.rest.now c.closes.new.self.rest.now c.closes.result
    c.closes.ensures.reports c.closes.ensures.beyond c.if-closes.false c.code_part.new.self.rest.now c.in_ok-first.ensures.beyond c.in_ok-first.ensures.shorter
    c.goes_on.new.self.rest.now c.in_ok-goes_on.field-0 c.in_ok-goes_on.ensures.beyond c.in_ok-goes_on.ensures.shorter c.if-not-branch.true in
    c.fault_alone.ensures (value_fault c.args.level) c.args.levels
    ∙ ap (λ p. code_fault (value_fault c.args.level) c.args.levels c.args.text.now (p ∷ [])) c.in_ok-first.ensures.part
    ∙ sym (ap (λ ms. code_fault (value_fault c.args.level) c.args.levels c.args.text.now (map part_of ms)) listed)

pub code_parts-returns-in_err-second-clause-beyond : goal.code_parts-returns-in_err-second-clause-beyond
code_parts-returns-in_err-second-clause-beyond t c =
    let p = err_from_is_err_and c.from_residual-in_err-second.result c.from_residual-in_err-second.ensures.1 in
    rw (p.1, p.2) (second_halted (beyond_value c.args.level) c.args.self.now.rest.now c.closes.new.self.rest.now c.closes.result
    c.closes.ensures.reports c.closes.ensures.beyond c.if-closes.false c.code_part.new.self.rest.now c.in_ok-first.ensures.beyond c.in_ok-first.ensures.shorter
    c.goes_on.new.self.rest.now c.in_ok-goes_on.field-0 c.in_ok-goes_on.ensures.beyond c.in_ok-goes_on.ensures.shorter _ c.if-not-branch.false
    c.in_err-second.ensures.beyond)

pub code_parts-returns-in_err-goes_on-2-clause-beyond : goal.code_parts-returns-in_err-goes_on-2-clause-beyond
code_parts-returns-in_err-goes_on-2-clause-beyond t c =
    let p = err_from_is_err_and c.from_residual-in_err-goes_on-2.result c.from_residual-in_err-goes_on-2.ensures.1 in
    rw (p.1, p.2) (second_ended (beyond_value c.args.level) c.args.self.now.rest.now c.closes.new.self.rest.now c.closes.result
    c.closes.ensures.reports c.closes.ensures.beyond c.if-closes.false c.code_part.new.self.rest.now c.in_ok-first.ensures.beyond c.in_ok-first.ensures.shorter
    c.goes_on.new.self.rest.now c.in_ok-goes_on.field-0 c.in_ok-goes_on.ensures.beyond c.in_ok-goes_on.ensures.shorter c.if-not-branch.false
    c.code_part-2.new.self.rest.now c.in_ok-second.ensures.beyond c.in_ok-second.ensures.shorter _ c.in_err-goes_on-2.ensures.beyond)

pub code_parts-returns-in_err-more_members-clause-beyond : goal.code_parts-returns-in_err-more_members-clause-beyond
code_parts-returns-in_err-more_members-clause-beyond t c =
    let p = err_from_is_err_and c.from_residual-in_err-more_members.result c.from_residual-in_err-more_members.ensures.1 in
    rw (p.1, p.2) (more_halted (beyond_value c.args.level) c.args.self.now.rest.now c.closes.new.self.rest.now c.closes.result
    c.closes.ensures.reports c.closes.ensures.beyond c.if-closes.false c.code_part.new.self.rest.now c.in_ok-first.ensures.beyond c.in_ok-first.ensures.shorter
    c.goes_on.new.self.rest.now c.in_ok-goes_on.field-0 c.in_ok-goes_on.ensures.beyond c.in_ok-goes_on.ensures.shorter c.if-not-branch.false
    c.code_part-2.new.self.rest.now c.in_ok-second.ensures.beyond c.in_ok-second.ensures.shorter c.goes_on-2.new.self.rest.now c.in_ok-goes_on-2.field-0
    c.in_ok-goes_on-2.ensures.beyond c.in_ok-goes_on-2.ensures.shorter _ c.if-branch.true c.in_err-more_members.ensures.beyond)

pub code_parts-returns-then-branch-clause-beyond : goal.code_parts-returns-then-branch-clause-beyond
code_parts-returns-then-branch-clause-beyond t c =
    more_passed (beyond_value c.args.level) c.args.self.now.rest.now c.closes.new.self.rest.now c.closes.result
    c.closes.ensures.reports c.closes.ensures.beyond c.if-closes.false c.code_part.new.self.rest.now c.in_ok-first.ensures.beyond c.in_ok-first.ensures.shorter
    c.goes_on.new.self.rest.now c.in_ok-goes_on.field-0 c.in_ok-goes_on.ensures.beyond c.in_ok-goes_on.ensures.shorter c.if-not-branch.false
    c.code_part-2.new.self.rest.now c.in_ok-second.ensures.beyond c.in_ok-second.ensures.shorter c.goes_on-2.new.self.rest.now c.in_ok-goes_on-2.field-0
    c.in_ok-goes_on-2.ensures.beyond c.in_ok-goes_on-2.ensures.shorter c.more_members.new.self.rest.now c.if-branch.true c.in_ok-more_members.ensures.beyond

pub code_parts-returns-then-branch-clause-fault : goal.code_parts-returns-then-branch-clause-fault
code_parts-returns-then-branch-clause-fault t c = λ none. c.bad_wrapper-then-branch.ensures
    ∙ sym (more_bad (beyond_value c.args.level) c.args.self.now.rest.now c.closes.new.self.rest.now c.closes.result
    c.closes.ensures.reports c.closes.ensures.beyond c.if-closes.false c.code_part.new.self.rest.now c.in_ok-first.ensures.beyond c.in_ok-first.ensures.shorter
    c.goes_on.new.self.rest.now c.in_ok-goes_on.field-0 c.in_ok-goes_on.ensures.beyond c.in_ok-goes_on.ensures.shorter c.if-not-branch.false
    c.code_part-2.new.self.rest.now c.in_ok-second.ensures.beyond c.in_ok-second.ensures.shorter c.goes_on-2.new.self.rest.now c.in_ok-goes_on-2.field-0
    c.in_ok-goes_on-2.ensures.beyond c.in_ok-goes_on-2.ensures.shorter (value_fault c.args.level) c.args.levels c.args.text.now c.if-branch.true)

pub code_parts-returns-clause-beyond : goal.code_parts-returns-clause-beyond
code_parts-returns-clause-beyond t c = two_passed (beyond_value c.args.level) c.args.self.now.rest.now c.closes.new.self.rest.now c.closes.result
    c.closes.ensures.reports c.closes.ensures.beyond c.if-closes.false c.code_part.new.self.rest.now c.in_ok-first.ensures.beyond c.in_ok-first.ensures.shorter
    c.goes_on.new.self.rest.now c.in_ok-goes_on.field-0 c.in_ok-goes_on.ensures.beyond c.in_ok-goes_on.ensures.shorter c.if-not-branch.false
    c.code_part-2.new.self.rest.now c.in_ok-second.ensures.beyond c.in_ok-second.ensures.shorter c.goes_on-2.new.self.rest.now c.in_ok-goes_on-2.field-0
    c.in_ok-goes_on-2.ensures.beyond c.in_ok-goes_on-2.ensures.shorter c.if-branch.false
    ∙ ap Ok (sym c.pair_fault.ensures.same)

pub code_parts-returns-clause-fault : goal.code_parts-returns-clause-fault
code_parts-returns-clause-fault t c = λ none.
    let fault = value_fault c.args.level in
    let listed = two_listed (beyond_value c.args.level) c.args.self.now.rest.now c.closes.new.self.rest.now c.closes.result
    c.closes.ensures.reports c.closes.ensures.beyond c.if-closes.false c.code_part.new.self.rest.now c.in_ok-first.ensures.beyond c.in_ok-first.ensures.shorter
    c.goes_on.new.self.rest.now c.in_ok-goes_on.field-0 c.in_ok-goes_on.ensures.beyond c.in_ok-goes_on.ensures.shorter c.if-not-branch.false
    c.code_part-2.new.self.rest.now c.in_ok-second.ensures.beyond c.in_ok-second.ensures.shorter c.goes_on-2.new.self.rest.now c.in_ok-goes_on-2.field-0
    c.in_ok-goes_on-2.ensures.beyond c.in_ok-goes_on-2.ensures.shorter c.if-branch.false in
    let one = c.in_ok-first.first in
    let two = c.in_ok-second.second in
    let before = c.in_ok-goes_on.ensures.same ∙ c.in_ok-first.ensures.fault
    ∙ ap (λ b. option_or b (found_in_scope (fault (c.args.levels - 1)) one.wrapper one.text.now)) (c.closes.ensures.same ∙ none) in
    let scopes = c.in_ok-goes_on-2.ensures.same ∙ c.in_ok-second.ensures.fault
    ∙ ap (λ b. option_or b (found_in_scope (fault (c.args.levels - 1)) two.wrapper two.text.now)) before in
    c.in_ok-pair_fault.ensures.fault fault scopes
    ∙ ap₂ (λ p q. code_fault fault c.args.levels c.args.text.now (p ∷ q ∷ [])) c.in_ok-first.ensures.part c.in_ok-second.ensures.part
    ∙ sym (ap (λ ms. code_fault fault c.args.levels c.args.text.now (map part_of ms)) listed)
