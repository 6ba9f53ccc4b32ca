use Rattle.std.proofs.Common.{ap, ◌∙◌, sym, ◌≤◌, ◌-◌, arith, length, option_map}
use Rattle.json.specs.Find.{as_object}
use Rattle.json.specs.Json as kit
use Rattle.json.specs.Json.{value}
use Rattle.json.specs.Value.{value_view}
use Rattle.bd_value.specs.View.{tree_of}
use Rattle.bd_extjson_wrapper.specs.declared.wrapper.Wrapper.TheVariants as kinds
use Rattle.bd_extjson.proofs.FixedLemmas as fixed
use Rattle.bd_extjson.proofs.MemberLemmas as seconds
use Rattle.bd_extjson.proofs.fixed.read_timestamp.Goals as goal

pub returns-in_err-begin_object-clause-gives : goal.returns-in_err-begin_object-clause-gives
returns-in_err-begin_object-clause-gives c = rw c.from_residual.ensures
    (sym (fixed.through_none (fixed.inside kinds.Timestamp) as_object (value c.args.depth c.args.reader.now) fixed.no_timestamp c.in_err-begin_object.ensures.none))

pub returns-in_err-first-clause-gives : goal.returns-in_err-first-clause-gives
returns-in_err-first-clause-gives c = rw c.from_residual-in_err-first.ensures
    (let r = c.begin_object.new.reader in
    sym (fixed.of_object kinds.Timestamp c.args.depth c.args.reader.now r c.in_ok-begin_object.ensures.began
    ∙ c.in_err-first.ensures.none (fixed.members_inside kinds.Timestamp) (c.args.depth - 1) (length r) (omega arith) fixed.timestamp_some fixed.timestamp_needs_first))

pub returns-in_err-second-clause-gives : goal.returns-in_err-second-clause-gives
returns-in_err-second-clause-gives c = rw c.from_residual-in_err-second.ensures
    (let r = c.begin_object.new.reader in
    let s = c.read_member.new.reader in
    let a = c.in_ok-first.first in
    let le : length s ≤ length r - 1 = omega (arith, c.in_ok-first.ensures.shorter) in
    sym (fixed.of_object kinds.Timestamp c.args.depth c.args.reader.now r c.in_ok-begin_object.ensures.began
    ∙ c.in_ok-first.ensures.read (fixed.members_inside kinds.Timestamp) (c.args.depth - 1) (length r) (omega arith)
    ∙ c.in_err-second.ensures.none (λ ms. fixed.members_inside kinds.Timestamp (kit.member a.0.now (value_view a.1) ms)) (c.args.depth - 1) (length r - 1) le
    (fixed.timestamp_two a.0.now (value_view a.1)) (fixed.timestamp_needs_second a.0.now (value_view a.1))))

pub returns-in_err-ok-clause-gives : goal.returns-in_err-ok-clause-gives
returns-in_err-ok-clause-gives c = rw c.from_residual-in_err-ok.ensures
    (let r = c.begin_object.new.reader in
    let s = c.read_member.new.reader in
    let p = c.read_member-2.new.reader in
    let a = c.in_ok-first.first in
    let b = c.in_ok-second.second in
    let le : length s ≤ length r - 1 = omega (arith, c.in_ok-first.ensures.shorter) in
    let less : length p ≤ length r - 1 - 1 = omega (arith, le, c.in_ok-second.ensures.shorter) in
    sym (fixed.of_object kinds.Timestamp c.args.depth c.args.reader.now r c.in_ok-begin_object.ensures.began
    ∙ c.in_ok-first.ensures.read (fixed.members_inside kinds.Timestamp) (c.args.depth - 1) (length r) (omega arith)
    ∙ c.in_ok-second.ensures.read (λ ms. fixed.members_inside kinds.Timestamp (kit.member a.0.now (value_view a.1) ms)) (c.args.depth - 1) (length r - 1) le
    ∙ seconds.not_ended (λ ms. fixed.members_inside kinds.Timestamp (kit.member a.0.now (value_view a.1) (kit.member b.0.now (value_view b.1) ms))) (c.args.depth - 1) (length r - 1 - 1) p less
    (fixed.when_err c.end_object.result _ c.in_err-ok.ensures.value c.end_object.ensures.refused) (fixed.timestamp_no_third a.0.now (value_view a.1) b.0.now (value_view b.1))))

pub returns-clause-gives : goal.returns-clause-gives
returns-clause-gives c =
    let r = c.begin_object.new.reader in
    let s = c.read_member.new.reader in
    let p = c.read_member-2.new.reader in
    let q = c.end_object.new.reader in
    let a = c.in_ok-first.first in
    let b = c.in_ok-second.second in
    let le : length s ≤ length r - 1 = omega (arith, c.in_ok-first.ensures.shorter) in
    let less : length p ≤ length r - 1 - 1 = omega (arith, le, c.in_ok-second.ensures.shorter) in
    fixed.paired tree_of q c.timestamp_of.result ∙ ap (option_map (λ t. (t, q))) c.timestamp_of.ensures
    ∙ sym (fixed.of_object kinds.Timestamp c.args.depth c.args.reader.now r c.in_ok-begin_object.ensures.began
    ∙ c.in_ok-first.ensures.read (fixed.members_inside kinds.Timestamp) (c.args.depth - 1) (length r) (omega arith)
    ∙ c.in_ok-second.ensures.read (λ ms. fixed.members_inside kinds.Timestamp (kit.member a.0.now (value_view a.1) ms)) (c.args.depth - 1) (length r - 1) le
    ∙ seconds.ended (λ ms. fixed.members_inside kinds.Timestamp (kit.member a.0.now (value_view a.1) (kit.member b.0.now (value_view b.1) ms))) (c.args.depth - 1) (length r - 1 - 1) p q less
    (fixed.when_ok c.end_object.result _ _ c.in_ok-ok.ensures.value c.end_object.ensures.ended))
