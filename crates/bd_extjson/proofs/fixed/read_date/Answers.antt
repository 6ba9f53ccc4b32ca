use Rattle.std.proofs.Common.{ap, ◌∙◌, sym, ◌≤◌, ◌-◌, arith, length, option_map}
use Rattle.json.specs.Find.{as_object}
use Rattle.json.specs.Json as kit
use Rattle.json.specs.Json.{value}
use Rattle.json.specs.Value.{value_view}
use Rattle.bd_value.specs.View.{tree_of}
use Rattle.bd_extjson_wrapper.specs.declared.wrapper.Wrapper.TheVariants as kinds
use Rattle.bd_extjson.proofs.FixedLemmas as fixed
use Rattle.bd_extjson.proofs.MemberLemmas as seconds
use Rattle.bd_extjson.proofs.fixed.read_date.Goals as goal

pub returns-in_err-begin_object-clause-gives : goal.returns-in_err-begin_object-clause-gives
returns-in_err-begin_object-clause-gives c = rw c.from_residual.ensures
    (sym (fixed.through_none (fixed.inside kinds.Date) as_object (value c.args.depth c.args.reader.now) fixed.no_date c.in_err-begin_object.ensures.none))

pub returns-in_err-member-clause-gives : goal.returns-in_err-member-clause-gives
returns-in_err-member-clause-gives c = rw c.from_residual-in_err-member.ensures
    (let r = c.begin_object.new.reader in
    sym (fixed.of_object kinds.Date c.args.depth c.args.reader.now r c.in_ok-begin_object.ensures.began
    ∙ c.in_err-member.ensures.none (fixed.members_inside kinds.Date) (c.args.depth - 1) (length r) (omega arith) fixed.date_some fixed.date_needs))

pub returns-in_err-ok-clause-gives : goal.returns-in_err-ok-clause-gives
returns-in_err-ok-clause-gives c = rw c.from_residual-in_err-ok.ensures
    (let r = c.begin_object.new.reader in
    let s = c.read_member.new.reader in
    let m = c.in_ok-member.member in
    let le : length s ≤ length r - 1 = omega (arith, c.in_ok-member.ensures.shorter) in
    sym (fixed.of_object kinds.Date c.args.depth c.args.reader.now r c.in_ok-begin_object.ensures.began
    ∙ c.in_ok-member.ensures.read (fixed.members_inside kinds.Date) (c.args.depth - 1) (length r) (omega arith)
    ∙ seconds.not_ended (λ ms. fixed.members_inside kinds.Date (kit.member m.0.now (value_view m.1) ms)) (c.args.depth - 1) (length r - 1) s le
    (fixed.when_err c.end_object.result _ c.in_err-ok.ensures.value c.end_object.ensures.refused) (fixed.date_alone m.0.now (value_view m.1))))

pub returns-clause-gives : goal.returns-clause-gives
returns-clause-gives c =
    let r = c.begin_object.new.reader in
    let s = c.read_member.new.reader in
    let q = c.end_object.new.reader in
    let m = c.in_ok-member.member in
    let le : length s ≤ length r - 1 = omega (arith, c.in_ok-member.ensures.shorter) in
    fixed.paired tree_of q c.date_of.result ∙ ap (option_map (λ a. (a, q))) c.date_of.ensures
    ∙ sym (fixed.of_object kinds.Date c.args.depth c.args.reader.now r c.in_ok-begin_object.ensures.began
    ∙ c.in_ok-member.ensures.read (fixed.members_inside kinds.Date) (c.args.depth - 1) (length r) (omega arith)
    ∙ seconds.ended (λ ms. fixed.members_inside kinds.Date (kit.member m.0.now (value_view m.1) ms)) (c.args.depth - 1) (length r - 1) s q le
    (fixed.when_ok c.end_object.result _ _ c.in_ok-ok.ensures.value c.end_object.ensures.ended))
