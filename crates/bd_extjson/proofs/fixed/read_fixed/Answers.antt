use Rattle.std.proofs.Common.{ap, ◌∙◌, sym, ◌≤◌, ◌-◌, arith, length, option_map}
use Rattle.bd_value.specs.View.{tree_of}
use Rattle.bd_extjson.specs.Read.{wrap, wrapped}
use Rattle.bd_extjson.proofs.FixedLemmas as fixed
use Rattle.bd_extjson.proofs.MemberLemmas as seconds
use Rattle.bd_extjson.proofs.fixed.read_fixed.Goals as goal

pub returns-in_err-value-clause-gives : goal.returns-in_err-value-clause-gives
returns-in_err-value-clause-gives c = rw c.from_residual.ensures (λ name depth_left is.
    let w = c.args.wrapper in
    sym (fixed.fixed_none w name depth_left c.args.depth (length c.args.reader.now) c.args.reader.now (fixed.no_code w c.requires.fixed) c.requires.no_scope is (sym c.in_err-value.ensures.gives)))

pub returns-in_err-ok-clause-gives : goal.returns-in_err-ok-clause-gives
returns-in_err-ok-clause-gives c = rw c.from_residual-in_err-ok.ensures (λ name depth_left is.
    let w = c.args.wrapper in
    let n = length c.args.reader.now in
    let r = c.read_inside.new.reader in
    let p = fixed.fixed_some w name depth_left c.args.depth n c.args.reader.now r (tree_of c.in_ok-value.value) is (sym c.in_ok-value.ensures.gives) in
    let u = wrap (depth_left - 1) p.0 in
    let le : length r ≤ n = omega (arith, c.in_ok-value.ensures.shorter) in
    sym (p.1 ∙ seconds.not_ended (wrapped depth_left w p.0 u) c.args.depth n r le
    (fixed.when_err c.end_object.result _ c.in_err-ok.ensures.value c.end_object.ensures.refused)
    (λ k i ms. seconds.one_name_alone w depth_left p.0 u k i ms (fixed.no_code w c.requires.fixed) c.requires.no_scope)))

pub returns-clause-gives : goal.returns-clause-gives
returns-clause-gives c = λ name depth_left is.
    let w = c.args.wrapper in
    let n = length c.args.reader.now in
    let r = c.read_inside.new.reader in
    let q = c.end_object.new.reader in
    let p = fixed.fixed_some w name depth_left c.args.depth n c.args.reader.now r (tree_of c.in_ok-value.value) is (sym c.in_ok-value.ensures.gives) in
    let le : length r ≤ n = omega (arith, c.in_ok-value.ensures.shorter) in
    sym (p.1 ∙ seconds.ended (wrapped depth_left w p.0 (wrap (depth_left - 1) p.0)) c.args.depth n r q le
    (fixed.when_ok c.end_object.result _ _ c.in_ok-ok.ensures.value c.end_object.ensures.ended)
    ∙ ap (option_map (λ t. (t, q))) p.2)
