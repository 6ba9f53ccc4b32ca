use Rattle.std.proofs.Common.{◌∷◌, ◌++◌, ℤ, refl, subst}
use Rattle.bd_wide_rank.specs.Rank.{HaveSame}
use Rattle.bd_wide_rank.specs.Table.{collected}
use Rattle.bd_wide_rank.specs.Worth.{worth_of}
use Rattle.bd_wide_rank.specs.Key.{key_worths}
use Rattle.bd_wide_rank.specs.Rows.{between_worths}
use Rattle.bd_wide_rank.proofs.RankLemmas.{on_err, same_both, same_second, same_trans}
use Rattle.bd_wide_rank.proofs.numbers.Numbers.push.Goals as goal

pub returns-in_err-push-in-Double-clause-err : goal.returns-in_err-push-in-Double-clause-err
unfolding collected
returns-in_err-push-in-Double-clause-err c =
    let before = c.args.self.now in
    on_err c.from_residual.result (same_both (key_worths c.push.new.self.keys.items) (key_worths before.doubles.keys.items)
    (between_worths before.others.numbers.items) (between_worths before.others.numbers.items) c.in_err-push-in-Double.ensures.err (λ w. refl))

pub returns-in_err-push-in-Between-clause-err : goal.returns-in_err-push-in-Between-clause-err
unfolding collected
returns-in_err-push-in-Between-clause-err c =
    let before = c.args.self.now in
    on_err c.from_residual-in_err-push-in-Between.result (same_both (key_worths before.doubles.keys.items) (key_worths before.doubles.keys.items)
    (between_worths c.push-in-Between.new.self.numbers.items) (between_worths before.others.numbers.items) (λ w. refl) c.in_err-push-in-Between.ensures.err)

pub returns-in_ok-push-in-Double-clause-ok : goal.returns-in_ok-push-in-Double-clause-ok
unfolding collected
returns-in_ok-push-in-Double-clause-ok c =
    let before = c.args.self.now in
    let keys = key_worths before.doubles.keys.items in
    let more = key_worths c.push.new.self.keys.items in
    let others = between_worths before.others.numbers.items in
    let added : HaveSame more (worth_of c.args.number ∷ keys) =
    subst (λ (x : ℤ). HaveSame more (x ∷ keys)) c.in-Double.ensures.worth c.in_ok-push-in-Double.ensures.ok in
    same_both more (worth_of c.args.number ∷ keys) others others added (λ w. refl)

pub returns-in_ok-push-in-Between-clause-ok : goal.returns-in_ok-push-in-Between-clause-ok
unfolding collected
returns-in_ok-push-in-Between-clause-ok c =
    let before = c.args.self.now in
    let keys = key_worths before.doubles.keys.items in
    let others = between_worths before.others.numbers.items in
    let more = between_worths c.push-in-Between.new.self.numbers.items in
    let added : HaveSame more (worth_of c.args.number ∷ others) =
    subst (λ (x : ℤ). HaveSame more (x ∷ others)) c.in-Between.ensures.worth c.in_ok-push-in-Between.ensures.ok in
    same_trans (keys ++ more) (keys ++ worth_of c.args.number ∷ others) (worth_of c.args.number ∷ (keys ++ others))
    (same_both keys keys more (worth_of c.args.number ∷ others) (λ w. refl) added) (same_second keys others (worth_of c.args.number))
