use Rattle.std.proofs.Common.{◌≡◌, ◌∙◌, Bool, true, false, sym}
use Rattle.bd_value.specs.View.{node_tree}
use Rattle.bd_wide_rank.specs.Table.{worths}
use Rattle.bd_wide_query.specs.inside.Role.{kept_at}
use Rattle.bd_wide_query.proofs.NumberLemmas.{numbers_given, scalar_given}
use Rattle.bd_wide_query.proofs.coded.code_scalar.Goals as goal

differ : {b : Bool} → b ≡ true → b ≡ false → ⊥
differ e f = let apart : true ≡ false = sym e ∙ f in absurd cc

pub returns-then-is_number : goal.returns-then-is_number
returns-then-is_number c =
    let here = c.is_number.ensures.0 c.if-is_number.true in
    numbers_given (worths c.args.table.now) c.args.longs c.args.role c.args.rest.now.numbers.now (node_tree c.args.whole) (node_tree c.args.text) c.take.result c.take.new.self.numbers.now c.code_number.result
    here.0 here.1 c.take.ensures.next c.take.ensures.rest c.code_number.ensures

pub returns-in_ok-kept_value-in-None : goal.returns-in_ok-kept_value-in-None
returns-in_ok-kept_value-in-None c =
    scalar_given (worths c.args.table.now) c.args.longs c.args.role c.args.rest.now.numbers.now (node_tree c.args.whole) (node_tree c.args.text) (kept_at c.args.longs c.args.role (node_tree c.args.whole)) _ c.requires
    (λ e. differ (c.is_number.ensures.1 e) c.if-is_number.false) (c.in-None.ensures.none (worths c.args.table.now) c.args.longs) c.in_ok-kept_value-in-None.ensures

pub returns-in-Some : goal.returns-in-Some
returns-in-Some c =
    scalar_given (worths c.args.table.now) c.args.longs c.args.role c.args.rest.now.numbers.now (node_tree c.args.whole) (node_tree c.args.text) _ _ c.requires
    (λ e. differ (c.is_number.ensures.1 e) c.if-is_number.false) (c.in-Some.ensures.some (worths c.args.table.now) c.args.longs) c.code_of.ensures
