use Rattle.std.proofs.Common.{◌∙◌, refl, sym, ap}
use Rattle.bd_value.specs.Tree.{int64, leaf}
use Rattle.bd_wide_number.specs.declared.number.Number.{Number}
use Rattle.bd_wide_rank.specs.{Rank.code, Table.worths, Worth.worth_of}
use Rattle.bd_wide_query.specs.Tagged.{tag}
use Rattle.bd_wide_query.proofs.NumberLemmas.{compared_at}
use Rattle.bd_wide_query.proofs.coded.code_number.Goals as goal

pub returns-then-is_compared : goal.returns-then-is_compared
returns-then-is_compared c =
    c.code_of.ensures
    ∙ ap (λ (x : Number). leaf (int64 (code (worths c.args.table.now) (worth_of x)))) (sym c.tags_stay.ensures)
    ∙ sym (compared_at (worths c.args.table.now) c.args.longs c.args.role (leaf (int64 (tag c.args.number))) refl (sym c.is_compared.ensures ∙ c.if-is_compared.true))
