use Rattle.std.proofs.Common.{◌≡◌, ◌∙◌, ◌++◌, List, ap, map, subst, sym}
use Rattle.bd_wide_copy.specs.Numbers.{AreNumbersOf}
use Rattle.bd_wide_number.specs.declared.number.Number.{Number}
use Rattle.bd_wide_rank.specs.{Rank.HaveSame, Table.collected, Worth.worth_of}
use Rattle.bd_wide_copy.proofs.copies.add_document.Goals as goal

pub returns : goal.returns
returns c =
    let (added, are, is) = c.in_ok-collect_numbers.ensures.ok in
    let same : c.collect_numbers.new.numbers.items ≡ added = is ∙ ap (λ (old : List Number). old ++ added) c.clear.ensures.items in (
      subst (AreNumbersOf c.args.document.now) (sym same) are,
      subst (λ (all : List Number). HaveSame (collected c.push_all.new.numbers) (map worth_of all ++ collected c.args.numbers.now)) c.deref.ensures.value c.in_ok-push_all.ensures,
    )
