use Rattle.std.proofs.Common.{◌≡◌, ◌++◌, ℕ, List, subst}
use Rattle.std.specs.Prelude.{OnOk}
use Rattle.bd_cli_service.proofs.MemberLemmas.{count_text, number_text}
use Rattle.bd_cli_service.proofs.member.write_field.Goals as goal

pub returns-in-Number-clause-ok : goal.returns-in-Number-clause-ok
returns-in-Number-clause-ok c =
    rw c.in-Number.is (subst (λ (x : List ℕ). OnOk c.write_wrapped.result (c.write_wrapped.new.out.items ≡ c.args.out.now.items ++ x))
    (number_text c.in-Number.number) (rw c.from.ensures at c.write_wrapped.ensures.ok))

pub returns-in-Count-clause-ok : goal.returns-in-Count-clause-ok
returns-in-Count-clause-ok c =
    rw c.in-Count.is (subst (λ (x : List ℕ). OnOk c.write_wrapped-in-Count.result
    (c.write_wrapped-in-Count.new.out.items ≡ c.args.out.now.items ++ x)) (count_text c.in-Count.count) c.write_wrapped-in-Count.ensures.ok)
