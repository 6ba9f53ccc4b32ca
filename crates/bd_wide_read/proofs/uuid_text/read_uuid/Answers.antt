use Rattle.std.proofs.Common.{◌≡◌, length, rules, arith, false, true}
use Rattle.std.proofs.lemmas.Bool.Decides.{nat_tests}
use Rattle.bd_wide_read.proofs.UuidLemmas.{no_uuid}
use Rattle.bd_wide_read.proofs.uuid_text.read_uuid.Goals as goal

pub returns-in-Err : goal.returns-in-Err
returns-in-Err c =
    let long : length c.args.text.now ≡ 36 = search (arith, rules, nat_tests) in
    no_uuid c.args.text.now long (λ u e. let bad : false ≡ true = c.in-Err.ensures.ok.1 (u, e) in cc)
