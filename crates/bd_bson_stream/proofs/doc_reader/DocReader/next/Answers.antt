use Rattle.std.proofs.Common.{rules, refl}
use Rattle.std.proofs.lemmas.Result.{err_from_is_err_and}
use Rattle.bd_bson_stream.proofs.StreamLemmas.{begins}
use Rattle.bd_bson_stream.proofs.doc_reader.DocReader.next.Goals as goal

pub returns-in_err-advance : goal.returns-in_err-advance
returns-in_err-advance g c =
    let p = err_from_is_err_and c.from_residual.result c.from_residual.ensures.1 in
    let stated = c.in_err-advance.ensures in
    rw (p.1, p.2) (
      (refl, λ _. tt, (stated.failed, stated.fails, search rules)),
      record {
        frame = tt;
        prefix = tt;
        is_at = tt;
        end = search rules;
        refused = search rules;
        after = tt;
      },
    )

pub returns : goal.returns
returns g c =
    let read = c.in_ok-advance.ensures.reads (search rules) in (
      (refl, λ _. tt, (read, c.bytes.ensures, c.in_ok-advance.ensures.not_failed)),
      record {
        frame = search rules;
        prefix = rw c.bytes.ensures (begins _ _ _ read.gave);
        is_at = search rules;
        end = search rules;
        refused = search rules;
        after = tt;
      },
    )

pub returns-then-not-branch : goal.returns-then-not-branch
returns-then-not-branch g c =
    let none = c.in_ok-advance.ensures.end (search rules) in (
      (refl, λ _. tt, (none, c.in_ok-advance.ensures.not_failed)),
      record {
        frame = tt;
        prefix = tt;
        is_at = tt;
        end = search rules;
        refused = search rules;
        after = tt;
      },
    )
