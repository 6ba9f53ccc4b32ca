use Rattle.std.proofs.Common.{Bool, ◌∙◌, sym, subst}
use Rattle.bd_wide_query.proofs.ReadLemmas.{plain_both}
use Rattle.bd_wide_substitute.specs.Made.{IsMade}
use Rattle.bd_wide_substitute.proofs.BothLemmas.{empty_numbers}
use Rattle.bd_wide_query.proofs.read.read_query.Goals as goal

pub query_of-requires-in-Ok-false : goal.query_of-requires-in-Ok-false
query_of-requires-in-Ok-false c =
    let made = c.in-Ok-false.ensures in
    let none = subst (λ (b : Bool). IsMade b made.0 c.substitute.new.made) c.in-Ok-false.field-0-test made.2 in
    (made.0, made.1, c.new.ensures.items ∙ sym (empty_numbers made.0 none), plain_both c.args.text.now made.0 made.1 c.read_both.result none c.read_both.ensures)
