use Rattle.std.proofs.Common.{sym, ◌∙◌}
use Rattle.std.specs.{Str.Parse.ParsesUnsigned, Str.Parse.ExplainsUnsignedError, Str.Parse.HasUnsignedDigitsIfOk, declared.num.ParseIntError.ParseIntError}
use Rattle.clap.specs.{Words.found_of, Words.rows_of, Walk.one_of}
use Rattle.clap.proofs.WalkLemmas.{one_text-rows}
use Rattle.bd_cli_args.proofs.LineLemmas.{number_is}
use Rattle.bd_cli_args.proofs.command_line.number_of.Goals as goal

pub returns : goal.returns
returns c =
    let found = found_of c.args.matches.now in
    let name = c.args.name.now in
    let text = one_text-rows found name in
    sym (number_is ParseIntError
    (λ bs r. ParsesUnsigned 32 10 bs r × ExplainsUnsignedError 10 bs r × HasUnsignedDigitsIfOk bs r) (λ t r h. h.0)
    (one_of name (rows_of found)) c.get_one.result
    (λ e. c.get_one.ensures.none (text ∙ e)) (λ t e. c.get_one.ensures.value t (text ∙ e)))
