use Rattle.std.proofs.Common.{◌∙◌, ap, is_some, sym}
use Rattle.clap.specs.{Words.found_of}
use Rattle.clap.proofs.WalkLemmas.{first_value-rows}
use Rattle.bd_cli_args.proofs.WideLineLemmas.{some_mapped}
use Rattle.bd_cli_args.proofs.wide_line.is_given.Goals as goal

pub returns : goal.returns
returns c =
    c.is_some.ensures ∙ sym (some_mapped _ c.get_str.result)
    ∙ ap is_some (c.get_str.ensures ∙ first_value-rows (found_of c.args.matches.now) c.args.name.now)
