use Rattle.bd_extjson_text.specs.Text.{needs_escape}
use Rattle.bd_extjson_text.proofs.JsonStringLemmas.{found_after}
use Rattle.bd_extjson_text.proofs.json_string.first_escape.Goals as goal

pub returns-in-Some : goal.returns-in-Some
returns-in-Some c =
    let run = c.plain_length-passed.ensures in
    found_after needs_escape c.plain_length-passed.result c.args.text.now _ _ run.within run.plain c.split_at.ensures.back c.in-Some.ensures

pub returns-in-None : goal.returns-in-None
returns-in-None c =
    let run = c.plain_length-passed.ensures in
    found_after needs_escape c.plain_length-passed.result c.args.text.now _ _ run.within run.plain c.split_at.ensures.back c.in-None.ensures
