use Rattle.std.proofs.Common.{sym, ◌∙◌}
use Rattle.std.proofs.lemmas.Bool.{and_parts, eqb-true}
use Rattle.bd_extjson_text.specs.Text.{needs_escape}
use Rattle.bd_extjson_text.proofs.JsonStringLemmas.{unmasked}
use Rattle.bd_extjson_text.proofs.json_string.are_plain.Goals as goal

pub returns : goal.returns
returns g c none =
    let both = and_parts _ _ none in
    (unmasked needs_escape c.args.first.now (sym c.stops.ensures ∙ eqb-true _ _ both.0), unmasked needs_escape c.args.last.now (sym c.stops-2.ensures ∙ eqb-true _ _ both.1))
