use Rattle.std.proofs.Common.{◌∙◌, ap}
use Rattle.bd_value.specs.{Tree.Doc, Tree.fields_of, Tree.pairs_of-fields_of, View.pairs}
use Rattle.bd_wide_query.specs.Types.{fields_are_alike}
use Rattle.bd_wide_query.proofs.types.are_alike.Goals as goal

pub returns : goal.returns
returns c =
    c.pairs_are_alike.ensures
    ∙ ap (λ (d : Doc). fields_are_alike c.args.one c.args.other (fields_of d)) (c.parts.ensures.parts ∙ pairs_of-fields_of (pairs c.args.query.now))
