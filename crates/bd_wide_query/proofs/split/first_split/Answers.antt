use Rattle.std.proofs.Common.{◌≡◌, ◌∙◌, IfOk, option_map, subst}
use Rattle.bd_value.specs.{Tree.Doc, Tree.fields_of, Tree.pairs_of-fields_of, View.pairs}
use Rattle.bd_wide_query.specs.Split.{first_split, split_view}
use Rattle.bd_wide_query.proofs.split.first_split.Goals as goal

pub returns : goal.returns
returns c =
    subst (λ (d : Doc). IfOk c.split_in_pairs.result (λ s. option_map split_view s ≡ first_split c.args.classes (fields_of d)))
    (c.parts.ensures.parts ∙ pairs_of-fields_of (pairs c.args.query.now)) c.split_in_pairs.ensures
