use Rattle.std.proofs.Common.{◌≡◌, rules}
use Rattle.bd_value.specs.View.{kind_of}
use Rattle.bd_bson_view.specs.Raw.{value_tree}
use Rattle.bd_wide_pack.proofs.MixLemmas as m
use Rattle.bd_wide_pack.proofs.step.same_bytes.Goals as goal

pub returns-clause-some : goal.returns-clause-some
returns-clause-some c =
    let kind : kind_of (value_tree c.args.text) ≡ kind_of (value_tree c.args.whole) = search rules in
    let same : c.spelled-other.result.now ≡ c.spelled-bytes.result.now = search rules in
    (m.same_value (value_tree c.args.whole) (value_tree c.args.text) c.spelled-bytes.result.now c.spelled-other.result.now c.spelled-bytes.ensures c.spelled-other.ensures kind same, c.spelled-bytes.ensures)
