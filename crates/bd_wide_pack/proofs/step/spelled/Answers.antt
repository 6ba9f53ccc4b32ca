use Rattle.std.proofs.Common.{◌∙◌, take, length, List, ℕ, sym, ap, subst, arith}
use Rattle.bd_bson_view.specs.Raw.{value_tree}
use Rattle.bd_bson_view.specs.Sizes.{HasBytesOf, size_of}
use Rattle.bd_bson_view.specs.Sound.{IsAt}
use Rattle.bd_wide_pack.proofs.MixLemmas.{content_reads, content_fits, content_spells}
use Rattle.bd_wide_pack.proofs.step.spelled.Goals as goal

pub size-requires : goal.size-requires
size-requires c =
    let is = subst (λ (x : List ℕ). IsAt x c.at-at.result (value_tree c.args.value)) c.requires c.at-at.ensures.meaning in
    subst (HasBytesOf c.kind.result) (sym c.split_at.ensures.back) (content_reads c.args.bytes.now c.at-at.result (value_tree c.args.value) is c.kind.result c.kind.ensures)

pub split_at-requires-2 : goal.split_at-requires-2
split_at-requires-2 c =
    let is = subst (λ (x : List ℕ). IsAt x c.at-at.result (value_tree c.args.value)) c.requires c.at-at.ensures.meaning in
    let fits = content_fits c.args.bytes.now c.at-at.result (value_tree c.args.value) is c.kind.result c.kind.ensures in
    let size = c.size.ensures ∙ ap (size_of c.kind.result) c.split_at.ensures.back in
    omega (arith, fits, size, ap (λ (x : List ℕ). length x) c.split_at.ensures.back)

pub returns : goal.returns
returns c =
    let is = subst (λ (x : List ℕ). IsAt x c.at-at.result (value_tree c.args.value)) c.requires c.at-at.ensures.meaning in
    content_spells c.args.bytes.now c.at-at.result (value_tree c.args.value) is c.kind.result c.size.result c.split_at-2.result.0.now c.kind.ensures
    (c.size.ensures ∙ ap (size_of c.kind.result) c.split_at.ensures.back) (c.split_at-2.ensures.front ∙ ap (take c.size.result) c.split_at.ensures.back)
