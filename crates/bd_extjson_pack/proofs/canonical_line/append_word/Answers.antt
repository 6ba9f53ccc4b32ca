use Rattle.std.proofs.Common.{refl, sym, true, false, append-nil}
use Rattle.bd_value.specs.Tree as trees
use Rattle.bd_value.specs.Tree.{leaf}
use Rattle.bd_extjson_text.specs.Text.{scalar_text}
use Rattle.std.proofs.lemmas.Option.{MatchOption-at_some as of_some}
use Rattle.bd_extjson_pack.proofs.CanonicalLemmas.{leaf_canonical}
use Rattle.bd_extjson_pack.proofs.canonical_line.append_word.Goals as goal

pub returns-in-Some : goal.returns-in-Some
unfolding scalar_text
returns-in-Some c =
    let put = c.in_ok-append_leaf.ensures.ok in
    (leaf (trees.boolean true), c.in-Some.ensures, leaf_canonical (trees.boolean true) tt refl, put.0, put.1)

pub returns-in-Some-after_word : goal.returns-in-Some-after_word
unfolding scalar_text
returns-in-Some-after_word c =
    let put = c.in_ok-append_leaf-2.ensures.ok in
    (leaf (trees.boolean false), c.in-Some-after_word.ensures, leaf_canonical (trees.boolean false) tt refl, put.0, put.1)

pub returns : goal.returns
unfolding scalar_text
returns c = (leaf trees.null, of_some _ _ _ c.in_ok-rest.ensures.ok_part c.after_word-3.ensures, leaf_canonical trees.null tt refl, refl, sym (append-nil _))
