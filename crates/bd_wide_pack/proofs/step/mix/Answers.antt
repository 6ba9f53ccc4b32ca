use Rattle.std.proofs.Common.{◌≡◌, ◌∙◌, [], true, false, rules}
use Rattle.std.proofs.lemmas.{Bool.Decides.nat_tests, List.nil_from_length}
use Rattle.bd_bson_view.proofs.SoundLemmas.{document_unique}
use Rattle.bd_wide_pack.proofs.MixLemmas as m
use Rattle.bd_wide_pack.proofs.step.mix.Goals as goal

pub returns-clause-mixed : goal.returns-clause-mixed
returns-clause-mixed c w t hw ht is =
    let yes : c.is_empty.result ≡ true = cc in
    let none : c.in-Some.rest.now ≡ [] = search (rules, nat_tests, nil_from_length) in
    let mixed = rw c.in-Some.is at c.in_ok-rest.ensures in
    m.mixed_whole _ _ w t c.args.numbers.now mixed.0 c.args.out.now.items _
    (c.elements-whole.ensures.elements ∙ document_unique c.args.wholes.now _ w c.whole.ensures.document hw) (c.elements-text.ensures.elements ∙ document_unique c.args.texts.now _ t c.whole-2.ensures.document ht)
    (rw none at mixed.1) mixed.2

pub returns-clause-unlike : goal.returns-clause-unlike
returns-clause-unlike c w t hw ht is =
    let not_all : c.is_empty.result ≡ false = cc in
    let some : c.in-Some.rest.now ≡ [] → ⊥ = search (rules, nat_tests) in
    let mixed = rw c.in-Some.is at c.in_ok-rest.ensures in
    m.too_many_whole _ _ w t c.args.numbers.now c.in-Some.rest.now mixed.0
    (c.elements-whole.ensures.elements ∙ document_unique c.args.wholes.now _ w c.whole.ensures.document hw) (c.elements-text.ensures.elements ∙ document_unique c.args.texts.now _ t c.whole-2.ensures.document ht)
    mixed.1 some

pub returns-in_default-clause-unlike : goal.returns-in_default-clause-unlike
returns-in_default-clause-unlike c w t hw ht is =
    let unlike = rw c.in_default.is at c.in_ok-rest.ensures in
    m.unlike_whole _ _ w t c.args.numbers.now
    (c.elements-whole.ensures.elements ∙ document_unique c.args.wholes.now _ w c.whole.ensures.document hw) (c.elements-text.ensures.elements ∙ document_unique c.args.texts.now _ t c.whole-2.ensures.document ht)
    unlike
