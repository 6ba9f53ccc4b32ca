use Rattle.std.proofs.Common.{◌≡◌, ◌&&◌, List, Some, None, false, drop, map, string_bytes, refl, sym, ap, ◌∙◌, arith, slice_get}
use Rattle.std.specs.List.{list_any}
use Rattle.bd_value.specs.{Tree.first_of, Tree.elements_in, Tree.values_of}
use Rattle.bd_value.specs.Tree.{Doc, Tree, fields_of, fields_size, items_of, pairs_in}
use Rattle.bd_value.proofs.PartsLemmas as parted
use Rattle.bd_path.specs.{Reach.Names, Path.component_names, PathNames.names_of, Reach.bounded_index, declared.component.Component.Component}
use Rattle.bd_path.specs.Reach.{document_collecting, each_collecting, ends, index_collecting, is_document, reach}
use Rattle.bd_path.proofs.ReachLemmas as down
use Rattle.bd_path.proofs.PathWalkLemmas as visits
use Rattle.bd_query.specs.inside.FilterMatch.{is_matching, matches_element}
use Rattle.bd_query_filter.specs.Filter.{filters_from, operators_from, filter_tree, operator_tree}
use Rattle.bd_query_filter.specs.FilterMatch.{all_accept, all_match, any_candidate, holds, is_of_type, is_value}
use Rattle.bd_query_filter.proofs.FilterOfLemmas.{operator_tree-ElemMatch, operator_tree-ElemMatchDocument, operator_tree-Type}
use Rattle.bd_query.proofs.filter_match.+matching.Goals as goal
use Rattle.bd_query.proofs.filter_match.+matching.Goals.{any_end_matches_in_documents-then-is_document+else-any_end_matches, any_end_matches_in_documents-else-is_document}

pub any_end_matches-returns-then-k-path : goal.any_end_matches-returns-then-k-path
any_end_matches-returns-then-k-path g t c =
    let n = g.N.Reading.tree c.args.node in
    let cs = c.args.path_walk.now.path.now in
    down.one (is_matching c.args.path_walk.now.body.now) (Some n) c.any_matches_element.result _ c.any_matches_element.ensures (visits.end_is ends n (component_names cs) c.args.k (c.if-k-path.true ∙ sym (visits.as_many cs)))

pub any_end_matches-returns-then-any_end_matches_in_documents : goal.any_end_matches-returns-then-any_end_matches_in_documents
any_end_matches-returns-then-any_end_matches_in_documents g t c =
    let n = g.N.Reading.tree c.args.node in
    let cs = c.args.path_walk.now.path.now in
    let many = visits.as_many cs in
    let m = visits.named (component_names cs) c.args.k (omega (arith, many, c.requires.at, c.if-k-path.false)) in
    down.in_first (is_matching c.args.path_walk.now.body.now) c.any_end_matches_in_documents.result _ (index_collecting ends n (drop c.args.k (component_names cs))) _
    c.any_end_matches_in_documents.ensures c.if-any_end_matches_in_documents.true
    (visits.parts_are ends n (component_names cs) c.args.k m.name (sym c.kind.ensures ∙ c.in-Array.is) m.is_there)

pub any_end_matches-returns-else-any_end_matches_in_documents : goal.any_end_matches-returns-else-any_end_matches_in_documents
any_end_matches-returns-else-any_end_matches_in_documents g t c =
    let n = g.N.Reading.tree c.args.node in
    let cs = c.args.path_walk.now.path.now in
    let many = visits.as_many cs in
    let m = visits.named (component_names cs) c.args.k (omega (arith, many, c.requires.at, c.if-k-path.false)) in
    down.in_second (is_matching c.args.path_walk.now.body.now) c.any_end_matches_in_documents.result c.any_end_matches_at_index.result
    (document_collecting ends n (drop c.args.k (component_names cs))) (index_collecting ends n (drop c.args.k (component_names cs))) _
    c.any_end_matches_in_documents.ensures c.if-any_end_matches_in_documents.false c.any_end_matches_at_index.ensures
    (visits.parts_are ends n (component_names cs) c.args.k m.name (sym c.kind.ensures ∙ c.in-Array.is) m.is_there)

pub any_end_matches-returns-in_default : goal.any_end_matches-returns-in_default
any_end_matches-returns-in_default g t c =
    let n = g.N.Reading.tree c.args.node in
    let cs = c.args.path_walk.now.path.now in
    let many = visits.as_many cs in
    down.one (is_matching c.args.path_walk.now.body.now) None false _ refl
    (visits.other_is ends n (component_names cs) c.args.k (λ e. c.in_default.not-Doc (c.kind.ensures ∙ e))
    (λ e. c.in_default.not-Array (c.kind.ensures ∙ e)) (omega (arith, many, c.requires.at, c.if-k-path.false)))

pub any_end_matches_in_field-any_end_matches-requires : goal.any_end_matches_in_field-any_end_matches-requires
any_end_matches_in_field-any_end_matches-requires g t c κs within =
    let n = g.N.Reading.tree c.args.node in
    let u = g.N.Reading.tree c.in-Some.value in
    let s = c.as_str-name.result in
    let e : first_of s.now (pairs_in n) ≡ Some u = sym c.in-Some.ensures.first in
    let small = down.first_smaller s.now n u e in
    let d = c.decreases in
    let f = is_matching c.args.path_walk.now.body.now in (
      omega arith,
      (
        within.0,
        (
          within.1,
          (
            c.requires.within_limit,
            (
              omega (arith, c.requires.at),
              visits.field_inside f ends (down.keeps_ends f) n c.args.path_walk.now.path.now c.args.visits.now c.requires.visited s u c.at_field-inside.result c.requires.kind e c.at_field-inside.ensures,
            ),
          ),
        ),
      ),
    )

pub any_end_matches_in_field-returns-in-Some : goal.any_end_matches_in_field-returns-in-Some
any_end_matches_in_field-returns-in-Some g t c =
    let n = g.N.Reading.tree c.args.node in
    let u = g.N.Reading.tree c.in-Some.value in
    let cs = c.args.path_walk.now.path.now in
    let s = c.as_str-name.result in
    let there : slice_get (component_names cs) c.args.k ≡ Some s.now = visits.name_at cs c.args.k c.index-path-k.result c.requires.at c.index-path-k.is
    ∙ ap (λ (x : Component). visits.some_name (string_bytes x.name)) c.index-path-k.is ∙ ap visits.some_name (sym c.as_str-name.ensures.value) in
    let e : first_of s.now (pairs_in n) ≡ Some u = sym c.in-Some.ensures.first in
    c.any_end_matches.ensures ∙ ap (list_any (is_matching c.args.path_walk.now.body.now)) (sym (visits.field_is ends n (component_names cs) c.args.k s.now u c.requires.kind there e))

pub any_end_matches_in_field-returns-in-None : goal.any_end_matches_in_field-returns-in-None
any_end_matches_in_field-returns-in-None g t c =
    let n = g.N.Reading.tree c.args.node in
    let cs = c.args.path_walk.now.path.now in
    let s = c.as_str-name.result in
    let there : slice_get (component_names cs) c.args.k ≡ Some s.now = visits.name_at cs c.args.k c.index-path-k.result c.requires.at c.index-path-k.is
    ∙ ap (λ (x : Component). visits.some_name (string_bytes x.name)) c.index-path-k.is ∙ ap visits.some_name (sym c.as_str-name.ensures.value) in
    let e : first_of s.now (pairs_in n) ≡ None = sym c.in-None.ensures.first in
    down.one (is_matching c.args.path_walk.now.body.now) None false _ refl (visits.lost_is ends n (component_names cs) c.args.k s.now c.requires.kind there e)

pub any_end_matches_in_documents-loop-i-init : goal.any_end_matches_in_documents-loop-i-init
any_end_matches_in_documents-loop-i-init g t c =
    let n = g.N.Reading.tree c.args.node in
    let ps = g.N.Reading.remaining c.parts-remaining.result in
    let parts = down.parts_are n ps c.requires.kind c.parts-remaining.ensures.parts in
    record {
      remaining = parts;
      so_far = ap (λ (es : List Tree). list_any (is_matching c.args.path_walk.now.body.now) (each_collecting ends (items_of es) (drop c.args.k (component_names c.args.path_walk.now.path.now)))) parts;
      smaller = parted.parts_smaller n ps c.parts-remaining.ensures.parts;
    }

pub any_end_matches_in_documents-any_end_matches-requires : goal.any_end_matches_in_documents-any_end_matches-requires
any_end_matches_in_documents-any_end_matches-requires g t c κs within =
    let n = g.N.Reading.tree c.args.node in
    let u = g.N.Reading.tree c.in-Some.next.1 in
    let us = values_of (g.N.Reading.remaining c.in-Some.next.2) in
    let remaining = sym (ap values_of c.in-Some.ensures.some) ∙ c.loop-i.invariant.remaining in
    let here = visits.next_is (elements_in n) c.loop-i.i u us remaining in
    let f = is_matching c.args.path_walk.now.body.now in
    let small = down.element_smaller n c.loop-i.i u here in
    let d = c.decreases in (
      omega arith,
      (
        within.0,
        (
          within.1,
          (
            c.requires.within_limit,
            (
              omega (arith, c.requires.at),
              visits.document_inside f ends (down.keeps_ends f) n c.args.path_walk.now.path.now c.args.visits.now c.requires.visited c.requires.kind c.loop-i.i u
                  c.at_document-inside.result here (omega (arith, c.loop-i-test.true))
                  (sym c.is_document.ensures ∙ c.if-is_document.true) c.at_document-inside.ensures,
            ),
          ),
        ),
      ),
    )

pub any_end_matches_in_documents-loop-i-preserved : goal.any_end_matches_in_documents-loop-i-preserved
any_end_matches_in_documents-loop-i-preserved g t c =
    let n = g.N.Reading.tree c.args.node in
    let f = is_matching c.args.path_walk.now.body.now in
    let p = drop c.args.k (component_names c.args.path_walk.now.path.now) in
    let u = g.N.Reading.tree c.in-Some.next.1 in
    let us = values_of (g.N.Reading.remaining c.in-Some.next.2) in
    let is = ap values_of c.in-Some.ensures.some in
    let remaining = sym is ∙ c.loop-i.invariant.remaining in
    let size = ap (λ (x : Doc). fields_size (fields_of x)) c.in-Some.ensures.some in
    record {
      remaining = visits.remaining_after (elements_in n) c.loop-i.i u us remaining;
      so_far = elim c.if-is_document.branch [
        | any_end_matches_in_documents-then-is_document+else-any_end_matches w ↦
            down.document_passed f p u _ us _ c.loop-i.invariant.so_far is (sym c.is_document.ensures ∙ w.if-is_document.true) (sym w.any_end_matches.ensures ∙ w.if-any_end_matches.false)
        | any_end_matches_in_documents-else-is_document w ↦ down.other_passed f p u _ us _ c.loop-i.invariant.so_far is (sym c.is_document.ensures ∙ w.if-is_document.false)
      ];
      smaller = omega (arith, size, c.loop-i.invariant.smaller);
    }

pub any_end_matches_at_index-any_end_matches-requires : goal.any_end_matches_at_index-any_end_matches-requires
any_end_matches_at_index-any_end_matches-requires g t c κs within =
    let n = g.N.Reading.tree c.args.node in
    let u = g.N.Reading.tree c.element-element.result in
    let f = is_matching c.args.path_walk.now.body.now in
    let small = down.element_smaller n c.in-Some.i u c.element-element.ensures.element in
    let d = c.decreases in (
      omega arith,
      (
        within.0,
        (
          within.1,
          (
            c.requires.within_limit,
            (
              omega (arith, c.requires.at),
              visits.index_inside f ends (down.keeps_ends f) n c.args.path_walk.now.path.now c.args.visits.now c.requires.visited c.requires.kind c.args.k
                  c.in-Some.i u c.at_index-inside.result c.element-element.ensures.element
                  (omega (arith, c.len.type_inv, c.if-i-len.true)) c.is_document.result c.is_document.ensures c.requires.documents c.at_index-inside.ensures,
            ),
          ),
        ),
      ),
    )

pub any_end_matches_at_index-returns-in-Some : goal.any_end_matches_at_index-returns-in-Some
any_end_matches_at_index-returns-in-Some g t c =
    let n = g.N.Reading.tree c.args.node in
    let u = g.N.Reading.tree c.element-element.result in
    let cs = c.args.path_walk.now.path.now in
    let names = component_names cs in
    let m = string_bytes c.index-path-k.result.name in
    let there = visits.name_at cs c.args.k c.index-path-k.result c.requires.at c.index-path-k.is in
    let bounded : bounded_index m ≡ Some c.in-Some.i = visits.index_at cs c.args.k c.index-path-k.result _ _ c.requires.at c.index-path-k.is c.in-Some.is in
    c.any_end_matches.ensures
    ∙ ap (list_any (is_matching c.args.path_walk.now.body.now))
    (sym (visits.first_is ends n names c.args.k m there ∙ visits.element_at ends (elements_in n) m names c.args.k c.in-Some.i u bounded
    (omega (arith, c.len.type_inv, c.if-i-len.true)) c.element-element.ensures.element))

pub any_end_matches_at_index-returns-in_default : goal.any_end_matches_at_index-returns-in_default
any_end_matches_at_index-returns-in_default g t c =
    let n = g.N.Reading.tree c.args.node in
    let cs = c.args.path_walk.now.path.now in
    let names = component_names cs in
    let m = string_bytes c.index-path-k.result.name in
    let there = visits.name_at cs c.args.k c.index-path-k.result c.requires.at c.index-path-k.is in
    let bounded : bounded_index m ≡ Some c.in-Some.i = visits.index_at cs c.args.k c.index-path-k.result _ _ c.requires.at c.index-path-k.is c.in-Some.is in
    let len = down.length_elements n c.requires.kind in
    sym (ap (list_any (is_matching c.args.path_walk.now.body.now))
    (visits.first_is ends n names c.args.k m there
    ∙ visits.none_there ends (elements_in n) m _ c.in-Some.i bounded (omega (arith, c.if-i-len.false, c.len.ensures, len)) (omega (arith, c.len.type_inv, c.len.ensures, len))))

pub any_end_matches_at_index-returns-in_default-2 : goal.any_end_matches_at_index-returns-in_default-2
any_end_matches_at_index-returns-in_default-2 g t c =
    let n = g.N.Reading.tree c.args.node in
    let cs = c.args.path_walk.now.path.now in
    let names = component_names cs in
    let m = string_bytes c.index-path-k.result.name in
    let there = visits.name_at cs c.args.k c.index-path-k.result c.requires.at c.index-path-k.is in
    let bounded : bounded_index m ≡ None = visits.index_at cs c.args.k c.index-path-k.result _ _ c.requires.at c.index-path-k.is c.in_default.is in
    sym (ap (list_any (is_matching c.args.path_walk.now.body.now)) (visits.first_is ends n names c.args.k m there ∙ visits.no_index ends (elements_in n) m _ bounded))

pub any_matches_element-loop-next-init : goal.any_matches_element-loop-next-init
any_matches_element-loop-next-init g t c =
    let n = g.N.Reading.tree c.args.node in
    let ps = g.N.Reading.remaining c.parts-remaining.result in
    record {
      so_far = ap (list_any (matches_element c.args.body.now)) (down.parts_are n ps (sym c.kind.ensures ∙ c.in-Array.is) c.parts-remaining.ensures.parts);
      smaller = parted.parts_smaller n ps c.parts-remaining.ensures.parts;
    }

pub holds-returns-in-Type : goal.holds-returns-in-Type
holds-returns-in-Type g t c =
    let es = reach (g.N.Reading.tree c.args.node) (names_of c.args.path.now) in
    c.any_of_type.ensures ∙ ap (λ kinds. any_candidate (is_value (is_of_type kinds)) es) c.deref-in-Type.ensures.value
    ∙ sym (ap (λ o. holds o es) (ap operator_tree c.in-Type.is ∙ operator_tree-Type c.in-Type.kinds))

pub reaches_match-returns : goal.reaches_match-returns
reaches_match-returns g t c =
    let n = g.N.Reading.tree c.args.node in
    c.any_end_matches.ensures ∙ ap (λ (x : Names). list_any (is_matching c.args.body.now) (reach n x)) c.components-path.ensures

pub holds-returns-in-ElemMatch : goal.holds-returns-in-ElemMatch
holds-returns-in-ElemMatch g t c =
    let es = reach (g.N.Reading.tree c.args.node) (names_of c.args.path.now) in
    c.reaches_match.ensures
    ∙ ap (λ os. list_any (is_value (λ t. list_any (all_accept (operators_from (map operator_tree os))) (elements_in t))) es) c.deref-in-ElemMatch.ensures.value
    ∙ sym (ap (λ o. holds o es) (ap operator_tree c.in-ElemMatch.is ∙ operator_tree-ElemMatch c.in-ElemMatch.operators))

pub holds-returns-in-ElemMatchDocument : goal.holds-returns-in-ElemMatchDocument
holds-returns-in-ElemMatchDocument g t c =
    let es = reach (g.N.Reading.tree c.args.node) (names_of c.args.path.now) in
    c.reaches_match-in-ElemMatchDocument.ensures
    ∙ ap (λ fs. list_any (is_value (λ t. list_any (λ x. is_document x && all_match (filters_from (map filter_tree fs)) x) (elements_in t))) es) c.deref-in-ElemMatchDocument.ensures.value
    ∙ sym (ap (λ o. holds o es) (ap operator_tree c.in-ElemMatchDocument.is ∙ operator_tree-ElemMatchDocument c.in-ElemMatchDocument.filters))
