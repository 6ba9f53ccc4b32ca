use Rattle.std.proofs.Common.{◌≡◌, ◌+◌, ◌<◌, ◌≤◌, Some, true, false, drop, length, take, refl, sym, ap, ◌∙◌, arith}
use Rattle.std.specs.List.{list_any}
use Rattle.std.proofs.{lemmas.Bool.or_left, lemmas.List.drop_all, lemmas.List.Folds.list_any-append}
use Rattle.bd_value.specs.{Tree.first_of, Tree.values_of, Tree.elements_in, Tree.Doc, Tree.fields_of, Tree.fields_size, Tree.pairs_in}
use Rattle.bd_value.proofs.PartsLemmas as parted
use Rattle.bd_path.specs.{Path.component_names, Reach.document_collecting, Reach.is_document, inside.PathWalk.TakesStops, PathWalk.stopping}
use Rattle.bd_path.proofs.ReachLemmas as down
use Rattle.bd_path.proofs.PathWalkLemmas as visits
use Rattle.bd_path.proofs.path_walk.+path_walk.Goals.{path_walk_documents-then-is_document+else-not-path_walk_from, path_walk_documents-else-is_document}
use Rattle.bd_path.proofs.path_walk.+path_walk.Goals as goal

pub path_walk_from-returns-then-has : goal.path_walk_from-returns-then-has
path_walk_from-returns-then-has g t c = visits.vain_taken _ _ c.requires.known _ _ _ (c.requires.visited c.args.k (sym c.has.ensures ∙ c.if-has.true))

pub path_walk_from-returns-then-k-path : goal.path_walk_from-returns-then-k-path
path_walk_from-returns-then-k-path g t c =
    rw (visits.end_is stopping (g.N.Reading.tree c.args.node) (component_names c.args.path.now) c.args.k (c.if-k-path.true ∙ sym (visits.as_many c.args.path.now))) (c.take.ensures _ refl)

pub path_walk_from-returns-in_default : goal.path_walk_from-returns-in_default
path_walk_from-returns-in_default g t c =
    let many = visits.as_many c.args.path.now in
    let is = visits.other_is stopping (g.N.Reading.tree c.args.node) (component_names c.args.path.now) c.args.k (λ e. c.in_default.not-Doc (c.kind.ensures ∙ e))
    (λ e. c.in_default.not-Array (c.kind.ensures ∙ e)) (omega (arith, many, c.requires.at, c.if-k-path.false)) in
    rw is (c.take-in_default.ensures _ tt)

pub path_walk_from-path_walk_from-requires : goal.path_walk_from-path_walk_from-requires
path_walk_from-path_walk_from-requires g t c κs within =
    let n = g.N.Reading.tree c.args.node in
    let u = g.N.Reading.tree c.in-Some.value in
    let s = c.name_at-name.result in
    let e : first_of s.now (pairs_in n) ≡ Some u = sym c.in-Some.ensures.first in
    let small = down.first_smaller s.now n u e in
    let d = c.decreases in
    let below : c.args.k + 1 ≤ length c.args.path.now = omega (arith, c.requires.at, c.if-k-path.false) in
    let f = g.G.Collector.is_new c.args.collector.now c.args.found.now in
    let visited = visits.field_inside f stopping (visits.keeps_stops f) n c.args.path.now c.args.visits.now c.requires.visited s u c.at_field-inside.result
    (sym c.kind.ensures ∙ c.in-Doc.is) e c.at_field-inside.ensures in
    (omega arith, assumption (visited, below))

pub path_walk_from-returns-in-Some : goal.path_walk_from-returns-in-Some
path_walk_from-returns-in-Some g t c =
    let is = visits.field_is stopping (g.N.Reading.tree c.args.node) (component_names c.args.path.now) c.args.k c.name_at-name.result.now (g.N.Reading.tree c.in-Some.value)
    (sym c.kind.ensures ∙ c.in-Doc.is) c.name_at-name.ensures (sym c.in-Some.ensures.first) in
    rw (is, ← c.in-Some.ensures.same_source) c.path_walk_from.ensures

pub path_walk_from-returns-in_default-first : goal.path_walk_from-returns-in_default-first
path_walk_from-returns-in_default-first g t c =
    let is = visits.lost_is stopping (g.N.Reading.tree c.args.node) (component_names c.args.path.now) c.args.k c.name_at-name.result.now
    (sym c.kind.ensures ∙ c.in-Doc.is) c.name_at-name.ensures (sym c.in_default-first.ensures.first) in
    rw is (c.take-in_default-first.ensures _ tt)

pub path_walk_from-returns-in-None : goal.path_walk_from-returns-in-None
path_walk_from-returns-in-None g t c =
    let n = g.N.Reading.tree c.args.node in
    let names = component_names c.args.path.now in
    let m = visits.named names c.args.k (let many = visits.as_many c.args.path.now in omega (arith, many, c.requires.at, c.if-k-path.false)) in
    rw (visits.array_is n names c.args.k m.name m.is_there (list_any is_document (elements_in n)) (sym c.kind.ensures ∙ c.in-Array.is) refl, list_any-append) (or_left _ _ c.in-None.ensures.taken)

pub path_walk_from-path_walk_index-requires : goal.path_walk_from-path_walk_index-requires
path_walk_from-path_walk_index-requires g t c κs within =
    let n = g.N.Reading.tree c.args.node in
    let names = component_names c.args.path.now in
    let d = c.decreases in
    let fact : TakesStops (g.G.Collector.amounts c.args.collector.now) (g.G.Collector.is_new c.args.collector.now) (g.N.Reading.source c.args.node) c.args.found.now
    c.path_walk_documents.new.found (document_collecting stopping n (drop c.args.k names)) = c.in-Some-path_walk_documents.ensures.taken in
    let visited = visits.still_vain _ _ n names c.args.visits.now fact.still c.requires.visited in
    let below : c.args.k < length c.args.path.now = omega (arith, c.requires.at, c.if-k-path.false) in
    let array = sym c.kind.ensures ∙ c.in-Array.is in
    (omega arith, assumption (visited, fact.none_new, below, array))

pub path_walk_from-returns-in-Some-path_walk_documents : goal.path_walk_from-returns-in-Some-path_walk_documents
path_walk_from-returns-in-Some-path_walk_documents g t c =
    let names = component_names c.args.path.now in
    let m = visits.named names c.args.k (let many = visits.as_many c.args.path.now in omega (arith, many, c.requires.at, c.if-k-path.false)) in
    rw (visits.array_is (g.N.Reading.tree c.args.node) names c.args.k m.name m.is_there c.in-Some-path_walk_documents.has_document (sym c.kind.ensures ∙ c.in-Array.is) c.in-Some-path_walk_documents.ensures.has)
    (visits.then_taken _ _ _ c.path_walk_index.result _ _ _ _ _ _ c.in-Some-path_walk_documents.ensures.taken c.path_walk_index.ensures)

pub path_walk_documents-loop-i-init : goal.path_walk_documents-loop-i-init
path_walk_documents-loop-i-init g t c =
    let n = g.N.Reading.tree c.args.node in
    let ps = g.N.Reading.remaining c.parts-remaining.result in
    record {
      remaining = down.parts_are n ps c.requires.kind c.parts-remaining.ensures.parts;
      so_far = visits.none_taken _ _ _ _;
      has = refl;
      source = c.parts-remaining.ensures.same_source;
      smaller = parted.parts_smaller n ps c.parts-remaining.ensures.parts;
    }

pub path_walk_documents-returns-in_default : goal.path_walk_documents-returns-in_default
path_walk_documents-returns-in_default g t c =
    let es = elements_in (g.N.Reading.tree c.args.node) in
    let all : take c.loop-i.i es ≡ es = visits.all_of es c.loop-i.i (sym c.loop-i.invariant.remaining ∙ ap values_of c.in_default.ensures.none) in
    record { taken = rw all at c.loop-i.invariant.so_far; has = rw all at c.loop-i.invariant.has }

pub path_walk_documents-returns : goal.path_walk_documents-returns
path_walk_documents-returns g t c =
    let n = g.N.Reading.tree c.args.node in
    let len = down.length_elements n c.requires.kind in
    let all : take c.loop-i.i (elements_in n) ≡ elements_in n = visits.all_of (elements_in n) c.loop-i.i
    (drop_all c.loop-i.i (elements_in n) (omega (arith, c.len-count.type_inv, c.len-count.ensures, len, c.loop-i-test.false))) in
    record { taken = rw all at c.loop-i.invariant.so_far; has = rw all at c.loop-i.invariant.has }

pub path_walk_documents-path_walk_from-requires : goal.path_walk_documents-path_walk_from-requires
path_walk_documents-path_walk_from-requires g t c κs within =
    let n = g.N.Reading.tree c.args.node in
    let u = g.N.Reading.tree c.in-Some.next.1 in
    let us = values_of (g.N.Reading.remaining c.in-Some.next.2) in
    let here = visits.next_is (elements_in n) c.loop-i.i u us (sym (ap values_of c.in-Some.ensures.some) ∙ c.loop-i.invariant.remaining) in
    let small = down.element_smaller n c.loop-i.i u here in
    let d = c.decreases in
    let below : c.args.k ≤ length c.args.path.now = omega (arith, c.requires.at) in
    let f = g.G.Collector.is_new c.args.collector.now c.loop-i.found in
    let before = visits.still_vain _ f n (component_names c.args.path.now) c.args.visits.now c.loop-i.invariant.so_far.still c.requires.visited in
    let visited = visits.document_inside f stopping (visits.keeps_stops f) n c.args.path.now c.args.visits.now before c.requires.kind c.loop-i.i u c.at_document-inside.result here
    (omega (arith, c.loop-i-test.true)) (sym c.is_document.ensures ∙ c.if-is_document.true) c.at_document-inside.ensures in
    (omega arith, assumption (visited, below))

pub path_walk_documents-returns-then-not-path_walk_from : goal.path_walk_documents-returns-then-not-path_walk_from
path_walk_documents-returns-then-not-path_walk_from g t c =
    let n = g.N.Reading.tree c.args.node in
    let u = g.N.Reading.tree c.in-Some.next.1 in
    let here = visits.next_is (elements_in n) c.loop-i.i u _ (sym (ap values_of c.in-Some.ensures.some) ∙ c.loop-i.invariant.remaining) in
    record {
      taken = visits.ended_in _ (elements_in n) c.loop-i.i u _ here (sym c.is_document.ensures ∙ c.if-is_document.true) (rw c.if-not-path_walk_from.true at c.path_walk_from.ensures);
      has = tt;
    }

pub path_walk_documents-loop-i-preserved : goal.path_walk_documents-loop-i-preserved
path_walk_documents-loop-i-preserved g t c =
    let es = elements_in (g.N.Reading.tree c.args.node) in
    let u = g.N.Reading.tree c.in-Some.next.1 in
    let us = values_of (g.N.Reading.remaining c.in-Some.next.2) in
    let remaining = sym (ap values_of c.in-Some.ensures.some) ∙ c.loop-i.invariant.remaining in
    let here = visits.next_is es c.loop-i.i u us remaining in
    let size = ap (λ (x : Doc). fields_size (fields_of x)) c.in-Some.ensures.some in
    let source = c.in-Some.ensures.same_source ∙ c.loop-i.invariant.source in
    record {
      remaining = visits.remaining_after es c.loop-i.i u us remaining;
      so_far = elim c.if-is_document.branch [
        | path_walk_documents-then-is_document+else-not-path_walk_from w ↦
            rw w.found-is (visits.element_taken _ _ _ _ _ _ es c.loop-i.i u _ here c.loop-i.invariant.so_far
            (rw (sym c.is_document.ensures ∙ w.if-is_document.true, ← source) (rw w.if-not-path_walk_from.false at w.path_walk_from.ensures)))
        | path_walk_documents-else-is_document w ↦
            rw w.found-is (visits.element_taken _ _ _ _ _ _ es c.loop-i.i u _ here c.loop-i.invariant.so_far
            (rw (sym c.is_document.ensures ∙ w.if-is_document.false) (visits.none_taken _ _ _ _)))
      ];
      has = elim c.if-is_document.branch [
        | path_walk_documents-then-is_document+else-not-path_walk_from w ↦
            w.has_document-is ∙ visits.has_more es c.loop-i.i u true _ here (sym c.is_document.ensures ∙ w.if-is_document.true) c.loop-i.invariant.has
        | path_walk_documents-else-is_document w ↦
            w.has_document-is ∙ visits.has_more es c.loop-i.i u false _ here (sym c.is_document.ensures ∙ w.if-is_document.false) c.loop-i.invariant.has
      ];
      source = c.in-Some.ensures.rest ∙ c.loop-i.invariant.source;
      smaller = omega (arith, size, c.loop-i.invariant.smaller);
    }

pub path_walk_index-path_walk_from-requires : goal.path_walk_index-path_walk_from-requires
path_walk_index-path_walk_from-requires g t c κs within =
    let n = g.N.Reading.tree c.args.node in
    let i = c.in-Some.indexed.0 in
    let u = g.N.Reading.tree c.in-Some.indexed.1 in
    let small = down.element_smaller n i u c.in-Some.ensures.element in
    let d = c.decreases in
    let below : c.args.k + 1 ≤ length c.args.path.now = omega (arith, c.requires.at) in
    let f = g.G.Collector.is_new c.args.collector.now c.args.found.now in
    let visited = visits.index_inside f stopping (visits.keeps_stops f) n c.args.path.now c.args.visits.now c.requires.visited c.requires.kind c.args.k i u c.at_index-inside.result
    c.in-Some.ensures.element c.in-Some.ensures.index.0 c.is_document.result c.is_document.ensures c.requires.documents c.at_index-inside.ensures in
    (omega arith, assumption (visited, below))

pub path_walk_index-returns-in-Some : goal.path_walk_index-returns-in-Some
path_walk_index-returns-in-Some g t c =
    let there = visits.name_at c.args.path.now c.args.k c.index-path-k.result c.requires.at c.index-path-k.is in
    let is = visits.element_is (g.N.Reading.tree c.args.node) (component_names c.args.path.now) c.args.k _ there c.args.has_document c.in-Some.indexed.0
    (g.N.Reading.tree c.in-Some.indexed.1) c.in-Some.ensures.index.1 c.in-Some.ensures.element in
    rw (is, ← c.in-Some.ensures.same_source) c.path_walk_from.ensures

pub path_walk_index-returns-then-has_document : goal.path_walk_index-returns-then-has_document
path_walk_index-returns-then-has_document g t c =
    let there = visits.name_at c.args.path.now c.args.k c.index-path-k.result c.requires.at c.index-path-k.is in
    let none = visits.no_element (g.N.Reading.tree c.args.node) (component_names c.args.path.now) c.args.k _ there c.in-None.ensures.none in
    rw (c.if-has_document.true, none) (visits.none_taken _ _ _ _)

pub path_walk_index-returns-else-has_document : goal.path_walk_index-returns-else-has_document
path_walk_index-returns-else-has_document g t c =
    let there = visits.name_at c.args.path.now c.args.k c.index-path-k.result c.requires.at c.index-path-k.is in
    let none = visits.no_element (g.N.Reading.tree c.args.node) (component_names c.args.path.now) c.args.k _ there c.in-None.ensures.none in
    rw (c.if-has_document.false, none) (c.take.ensures _ tt)
