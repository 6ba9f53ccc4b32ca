use Rattle.std.proofs.Common.{List, ℕ, length, sym, ap, ◌∙◌, eqb, arith}
use Rattle.std.specs.Prelude.{◌==◌}
use Rattle.std.specs.List.{list_any}
use Rattle.std.proofs.{lemmas.List.Filters.dedup_is, lemmas.List.Sorted.list_any-IsPermutation, lemmas.Map.Keys.IsStrictlyIncreasing-dedup}
use Rattle.bd_index.specs.Places.{lent_bounds}
use Rattle.bd_index.specs.inside.Places.{CoverKeys}
use Rattle.bd_index_bounds.specs.Bounds.{is_among}
use Rattle.bd_index.proofs.{EntryLemmas.count_stored, PlacesLemmas.among_once, PlacesLemmas.counted_within, PlacesLemmas.members_within}
use Rattle.bd_index.proofs.index.Index.places.Goals as goal

pub places_in-requires : goal.places_in-requires
places_in-requires c = rw (c.deref.ensures.value, ← (count_stored c.args.dump.now c.args.self.now c.requires)) (c.in_ok-spans.ensures c.requires).order

pub returns : goal.returns
returns c =
    let h = c.requires in
    let dump = c.args.dump.now in
    let index = c.args.self.now in
    let bounds = lent_bounds c.args.bounds in
    let cover : CoverKeys h.keeps.entries (is_among bounds) c.deref.result.now = rw c.deref.ensures.value (c.in_ok-spans.ensures h) in
    let sorted = c.sort_unstable.new.self.items in
    let once = dedup_is eqb sorted c.dedup.new.self.items c.dedup.ensures.filtered in
    record {
      ascend = rw once (IsStrictlyIncreasing-dedup sorted c.sort_unstable.ensures.sorted);
      members = λ p.
          let is_p = λ (q : ℕ). q == p in
          ap (list_any is_p) once ∙ among_once p sorted
          ∙ sym (list_any-IsPermutation is_p c.in_ok-places.places.items sorted c.sort_unstable.ensures.permutation)
          ∙ ap (list_any is_p) c.in_ok-places.ensures ∙ members_within dump index h bounds c.deref.result.now cover p;
      counted = (let n = ap (λ (l : List ℕ). length l) c.in_ok-places.ensures ∙ counted_within dump index h bounds c.deref.result.now cover in omega (arith, n, c.len-entries.ensures));
    }
