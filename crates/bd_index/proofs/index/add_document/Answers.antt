use Rattle.std.proofs.Common.{◌≡◌, Bool, map, rules}
use Rattle.std.specs.List.{All, dedup}
use Rattle.std.proofs.{lemmas.Fn.always_returns_same, lemmas.Fn.dedup_same, lemmas.List.Elements.All-append, lemmas.List.Elements.All-nil, lemmas.List.Filters.All-dedup}
use Rattle.std.proofs.lemmas.List.Sorted.{All-permutation, ranks_by}
use Rattle.bd_bson_view.specs.Raw.{value_tree}
use Rattle.bd_bson_dump.specs.Collection.{bytes_of}
use Rattle.bd_path.specs.Key.{key_trees, distinct}
use Rattle.bd_index.specs.{Entries.keys_at, inside.IndexView.IsFoundIn, inside.IndexView.found_entry, declared.entry.FoundKey.FoundKey}
use Rattle.bd_index.proofs.{EntryLemmas.counted_document_keys, EntryLemmas.ascends, EntryLemmas.entry_total, RepeatLemmas.found_lt, RepeatLemmas.document_keys_once, RepeatLemmas.repeats}
use Rattle.bd_index.proofs.index.add_document.Goals as goal

pub returns-clause-added : goal.returns-clause-added
returns-clause-added c test =
    let document_keys = c.add_found.new.found.items in
    let sorted = c.sort_by.new.self.items in
    let ks = key_trees value_tree c.args.keys.items in
    let lt : FoundKey → FoundKey → Bool = found_lt in
    let weak = ranks_by entry_total found_entry in
    let answers = always_returns_same _ _ _ (λ a r h k. search rules) in
    let raw : map found_entry document_keys ≡ keys_at c.args.place ks = rw (c.deref.ensures.value, c.clear.ensures.items) at c.in_ok-add_found.ensures.added in
    let once = dedup_same _ repeats _ (λ x y b f' x' y' k. search rules) _ _ c.dedup_by.ensures.filtered in
    counted_document_keys test c.args.found.now.items c.extend_from_slice.new.self.items (dedup repeats sorted) (keys_at c.args.place (distinct ks))
    (rw (c.deref-2.ensures.value, once) at c.in_ok-extend_from_slice.ensures.items)
    (document_keys_once c.args.place ks document_keys sorted raw (ascends lt weak sorted (c.in_ok-sort_by.ensures.sorted lt weak answers)) (c.sort_by.ensures.stable lt weak answers) test)

pub returns-clause-found_in : goal.returns-clause-found_in
returns-clause-found_in c old =
    let bytes = bytes_of c.args.dump.now in
    let none : All (IsFoundIn bytes) c.clear.new.self.items = rw c.clear.ensures.items (All-nil (IsFoundIn bytes)) in
    let sorted = All-permutation (IsFoundIn bytes) c.add_found.new.found.items c.sort_by.new.self.items c.sort_by.ensures.permutation (c.in_ok-add_found.ensures.found_in none) in
    let once = dedup_same _ repeats _ (λ x y b f' x' y' k. search rules) _ _ c.dedup_by.ensures.filtered in
    rw (c.in_ok-extend_from_slice.ensures.items, c.deref-2.ensures.value, once)
    (All-append (IsFoundIn bytes) c.args.found.now.items (dedup repeats c.sort_by.new.self.items) old (All-dedup repeats (IsFoundIn bytes) c.sort_by.new.self.items sorted))
