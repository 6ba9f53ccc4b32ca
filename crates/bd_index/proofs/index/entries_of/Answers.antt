use Rattle.std.proofs.Common.{Bool, cond, List, map, rules, sym, subst, ◌∙◌}
use Rattle.std.specs.{List.All, Ordering.is_lt}
use Rattle.std.proofs.lemmas.Fn.{always_returns_same}
use Rattle.std.proofs.lemmas.List.Sorted.{All-permutation, IsPermutation-map, ranks_by, sum_by-IsPermutation}
use Rattle.bd_bson_dump.specs.Collection.{bytes_of}
use Rattle.bd_index.specs.{Entries.entry_cmp, inside.IndexView.IsFoundIn, inside.IndexView.found_entry, IndexView.KeepsEntries, declared.entry.FoundKey.FoundKey}
use Rattle.bd_index.proofs.{EntryLemmas.entry_total, EntryLemmas.sorted_map, RepeatLemmas.found_lt}
use Rattle.bd_index.proofs.index.entries_of.Goals as goal

pub returns : goal.returns
returns c =
    let found = c.in_ok-found.found.items in
    let sorted = c.sort_by.new.self.items in
    let bytes = bytes_of c.args.dump.now in
    let lt : FoundKey → FoundKey → Bool = found_lt in
    let answers = always_returns_same _ _ _ (λ a r h k. search rules) in
    let stored : All (IsFoundIn bytes) c.deref.result.now = subst (All (IsFoundIn bytes)) (sym c.deref.ensures.value)
    (All-permutation (IsFoundIn bytes) found sorted c.sort_by.ensures.permutation c.in_ok-found.ensures.found_in) in
    record {
      entries = map found_entry sorted;
      entries_are_at = subst (λ (l : List FoundKey). KeepsEntries bytes c.in_ok-entries.entries.items (map found_entry l)) c.deref.ensures.value (c.in_ok-entries.ensures bytes stored);
      are = record {
        same = λ test. sum_by-IsPermutation (λ e. cond (test e) 1 0) _ _ (IsPermutation-map found_entry found sorted c.sort_by.ensures.permutation) ∙ c.in_ok-found.ensures.found test;
        sorted = sorted_map found_entry (λ a b. is_lt (entry_cmp a b)) sorted (c.in_ok-sort_by.ensures.sorted lt (ranks_by entry_total found_entry) answers);
      };
    }
