use Rattle.std.proofs.Common.{◌+◌, drop, map}
use Rattle.std.specs.List.{count_by}
use Rattle.bd_bson_view.specs.Raw.{document_pairs, value_tree}
use Rattle.bd_bson_dump.specs.Collection.{documents}
use Rattle.bd_path.specs.{Key.key_trees, Key.distinct, PathNames.names_of}
use Rattle.bd_index.specs.{Entries.entries_from, Entries.entries_of, Entries.keys_at, inside.IndexView.found_entry}
use Rattle.bd_index.proofs.EntryLemmas.{counted_more, one_more}
use Rattle.bd_index.proofs.index.find_all.Goals as goal

pub loop-place-preserved : goal.loop-place-preserved
loop-place-preserved c =
    let path = names_of c.args.path.now in
    let ds = documents c.args.dump.now in
    let n = c.loop-place.place in
    let ks = key_trees value_tree c.in_ok-keys.keys.items in
    let listed = c.in_ok-keys.ensures.distinct in
    let more = one_more c.args.sparse path n ds (document_pairs c.document.result) (value_tree c.value.result) ks c.document.ensures.document c.value.ensures.document listed in
    record {
      so_far = λ test.
          counted_more test (map found_entry c.loop-place.found.items) (map found_entry c.add_document.new.found.items) (keys_at n (distinct ks))
          (entries_from c.args.sparse path (n + 1) (drop (n + 1) ds)) (entries_from c.args.sparse path n (drop n ds))
          (count_by test (entries_of c.args.sparse path ds)) (c.in_ok-add_document.ensures.added test) more (c.loop-place.invariant.so_far test);
      found_in = c.in_ok-add_document.ensures.found_in c.loop-place.invariant.found_in;
    }
