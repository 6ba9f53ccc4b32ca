use Rattle.std.proofs.Common.{◌≡◌, ◌+◌, ◌<◌, Some, drop, length, map, ap, sym, ◌∙◌, subst}
use Rattle.std.specs.{Prelude.option_map, Prelude.unwrap_or, Option.option_or}
use Rattle.bd_path.specs.Sort.{sort_paths}
use Rattle.bd_index.specs.IndexView.{IsIndexOf}
use Rattle.bd_cursor.specs.Access.{by_order, find_map, index_key, scanned, walk_dir, walked}
use Rattle.bd_cursor.proofs.AccessLemmas.{found_next, walk_leads}
use Rattle.bd_cursor.proofs.access.walk_or_scan.Goals as goal

pub returns-in-Some : goal.returns-in-Some
returns-in-Some c dump h =
    let k = c.loop-index.index-index in
    let i = c.index-item.result in
    let is = c.args.indexes.now in
    let r = c.args.request.now in
    let ss = sort_paths r.sort.items in
    let lt : k < length is = c.loop-index-test.true in
    let of_dump : IsIndexOf dump i = subst (IsIndexOf dump) (sym c.index-item.is) (h k i lt) in
    let dir : Some c.in-Some.dir ≡ walk_dir (index_key i) ss = c.in-Some.ensures ∙ ap (λ s. walk_dir (index_key i) (sort_paths s)) c.deref.ensures.value in
    let first = found_next (by_order ss) index_key is k i lt c.index-item.is c.loop-index.invariant
    ∙ ap (λ d. option_or (option_map (walked (index_key i)) d) (find_map (by_order ss) (map index_key (drop (k + 1) is)))) (sym dir) in
    record { is = sym (ap (λ o. unwrap_or o scanned) first); leads = walk_leads dump r i c.in-Some.dir of_dump dir }
