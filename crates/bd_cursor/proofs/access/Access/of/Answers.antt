use Rattle.std.proofs.{Common.◌<◌, Common.length, Common.map, Common.ap, Common.sym, Common.◌∙◌, Common.subst}
use Rattle.std.specs.{Prelude.string_bytes, Option.option_map_or}
use Rattle.bd_bson_dump.specs.Collection.{documents}
use Rattle.bd_path.specs.Sort.{sort_paths}
use Rattle.bd_query_filter.specs.Filter.{filter_tree}
use Rattle.bd_index.specs.IndexView.{IsIndexOf}
use Rattle.bd_cursor.specs.Access.{access_of, index_key, named_access, scanned, way_of}
use Rattle.bd_cursor.proofs.AccessLemmas.{found_below, index_found}
use Rattle.bd_cursor.proofs.access.Access.of.Goals as goal

pub returns-in_ok-named_access-in-Some-clause-path : goal.returns-in_ok-named_access-in-Some-clause-path
returns-in_ok-named_access-in-Some-clause-path c =
    let dump = c.args.dump.now in
    let ds = documents dump in
    let f = filter_tree c.args.request.now.filter in
    let ss = sort_paths c.args.request.now.sort.items in
    let is = c.args.indexes.now in
    let i = c.index-indexes-position.result in
    let k = c.in-Some.position in
    let path = string_bytes c.in-Index.path.text in
    let lt : k < length is = found_below path is k i c.in-Some.ensures.found in
    let of_dump : IsIndexOf dump i = subst (IsIndexOf dump) (sym c.index-indexes-position.is) (c.requires k i lt) in
    (c.in_ok-named_access-in-Some.ensures dump of_dump).is ∙ sym (ap (λ found. option_map_or (named_access ds f ss) found scanned) (index_found path is k i c.in-Some.ensures.found c.index-indexes-position.is))
    ∙ ap (λ ch. access_of ds f ss (way_of ch) (map index_key is)) (sym c.in-Index.is)
