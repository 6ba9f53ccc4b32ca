use Rattle.std.proofs.Common.{◌∙◌, [], ap, sym}
use Rattle.std.proofs.lemmas.Option.{get_or_from_slice_get}
use Rattle.bd_value.specs.Tree.{Doc, doc, fields_of}
use Rattle.bd_bson_dump.specs.Collection.{documents}
use Rattle.bd_path.specs.{Sort.sort_key, PathNames.names_of}
use Rattle.bd_cursor_sort.proofs.sort_key.SortKey.of.Goals as goal

pub returns : goal.returns
returns c =
    let same_document = get_or_from_slice_get (documents c.args.dump.now) c.args.place _ [] c.document.ensures.document in
    c.key_of-key.ensures
    ∙ ap (λ d. sort_key c.args.dir d (names_of c.args.path.now)) (c.value.ensures.document ∙ ap (λ (d : Doc). doc (fields_of d)) (sym same_document))
