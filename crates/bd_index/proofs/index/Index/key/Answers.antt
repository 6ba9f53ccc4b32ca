use Rattle.std.proofs.Common.{get_or}
use Rattle.bd_value.specs.Tree.{leaf, null}
use Rattle.bd_bson_dump.specs.Collection.{bytes_of}
use Rattle.bd_index.proofs.EntryLemmas.{key_there}
use Rattle.bd_index.proofs.index.Index.key.Goals as goal

pub value_at-requires : goal.value_at-requires
value_at-requires c =
    let k = c.requires.indexed.keeps in (
      (get_or k.entries c.args.i (leaf null, 0)).0,
      key_there (bytes_of c.args.dump.now) c.args.self.now.entries.items k.entries c.args.i
          c.index.result.now (leaf null, 0) k.entries_are_at c.requires.inside c.index.ensures,
    )

pub returns-clause-key : goal.returns-clause-key
returns-clause-key c h d =
    c.value_at.ensures.value _ (key_there (bytes_of c.args.dump.now) c.args.self.now.entries.items h.keeps.entries c.args.i c.index.result.now d h.keeps.entries_are_at c.requires.inside c.index.ensures)
