use Rattle.std.proofs.Common.{arith}
use Rattle.bd_path.specs.PathNames.{names_of}
use Rattle.bd_index.proofs.EntryLemmas.{size_stored}
use Rattle.bd_index.proofs.index.Index.entries.Goals as goal

pub returns : goal.returns
returns c dump h = omega (arith, c.len.ensures, size_stored c.args.self.now.sparse (names_of c.args.self.now.path) dump c.args.self.now.entries.items h.keeps)
