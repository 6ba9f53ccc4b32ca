use Rattle.std.proofs.Common.{◌≡◌, arith, []}
use Rattle.bd_value.specs.View.{tree_of}
use Rattle.bd_extjson.proofs.ReadLemmas.{whole_text}
use Rattle.bd_extjson.proofs.read.read_whole.Goals as goal

pub returns : goal.returns
returns c =
    let empty : c.read_value.new.reader ≡ [] = grind arith in
    whole_text c.args.text.now c.in_ok-reader.reader c.read_value.new.reader (tree_of c.in_ok-value.value) c.utf8.text c.in_ok-reader.ensures.ok c.in_ok-value.ensures.gives empty
