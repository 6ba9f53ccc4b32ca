use Rattle.std.proofs.Common.{arith, refl}
use Rattle.bd_wide_dump.proofs.IndentLemmas.{binary_size, contents_there, digits_there}
use Rattle.bd_wide_dump.proofs.indent.binary_strings.Goals as goal

pub overflow_sub-result : goal.overflow_sub-result
overflow_sub-result c = let r = c.requires in omega (arith, binary_size r.0 r.1 c.args.text.now r.2)

pub slice_bounds-result-count : goal.slice_bounds-result-count
slice_bounds-result-count c = let r = c.requires in omega (arith, binary_size r.0 r.1 c.args.text.now r.2)

pub slice_bounds-result-start : goal.slice_bounds-result-start
slice_bounds-result-start c = let r = c.requires in omega (arith, binary_size r.0 r.1 c.args.text.now r.2)

pub returns-clause-strings : goal.returns-clause-strings
returns-clause-strings c = λ contents digits is. (contents_there contents digits c.args.text.now is _ refl, digits_there contents digits c.args.text.now is _ refl)
