use Rattle.std.proofs.Common.{◌≡◌, Some, rules}
use Rattle.bd_wide_substitute.specs.Substitutes.{wrapper_at}
use Rattle.bd_wide_substitute.proofs.PieceLemmas.{never_begins, object_of}
use Rattle.bd_wide_substitute.proofs.wrapped.wrapped_value.Goals as goal

pub returns-in-Ok-clause-rest : goal.returns-in-Ok-clause-rest
returns-in-Ok-clause-rest c =
    let e : wrapper_at c.args.bytes.now ≡ Some (c.in_ok-value_type.value_type, Some (c.in_ok-contents.contents.now, c.in_ok-contents.rest.now)) = search rules in
    object_of c.args.bytes.now c.in_ok-contents.contents.now c.in_ok-contents.rest.now c.in_ok-value_type.value_type e

pub returns-in-Err-clause-none : goal.returns-in-Err-clause-none
returns-in-Err-clause-none c =
    let e : wrapper_at c.args.bytes.now ≡ Some (c.in_ok-value_type.value_type, Some (c.in_ok-contents.contents.now, c.in_ok-contents.rest.now)) = search rules in
    never_begins c.args.bytes.now c.in_ok-contents.contents.now c.in_ok-contents.rest.now c.in_ok-value_type.value_type c.in-Err.field-0 e c.in-Err.ensures
