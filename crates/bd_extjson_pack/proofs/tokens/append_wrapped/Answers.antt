use Rattle.std.proofs.Common.{Some, length}
use Rattle.bd_value.specs.View.{tree_of}
use Rattle.bd_extjson_wrapper.specs.Wrapper.{after_key}
use Rattle.bd_extjson_pack.proofs.PlainLemmas.{object_plain}
use Rattle.std.proofs.lemmas.Result.{err_from_is_err_and}
use Rattle.bd_extjson_pack.proofs.LengthLemmas.{value_overruns}
use Rattle.bd_extjson_pack.proofs.tokens.append_wrapped.Goals as goal

pub append_read-requires : goal.append_read-requires
append_read-requires c =
    let first = c.requires in
    object_plain c.args.depth_left (after_key c.args.depth (length c.args.reader.now) (Some first.0) c.args.reader.now) (tree_of c.in-Ok.value) c.read_wrapper.new.reader
    (c.in-Ok.ensures.gives first.0 first.1)

pub returns-in_ok-append_read-in-Ok-clause-gives : goal.returns-in_ok-append_read-in-Ok-clause-gives
returns-in_ok-append_read-in-Ok-clause-gives c = λ first named.
    let written = c.in_ok-append_read-in-Ok.ensures.ok in
    (tree_of c.in-Ok.value, c.in-Ok.ensures.gives first named, written.0, written.1)

pub returns-in_err-append_read-in-Ok-clause-gives : goal.returns-in_err-append_read-in-Ok-clause-gives
returns-in_err-append_read-in-Ok-clause-gives c =
    let p = err_from_is_err_and c.from_residual.result c.from_residual.ensures.1 in
    rw (p.1, p.2) (λ first named. value_overruns (tree_of c.in-Ok.value) c.read_wrapper.new.reader c.args.out.now.items c.in_err-append_read-in-Ok.field-0.0 _
    (c.in-Ok.ensures.gives first named) c.in_err-append_read-in-Ok.ensures.fault)
