use Rattle.std.proofs.Common.{option_map, sym, ap, ◌∙◌}
use Rattle.std.proofs.lemmas.Result.{err_from_is_err_and}
use Rattle.bd_extjson_pack.proofs.LengthLemmas.{value_overruns}
use Rattle.bd_value.specs.Tree as trees
use Rattle.bd_value.specs.Tree.{leaf}
use Rattle.bd_extjson_wrapper.specs.declared.wrapper.Wrapper.TheVariants as kinds
use Rattle.bd_extjson_pack.proofs.BodyLemmas.{short_is, int32_short, int64_short, id_short, same_32, same_64}
use Rattle.bd_extjson_pack.proofs.tokens.append_wrapper.Goals as goal

pub returns-in_ok-append_leaf-in-NumberInt-clause-gives : goal.returns-in_ok-append_leaf-in-NumberInt-clause-gives
returns-in_ok-append_leaf-in-NumberInt-clause-gives c = λ first named.
    let n = c.in_ok-n-in-NumberInt.n in
    let is = sym c.whole_of_32.ensures ∙ c.in_ok-n-in-NumberInt.ensures.ok_part in
    let written = rw (same_32 _ n (sym is)) at c.in_ok-append_leaf-in-NumberInt.ensures.ok in (
      leaf (trees.int32 n),
      short_is c.args.wrapper kinds.NumberInt _ int32_short c.in-NumberInt.is c.args.depth_left c.args.depth _ first c.args.reader.now _ named _ (trees.int32 n)
          (c.in_ok-only_string-in-NumberInt.ensures.gives first c.args.depth) (ap (option_map (λ z. trees.int32 z)) is),
      written.0,
      written.1,
    )

pub returns-in_ok-append_leaf-in-NumberLong-clause-gives : goal.returns-in_ok-append_leaf-in-NumberLong-clause-gives
returns-in_ok-append_leaf-in-NumberLong-clause-gives c = λ first named.
    let n = c.in_ok-n-in-NumberLong.n in
    let is = sym c.whole.ensures ∙ c.in_ok-n-in-NumberLong.ensures.ok_part in
    let written = rw (same_64 _ n (sym is)) at c.in_ok-append_leaf-in-NumberLong.ensures.ok in (
      leaf (trees.int64 n),
      short_is c.args.wrapper kinds.NumberLong _ int64_short c.in-NumberLong.is c.args.depth_left c.args.depth _ first c.args.reader.now _ named _ (trees.int64 n)
          (c.in_ok-only_string-in-NumberLong.ensures.gives first c.args.depth) (ap (option_map (λ z. trees.int64 z)) is),
      written.0,
      written.1,
    )

pub returns-in_ok-append_leaf-in-Oid-clause-gives : goal.returns-in_ok-append_leaf-in-Oid-clause-gives
returns-in_ok-append_leaf-in-Oid-clause-gives c = λ first named.
    let id = c.in_ok-id-in-Oid.id in
    let is = sym c.id_of_text.ensures ∙ c.in_ok-id-in-Oid.ensures.ok_part in (
      leaf (trees.object_id id),
      short_is c.args.wrapper kinds.Oid _ id_short c.in-Oid.is c.args.depth_left c.args.depth _ first c.args.reader.now _ named _ (trees.object_id id)
          (c.in_ok-only_string-in-Oid.ensures.gives first c.args.depth) (ap (option_map (λ b. trees.object_id b)) is),
      c.in_ok-append_leaf-in-Oid.ensures.ok.0,
      c.in_ok-append_leaf-in-Oid.ensures.ok.1,
    )

pub returns-in_err-append_leaf-in-NumberInt-clause-gives : goal.returns-in_err-append_leaf-in-NumberInt-clause-gives
returns-in_err-append_leaf-in-NumberInt-clause-gives c =
    let n = c.in_ok-n-in-NumberInt.n in
    let is = sym c.whole_of_32.ensures ∙ c.in_ok-n-in-NumberInt.ensures.ok_part in
    let p = err_from_is_err_and c.from_residual-in_err-append_leaf-in-NumberInt.result c.from_residual-in_err-append_leaf-in-NumberInt.ensures.1 in
    rw (p.1, p.2) (λ first named. value_overruns (leaf (trees.int32 n)) _ c.args.out.now.items c.in_err-append_leaf-in-NumberInt.field-0.0 _
    (short_is c.args.wrapper kinds.NumberInt _ int32_short c.in-NumberInt.is c.args.depth_left c.args.depth _ first c.args.reader.now _ named _ (trees.int32 n)
    (c.in_ok-only_string-in-NumberInt.ensures.gives first c.args.depth) (ap (option_map (λ z. trees.int32 z)) is))
    (rw (same_32 _ n (sym is)) at c.in_err-append_leaf-in-NumberInt.ensures.fault))

pub returns-in_err-append_leaf-in-NumberLong-clause-gives : goal.returns-in_err-append_leaf-in-NumberLong-clause-gives
returns-in_err-append_leaf-in-NumberLong-clause-gives c =
    let n = c.in_ok-n-in-NumberLong.n in
    let is = sym c.whole.ensures ∙ c.in_ok-n-in-NumberLong.ensures.ok_part in
    let p = err_from_is_err_and c.from_residual-in_err-append_leaf-in-NumberLong.result c.from_residual-in_err-append_leaf-in-NumberLong.ensures.1 in
    rw (p.1, p.2) (λ first named. value_overruns (leaf (trees.int64 n)) _ c.args.out.now.items c.in_err-append_leaf-in-NumberLong.field-0.0 _
    (short_is c.args.wrapper kinds.NumberLong _ int64_short c.in-NumberLong.is c.args.depth_left c.args.depth _ first c.args.reader.now _ named _ (trees.int64 n)
    (c.in_ok-only_string-in-NumberLong.ensures.gives first c.args.depth) (ap (option_map (λ z. trees.int64 z)) is))
    (rw (same_64 _ n (sym is)) at c.in_err-append_leaf-in-NumberLong.ensures.fault))

pub returns-in_err-append_leaf-in-Oid-clause-gives : goal.returns-in_err-append_leaf-in-Oid-clause-gives
returns-in_err-append_leaf-in-Oid-clause-gives c =
    let id = c.in_ok-id-in-Oid.id in
    let is = sym c.id_of_text.ensures ∙ c.in_ok-id-in-Oid.ensures.ok_part in
    let p = err_from_is_err_and c.from_residual-in_err-append_leaf-in-Oid.result c.from_residual-in_err-append_leaf-in-Oid.ensures.1 in
    rw (p.1, p.2) (λ first named. value_overruns (leaf (trees.object_id id)) _ c.args.out.now.items c.in_err-append_leaf-in-Oid.field-0.0 _
    (short_is c.args.wrapper kinds.Oid _ id_short c.in-Oid.is c.args.depth_left c.args.depth _ first c.args.reader.now _ named _ (trees.object_id id)
    (c.in_ok-only_string-in-Oid.ensures.gives first c.args.depth) (ap (option_map (λ b. trees.object_id b)) is))
    c.in_err-append_leaf-in-Oid.ensures.fault)
