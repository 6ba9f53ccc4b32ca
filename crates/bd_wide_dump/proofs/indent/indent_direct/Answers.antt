use Rattle.std.proofs.Common.{drop, subst, sym, ◌∙◌, ap, ap₂}
use Rattle.bd_bson_check.proofs.FirstFaultLemmas.{IsBytes-drop}
use Rattle.bd_bson_view.specs.Raw.{value_tree}
use Rattle.bd_extjson_text.specs.Text.{scalar_text, text}
use Rattle.bd_wide_dump.specs.WideText.{IsTextOf}
use Rattle.bd_wide_dump.specs.inside.Indents.{IsBinaryText, IsDateAt, IsWrapped}
use Rattle.bd_wide_dump.proofs.IndentLemmas as n
use Rattle.bd_wide_dump.proofs.ValueLemmas as v
use Rattle.bd_wide_dump.proofs.indent.indent_direct.Goals as goal

pub there-node-requires-clause-sound : goal.there-node-requires-clause-sound
there-node-requires-clause-sound c =
    let here = drop c.args.start c.args.bytes.now in
    let fits = IsBytes-drop c.args.start c.args.bytes.now (λ i. (c.type_inv.bytes i).fits) in
    let h = n.direct_no_holder c.args.format c.args.kind c.requires.direct in
    v.sound_here c.args.kind here h.0 h.1 h.2 fits c.requires.value.0 c.requires.value.1

pub indent_string-requires-clause-wrapper : goal.indent_string-requires-clause-wrapper
indent_string-requires-clause-wrapper c =
    let here = drop c.args.start c.args.bytes.now in
    let fits = IsBytes-drop c.args.start c.args.bytes.now (λ i. (c.type_inv.bytes i).fits) in
    let h = n.direct_no_holder c.args.format c.args.kind c.requires.direct in
    let p = v.plain_of c.args.kind here h.0 h.1 h.2 fits c.requires.value.0 c.requires.value.1 in
    let viewed = v.plain_viewed c.args.kind here h.0 h.1 h.2 fits (value_tree c.there-node.result) c.there-node.ensures.meaning c.requires.value.0 c.requires.value.1 in
    subst (IsWrapped _) (sym (ap text viewed)) (n.id_wrapped p.scalar (p.kinded ∙ c.in-ObjectId.is))

pub indent_string-requires-in-Canonical-clause-wrapper : goal.indent_string-requires-in-Canonical-clause-wrapper
indent_string-requires-in-Canonical-clause-wrapper c =
    let here = drop c.args.start c.args.bytes.now in
    let fits = IsBytes-drop c.args.start c.args.bytes.now (λ i. (c.type_inv.bytes i).fits) in
    let h = n.direct_no_holder c.args.format c.args.kind c.requires.direct in
    let p = v.plain_of c.args.kind here h.0 h.1 h.2 fits c.requires.value.0 c.requires.value.1 in
    let viewed = v.plain_viewed c.args.kind here h.0 h.1 h.2 fits (value_tree c.there-node.result) c.there-node.ensures.meaning c.requires.value.0 c.requires.value.1 in
    subst (IsWrapped _) (sym (ap text viewed)) (n.int32_wrapped p.scalar (p.kinded ∙ c.in-Int32.is))

pub indent_string-requires-in-Canonical-format-clause-wrapper : goal.indent_string-requires-in-Canonical-format-clause-wrapper
indent_string-requires-in-Canonical-format-clause-wrapper c =
    let here = drop c.args.start c.args.bytes.now in
    let fits = IsBytes-drop c.args.start c.args.bytes.now (λ i. (c.type_inv.bytes i).fits) in
    let h = n.direct_no_holder c.args.format c.args.kind c.requires.direct in
    let p = v.plain_of c.args.kind here h.0 h.1 h.2 fits c.requires.value.0 c.requires.value.1 in
    let viewed = v.plain_viewed c.args.kind here h.0 h.1 h.2 fits (value_tree c.there-node.result) c.there-node.ensures.meaning c.requires.value.0 c.requires.value.1 in
    subst (IsWrapped _) (sym (ap text viewed)) (n.int64_wrapped p.scalar (p.kinded ∙ c.in-Int64.is))

pub indent_date-requires-clause-date : goal.indent_date-requires-clause-date
indent_date-requires-clause-date c =
    let here = drop c.args.start c.args.bytes.now in
    let fits = IsBytes-drop c.args.start c.args.bytes.now (λ i. (c.type_inv.bytes i).fits) in
    let h = n.direct_no_holder c.args.format c.args.kind c.requires.direct in
    let p = v.plain_of c.args.kind here h.0 h.1 h.2 fits c.requires.value.0 c.requires.value.1 in
    let value = c.requires.value.1 in
    (p.scalar, record { content = value.content; after = value.after; kinded = p.kinded ∙ c.in-Date.is; spells = p.spells; splits = value.splits })

pub indent_binary-requires-clause-binary : goal.indent_binary-requires-clause-binary
indent_binary-requires-clause-binary c =
    let here = drop c.args.start c.args.bytes.now in
    let fits = IsBytes-drop c.args.start c.args.bytes.now (λ i. (c.type_inv.bytes i).fits) in
    let h = n.direct_no_holder c.args.format c.args.kind c.requires.direct in
    let p = v.plain_of c.args.kind here h.0 h.1 h.2 fits c.requires.value.0 c.requires.value.1 in
    let viewed = v.plain_viewed c.args.kind here h.0 h.1 h.2 fits (value_tree c.there-node.result) c.there-node.ensures.meaning c.requires.value.0 c.requires.value.1 in
    let b = n.binary_text p.scalar c.requires.value.1.content (p.kinded ∙ c.in-Binary.is) p.spells in
    (b.0, b.1, subst (IsBinaryText b.0 b.1) (sym (ap text viewed)) b.2)

pub append_kind-requires-clause-scalar : goal.append_kind-requires-clause-scalar
append_kind-requires-clause-scalar c =
    let here = drop c.args.start c.args.bytes.now in
    let fits = IsBytes-drop c.args.start c.args.bytes.now (λ i. (c.type_inv.bytes i).fits) in
    let h = n.direct_no_holder c.args.format c.args.kind c.requires.direct in
    let p = v.plain_of c.args.kind here h.0 h.1 h.2 fits c.requires.value.0 c.requires.value.1 in
    let viewed = v.plain_viewed c.args.kind here h.0 h.1 h.2 fits (value_tree c.there-node.result) c.there-node.ensures.meaning c.requires.value.0 c.requires.value.1 in
    (p.scalar, viewed)

pub append_kind-requires-in-Relaxed-format-clause-scalar : goal.append_kind-requires-in-Relaxed-format-clause-scalar
append_kind-requires-in-Relaxed-format-clause-scalar c =
    let here = drop c.args.start c.args.bytes.now in
    let fits = IsBytes-drop c.args.start c.args.bytes.now (λ i. (c.type_inv.bytes i).fits) in
    let h = n.direct_no_holder c.args.format c.args.kind c.requires.direct in
    let p = v.plain_of c.args.kind here h.0 h.1 h.2 fits c.requires.value.0 c.requires.value.1 in
    let viewed = v.plain_viewed c.args.kind here h.0 h.1 h.2 fits (value_tree c.there-node.result) c.there-node.ensures.meaning c.requires.value.0 c.requires.value.1 in
    (p.scalar, viewed)

pub append_kind-requires-in_default : goal.append_kind-requires-in_default
append_kind-requires-in_default c =
    let here = drop c.args.start c.args.bytes.now in
    let fits = IsBytes-drop c.args.start c.args.bytes.now (λ i. (c.type_inv.bytes i).fits) in
    let h = n.direct_no_holder c.args.format c.args.kind c.requires.direct in
    let p = v.plain_of c.args.kind here h.0 h.1 h.2 fits c.requires.value.0 c.requires.value.1 in
    let viewed = v.plain_viewed c.args.kind here h.0 h.1 h.2 fits (value_tree c.there-node.result) c.there-node.ensures.meaning c.requires.value.0 c.requires.value.1 in
    record { scalar = (p.scalar, viewed); buffer = c.requires.buffer }

pub returns-in-ObjectId-clause-text : goal.returns-in-ObjectId-clause-text
returns-in-ObjectId-clause-text c = λ tree value.
    let here = drop c.args.start c.args.bytes.now in
    let fits = IsBytes-drop c.args.start c.args.bytes.now (λ i. (c.type_inv.bytes i).fits) in
    let h = n.direct_no_holder c.args.format c.args.kind c.requires.direct in
    let p = v.plain_of c.args.kind here h.0 h.1 h.2 fits tree value in
    let viewed = v.plain_viewed c.args.kind here h.0 h.1 h.2 fits (value_tree c.there-node.result) c.there-node.ensures.meaning tree value in
    n.scalar_laid c.args.level (IsTextOf c.args.format tree) (value_tree c.there-node.result) p.scalar c.args.out.now.items c.indent_string.new.out.items c.args.end c.indent_string.result viewed
    (p.text_is c.args.format (scalar_text p.scalar) (n.id_known c.args.format p.scalar (p.kinded ∙ c.in-ObjectId.is))) c.indent_string.ensures

pub returns-in-Binary-clause-text : goal.returns-in-Binary-clause-text
returns-in-Binary-clause-text c = λ tree value.
    let here = drop c.args.start c.args.bytes.now in
    let fits = IsBytes-drop c.args.start c.args.bytes.now (λ i. (c.type_inv.bytes i).fits) in
    let h = n.direct_no_holder c.args.format c.args.kind c.requires.direct in
    let p = v.plain_of c.args.kind here h.0 h.1 h.2 fits tree value in
    let viewed = v.plain_viewed c.args.kind here h.0 h.1 h.2 fits (value_tree c.there-node.result) c.there-node.ensures.meaning tree value in
    n.scalar_laid c.args.level (IsTextOf c.args.format tree) (value_tree c.there-node.result) p.scalar c.args.out.now.items c.indent_binary.new.out.items c.args.end c.indent_binary.result viewed
    (p.text_is c.args.format (scalar_text p.scalar) (n.binary_known c.args.format p.scalar (p.kinded ∙ c.in-Binary.is))) c.indent_binary.ensures

pub returns-in-Date-clause-text : goal.returns-in-Date-clause-text
returns-in-Date-clause-text c = λ tree value.
    let here = drop c.args.start c.args.bytes.now in
    let fits = IsBytes-drop c.args.start c.args.bytes.now (λ i. (c.type_inv.bytes i).fits) in
    let h = n.direct_no_holder c.args.format c.args.kind c.requires.direct in
    let p = v.plain_of c.args.kind here h.0 h.1 h.2 fits tree value in
    let date : IsDateAt p.scalar here = record { content = value.content; after = value.after; kinded = p.kinded ∙ c.in-Date.is; spells = p.spells; splits = value.splits } in
    n.known_laid c.args.level (IsTextOf c.args.format tree) (scalar_text p.scalar) c.args.out.now.items c.indent_date.new.out.items c.args.end c.indent_date.result
    (p.text_is c.args.format (scalar_text p.scalar) (n.canonical_known c.args.format p.scalar (n.direct_date c.args.format c.args.kind c.requires.direct c.in-Date.is))) (c.indent_date.ensures p.scalar date)

pub returns-in-Date-clause-err : goal.returns-in-Date-clause-err
returns-in-Date-clause-err c =
    let here = drop c.args.start c.args.bytes.now in
    let fits = IsBytes-drop c.args.start c.args.bytes.now (λ i. (c.type_inv.bytes i).fits) in
    let h = n.direct_no_holder c.args.format c.args.kind c.requires.direct in
    let p = v.plain_of c.args.kind here h.0 h.1 h.2 fits c.requires.value.0 c.requires.value.1 in
    let value = c.requires.value.1 in
    let date : IsDateAt p.scalar here = record { content = value.content; after = value.after; kinded = p.kinded ∙ c.in-Date.is; spells = p.spells; splits = value.splits } in
    n.on_refusal c.args.out.now.items c.indent_date.new.out.items _ c.args.end c.indent_date.result (c.indent_date.ensures p.scalar date)

pub returns-in-Canonical-clause-text : goal.returns-in-Canonical-clause-text
returns-in-Canonical-clause-text c = λ tree value.
    let here = drop c.args.start c.args.bytes.now in
    let fits = IsBytes-drop c.args.start c.args.bytes.now (λ i. (c.type_inv.bytes i).fits) in
    let h = n.direct_no_holder c.args.format c.args.kind c.requires.direct in
    let p = v.plain_of c.args.kind here h.0 h.1 h.2 fits tree value in
    let viewed = v.plain_viewed c.args.kind here h.0 h.1 h.2 fits (value_tree c.there-node.result) c.there-node.ensures.meaning tree value in
    n.scalar_laid c.args.level (IsTextOf c.args.format tree) (value_tree c.there-node.result) p.scalar c.args.out.now.items c.indent_string-in-Canonical.new.out.items c.args.end c.indent_string-in-Canonical.result viewed
    (p.text_is c.args.format (scalar_text p.scalar) (n.canonical_known c.args.format p.scalar c.in-Canonical.is)) c.indent_string-in-Canonical.ensures

pub returns-in-Relaxed-clause-text : goal.returns-in-Relaxed-clause-text
returns-in-Relaxed-clause-text c = λ tree value.
    let here = drop c.args.start c.args.bytes.now in
    let fits = IsBytes-drop c.args.start c.args.bytes.now (λ i. (c.type_inv.bytes i).fits) in
    let h = n.direct_no_holder c.args.format c.args.kind c.requires.direct in
    let p = v.plain_of c.args.kind here h.0 h.1 h.2 fits tree value in
    let viewed = v.plain_viewed c.args.kind here h.0 h.1 h.2 fits (value_tree c.there-node.result) c.there-node.ensures.meaning tree value in
    n.token_laid c.args.format c.args.level tree p.scalar c.args.out.now.items c.append_kind.new.out.items c.args.end c.append_kind.result
    (ap (n.is_token c.args.format) p.kinded ∙ ap₂ n.is_token c.in-Relaxed.is c.in-Int32.is) (p.text_is c.args.format) (c.append_kind.ensures.text p.scalar viewed)

pub returns-in-Canonical-format-clause-text : goal.returns-in-Canonical-format-clause-text
returns-in-Canonical-format-clause-text c = λ tree value.
    let here = drop c.args.start c.args.bytes.now in
    let fits = IsBytes-drop c.args.start c.args.bytes.now (λ i. (c.type_inv.bytes i).fits) in
    let h = n.direct_no_holder c.args.format c.args.kind c.requires.direct in
    let p = v.plain_of c.args.kind here h.0 h.1 h.2 fits tree value in
    let viewed = v.plain_viewed c.args.kind here h.0 h.1 h.2 fits (value_tree c.there-node.result) c.there-node.ensures.meaning tree value in
    n.scalar_laid c.args.level (IsTextOf c.args.format tree) (value_tree c.there-node.result) p.scalar c.args.out.now.items c.indent_string-in-Canonical-format.new.out.items c.args.end c.indent_string-in-Canonical-format.result viewed
    (p.text_is c.args.format (scalar_text p.scalar) (n.canonical_known c.args.format p.scalar c.in-Canonical-format.is)) c.indent_string-in-Canonical-format.ensures

pub returns-in-Relaxed-format-clause-text : goal.returns-in-Relaxed-format-clause-text
returns-in-Relaxed-format-clause-text c = λ tree value.
    let here = drop c.args.start c.args.bytes.now in
    let fits = IsBytes-drop c.args.start c.args.bytes.now (λ i. (c.type_inv.bytes i).fits) in
    let h = n.direct_no_holder c.args.format c.args.kind c.requires.direct in
    let p = v.plain_of c.args.kind here h.0 h.1 h.2 fits tree value in
    let viewed = v.plain_viewed c.args.kind here h.0 h.1 h.2 fits (value_tree c.there-node.result) c.there-node.ensures.meaning tree value in
    n.token_laid c.args.format c.args.level tree p.scalar c.args.out.now.items c.append_kind-in-Relaxed-format.new.out.items c.args.end c.append_kind-in-Relaxed-format.result
    (ap (n.is_token c.args.format) p.kinded ∙ ap₂ n.is_token c.in-Relaxed-format.is c.in-Int64.is) (p.text_is c.args.format) (c.append_kind-in-Relaxed-format.ensures.text p.scalar viewed)

pub returns-in_default : goal.returns-in_default
returns-in_default c =
    record {
      text = λ tree value.
          let here = drop c.args.start c.args.bytes.now in
          let fits = IsBytes-drop c.args.start c.args.bytes.now (λ i. (c.type_inv.bytes i).fits) in
          let h = n.direct_no_holder c.args.format c.args.kind c.requires.direct in
          let p = v.plain_of c.args.kind here h.0 h.1 h.2 fits tree value in
          let viewed = v.plain_viewed c.args.kind here h.0 h.1 h.2 fits (value_tree c.there-node.result) c.there-node.ensures.meaning tree value in
          n.token_laid c.args.format c.args.level tree p.scalar c.args.out.now.items c.append_kind-in_default.new.out.items c.args.end c.append_kind-in_default.result
          (ap (n.is_token c.args.format) p.kinded ∙ n.token_kind c.args.format c.args.kind c.requires.direct c.in_default.not-ObjectId c.in_default.not-Date c.in_default.not-Binary c.in_default.not-Int32 c.in_default.not-Int64) (p.text_is c.args.format) (c.append_kind-in_default.ensures.text p.scalar viewed);
      err = c.append_kind-in_default.ensures.err;
    }
