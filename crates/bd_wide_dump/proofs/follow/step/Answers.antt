use Rattle.std.proofs.Common.{sym, subst, ◌∙◌, ℕ, List}
use Rattle.std.specs.Prelude.{string_bytes}
use Rattle.bd_wide_dump.specs.Csv.{field_at}
use Rattle.bd_wide_dump.specs.inside.Finds.{Finds}
use Rattle.bd_wide_dump.proofs.FollowLemmas as f
use Rattle.bd_wide_dump.proofs.follow.step.Goals as goal

pub find_item-requires-clause-elements : goal.find_item-requires-clause-elements
find_item-requires-clause-elements c =
    f.elements_from c.args.bytes.now c.requires.value.0 c.args.from c.requires.value.1 c.in_ok-array_type.field-0 c.in_ok-array_type.ensures

pub returns-then-branch : goal.returns-then-branch
returns-then-branch c = λ tree h.
    f.item_step c.args.bytes.now tree c.args.from h (string_bytes c.args.name.now.name) c.in_ok-array_type.field-0 c.in_ok-array_type.ensures c.if-branch.true c.in_ok-name.field-0 c.find_item.result
    c.requires.short (sym c.args.name.now.known ∙ c.in_ok-name.was) c.find_item.ensures

pub find_field-requires-clause-elements : goal.find_field-requires-clause-elements
find_field-requires-clause-elements c =
    f.elements_from c.args.bytes.now c.requires.value.0 c.args.from c.requires.value.1 c.in_ok-array_type.field-0 c.in_ok-array_type.ensures

pub returns : goal.returns
returns c = λ tree h.
    f.field_step c.args.bytes.now tree c.args.from h (string_bytes c.args.name.now.name) c.in_ok-array_type.field-0 c.find_field.result c.in_ok-array_type.ensures c.if-branch.false
    (λ e. subst (λ (n : List ℕ). Finds c.args.bytes.now (field_at n e.fields) c.find_field.result) c.as_str.ensures.value (c.find_field.ensures e))
