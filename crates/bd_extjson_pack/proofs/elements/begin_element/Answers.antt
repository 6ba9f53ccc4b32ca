use Rattle.std.proofs.Common.{rules, ◌∙◌, ◌++◌, ◌∷◌, append_assoc}
use Rattle.bd_extjson_pack.proofs.elements.begin_element.Goals as goal

pub returns-clause-ok : goal.returns-clause-ok
returns-clause-ok c = (
  search rules,
  λ name first last is.
      c.set_last.ensures (c.args.out.now.items ++ (first ∷ name)) last (rw (c.in_ok-extend_from_slice.ensures.items, is) (simp append_assoc)) ∙ simp append_assoc,
)
