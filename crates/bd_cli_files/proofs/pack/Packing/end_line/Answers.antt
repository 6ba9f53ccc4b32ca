use Rattle.std.proofs.Common.{rules, ◌≡◌, ◌∷◌, ◌++◌, [], ℕ, List, length, subst, ◌∙◌}
use Rattle.std.proofs.lemmas.{Bool.Decides.nat_tests, List.nil_from_length}
use Rattle.bd_cli_files.specs.inside.Pack.{ArePacked}
use Rattle.bd_cli_files.proofs.pack.Packing.end_line.Goals as goal

pub returns-then-is_empty-clause-packs : goal.returns-then-is_empty-clause-packs
returns-then-is_empty-clause-packs g c lines packed =
    let empty : length c.args.partial.now.items ≡ 0 = search (rules, nat_tests) in
    rw (nil_from_length c.args.partial.now.items empty) (c.pack_line.ensures.packs lines packed)

pub returns-clause-packs : goal.returns-clause-packs
returns-clause-packs g c lines packed =
    let line : c.deref.result.now ≡ c.args.partial.now.items ++ c.args.end.now = c.deref.ensures.value ∙ c.in_ok-extend_from_slice.ensures.items in
    subst (λ (l : List ℕ). ArePacked g.P.LinePacker.form (lines ++ l ∷ []) c.pack_line-2.new.self) line (c.in_ok-pack_line.ensures.packs lines packed)
