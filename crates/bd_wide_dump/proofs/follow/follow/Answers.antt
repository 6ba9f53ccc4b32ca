use Rattle.std.proofs.Common.{◌≡◌, Some, None, refl, sym, subst, rules, arith}
use Rattle.std.proofs.lemmas.List.{nil_from_length}
use Rattle.bd_path.specs.Path.{component_names}
use Rattle.bd_wide_dump.specs.Csv.{follow}
use Rattle.bd_wide_dump.specs.inside.Finds.{Finds}
use Rattle.bd_wide_dump.proofs.FollowLemmas as f
use Rattle.bd_wide_dump.proofs.follow.follow.Goals as goal

pub loop-rest-init : goal.loop-rest-init
loop-rest-init c = λ tree h. (tree, h, refl)

pub step-requires-clause-value : goal.step-requires-clause-value
step-requires-clause-value c = let g = c.loop-rest.invariant c.requires.value.0 c.requires.value.1 in (g.0, g.1)

pub loop-rest-preserved : goal.loop-rest-preserved
loop-rest-preserved c =
    let i = c.loop-rest in
    f.follow_on c.args.bytes.now (component_names c.args.names.now) c.args.from i.found i.rest.now c.name-item.result c.in-len1-up.len_at_least c.name-item.is i.invariant c.in_ok-found.found
    c.in_ok-found.ensures

pub returns : goal.returns
returns c =
    let i = c.loop-rest in
    f.follow_done c.args.bytes.now (component_names c.args.names.now) c.args.from i.found i.rest.now (nil_from_length i.rest.now (omega (arith, c.in_default.len_below))) i.invariant

pub returns-in_err-found : goal.returns-in_err-found
returns-in_err-found c = λ tree h.
    let i = c.loop-rest in
    let bytes = c.args.bytes.now in
    let none : c.from_residual.result ≡ None = search (rules, c.from_residual.ensures) in
    subst (Finds bytes (follow (Some tree) (component_names c.args.names.now))) (sym none)
    (f.follow_ends bytes (component_names c.args.names.now) c.args.from i.found i.rest.now c.name-item.result c.in-len1-up.len_at_least c.name-item.is i.invariant c.in_err-found.ensures tree h)
