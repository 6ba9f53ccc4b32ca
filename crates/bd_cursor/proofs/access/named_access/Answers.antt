use Rattle.std.proofs.Common.{ap, cond, sym, ◌∙◌, None, Some}
use Rattle.std.specs.{Prelude.option_map, Prelude.unwrap_or, Option.option_or}
use Rattle.bd_path.specs.Sort.{sort_paths}
use Rattle.bd_index_bounds.specs.BoundsView.{bounds_view}
use Rattle.bd_cursor.specs.Access.{bounded, by_order, index_key, scanned}
use Rattle.bd_cursor.proofs.AccessLemmas.{bounds_lead}
use Rattle.bd_cursor.proofs.access.named_access.Goals as goal

pub returns-in-Some : goal.returns-in-Some
returns-in-Some c dump h =
    let r = c.args.request.now in
    let m = index_key c.args.index.now in
    let found = ap bounds_view (sym c.in-Some.is) ∙ c.in_ok-bounds.ensures dump h in
    record {
      is = ap (λ b. unwrap_or (option_or (option_map (λ keys. bounded m (Some keys)) b) (by_order (sort_paths r.sort.items) m)) (cond m.is_sparse scanned (bounded m None))) found;
      leads = bounds_lead dump r c.args.index.now _ h found;
    }
