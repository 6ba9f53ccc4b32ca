use Rattle.std.specs.{Prelude.count_by, Prelude.string_bytes, List.All}
use Rattle.std.proofs.Common.{◌≡◌, ◌<◌, length, None, Some, ap, sym, ◌∙◌, subst, arith}
use Rattle.bd_cursor_model.specs.Answer.{matching}
use Rattle.bd_bson_dump.specs.Collection.{documents}
use Rattle.bd_path.specs.declared.path.Path.{Path}
use Rattle.bd_query_filter.specs.Filter.{filter_tree}
use Rattle.bd_cursor_sort.specs.Selection.{selection_of, matches_at_of}
use Rattle.bd_cursor.specs.{Access.IsAccessOf, Access.access_path, Explanation.explained_access, Explanation.explanation}
use Rattle.bd_cursor.proofs.AccessLemmas.{index_source, lent_within, as_many, entries_read, entries_walked, matches_of_all, places_read}
use Rattle.bd_cursor.specs.declared.explaining.Plan.TheVariants as plans
use Rattle.bd_cursor.proofs.explaining.explain_access.Goals as goal

pub count_among-requires : goal.count_among-requires
count_among-requires c =
    let lead = subst (IsAccessOf c.args.dump.now c.args.request.now) c.in-Bounded.is c.requires in
    let w = lent_within c.as_ref.result c.as_ref.ensures.value c.in_ok-found-in-Bounded.ensures in
    subst (λ ps. All (λ p. p < length (documents c.args.dump.now)) ps) (sym c.deref.ensures.value) (index_source lead w).below

pub returns-in-Scan-clause-explained : goal.returns-in-Scan-clause-explained
returns-in-Scan-clause-explained c =
    let ds = documents c.args.dump.now in
    let r = c.args.request.now in
    (λ j. explanation plans.Scan None 0 ((c.from.ensures ∙ c.len.ensures) j) (matches_of_all ds r c.count_matches.result c.count_matches.ensures j))
    ∙ ap (λ a. explained_access ds (length (matching (selection_of ds r))) (access_path a)) (sym c.in-Scan.is)

pub returns-in_ok-from_str-in-Bounded-clause-explained : goal.returns-in_ok-from_str-in-Bounded-clause-explained
returns-in_ok-from_str-in-Bounded-clause-explained c =
    let ds = documents c.args.dump.now in
    let r = c.args.request.now in
    let i = c.in-Bounded.index.now in
    let found = c.in_ok-found-in-Bounded.found in
    let ps = found.places.items in
    let matches_at = matches_at_of ds (filter_tree r.filter) in
    let lead = subst (IsAccessOf c.args.dump.now r) c.in-Bounded.is c.requires in
    let w = lent_within c.as_ref.result c.as_ref.ensures.value c.in_ok-found-in-Bounded.ensures in
    let path = c.in_ok-from_str-in-Bounded.ensures.ok ∙ c.as_str.ensures ∙ ap (λ (p : Path). string_bytes p.text) c.path.ensures in
    let long : c.len-in-Bounded.result ≡ length ps = omega (arith, c.len-in-Bounded.ensures, found.places.ok.0) in
    (λ j. explanation plans.Index (Some (path j)) (entries_read i w j) ((long ∙ places_read i w) j)
    ((c.count_among.ensures ∙ ap (count_by matches_at) c.deref.ensures.value ∙ as_many ds matches_at ps (index_source lead w) w.ascend) j))
    ∙ ap (λ a. explained_access ds (length (matching (selection_of ds r))) (access_path a)) (sym c.in-Bounded.is)

pub returns-in_ok-from_str-in-Walk-clause-explained : goal.returns-in_ok-from_str-in-Walk-clause-explained
returns-in_ok-from_str-in-Walk-clause-explained c =
    let ds = documents c.args.dump.now in
    let r = c.args.request.now in
    let i = c.in-Walk.index.now in
    let lead = subst (IsAccessOf c.args.dump.now r) c.in-Walk.is c.requires in
    let path = c.in_ok-from_str-in-Walk.ensures.ok ∙ c.as_str-in-Walk.ensures ∙ ap (λ (p : Path). string_bytes p.text) c.path-in-Walk.ensures in
    (λ j. explanation plans.Walk (Some (path j)) (entries_walked i ds c.entries.result (c.entries.ensures c.args.dump.now lead.of_dump) j)
    ((c.from-in-Walk.ensures ∙ c.len-in-Walk.ensures) j) (matches_of_all ds r c.count_matches-in-Walk.result c.count_matches-in-Walk.ensures j))
    ∙ ap (λ a. explained_access ds (length (matching (selection_of ds r))) (access_path a)) (sym c.in-Walk.is)
