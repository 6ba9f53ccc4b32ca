use Rattle.std.proofs.Common.{◌≡◌, ap, map, sym, ◌∙◌, rules, tests}
use Rattle.std.proofs.{lemmas.Iterator.YieldsList-from_slice, lemmas.Iterator.Search.position_from_yields_List}
use Rattle.std.specs.Prelude.{is_some, position, string_bytes}
use Rattle.bd_cursor_model.specs.Session.{is_on}
use Rattle.bd_cursor.specs.Access.{index_key}
use Rattle.bd_cursor.proofs.AccessLemmas.{found_if_there, position_found}
use Rattle.bd_cursor.proofs.access.index_on.Goals as goal

pub returns-clause-found : goal.returns-clause-found
returns-clause-found c =
    let e : c.position.result ≡ position (λ i. is_on (string_bytes c.args.path.now.text) (index_key i)) c.args.indexes.now =
    position_from_yields_List (λ i. is_on (string_bytes c.args.path.now.text) (index_key i)) _ _ c.position.result c.position.ensures.ran
    (YieldsList-from_slice c.args.indexes.now cc) (λ x b q k. search (rules, tests)) in
    e ∙ sym (position_found (is_on (string_bytes c.args.path.now.text)) index_key c.args.indexes.now)

pub returns-clause-has_index : goal.returns-clause-has_index
returns-clause-has_index c = ap is_some (returns-clause-found c) ∙ found_if_there (is_on (string_bytes c.args.path.now.text)) (map index_key c.args.indexes.now)
