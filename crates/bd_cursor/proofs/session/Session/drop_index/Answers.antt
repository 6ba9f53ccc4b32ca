use Rattle.std.proofs.{Common.rules, Common.◌≡◌, Common.◌∙◌, Common.ap, Common.sym, Common.filter, Common.map, Common.not, Common.string_bytes, lemmas.Fn.filter_same}
use Rattle.bd_cursor_model.specs.Session.{IndexKey, changed_by, drop_call, dropped, is_on, reply}
use Rattle.bd_index.specs.declared.index.Index.{Index}
use Rattle.bd_cursor.specs.{Access.index_key, SessionView.state_of}
use Rattle.bd_cursor.proofs.SessionLemmas.{map_kept, with_index_keys}
use Rattle.bd_cursor.proofs.session.Session.drop_index.Goals as goal

pub returns : goal.returns
returns c =
    let path = string_bytes c.args.path.now.text in
    let s = state_of c.args.self.now in
    let kept : c.retain.new.self.items ≡ filter (λ (i : Index). not (is_on path (index_key i))) c.args.self.now.indexes.items =
    filter_same _ (λ (i : Index). not (is_on path (index_key i))) _ (λ i b f r. search rules) _ _ c.retain.ensures.filtered in
    let replies : reply s (drop_call path) ≡ dropped = search rules in
    record {
      steps = record {
        replies = replies;
        moves = with_index_keys s _ _ (ap (map index_key) kept
            ∙ map_kept index_key (λ (i : IndexKey). not (is_on path i)) c.args.self.now.indexes.items)
            ∙ ap (λ r. changed_by r (drop_call path) s) (sym replies);
        dump = search rules;
      };
    }
