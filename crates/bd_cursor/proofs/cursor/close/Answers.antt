use Rattle.bd_cursor_model.specs.Session.{OpenCursor}
use Rattle.std.proofs.{Common.rules, Common.◌≡◌, Common.◌==◌, Common.◌∙◌, Common.ap, Common.filter, Common.map, Common.not, lemmas.Fn.filter_same}
use Rattle.bd_cursor.specs.{SessionView.open_cursor, declared.cursor.Cursor.Cursor}
use Rattle.bd_cursor.proofs.SessionLemmas.{map_kept}
use Rattle.bd_cursor.proofs.cursor.close.Goals as goal

pub returns : goal.returns
returns c = λ dump.
    let kept : c.retain.new.self.items ≡ filter (λ (k : Cursor). not (k.id == c.args.id)) c.args.cursors.now.items =
    filter_same _ (λ (k : Cursor). not (k.id == c.args.id)) _ (λ k b f r. search rules) _ _ c.retain.ensures.filtered in
    ap (map (open_cursor dump)) kept ∙ map_kept (open_cursor dump) (λ (k : OpenCursor). not (k.id == c.args.id)) c.args.cursors.now.items
