use Rattle.std.proofs.Common.{◌≡◌, ◌≤◌, ◌<◌, ap, sym, ◌∙◌, Some, List, cond, length, map, get_or, slice_get, slice_set, arith, subst}
use Rattle.std.proofs.{lemmas.Bool.false≢true, lemmas.Grind.common_steps, lemmas.List.map-set}
use Rattle.bd_value.specs.Limits.{greatest_count}
use Rattle.bd_cursor_model.specs.Session.{OpenCursor, State, changed_by, cursor_of, gave, next_call, reply, with_moved, without}
use Rattle.bd_cursor.specs.{SessionView.TakesMemory, SessionView.given_batch, SessionView.open_cursor, SessionView.state_of, declared.cursor.Cursor.Cursor}
use Rattle.bd_cursor.proofs.SessionLemmas.{after_batch, gave_batch, get_some}
use Rattle.bd_cursor.proofs.session.Session.next.Goals as goal

pub returns-in_default-next : goal.returns-in_default-next
returns-in_default-next c =
    let dump = c.args.self.now.documents.dump in
    let cs : List Cursor = c.args.self.now.cursors.items in
    let os : List OpenCursor = map (open_cursor dump) cs in
    let k : Cursor = c.index_mut.result.now in
    let value : k ≡ get_or cs c.in-Some.place k = c.index_mut.ensures.value in
    let list : c.deref.result.now ≡ cs = c.deref.ensures.value in
    let below : c.in-Some.place < length cs = rw list at c.in-Some.ensures.below in
    let it : cursor_of c.args.id os ≡ slice_get os c.in-Some.place = rw list at (c.in-Some.ensures.it dump) in
    let few : c.args.n ≤ greatest_count = omega arith in
    let granted = gave_batch c.args.id c.args.n os (open_cursor dump k) (it ∙ get_some dump cs c.in-Some.place k below value) few in
    record { steps = record { because = subst TakesMemory (sym granted) (λ none. false≢true (c.in_default-next.ensures.none none)); stays = grind (arith, common_steps); dump = c.next.ensures.dump } }

pub returns : goal.returns
returns c =
    let dump = c.args.self.now.documents.dump in
    let s = state_of c.args.self.now in
    let id = c.args.id in
    let n = c.args.n in
    let cs : List Cursor = c.args.self.now.cursors.items in
    let os : List OpenCursor = map (open_cursor dump) cs in
    let k : Cursor = c.index_mut.result.now in
    let value : k ≡ get_or cs c.in-Some.place k = c.index_mut.ensures.value in
    let list : c.deref.result.now ≡ cs = c.deref.ensures.value in
    let below : c.in-Some.place < length cs = rw list at c.in-Some.ensures.below in
    let it : cursor_of id os ≡ slice_get os c.in-Some.place = rw list at (c.in-Some.ensures.it dump) in
    let found : cursor_of id os ≡ Some (open_cursor dump k) = it ∙ get_some dump cs c.in-Some.place k below value in
    let few : n ≤ greatest_count = omega arith in
    let replies : reply s (next_call id n) ≡ gave (given_batch c.in-Ok.batch) = gave_batch id n os (open_cursor dump k) found few ∙ ap gave (sym c.in-Ok.ensures.batch) in
    let moved_there : map (open_cursor dump) (slice_set cs c.in-Some.place c.next.new.self) ≡ with_moved id n os =
    map-set (open_cursor dump) cs c.in-Some.place c.next.new.self ∙ ap (slice_set os c.in-Some.place) c.in-Ok.ensures.moved
    ∙ sym (rw list at (c.in-Some.ensures.moved dump (open_cursor dump k) n (rw list found))) in
    let whole = λ (xs : List OpenCursor). (let t : State = record s { cursors = xs } in t) in
    record {
      steps = record {
        replies = replies;
        moves = ap (λ d. whole (map (open_cursor d) c.close_at_end.new.cursors.items)) c.next.ensures.dump
            ∙ ap whole (c.close_at_end.ensures dump ∙ ap (λ xs. cond c.in-Ok.batch.end (without id xs) xs) moved_there ∙ after_batch id n os c.in-Ok.batch.end)
            ∙ ap (λ r. changed_by r (next_call id n) s) (sym replies);
        dump = c.next.ensures.dump;
      };
    }
