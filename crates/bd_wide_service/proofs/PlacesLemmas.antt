-- The field `places` of a line: the pairs without it, the reply with numbers of documents, and the reply by what a line requests.
use Rattle.std.proofs.Common.{◌≡◌, ◌∙◌, ◌+◌, ◌++◌, ◌∷◌, ℕ, Bool, true, false, cond, List, [], map, take, append-nil, refl, sym, ap, subst, inl, inr, Ok, Err, Some, Result}
use Rattle.std.specs.Prelude.{◌⊎◌, not, bytes_eq, codes, option_map}
use Rattle.std.specs.List.{slice_get}
use Rattle.std.proofs.{lemmas.List.Elements.filter-append}
use Rattle.bd_value.specs.Tree.{Doc, Pair, Tree, array, boolean, doc, fields_of, items_of, leaf}
use Rattle.bd_extjson_text.specs.Text.{text}
use Rattle.bd_cli_command.specs.declared.command.CommandFault.{CommandFault}
use Rattle.bd_cursor_model.specs.Session.{Call, State, next_call, state_after}
use Rattle.bd_cursor_model.specs.Session as machine
use Rattle.bd_cursor_request.specs.{Results.positioned_text, Results.text_or_null, Token.token_text, declared.results.Batch.Batch}
use Rattle.bd_cursor.specs.SessionView.{given_batch, positioned_token}
use Rattle.bd_cli_command.proofs.CommandOfLemmas.{prefix_with}
use Rattle.bd_cli_service.specs.Reply.{ReportedRefusal, command_refusal, line_reply, refuses, reply_text}
use Rattle.bd_cli_service.specs.{ServiceView.GivesBatch, Talk.reply_output, Talk.state_then}
use Rattle.bd_cli_service.specs.declared.reply.Reply.{Reply}
use Rattle.bd_cli_service.specs.declared.reply.Reply.TheVariants as replies
use Rattle.bd_wide_service.specs.{Call.ByValue, Reply.AnswersByValue, Reply.RepliesByValue}
use Rattle.bd_wide_service.specs.Places.{Placed, RepliesAs, RepliesWithPlaces, place_value, placed_line, places_reply, places_text, without_places}
use Rattle.bd_wide_service.proofs.ServiceLemmas.{tokens}
use Rattle.bd_wide_service.specs.ServiceView.{IsServiceOver, LacksSomeReply, MovesAtMost, RepliesInAll, service_state}
use Rattle.bd_wide_service.specs.inside.ServiceView.{LacksReplyTo, RepliesTo}
use Rattle.bd_wide_service.specs.Places as places
use Rattle.bd_wide_service.specs.inside.Places.{numbers_text}
use Rattle.bd_wide_service.specs.declared.service.WideService.{WideService}

-- ---- the pairs without the field

-- whether a pair has another name
abbrev pub keeps : Pair → Bool
keeps p = not (bytes_eq p.0 (codes "places"))

module _ (d : Doc) (i : ℕ) (p : Pair) (at : slice_get d i ≡ Some p) where
  one_more : (b : Bool) → not (bytes_eq p.0 (codes "places")) ≡ b → without_places (take (i + 1) d) ≡ without_places (take i d) ++ cond b (p ∷ []) []
  one_more b is =
      ap without_places (prefix_with d i p at) ∙ filter-append (λ q. not (bytes_eq q.0 (codes "places"))) (take i d) (p ∷ [])
      ∙ ap (λ (x : Bool). without_places (take i d) ++ cond x (p ∷ []) []) is

  -- the pair is copied
  pub kept : (rest new : Doc) → rest ≡ without_places (take i d) → keeps p ≡ true → new ≡ rest ++ p ∷ [] → new ≡ without_places (take (i + 1) d)
  kept rest new before is put = put ∙ ap (λ (x : Doc). x ++ p ∷ []) before ∙ sym (one_more true is)

  -- the pair is the field
  pub skipped : (rest : Doc) → rest ≡ without_places (take i d) → keeps p ≡ false → rest ≡ without_places (take (i + 1) d)
  skipped rest before is = before ∙ sym (one_more false is ∙ append-nil (without_places (take i d)))

-- ---- the reply

-- the reply with the numbers of documents, in the pairs in which it is made
pub reply_made : (batch : Batch) (truth numbers ends t : Tree) (none first second third all : Doc) (ok places ended token : List ℕ)
    → none ≡ [] → first ≡ none ++ (ok, truth) ∷ [] → second ≡ first ++ (places, numbers) ∷ [] → third ≡ second ++ (ended, ends) ∷ []
    → all ≡ third ++ (token, t) ∷ [] → ok ≡ codes "ok" → places ≡ codes "places" → ended ≡ codes "end" → token ≡ codes "token"
    → truth ≡ leaf (boolean true) → numbers ≡ array (items_of (map place_value batch.places.items)) → ends ≡ leaf (boolean batch.end)
    → t ≡ text_or_null (option_map token_text batch.token) → all ≡ places_reply (given_batch batch)
reply_made batch truth numbers ends t none first second third all ok places ended token zero one two three four is_ok is_places is_end is_token truths are ending is =
    let same : t ≡ text_or_null (option_map positioned_text (option_map positioned_token batch.token)) = is ∙ ap text_or_null (tokens batch.token) in
    rw (four, three, two, one, zero, is_ok, is_places, is_end, is_token, truths, are, ending, same) refl

-- a reply that is not a batch has no documents
others : (ds : List Doc) (m : machine.Reply) → ((b : machine.GivenBatch) → m ≡ machine.gave b → ⊥) → reply_text (reply_output ds m) ≡ places_text m
others ds (machine.opened id) other = refl
others ds (machine.gave b) other = absurd (other b refl)
others ds machine.killed other = refl
others ds (machine.made counts) other = refl
others ds machine.dropped other = refl
others ds (machine.explained e) other = refl
others ds machine.no_index other = refl
others ds machine.index_there other = refl
others ds machine.too_many_indexes other = refl
others ds machine.too_many_cursors other = refl
others ds machine.no_cursor other = refl
others ds machine.foreign_token other = refl
others ds machine.token_place other = refl
others ds machine.out_of_range other = refl

-- the text of a reply in memory is that of the machine's reply
pub numbers_are : (ds : List Doc) (m : machine.Reply) (r : Reply) → line_reply ds r ≡ reply_output ds m → GivesBatch r m → numbers_text ds r ≡ places_text m
numbers_are ds m (replies.Gave b) reports gives = ap places_text (sym gives)
numbers_are ds m replies.Done reports gives =
    ap reply_text reports ∙ others ds m (λ b e. let no : ⊥ = (let all = reports ∙ ap (reply_output ds) e in cc) in no)
numbers_are ds m (replies.Opened id) reports gives =
    ap reply_text reports ∙ others ds m (λ b e. let no : ⊥ = (let all = reports ∙ ap (reply_output ds) e in cc) in no)
numbers_are ds m (replies.Made made) reports gives =
    ap reply_text reports ∙ others ds m (λ b e. let no : ⊥ = (let all = reports ∙ ap (reply_output ds) e in cc) in no)
numbers_are ds m (replies.Explained x) reports gives =
    ap reply_text reports ∙ others ds m (λ b e. let no : ⊥ = (let all = reports ∙ ap (reply_output ds) e in cc) in no)
numbers_are ds m (replies.Refused why) reports gives =
    ap reply_text reports ∙ others ds m (λ b e. let no : ⊥ = (let all = reports ∙ ap (reply_output ds) e in cc) in no)

-- ---- a line

-- a reply by what the line requests
pub as_placed : (Replies : State → List ℕ → List ℕ → State → Type 0) (s : State) (line reply : List ℕ) (t : State) (p : Placed) → p ≡ placed_line line
    → RepliesAs Replies s line reply t p → RepliesWithPlaces Replies s line reply t
as_placed Replies s line reply t p is replied = subst (λ x. RepliesAs Replies s line reply t x) is replied

-- a line moves the session by one call at most
pub moves_by : (s t : State) (call : Result Call ReportedRefusal) → t ≡ state_then s call → MovesAtMost s t
moves_by s t (Ok c) is = inr (c, is)
moves_by s t (Err why) is = inl is

pub lacks_some : (old new : WideService) (line : List ℕ) → LacksReplyTo old line new → LacksSomeReply old new
lacks_some old new line lacks = λ bytes v over. (moved v (lacks bytes v over).0, (lacks bytes v over).1)
  where
    moved : {bytes : List ℕ} (v : ByValue bytes) → (service_state new ≡ service_state old)
        ⊎ ((reply : Result machine.Reply ReportedRefusal) × AnswersByValue v (service_state old) line reply (service_state new)) → MovesAtMost (service_state old) (service_state new)
    moved v (inl same) = inl same
    moved v (inr (reply, answers)) = moves_by (service_state old) (service_state new) answers.call answers.moves

module _ (old new : WideService) (line reply : List ℕ) where
  -- a line without the field
  pub wide_absent : places.absent ≡ placed_line line → RepliesTo old line reply new → RepliesInAll old line reply new
  wide_absent is r = λ bytes v over. (
    as_placed (RepliesByValue v) (service_state old) line reply (service_state new) places.absent is (r bytes v over).0,
    (r bytes v over).1,
  )

  -- a line with the field, whose reply has documents
  pub wide_documents : (d : Doc) (other : List ℕ) → places.documents d ≡ placed_line line → other ≡ text (doc (fields_of d)) → RepliesTo old other reply new
      → RepliesInAll old line reply new
  wide_documents d other is same r = λ bytes v over. (
    as_placed (RepliesByValue v) (service_state old) line reply (service_state new) (places.documents d) is
        (subst (λ (l : List ℕ). RepliesByValue v (service_state old) l reply (service_state new)) same (r bytes v over).0),
    (r bytes v over).1,
  )

  -- a line with the field, whose reply has numbers
  pub wide_numbers : (id batch : ℕ) → places.numbers id batch ≡ placed_line line
      → reply ≡ places_text (machine.reply (service_state old) (next_call id batch)) → service_state new ≡ state_after (service_state old) (next_call id batch)
      → ((bytes : List ℕ) (v : ByValue bytes) → IsServiceOver v old → IsServiceOver v new) → RepliesInAll old line reply new
  wide_numbers id batch is written moves still = λ bytes v over. (
    as_placed (RepliesByValue v) (service_state old) line reply (service_state new) (places.numbers id batch) is (written, moves),
    still bytes v over,
  )

-- a line whose field is refused
pub wide_faulty : (s : WideService) (line : List ℕ) (f : CommandFault) → places.faulty f ≡ placed_line line
    → RepliesInAll s line (reply_text (refuses (command_refusal f))) s
wide_faulty s line f is = λ bytes v over. (
  as_placed (RepliesByValue v) (service_state s) line (reply_text (refuses (command_refusal f))) (service_state s) (places.faulty f) is (refl, refl),
  over,
)
