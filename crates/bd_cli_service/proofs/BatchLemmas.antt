-- The texts of the documents of a batch, in the pieces in which they are written.
use Rattle.std.proofs.Common.{◌≡◌, ◌+◌, ◌<◌, ◌≤◌, ℕ, Bool, true, false, cond, List, [], ◌∷◌, ◌++◌, filter, get_or, length, map, take, Option, refl, sym, ap, ap₂, ◌∙◌, subst}
use Rattle.std.proofs.Common.{append_assoc, append-nil}
use Rattle.std.proofs.{lemmas.Bool.ltb-true, lemmas.Bool.ltb-false, lemmas.Bool.lt-ltb, lemmas.Bool.le-ltb, lemmas.List.take_more, lemmas.List.Elements.filter-append}
use Rattle.std.proofs.lemmas.Option.{slice_get-get_or, slice_get_past}
use Rattle.std.specs.Prelude.{codes, nat_lt, option_map}
use Rattle.std.specs.List.{cons_option, join_with_byte}
use Rattle.bd_value.specs.Tree.{Doc, boolean, doc, fields_of, items_of, leaf}
use Rattle.bd_extjson_text.specs.Text.{escape_byte, items_text, listed, member, object, quoted, scalar_text, text}
use Rattle.bd_extjson_text.proofs.TextLemmas.{before}
use Rattle.bd_bson_dump.specs.Collection.{documents_at}
use Rattle.bd_cli_print.specs.Printer.{IsNamedText}
use Rattle.bd_cursor_request.specs.{Token.token_text, declared.results.Batch.Batch}
use Rattle.bd_cli_service.specs.Reply.{AreTextsAt, given_text, line_reply, reply_text}
use Rattle.bd_cli_service.specs.declared.reply.Reply.{Reply}
use Rattle.bd_cli_service.specs.declared.reply.Reply.TheVariants as replies

-- ---- some texts, joined by commas

-- whether there is a text
abbrev pub is_begun : List (List ℕ) → Bool
is_begun [] = false
is_begun (x ∷ xs) = true

begun_more : (texts : List (List ℕ)) (t : List ℕ) → is_begun (texts ++ t ∷ []) ≡ true
begun_more [] t = refl
begun_more (x ∷ xs) t = refl

join_more : (texts : List (List ℕ)) (t : List ℕ) → join_with_byte 44 (texts ++ t ∷ []) ≡ join_with_byte 44 texts ++ (before (is_begun texts) 44 ++ t)
join_more [] t = refl
join_more (x ∷ []) t = refl
join_more (x ∷ y ∷ xs) t =
    ap (λ (l : List ℕ). x ++ 44 ∷ l) (join_more (y ∷ xs) t) ∙ sym (append_assoc x (44 ∷ join_with_byte 44 (y ∷ xs)) (before true 44 ++ t))

-- ---- the texts of documents

-- the places below the number of documents
abbrev among : ℕ → List ℕ → List ℕ
among count = filter (λ p. nat_lt p count)

module _ (IsText : ℕ → List ℕ → Type 0) where
  texts_join : (ps qs : List ℕ) (a b : List (List ℕ)) → AreTextsAt IsText ps a → AreTextsAt IsText qs b → AreTextsAt IsText (ps ++ qs) (a ++ b)
  texts_join [] qs a b none are = subst (λ (x : List (List ℕ)). AreTextsAt IsText qs (x ++ b)) (sym none) are
  texts_join (p ∷ ps) qs a b (first, rest, is, others, splits) are =
      (first, rest ++ b, is, texts_join ps qs rest b others are, ap (λ (x : List (List ℕ)). x ++ b) splits)

  -- The texts of the documents at these places were written; `later` says whether there is one.
  pub record AreWritten (ps : List ℕ) (later : Bool) (old out : List ℕ) : Type 0 where
    pub texts : List (List ℕ)
    pub are : AreTextsAt IsText ps texts
    pub begun : later ≡ is_begun texts
    pub whole : out ≡ old ++ join_with_byte 44 texts

  pub none_written : (old : List ℕ) → AreWritten [] false old old
  none_written old = record { texts = []; are = refl; begun = refl; whole = sym (append-nil old) }

  one_more : (ps : List ℕ) (p : ℕ) (later : Bool) (old out new : List ℕ) → AreWritten ps later old out
      → (t : List ℕ) × IsText p t × (new ≡ out ++ (before later 44 ++ t)) → AreWritten (ps ++ p ∷ []) true old new
  one_more ps p later old out new w (t, is, put) = record {
    texts = w.texts ++ t ∷ [];
    are = texts_join ps (p ∷ []) w.texts (t ∷ []) w.are (t, [], is, refl, refl);
    begun = sym (begun_more w.texts t);
    whole = put ∙ ap (λ (l : List ℕ). l ++ (before later 44 ++ t)) w.whole ∙ append_assoc old (join_with_byte 44 w.texts) (before later 44 ++ t)
        ∙ ap (λ (b : Bool). old ++ (join_with_byte 44 w.texts ++ (before b 44 ++ t))) w.begun ∙ ap (λ (l : List ℕ). old ++ l) (sym (join_more w.texts t));
  }

  module _ (ps : List ℕ) (count i : ℕ) (lt : i < length ps) (later : Bool) (old out : List ℕ) (w : AreWritten (among count (take i ps)) later old out) where
    next_among : (b : Bool) → nat_lt (get_or ps i 0) count ≡ b → among count (take (i + 1) ps) ≡ among count (take i ps) ++ cond b (get_or ps i 0 ∷ []) []
    next_among b is =
        ap (among count) (take_more ps i 0 lt) ∙ filter-append (λ p. nat_lt p count) (take i ps) (get_or ps i 0 ∷ [])
        ∙ ap (λ (x : Bool). among count (take i ps) ++ cond x (get_or ps i 0 ∷ []) []) is

    -- the document at the next place is written
    pub next_written : (new : List ℕ) → get_or ps i 0 < count → (t : List ℕ) × IsText (get_or ps i 0) t × (new ≡ out ++ (before later 44 ++ t))
        → AreWritten (among count (take (i + 1) ps)) true old new
    next_written new inside wrote = subst (λ (x : List ℕ). AreWritten x true old new) (sym (next_among true (lt-ltb (get_or ps i 0) count inside)))
        (one_more (among count (take i ps)) (get_or ps i 0) later old out new w wrote)

    -- a place without a document adds nothing
    pub next_passed : count ≤ get_or ps i 0 → AreWritten (among count (take (i + 1) ps)) later old out
    next_passed outside = subst (λ (x : List ℕ). AreWritten x later old out)
        (sym (next_among false (le-ltb (get_or ps i 0) count outside) ∙ append-nil (among count (take i ps)))) w

-- ---- the reply

-- the pieces in which the reply with a batch is written
pub batch_written : (texts : List (List ℕ)) (ends token old a b c d e f : List ℕ) → a ≡ old ++ codes "{\"ok\":true,\"documents\":["
    → b ≡ a ++ join_with_byte 44 texts → c ≡ b ++ 93 ∷ [] → d ≡ c ++ 44 ∷ ends → e ≡ d ++ 44 ∷ token → f ≡ e ++ 125 ∷ []
    → f ≡ old ++ object (member (codes "ok") (text (leaf (boolean true))) ∷ member (codes "documents") (listed texts) ∷ ends ∷ token ∷ [])
unfolding scalar_text quoted escape_byte
batch_written texts ends token old a b c d e f first second third fourth fifth sixth = rw (sixth, fifth, fourth, third, second, first) (simp append_assoc)

-- ---- the documents of the dump itself

-- the texts of the documents at places
abbrev texts_at : List Doc → List ℕ → List (List ℕ)
texts_at ds ps = items_text (items_of (map (λ d. doc (fields_of d)) (documents_at ds ps)))

named_texts : (ds : List Doc) (ps : List ℕ) (texts : List (List ℕ)) → AreTextsAt (IsNamedText ds) (among (length ds) ps) texts → texts ≡ texts_at ds ps
named_texts ds [] texts none = none
named_texts ds (p ∷ ps) texts are = go (nat_lt p (length ds)) refl (λ others all. named_texts ds ps others all) are
  where
    at_place : Option Doc → List (List ℕ)
    at_place o = items_text (items_of (map (λ (d : Doc). doc (fields_of d)) (cons_option o (documents_at ds ps))))

    go : (b : Bool) → nat_lt p (length ds) ≡ b → ((others : List (List ℕ)) → AreTextsAt (IsNamedText ds) (among (length ds) ps) others → others ≡ texts_at ds ps)
        → AreTextsAt (IsNamedText ds) (cond b (p ∷ among (length ds) ps) (among (length ds) ps)) texts → texts ≡ texts_at ds (p ∷ ps)
    go true is rest_named (first, rest, named, others, splits) =
        splits ∙ ap₂ (λ (x : List ℕ) (xs : List (List ℕ)). x ∷ xs) named (rest_named rest others)
        ∙ sym (ap at_place (slice_get-get_or ds p [] (ltb-true p (length ds) is)))
    go false is rest_named others =
        let outside : length ds ≤ p = ltb-false p (length ds) is in
        rest_named texts others ∙ sym (ap at_place (slice_get_past ds p outside))

-- a batch by the printer of the documents of a dump is the reply with them
pub gave_written : (ds : List Doc) (reply : Reply) (batch : Batch) (old new : List ℕ) → reply ≡ replies.Gave batch
    → (texts : List (List ℕ)) × AreTextsAt (IsNamedText ds) (among (length ds) batch.places.items) texts
    × (new ≡ old ++ given_text texts batch.end (option_map token_text batch.token)) → new ≡ old ++ reply_text (line_reply ds reply)
gave_written ds reply batch old new is (texts, are, wrote) =
    wrote ∙ ap (λ (x : List (List ℕ)). old ++ given_text x batch.end (option_map token_text batch.token)) (named_texts ds batch.places.items texts are)
    ∙ ap (λ (r : Reply). old ++ reply_text (line_reply ds r)) (sym is)
