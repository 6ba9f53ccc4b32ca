-- Parts in brackets that the second pass skips are those that the lexer of the kit makes tokens of.
use Rattle.std.proofs.Common.{◌≡◌, ◌<◌, ◌≤◌, ◌==◌, ◌&&◌, ◌⊎◌, inl, inr, refl, sym, ap, ◌∙◌, subst, cond, not, ℕ, zero, suc, Bool, true, false, List, [], ◌∷◌, ◌++◌}
use Rattle.std.proofs.Common.{length, drop, Option, Some, None, Ok, Err, arith}
use Rattle.std.proofs.Common.{append_assoc, length-append}
use Rattle.std.specs.Prelude.{IsUtf8, if◌then◌else◌, nat_eq}
use Rattle.std.proofs.lemmas.Bool.{eqb-true, eq-eqb, false≢true, true≢false, and_from}
use Rattle.json.specs.Word.{is_operator, ends_word, head, word, literal, after_number, number_before}
use Rattle.json.specs.Text.{content, plain}
use Rattle.std.specs.List.{starts_with}
use Rattle.json.specs.Ascii as ascii
use Rattle.json.specs.Token.{Token}
use Rattle.json.specs.Token as tokens
use Rattle.json.specs.Lex.{Lexeme, token, in_word, in_string, lex, Place, fresh, after_value, after_comma, after_key, punctuate, may_begin, may_close, begins_colon}
use Rattle.json.specs.Lex.{string_token}
use Rattle.json.specs.Json.{after_end_array, read_key}
use Rattle.bd_extjson_fault.specs.JsonSyntax.{Beyond, ◌>>=◌, syntax_at, begins, beyond_all, beyond_white, beyond_word, is_white, beyond_next, beyond_parts, beyond_group}
use Rattle.bd_extjson_fault.specs.TreeFault.{parts_after, parts_from, parts_in}
use Rattle.bd_extjson.proofs.ByteLemmas.{tokens_from, is_end, cases_byte, Split, split_then, split_one, white_passed, white_tokens, white_stops}
use Rattle.bd_extjson.proofs.ScalarLemmas.{Passed, Pairs}

-- ---- the first token, by the first byte

-- a token that the lexer makes of a word
abbrev pub IsWord : Token → Type 0
IsWord (tokens.number s) = Unit {0}
IsWord (tokens.boolean b) = Unit {0}
IsWord tokens.null = Unit {0}
IsWord tokens.bad = Unit {0}
IsWord _ = ⊥

either_word : (b : Bool) (t u : Token) → IsWord t → IsWord u → IsWord (cond b t u)
either_word true t u p q = p
either_word false t u p q = q

number_word : (t : List ℕ) (o : Option (List ℕ)) → IsWord (number_before t o)
number_word t None = tt
number_word t (Some rest) = either_word (ends_word rest) _ _ tt tt

literal_word : (name t : List ℕ) (tok : Token) → IsWord tok → IsWord (literal name tok t)
literal_word name t tok w = either_word (starts_with nat_eq t name && ends_word (drop (length name) t)) tok tokens.bad w tt

-- the lexer makes such a token of each word
pub word_word : (t : List ℕ) → IsWord (word t)
unfolding word
word_word t =
    let nulls = cond (head t == 110) (literal ascii.null_text tokens.null t) (number_before t (after_number t)) in
    let falses = cond (head t == 102) (literal ascii.false_text (tokens.boolean false) t) nulls in
    either_word (head t == 116) (literal ascii.true_text (tokens.boolean true) t) falses (literal_word ascii.true_text t (tokens.boolean true) tt)
    (either_word (head t == 102) (literal ascii.false_text (tokens.boolean false) t) nulls (literal_word ascii.false_text t (tokens.boolean false) tt)
    (either_word (head t == 110) (literal ascii.null_text tokens.null t) (number_before t (after_number t)) (literal_word ascii.null_text t tokens.null tt)
    (number_word t (after_number t))))

-- tokens after a value that end what it is in, other than by this byte, or are no JSON
abbrev pub Stuck : ℕ → List Token → Type 0
Stuck c [] = Unit {0}
Stuck c (tokens.bad ∷ ts) = Unit {0}
Stuck c (tokens.end_object ∷ ts) = (125 == c) ≡ false
Stuck c (tokens.end_array ∷ ts) = (93 == c) ≡ false
Stuck c _ = ⊥

word_stuck : (c : ℕ) (t : Token) (ls : List Lexeme) → IsWord t → Stuck c (punctuate after_value (token t ∷ ls))
unfolding punctuate
word_stuck c (tokens.number s) ls w = tt
word_stuck c (tokens.boolean b) ls w = tt
word_stuck c tokens.null ls w = tt
word_stuck c tokens.bad ls w = tt
word_stuck c tokens.begin_object ls w = absurd w
word_stuck c tokens.end_object ls w = absurd w
word_stuck c tokens.begin_array ls w = absurd w
word_stuck c tokens.end_array ls w = absurd w
word_stuck c (tokens.key s) ls w = absurd w
word_stuck c (tokens.string s) ls w = absurd w

string_stuck : (c : ℕ) (o : Option (List ℕ)) (ls : List Lexeme) (b : Bool) → begins_colon ls ≡ b → Stuck c (punctuate after_value (token (string_token o) ∷ ls))
unfolding punctuate
string_stuck c None ls b e = tt
string_stuck c (Some s) ls true e = rw e tt
string_stuck c (Some s) ls false e = rw e tt

after_stuck : (c : ℕ) (here : List ℕ) → begins is_white here ≡ false → begins (λ b. b == c) here ≡ false → begins (λ b. b == 44) here ≡ false
    → Stuck c (tokens_from after_value here)
unfolding punctuate lex
after_stuck c [] w e f = tt
after_stuck c (x ∷ xs) w e f = (
    cases_byte Q x (λ w e f. string_stuck c (content plain xs) (lex in_string xs) (begins_colon (lex in_string xs)) refl) (λ w e f. tt) (λ w e f. tt) (λ w e f. e)
    (λ w e f. tt) (λ w e f. e) (λ w e f. tt) (λ w e f. absurd (true≢false f)) (λ white w e f. absurd (true≢false (sym white ∙ w)))
    (λ o w e f. rw o.kind (word_stuck c (word (x ∷ xs)) (lex in_word xs) (word_word (x ∷ xs))))) w e f
  where
    Q : ℕ → Type 0
    Q y = is_white y ≡ false → (y == c) ≡ false → (y == 44) ≡ false → Stuck c (tokens_from after_value (y ∷ xs))

-- where a part may begin, and the closing byte does not come next if it may
abbrev pub Opens : ℕ → Place → List ℕ → Type 0
Opens c p text = may_close p ≡ true → begins (λ b. b == c) (beyond_white text) ≡ false

word_no_end : (p : Place) (t : Token) (ls : List Lexeme) → may_begin p ≡ true → IsWord t
    → (after_end_array (punctuate p (token t ∷ ls)) ≡ None) × (read_key (punctuate p (token t ∷ ls)) ≡ None)
unfolding punctuate
word_no_end fresh (tokens.number s) ls may w = (refl, refl)
word_no_end fresh (tokens.boolean b) ls may w = (refl, refl)
word_no_end fresh tokens.null ls may w = (refl, refl)
word_no_end fresh tokens.bad ls may w = (refl, refl)
word_no_end fresh _ ls may w = absurd w
word_no_end after_comma (tokens.number s) ls may w = (refl, refl)
word_no_end after_comma (tokens.boolean b) ls may w = (refl, refl)
word_no_end after_comma tokens.null ls may w = (refl, refl)
word_no_end after_comma tokens.bad ls may w = (refl, refl)
word_no_end after_comma _ ls may w = absurd w
word_no_end after_value t ls may w = absurd (false≢true may)
word_no_end after_key t ls may w = absurd (false≢true may)

string_no_end : (p : Place) (o : Option (List ℕ)) (ls : List Lexeme) (b : Bool) → begins_colon ls ≡ b → may_begin p ≡ true
    → after_end_array (punctuate p (token (string_token o) ∷ ls)) ≡ None
unfolding punctuate
string_no_end fresh None ls b e may = refl
string_no_end fresh (Some s) ls true e may = rw e refl
string_no_end fresh (Some s) ls false e may = rw e refl
string_no_end after_comma None ls b e may = refl
string_no_end after_comma (Some s) ls true e may = rw e refl
string_no_end after_comma (Some s) ls false e may = rw e refl
string_no_end after_value o ls b e may = absurd (false≢true may)
string_no_end after_key o ls b e may = absurd (false≢true may)

-- no array ends where an item begins
no_end_here : (p : Place) → may_begin p ≡ true → (here : List ℕ) → begins is_white here ≡ false → (may_close p ≡ true → begins (λ b. b == 93) here ≡ false)
    → after_end_array (tokens_from p here) ≡ None
unfolding punctuate lex
no_end_here after_value may here w c = absurd (false≢true may)
no_end_here after_key may here w c = absurd (false≢true may)
no_end_here fresh may [] w c = refl
no_end_here after_comma may [] w c = refl
no_end_here fresh may (x ∷ xs) w c =
    cases_byte Q x (λ w c. string_no_end fresh (content plain xs) (lex in_string xs) _ refl refl) (λ w c. refl) (λ w c. refl) (λ w c. refl) (λ w c. refl)
    (λ w c. absurd (true≢false (c refl))) (λ w c. refl) (λ w c. refl) (λ white w c. absurd (true≢false (sym white ∙ w)))
    (λ o w c. rw o.kind (word_no_end fresh (word (x ∷ xs)) (lex in_word xs) refl (word_word (x ∷ xs))).0) w c
  where
    Q : ℕ → Type 0
    Q y = is_white y ≡ false → (true ≡ true → (y == 93) ≡ false) → after_end_array (tokens_from fresh (y ∷ xs)) ≡ None
no_end_here after_comma may (x ∷ xs) w c =
    cases_byte Q x (λ w. string_no_end after_comma (content plain xs) (lex in_string xs) _ refl refl) (λ w. refl) (λ w. refl) (λ w. refl) (λ w. refl)
    (λ w. refl) (λ w. refl) (λ w. refl) (λ white w. absurd (true≢false (sym white ∙ w)))
    (λ o w. rw o.kind (word_no_end after_comma (word (x ∷ xs)) (lex in_word xs) refl (word_word (x ∷ xs))).0) w
  where
    Q : ℕ → Type 0
    Q y = is_white y ≡ false → after_end_array (tokens_from after_comma (y ∷ xs)) ≡ None

-- no array closes where an item may begin and no bracket comes next
pub no_end : (p : Place) (text : List ℕ) → may_begin p ≡ true → Opens 93 p text → after_end_array (tokens_from p text) ≡ None
no_end p text may opens = ap after_end_array (white_tokens p text) ∙ no_end_here p may (beyond_white text) (white_stops text) opens

-- no key comes next but at a quotation mark, and no object ends where a member begins
pub no_key_here : (p : Place) → may_begin p ≡ true → (here : List ℕ) → begins is_white here ≡ false → begins (λ b. b == 34) here ≡ false
    → (may_close p ≡ true → begins (λ b. b == 125) here ≡ false) → read_key (tokens_from p here) ≡ None
unfolding punctuate lex
no_key_here after_value may here w q c = absurd (false≢true may)
no_key_here after_key may here w q c = absurd (false≢true may)
no_key_here fresh may [] w q c = refl
no_key_here after_comma may [] w q c = refl
no_key_here fresh may (x ∷ xs) w q c =
    cases_byte Q x (λ w q c. absurd (true≢false q)) (λ w q c. refl) (λ w q c. refl) (λ w q c. absurd (true≢false (c refl))) (λ w q c. refl)
    (λ w q c. refl) (λ w q c. refl) (λ w q c. refl) (λ white w q c. absurd (true≢false (sym white ∙ w)))
    (λ o w q c. rw o.kind (word_no_end fresh (word (x ∷ xs)) (lex in_word xs) refl (word_word (x ∷ xs))).1) w q c
  where
    Q : ℕ → Type 0
    Q y = is_white y ≡ false → (y == 34) ≡ false → (true ≡ true → (y == 125) ≡ false) → read_key (tokens_from fresh (y ∷ xs)) ≡ None
no_key_here after_comma may (x ∷ xs) w q c =
    cases_byte Q x (λ w q. absurd (true≢false q)) (λ w q. refl) (λ w q. refl) (λ w q. refl) (λ w q. refl)
    (λ w q. refl) (λ w q. refl) (λ w q. refl) (λ white w q. absurd (true≢false (sym white ∙ w)))
    (λ o w q. rw o.kind (word_no_end after_comma (word (x ∷ xs)) (lex in_word xs) refl (word_word (x ∷ xs))).1) w q
  where
    Q : ℕ → Type 0
    Q y = is_white y ≡ false → (y == 34) ≡ false → read_key (tokens_from after_comma (y ∷ xs)) ≡ None

-- ---- the byte after a part

-- white space and the byte c are passed, before any text
record NextAt (c : ℕ) (mid rest : List ℕ) : Type 0 where
  prefix : List ℕ
  split : Split mid prefix rest
  some : 0 < length prefix
  ends : (any : List ℕ) → is_end (prefix ++ any) ≡ true
  read : (p : Place) (any : List ℕ) → tokens_from p (prefix ++ any) ≡ tokens_from p (c ∷ any)

-- a byte that ends what a value is in, or parts it
pub record Delimiter (c : ℕ) : Type 0 where
  pub small : c < 128
  pub operates : is_operator c ≡ true
  pub solid : is_white c ≡ false
  pub no_colon : (c == 58) ≡ false

next_at : (c : ℕ) (mid rest : List ℕ) → Delimiter c → beyond_white mid ≡ c ∷ rest → NextAt c mid rest
unfolding beyond_all
next_at c mid rest m e =
    let w = white_passed mid in
    let regroup : (any : List ℕ) → (w.prefix ++ c ∷ []) ++ any ≡ w.prefix ++ c ∷ any = λ any. append_assoc w.prefix (c ∷ []) any in
    record {
      prefix = w.prefix ++ c ∷ [];
      split = split_then mid (c ∷ rest) rest w.prefix (c ∷ []) (subst (Split mid w.prefix) e w.split) (split_one c rest m.small);
      some = omega (arith, length-append w.prefix (c ∷ []));
      ends = λ any. ap is_end (regroup any) ∙ and_from _ _ (w.ends (c ∷ any) (rw m.operates refl))
          (ap (λ l. not (begins (λ b. b == 58) l)) (w.stays (c ∷ any)) ∙ rw (m.solid, m.no_colon) refl);
      read = λ p any. ap (tokens_from p) (regroup any) ∙ ap (punctuate p) (w.skips (c ∷ any));
    }

comma_delimiter : Delimiter 44
comma_delimiter = record { small = omega arith; operates = refl; solid = refl; no_colon = refl }

next_closes : (c : ℕ) (mid rest : List ℕ) → beyond_white mid ≡ c ∷ rest → beyond_next (λ b. b == c) mid ≡ Ok (false, rest)
unfolding beyond_next
next_closes c mid rest e = rw (e, eq-eqb c c refl) refl

next_comma : (c : ℕ) (mid rest : List ℕ) → beyond_white mid ≡ 44 ∷ rest → (44 == c) ≡ false → beyond_next (λ b. b == c) mid ≡ Ok (true, rest)
unfolding beyond_next beyond_word
next_comma c mid rest e f = rw (e, f) refl

next_none : (c : ℕ) (mid : List ℕ) → begins (λ b. b == c) (beyond_white mid) ≡ false → begins (λ b. b == 44) (beyond_white mid) ≡ false
    → beyond_next (λ b. b == c) mid ≡ syntax_at (beyond_white mid)
unfolding beyond_next beyond_word
next_none c mid e f = rw (e, f) refl

-- ---- parts in brackets, up to the closing byte c, whose token is t

-- the parts of a list are no higher than the level
abbrev pub Low : {J : Type 0} → (J → ℕ) → ℕ → List J → Type 0
Low height level [] = Unit {0}
Low height level (j ∷ js) = (height j ≤ level) × Low height level js

-- the tokens of parts, and the closing one
abbrev pub flat : {J : Type 0} → (J → List Token) → Token → List J → List Token
flat spell t [] = t ∷ []
flat spell t (j ∷ js) = spell j ++ flat spell t js

-- `NoParts` says of tokens that no parts and closing token come next
abbrev pub PartFails : ℕ → (List Token → Type 0) → List ℕ → Type 0
PartFails c NoParts text = (p : Place) → may_begin p ≡ true → Opens c p text → NoParts (tokens_from p text)

-- a part that is passed is one; else no parts are here
abbrev pub MeetsPart : {J : Type 0} → ℕ → (List Token → Type 0) → (J → List Token) → (J → ℕ) → (List ℕ → J → Type 0) → ℕ → List ℕ → Beyond → Type 0
MeetsPart c NoParts spell height Q level text (Ok mid) = Passed spell height Q level text mid ⊎ ((is_end mid ≡ false) × PartFails c NoParts text)
MeetsPart c NoParts spell height Q level text (Err stop) = PartFails c NoParts text

-- parts up to the closing byte, which are the same before any text
pub record Parts {J : Type 0} (spell : J → List Token) (height : J → ℕ) (Q : List ℕ → J → Type 0) (level : ℕ) (t : Token) (text rest : List ℕ) (parts : List (List ℕ)) : Type 0 where
  pub prefix : List ℕ
  pub list : List J
  pub split : Split text prefix rest
  pub low : Low height level list
  pub read : (p : Place) → may_begin p ≡ true → (any : List ℕ) → tokens_from p (prefix ++ any) ≡ flat spell t list ++ tokens_from after_value any
  pub means : IsUtf8 text → Pairs Q parts list

module _ {J : Type 0} (c : ℕ) (t : Token) (NoParts : List Token → Type 0) (spell : J → List Token) (height : J → ℕ) (Q : List ℕ → J → Type 0) (level : ℕ) (part : List ℕ → Beyond)
    (delimiter : Delimiter c) (other : (44 == c) ≡ false) (closes : (p : Place) → may_close p ≡ true → (any : List ℕ) → tokens_from p (c ∷ any) ≡ t ∷ tokens_from after_value any)
    (stuck : (ts : List Token) → Stuck c ts → NoParts ts) (more : (j : J) (ts : List Token) → height j ≤ level → NoParts ts → NoParts (spell j ++ ts))
    (meets : (text : List ℕ) → MeetsPart c NoParts spell height Q level text (part text)) where
  -- parts that are passed are parts; else there are none here
  abbrev pub MeetsParts : List ℕ → List (List ℕ) → Beyond → Type 0
  MeetsParts text parts (Ok rest) = Parts spell height Q level t text rest parts
  MeetsParts text parts (Err stop) = PartFails c NoParts text

  -- a part, and what follows it
  module _ (text mid : List ℕ) (a : Passed spell height Q level text mid) where
    before : (p : Place) → may_begin p ≡ true → NoParts (tokens_from after_value mid) → NoParts (tokens_from p text)
    before p may none = subst NoParts (sym (ap (tokens_from p) a.split.0 ∙ a.read p may mid a.here)) (more a.value _ a.shallow none)

    no_more : begins (λ b. b == c) (beyond_white mid) ≡ false → begins (λ b. b == 44) (beyond_white mid) ≡ false → PartFails c NoParts text
    no_more e f p may opens = before p may (stuck _ (subst (Stuck c) (sym (white_tokens after_value mid)) (after_stuck c (beyond_white mid) (white_stops mid) e f)))

    module _ (rest : List ℕ) where
      last : beyond_white mid ≡ c ∷ rest → Parts spell height Q level t text rest (text ∷ [])
      last e =
          let n = next_at c mid rest delimiter e in
          record {
            prefix = a.prefix ++ n.prefix;
            list = a.value ∷ [];
            split = split_then text mid rest a.prefix n.prefix a.split n.split;
            low = (a.shallow, tt);
            read = λ p may any. ap (tokens_from p) (append_assoc a.prefix n.prefix any) ∙ a.read p may (n.prefix ++ any) (a.ends _ (n.ends any))
                ∙ ap (λ ts. spell a.value ++ ts) (n.read after_value any ∙ closes after_value refl any) ∙ sym (append_assoc (spell a.value) (t ∷ []) (tokens_from after_value any));
            means = λ u. (a.means u, tt);
          }

      then_more : beyond_white mid ≡ 44 ∷ rest → (parts : List (List ℕ)) (r : Beyond) → MeetsParts rest parts r → MeetsParts text (text ∷ parts) r
      unfolding lex punctuate
      then_more e parts (Err stop) h = λ p may opens. before p may (subst NoParts (sym (ap (tokens_from after_value) n.split.0 ∙ n.read after_value rest))
          (h after_comma refl (λ closing. absurd (false≢true closing))))
        where
          n : NextAt 44 mid rest
          n = next_at 44 mid rest comma_delimiter e
      then_more e parts (Ok end) h =
          let n = next_at 44 mid rest comma_delimiter e in
          let prefix = a.prefix ++ n.prefix in
          record {
            prefix = prefix ++ h.prefix;
            list = a.value ∷ h.list;
            split = split_then text rest end prefix h.prefix (split_then text mid rest a.prefix n.prefix a.split n.split) h.split;
            low = (a.shallow, h.low);
            read = λ p may any. ap (tokens_from p) (append_assoc prefix h.prefix any ∙ append_assoc a.prefix n.prefix (h.prefix ++ any))
                ∙ a.read p may (n.prefix ++ (h.prefix ++ any)) (a.ends _ (n.ends (h.prefix ++ any)))
                ∙ ap (λ ts. spell a.value ++ ts) (n.read after_value (h.prefix ++ any) ∙ h.read after_comma refl any)
                ∙ sym (append_assoc (spell a.value) (flat spell t h.list) (tokens_from after_value any));
            means = λ u. (let v = (split_then text mid rest a.prefix n.prefix a.split n.split).1 u in (a.means u, h.means v.1));
          }

  shorter : (text mid rest : List ℕ) (a : Passed spell height Q level text mid) → beyond_white mid ≡ 44 ∷ rest → length rest < length text
  shorter text mid rest a e =
      let n = next_at 44 mid rest comma_delimiter e in
      omega (arith, a.some, n.some, ap length a.split.0, ap length n.split.0, length-append a.prefix mid, length-append n.prefix rest)

  parts_meet : (k : ℕ) (text : List ℕ) → length text < k → MeetsParts text (parts_from (λ b. b == c) part k text) (beyond_parts (λ b. b == c) part k text)
  unfolding parts_from beyond_parts
  parts_meet zero text lt = absurd (omega (arith, lt))
  parts_meet (suc k) text lt = go (parts_meet k) (part text) (meets text)
    where
      Goal : Beyond → Type 0
      Goal r = MeetsParts text (text ∷ parts_after (parts_from (λ b. b == c) part k) (r >>= beyond_next (λ b. b == c)))
          ((r >>= beyond_next (λ b. b == c)) >>= λ next. if next.0 then beyond_parts (λ b. b == c) part k next.1 else Ok next.1)

      Rest : Type 0
      Rest = (rest : List ℕ) → length rest < k → MeetsParts rest (parts_from (λ b. b == c) part k rest) (beyond_parts (λ b. b == c) part k rest)

      of_byte : Rest → (mid : List ℕ) → Passed spell height Q level text mid → (x : ℕ) (rest : List ℕ) → beyond_white mid ≡ x ∷ rest
          → (b d : Bool) → (x == c) ≡ b → (x == 44) ≡ d → Goal (Ok mid)
      of_byte more mid a x rest e true d f g = let at = e ∙ ap (λ y. y ∷ rest) (eqb-true x c f) in rw (next_closes c mid rest at) (last text mid a rest at)
      of_byte more mid a x rest e false true f g = let at = e ∙ ap (λ y. y ∷ rest) (eqb-true x 44 g) in
          rw (next_comma c mid rest at other) (then_more text mid a rest at _ _ (more rest (omega (arith, lt, shorter text mid rest a at))))
      of_byte more mid a x rest e false false f g =
          let p : begins (λ b. b == c) (beyond_white mid) ≡ false = rw e f in
          let q : begins (λ b. b == 44) (beyond_white mid) ≡ false = rw e g in
          rw (next_none c mid p q) (no_more text mid a p q)

      of_passed : Rest → (mid : List ℕ) → Passed spell height Q level text mid → (w : List ℕ) → beyond_white mid ≡ w → Goal (Ok mid)
      of_passed more mid a [] e =
          let p : begins (λ b. b == c) (beyond_white mid) ≡ false = rw e refl in
          let q : begins (λ b. b == 44) (beyond_white mid) ≡ false = rw e refl in
          rw (next_none c mid p q) (no_more text mid a p q)
      of_passed more mid a (x ∷ rest) e = of_byte more mid a x rest e (x == c) (x == 44) refl refl

      not_here : (mid rest : List ℕ) (b : ℕ) → Delimiter b → is_end mid ≡ false → beyond_white mid ≡ b ∷ rest → ⊥
      not_here mid rest b m e at = let n = next_at b mid rest m at in true≢false (sym (ap is_end n.split.0 ∙ n.ends rest) ∙ e)

      of_wrong : (mid : List ℕ) → is_end mid ≡ false → PartFails c NoParts text → (w : List ℕ) → beyond_white mid ≡ w → Goal (Ok mid)
      of_wrong mid e h [] at = rw (next_none c mid (rw at refl) (rw at refl)) h
      of_wrong mid e h (x ∷ rest) at = by_tests (x == c) (x == 44) refl refl
        where
          by_tests : (b d : Bool) → (x == c) ≡ b → (x == 44) ≡ d → Goal (Ok mid)
          by_tests true d f g = absurd (not_here mid rest c delimiter e (at ∙ ap (λ y. y ∷ rest) (eqb-true x c f)))
          by_tests false true f g = absurd (not_here mid rest 44 comma_delimiter e (at ∙ ap (λ y. y ∷ rest) (eqb-true x 44 g)))
          by_tests false false f g = rw (next_none c mid (rw at f) (rw at g)) h

      go : Rest → (r : Beyond) → MeetsPart c NoParts spell height Q level text r → Goal r
      go more (Err stop) h = h
      go more (Ok mid) (inl a) = of_passed more mid a (beyond_white mid) refl
      go more (Ok mid) (inr (e, h)) = of_wrong mid e h (beyond_white mid) refl

  -- what is after the opening bracket
  pub record Group (inside rest : List ℕ) : Type 0 where
    pub prefix : List ℕ
    pub list : List J
    pub split : Split inside prefix rest
    pub low : Low height level list
    pub read : (any : List ℕ) → tokens_from fresh (prefix ++ any) ≡ flat spell t list ++ tokens_from after_value any
    pub means : IsUtf8 inside → Pairs Q (parts_in (λ b. b == c) part inside) list

  -- a group that is passed is one; else no parts are here
  abbrev pub MeetsGroup : List ℕ → Beyond → Type 0
  MeetsGroup inside (Ok rest) = Group inside rest
  MeetsGroup inside (Err stop) = NoParts (tokens_from fresh inside)

  group_open : (inside : List ℕ) → begins (λ b. b == c) (beyond_white inside) ≡ false → (r : Beyond)
      → MeetsParts inside (parts_from (λ b. b == c) part (suc (length inside)) inside) r → MeetsGroup inside r
  unfolding parts_in
  group_open inside e (Err stop) h = h fresh refl (λ may. e)
  group_open inside e (Ok rest) h = record {
    prefix = h.prefix;
    list = h.list;
    split = h.split;
    low = h.low;
    read = λ any. h.read fresh refl any;
    means = λ u. rw e (h.means u);
  }

  group_closed : (inside rest : List ℕ) → beyond_white inside ≡ c ∷ rest → Group inside rest
  unfolding parts_in
  group_closed inside rest e =
      let n = next_at c inside rest delimiter e in
      record {
        prefix = n.prefix;
        list = [];
        split = n.split;
        low = tt;
        read = λ any. n.read fresh any ∙ closes fresh refl any;
        means = λ u. rw (e, eq-eqb c c refl) tt;
      }

  -- the second pass skips the groups that the lexer makes tokens of
  pub group_meets : (inside : List ℕ) → MeetsGroup inside (beyond_group (λ b. b == c) part inside)
  unfolding beyond_group
  group_meets inside = of_white (beyond_white inside) refl
    where
      of_byte : (x : ℕ) (rest : List ℕ) → beyond_white inside ≡ x ∷ rest → (b : Bool) → (x == c) ≡ b → MeetsGroup inside (beyond_group (λ b. b == c) part inside)
      of_byte x rest e true f = let at = e ∙ ap (λ y. y ∷ rest) (eqb-true x c f) in rw (at, eq-eqb c c refl) (group_closed inside rest at)
      of_byte x rest e false f =
          let p : begins (λ b. b == c) (beyond_white inside) ≡ false = rw e f in
          rw p (group_open inside p _ (parts_meet (suc (length inside)) inside (omega arith)))

      of_white : (w : List ℕ) → beyond_white inside ≡ w → MeetsGroup inside (beyond_group (λ b. b == c) part inside)
      of_white [] e =
          let p : begins (λ b. b == c) (beyond_white inside) ≡ false = rw e refl in
          rw p (group_open inside p _ (parts_meet (suc (length inside)) inside (omega arith)))
      of_white (x ∷ rest) e = of_byte x rest e (x == c) refl
