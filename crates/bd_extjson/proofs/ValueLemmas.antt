-- A value that the second pass skips is one that the grammar of the kit reads.
use Rattle.std.proofs.Common.{◌≡◌, ◌<◌, ◌≤◌, ◌==◌, ◌-◌, inl, inr, refl, sym, ap, ap₂, ◌∙◌, subst, ℕ, zero, suc, Bool, true, false, List, [], ◌∷◌, ◌++◌, length, take}
use Rattle.std.proofs.Common.{Option, Some, None, Ok, Err, arith}
use Rattle.std.proofs.Common.{append_assoc, append-nil, length-append}
use Rattle.json.specs.Find.{as_str}
use Rattle.std.specs.Prelude.{option_and_then, option_map, unwrap_or, IsUtf8, if◌then◌else◌, codes}
use Rattle.std.specs.Result.{result_ok}
use Rattle.std.proofs.Math.Seq.{take-append_seam}
use Rattle.std.proofs.lemmas.Bool.{eqb-true, false≢true, true≢false}
use Rattle.std.proofs.lemmas.Str.{is_utf8-from_IsUtf8}
use Rattle.json.specs.Word.{word}
use Rattle.json.specs.Text.{content, plain}
use Rattle.json.specs.Token.{Token}
use Rattle.json.specs.Token as tokens
use Rattle.json.specs.Lex.{Lexeme, token, comma, colon, between, in_word, in_string, lex, Place, fresh, after_value, after_comma, after_key, punctuate, may_begin}
use Rattle.json.specs.Lex.{may_close, begins_colon, string_token}
use Rattle.json.specs.Json as kit
use Rattle.json.specs.Json.{Json, value, items, members, after_end_array, read_key, parse_map, if_last}
use Rattle.json.specs.Tree.{depth, json_tokens, items_tokens, members_tokens, items_depth, members_depth}
use Rattle.json.proofs.Found.{not_found}
use Rattle.json.proofs.Grammar.{items_fail, items_more, members_no_key, members_fail, members_more}
use Rattle.json.proofs.Printed.Trees.{value-json_tokens}
use Rattle.bd_value.specs.Limits.{most_brackets}
use Rattle.bd_extjson_fault.specs.JsonSyntax.{Beyond, ◌>>=◌, syntax_at, begins, beyond_white, beyond_word, is_white, beyond_string, beyond_name, beyond_array}
use Rattle.bd_extjson_fault.specs.JsonSyntax.{beyond_object, beyond_member, beyond_value, beyond_nested, beyond_unnested, beyond_scalar}
use Rattle.bd_extjson_fault.specs.TreeFault.{unquoted, quoted_name, json_in, bytes_before}
use Rattle.bd_extjson.proofs.ByteLemmas.{tokens_from, colon_next, cases_byte, Split, split_then, split_one, split_ascii, white_passed, white_tokens, white_stops}
use Rattle.bd_extjson.proofs.ByteLemmas.{}
use Rattle.bd_extjson.proofs.StringLemmas.{MeetsString, StringAt, string_meets}
use Rattle.bd_extjson.proofs.ScalarLemmas.{Fails, Meets, Member, Shape, items_of, members_of, value_bad, value_nil, value_end, scalar_meets}
use Rattle.bd_extjson.proofs.PartLemmas.{Delimiter, Low, flat, Opens, Stuck, PartFails, MeetsPart, MeetsGroup, group_meets, no_end, no_key_here, IsWord, word_word}

-- ---- arrays

array_closes : (p : Place) → may_close p ≡ true → (any : List ℕ) → tokens_from p (93 ∷ any) ≡ tokens.end_array ∷ tokens_from after_value any
unfolding lex punctuate
array_closes fresh may any = refl
array_closes after_value may any = refl
array_closes after_comma may any = absurd (false≢true may)
array_closes after_key may any = absurd (false≢true may)

array_delimiter : Delimiter 93
array_delimiter = record { small = omega arith; operates = refl; solid = refl; no_colon = refl }

object_closes : (p : Place) → may_close p ≡ true → (any : List ℕ) → tokens_from p (125 ∷ any) ≡ tokens.end_object ∷ tokens_from after_value any
unfolding lex punctuate
object_closes fresh may any = refl
object_closes after_value may any = refl
object_closes after_comma may any = absurd (false≢true may)
object_closes after_key may any = absurd (false≢true may)

object_delimiter : Delimiter 125
object_delimiter = record { small = omega arith; operates = refl; solid = refl; no_colon = refl }

-- the grammar reads no items of an array here
abbrev NoItems : ℕ → List Token → Type 0
NoItems level ts = (n : ℕ) → items (value level) n ts ≡ None

-- the grammar reads no members of an object here
abbrev NoMembers : ℕ → List Token → Type 0
NoMembers level ts = (n : ℕ) → members (value level) n ts ≡ None

stuck_items : (level : ℕ) (ts : List Token) → Stuck 93 ts → NoItems level ts
stuck_items level [] s n = items_fail (value level) n [] refl (value_nil level)
stuck_items level (tokens.bad ∷ ts) s n = items_fail (value level) n (tokens.bad ∷ ts) refl (value_bad level ts)
stuck_items level (tokens.end_object ∷ ts) s n = items_fail (value level) n (tokens.end_object ∷ ts) refl (value_end level tokens.end_object ts (inl refl))
stuck_items level (tokens.end_array ∷ ts) s n = absurd (true≢false s)
stuck_items level (tokens.begin_object ∷ ts) s n = absurd s
stuck_items level (tokens.begin_array ∷ ts) s n = absurd s
stuck_items level (tokens.key k ∷ ts) s n = absurd s
stuck_items level (tokens.string k ∷ ts) s n = absurd s
stuck_items level (tokens.number k ∷ ts) s n = absurd s
stuck_items level (tokens.boolean b ∷ ts) s n = absurd s
stuck_items level (tokens.null ∷ ts) s n = absurd s

stuck_key : (ts : List Token) → Stuck 125 ts → read_key ts ≡ None
stuck_key [] s = refl
stuck_key (tokens.bad ∷ ts) s = refl
stuck_key (tokens.end_object ∷ ts) s = absurd (true≢false s)
stuck_key (tokens.end_array ∷ ts) s = refl
stuck_key (tokens.begin_object ∷ ts) s = absurd s
stuck_key (tokens.begin_array ∷ ts) s = absurd s
stuck_key (tokens.key k ∷ ts) s = absurd s
stuck_key (tokens.string k ∷ ts) s = absurd s
stuck_key (tokens.number k ∷ ts) s = absurd s
stuck_key (tokens.boolean b ∷ ts) s = absurd s
stuck_key (tokens.null ∷ ts) s = absurd s

begins_no_end : (j : Json) (ts : List Token) → after_end_array (json_tokens j ++ ts) ≡ None
begins_no_end kit.null ts = refl
begins_no_end (kit.boolean b) ts = refl
begins_no_end (kit.number s) ts = refl
begins_no_end (kit.string s) ts = refl
begins_no_end (kit.array js) ts = refl
begins_no_end (kit.object ms) ts = refl

more_items : (level : ℕ) (j : Json) (ts : List Token) → depth j ≤ level → NoItems level ts → NoItems level (json_tokens j ++ ts)
unfolding items
more_items level j ts low none zero = refl
more_items level j ts low none (suc n) =
    items_more (value level) (suc n) (json_tokens j ++ ts) ts j (omega arith) (begins_no_end j ts) (value-json_tokens j level ts low)
    ∙ ap (parse_map (kit.item j)) (none (suc n - 1))

-- a member's tokens
abbrev member_spell : List ℕ × Json → List Token
member_spell m = tokens.key m.0 ∷ json_tokens m.1

-- how many brackets are inside a member
abbrev member_height : List ℕ × Json → ℕ
member_height m = depth m.1

more_members : (level : ℕ) (m : List ℕ × Json) (ts : List Token) → member_height m ≤ level → NoMembers level ts → NoMembers level (member_spell m ++ ts)
unfolding members
more_members level m ts low none zero = refl
more_members level m ts low none (suc n) =
    members_more (value level) (suc n) m.0 (member_spell m ++ ts) (json_tokens m.1 ++ ts) ts m.1 (omega arith) refl (value-json_tokens m.1 level ts low)
    ∙ ap (parse_map (kit.member m.0 m.1)) (none (suc n - 1))

flat_items : (list : List Json) → items_tokens (items_of list) ≡ flat json_tokens tokens.end_array list
flat_items [] = refl
flat_items (j ∷ list) = ap (λ ts. json_tokens j ++ ts) (flat_items list)

flat_members : (list : List (List ℕ × Json)) → members_tokens (members_of list) ≡ flat member_spell tokens.end_object list
flat_members [] = refl
flat_members (m ∷ list) = ap (λ ts. member_spell m ++ ts) (flat_members list)

low_items : (level : ℕ) (list : List Json) → Low depth level list → items_depth (items_of list) ≤ level
low_items level [] low = omega arith
low_items level (j ∷ list) low = omega (arith, low.0, low_items level list low.1)

low_members : (level : ℕ) (list : List (List ℕ × Json)) → Low member_height level list → members_depth (members_of list) ≤ level
low_members level [] low = omega arith
low_members level (m ∷ list) low = omega (arith, low.0, low_members level list low.1)

-- ---- names

-- a name with its colon, which is the same before any text
record NameAt (text rest : List ℕ) : Type 0 where
  prefix : List ℕ
  name : List ℕ
  split : Split text prefix rest
  some : 0 < length prefix
  read : (p : Place) → may_begin p ≡ true → (any : List ℕ) → tokens_from p (prefix ++ any) ≡ tokens.key name ∷ tokens_from fresh any
  quoted : IsUtf8 text → unquoted (quoted_name text) ≡ name

-- a name that is passed is one; else no key comes next
abbrev MeetsName : List ℕ → Beyond → Type 0
MeetsName text (Ok rest) = NameAt text rest
MeetsName text (Err stop) = (p : Place) → may_begin p ≡ true → Opens 125 p text → read_key (tokens_from p text) ≡ None

bad_key : (p : Place) (ls : List Lexeme) → read_key (punctuate p (token tokens.bad ∷ ls)) ≡ None
unfolding punctuate
bad_key fresh ls = refl
bad_key after_value ls = refl
bad_key after_comma ls = refl
bad_key after_key ls = refl

string_key : (p : Place) → may_begin p ≡ true → (s : List ℕ) (ls : List Lexeme) → begins_colon ls ≡ false → read_key (punctuate p (token (tokens.string s) ∷ ls)) ≡ None
unfolding punctuate
string_key fresh may s ls e = rw e refl
string_key after_comma may s ls e = rw e refl
string_key after_value may s ls e = absurd (false≢true may)
string_key after_key may s ls e = absurd (false≢true may)

key_here : (p : Place) → may_begin p ≡ true → (s : List ℕ) (ls : List Lexeme) → punctuate p (token (tokens.string s) ∷ colon ∷ ls) ≡ tokens.key s ∷ punctuate fresh ls
unfolding punctuate
key_here fresh may s ls = refl
key_here after_comma may s ls = refl
key_here after_value may s ls = absurd (false≢true may)
key_here after_key may s ls = absurd (false≢true may)

-- bytes whose tokens are those of a value are that value
pub json_alone : (bytes : List ℕ) (j : Json) (rest ts : List Token) → IsUtf8 bytes → tokens_from fresh bytes ≡ ts → value most_brackets ts ≡ Some (j, rest) → json_in bytes ≡ Some j
unfolding json_in
json_alone bytes j rest ts u e v =
    ap (λ b. if b then option_map (λ p. p.0) (value most_brackets (tokens_from fresh bytes)) else None) (is_utf8-from_IsUtf8 bytes u)
    ∙ ap (option_map (λ p. p.0)) (ap (value most_brackets) e ∙ v)

string_alone : (s : List ℕ) → punctuate fresh (token (tokens.string s) ∷ lex between []) ≡ tokens.string s ∷ []
unfolding punctuate lex
string_alone s = refl

-- the bytes of a string, with its quotation marks
module _ (xs rest : List ℕ) (s : StringAt xs rest) where
  lexed : (any : List ℕ) → lex between (34 ∷ ((s.prefix ++ 34 ∷ []) ++ any)) ≡ token (tokens.string s.value) ∷ lex between any
  unfolding lex
  lexed any = ap (λ l. lex between (34 ∷ l)) (append_assoc s.prefix (34 ∷ []) any) ∙ ap₂ (λ o ls. token (string_token o) ∷ ls) (s.read any) (s.skips any)

  quotes_split : Split (34 ∷ xs) (34 ∷ (s.prefix ++ 34 ∷ [])) rest
  quotes_split = split_ascii (34 ∷ xs) (34 ∷ s.prefix) rest 34 (omega arith) (ap (λ l. 34 ∷ l) s.whole)

  alone : IsUtf8 (34 ∷ (s.prefix ++ 34 ∷ [])) → unquoted (34 ∷ (s.prefix ++ 34 ∷ [])) ≡ s.value
  alone u = ap (λ j. unwrap_or (option_and_then as_str j) []) (json_alone (34 ∷ (s.prefix ++ 34 ∷ [])) (kit.string s.value) [] (tokens.string s.value ∷ []) u
      (ap (λ l. tokens_from fresh (34 ∷ l)) (sym (append-nil (s.prefix ++ 34 ∷ []))) ∙ ap (punctuate fresh) (lexed []) ∙ string_alone s.value)
      (value-json_tokens (kit.string s.value) most_brackets [] (omega arith)))

  bytes_here : bytes_before rest (34 ∷ xs) ≡ 34 ∷ (s.prefix ++ 34 ∷ [])
  bytes_here =
      let q = 34 ∷ (s.prefix ++ 34 ∷ []) in
      let long : length (34 ∷ xs) - length rest ≡ length q = omega (arith, ap length quotes_split.0, length-append q rest) in
      ap (λ n. take n (34 ∷ xs)) long ∙ ap (take (length q)) quotes_split.0 ∙ take-append_seam q rest

module _ (text xs : List ℕ) (e : beyond_white text ≡ 34 ∷ xs) where
  -- the tokens from the quotation mark on
  from_quote : (p : Place) → tokens_from p text ≡ tokens_from p (34 ∷ xs)
  from_quote p = white_tokens p text ∙ ap (tokens_from p) e

  no_string : content plain xs ≡ None → (p : Place) → read_key (tokens_from p text) ≡ None
  unfolding lex
  no_string none p = ap read_key (from_quote p ∙ ap (λ o. punctuate p (token (string_token o) ∷ lex in_string xs)) none) ∙ bad_key p (lex in_string xs)

  module _ (mid : List ℕ) (s : StringAt xs mid) where
    no_colon_next : begins (λ b. b == 58) (beyond_white mid) ≡ false → (p : Place) → may_begin p ≡ true → read_key (tokens_from p text) ≡ None
    no_colon_next none p may = ap read_key (from_quote p ∙ ap (tokens_from p) (quotes_split xs mid s).0 ∙ ap (punctuate p) (lexed xs mid s mid))
        ∙ string_key p may s.value (lex between mid) (colon_next mid ∙ none)

    named : (rest : List ℕ) → beyond_string xs ≡ Ok mid → beyond_white mid ≡ 58 ∷ rest → NameAt text rest
    unfolding quoted_name lex beyond_word
    named rest is at =
        let w = white_passed text in
        let v = white_passed mid in
        let q = 34 ∷ (s.prefix ++ 34 ∷ []) in
        let c = v.prefix ++ 58 ∷ [] in
        let first : Split text w.prefix (34 ∷ xs) = subst (Split text w.prefix) e w.split in
        let last : Split mid c rest = split_then mid (58 ∷ rest) rest v.prefix (58 ∷ []) (subst (Split mid v.prefix) at v.split) (split_one 58 rest (omega arith)) in
        record {
          prefix = w.prefix ++ (q ++ c);
          name = s.value;
          split = split_then text (34 ∷ xs) rest w.prefix (q ++ c) first (split_then (34 ∷ xs) mid rest q c (quotes_split xs mid s) last);
          some = omega (arith, length-append w.prefix (q ++ c));
          read = λ p may any. ap (punctuate p) (ap (lex between) (append_assoc w.prefix (q ++ c) any) ∙ w.skips ((q ++ c) ++ any) ∙ ap (lex between) (append_assoc q c any)
              ∙ lexed xs mid s (c ++ any) ∙ ap (λ ls. token (tokens.string s.value) ∷ ls) (ap (lex between) (append_assoc v.prefix (58 ∷ []) any) ∙ v.skips (58 ∷ any)))
              ∙ key_here p may s.value (lex between any);
          quoted = λ u. rw (e, is) (ap unquoted (bytes_here xs mid s) ∙ alone xs mid s ((quotes_split xs mid s).1 (first.1 u).1).0);
        }

    of_colon : beyond_string xs ≡ Ok mid → (w : List ℕ) → beyond_white mid ≡ w → MeetsName text (beyond_word (codes ":") w)
    unfolding beyond_word
    of_colon is [] at = λ p may opens. no_colon_next (rw at refl) p may
    of_colon is (x ∷ rest) at = by_test (x == 58) refl
      where
        by_test : (b : Bool) → (x == 58) ≡ b → MeetsName text (if b then Ok rest else syntax_at (x ∷ rest))
        by_test true f = named rest is (at ∙ ap (λ y. y ∷ rest) (eqb-true x 58 f))
        by_test false f = λ p may opens. no_colon_next (rw at f) p may

  of_string : (r : Beyond) → beyond_string xs ≡ r → MeetsString xs r → MeetsName text (r >>= λ rest. beyond_word (codes ":") (beyond_white rest))
  of_string (Err stop) is h = λ p may opens. no_string h p
  of_string (Ok mid) is s = of_colon mid s is (beyond_white mid) refl

name_meets : (text : List ℕ) → MeetsName text (beyond_name text)
unfolding beyond_name beyond_word
name_meets text = of_white (beyond_white text) refl
  where
    no_name : begins (λ b. b == 34) (beyond_white text) ≡ false → (p : Place) → may_begin p ≡ true → Opens 125 p text → read_key (tokens_from p text) ≡ None
    no_name q p may opens = ap read_key (white_tokens p text) ∙ no_key_here p may (beyond_white text) (white_stops text) q opens

    by_test : (x : ℕ) (xs : List ℕ) → beyond_white text ≡ x ∷ xs → (b : Bool) → (x == 34) ≡ b
        → MeetsName text (((if b then Ok xs else syntax_at (x ∷ xs)) >>= beyond_string) >>= λ rest. beyond_word (codes ":") (beyond_white rest))
    by_test x xs e true f = of_string text xs (e ∙ ap (λ y. y ∷ xs) (eqb-true x 34 f)) (beyond_string xs) refl (string_meets xs)
    by_test x xs e false f = no_name (rw e f)

    of_white : (w : List ℕ) → beyond_white text ≡ w → MeetsName text ((beyond_word (codes "\"") w >>= beyond_string) >>= λ rest. beyond_word (codes ":") (beyond_white rest))
    of_white [] e = no_name (rw e refl)
    of_white (x ∷ xs) e = by_test x xs e (x == 34) refl

bracket : (p : Place) → may_begin p ≡ true → (inside : List ℕ) → tokens_from p (91 ∷ inside) ≡ tokens.begin_array ∷ tokens_from fresh inside
unfolding lex punctuate
bracket fresh may inside = refl
bracket after_comma may inside = refl
bracket after_value may inside = absurd (false≢true may)
bracket after_key may inside = absurd (false≢true may)

brace : (p : Place) → may_begin p ≡ true → (inside : List ℕ) → tokens_from p (123 ∷ inside) ≡ tokens.begin_object ∷ tokens_from fresh inside
unfolding lex punctuate
brace fresh may inside = refl
brace after_comma may inside = refl
brace after_value may inside = absurd (false≢true may)
brace after_key may inside = absurd (false≢true may)

-- no token is after a value at which the text ends
pub after_none : tokens_from after_value [] ≡ []
unfolding lex punctuate
after_none = refl

-- ---- a value in which brackets hold such values

module _ (P : List ℕ → Json → Type 0) (level : ℕ) (part : List ℕ → Beyond) (meets : (text : List ℕ) → Meets P level text (part text)) where
  item_meets : (text : List ℕ) → MeetsPart 93 (NoItems level) json_tokens depth P level text (part text)
  item_meets text = go (part text) (meets text)
    where
      fails : Fails level text → PartFails 93 (NoItems level) text
      fails h p may opens n = items_fail (value level) n (tokens_from p text) (no_end p text may opens) (h p may)

      go : (r : Beyond) → Meets P level text r → MeetsPart 93 (NoItems level) json_tokens depth P level text r
      go (Err stop) h = fails h
      go (Ok mid) (inl a) = inl a
      go (Ok mid) (inr (e, h)) = inr (e, fails h)

  member_meets : (text : List ℕ) → MeetsPart 125 (NoMembers level) member_spell member_height (Member P) level text (beyond_member part text)
  member_meets text = of_name (beyond_name text) refl (name_meets text)
    where
      Goal : Beyond → Type 0
      Goal r = MeetsPart 125 (NoMembers level) member_spell member_height (Member P) level text r

      fails : (after : List ℕ) → NameAt text after → Fails level after → PartFails 125 (NoMembers level) text
      fails after a h p may opens n = members_fail (value level) n a.name (tokens_from p text) (tokens_from fresh after)
          (ap read_key (ap (tokens_from p) a.split.0 ∙ a.read p may after)) (h fresh refl)

      of_value : (after : List ℕ) → beyond_name text ≡ Ok after → NameAt text after → (r : Beyond) → Meets P level after r → Goal r
      of_value after is a (Err stop) h = fails after a h
      of_value after is a (Ok mid) (inr (e, h)) = inr (e, fails after a h)
      of_value after is a (Ok mid) (inl v) = inl (record {
        prefix = a.prefix ++ v.prefix;
        value = (a.name, v.value);
        split = split_then text after mid a.prefix v.prefix a.split v.split;
        some = omega (arith, a.some, length-append a.prefix v.prefix);
        shallow = v.shallow;
        follows = v.follows;
        here = v.here;
        ends = v.ends;
        read = λ p may any f. ap (tokens_from p) (append_assoc a.prefix v.prefix any) ∙ a.read p may (v.prefix ++ any)
            ∙ ap (λ ts. tokens.key a.name ∷ ts) (v.read fresh refl any f);
        means = λ u. (a.quoted u, (after, is, v.means (a.split.1 u).1));
      })

      of_name : (r : Beyond) → beyond_name text ≡ r → MeetsName text r → Goal (r >>= part)
      of_name (Err stop) is h = λ p may opens n. members_no_key (value level) n (tokens_from p text) (h p may opens)
      of_name (Ok after) is a = of_value after is a (part after) (meets after)

  abbrev S : List ℕ → Json → Type 0
  S = Shape P part

  array_meets : (inside : List ℕ) → Meets S (suc level) (91 ∷ inside) (beyond_array part inside)
  unfolding value
  array_meets inside = go (beyond_array part inside)
      (group_meets 93 tokens.end_array (NoItems level) json_tokens depth P level part array_delimiter refl array_closes (stuck_items level) (more_items level) item_meets inside)
    where
      go : (r : Beyond)
          → MeetsGroup 93 tokens.end_array (NoItems level) json_tokens depth P level part array_delimiter refl array_closes (stuck_items level) (more_items level) item_meets inside r
          → Meets S (suc level) (91 ∷ inside) r
      go (Err stop) h = λ p may. ap (value (suc level)) (bracket p may inside) ∙ ap (parse_map kit.array) (h (length (tokens_from fresh inside)))
      go (Ok rest) g = inl (record {
        prefix = 91 ∷ g.prefix;
        value = kit.array (items_of g.list);
        split = split_then (91 ∷ inside) inside rest (91 ∷ []) g.prefix (split_one 91 inside (omega arith)) g.split;
        some = omega arith;
        shallow = omega (arith, low_items level g.list g.low);
        follows = λ any. true;
        here = refl;
        ends = λ any f. refl;
        read = λ p may any f. bracket p may (g.prefix ++ any)
            ∙ ap (λ ts. tokens.begin_array ∷ ts) (g.read any ∙ ap (λ ts. ts ++ tokens_from after_value any) (sym (flat_items g.list)));
        means = λ u. record { inside = inside; opens = refl; list = g.list; same = refl; are = g.means ((split_one 91 inside (omega arith)).1 u).1 };
      })

  object_meets : (inside : List ℕ) → Meets S (suc level) (123 ∷ inside) (beyond_object part inside)
  unfolding value
  object_meets inside = go (beyond_object part inside) refl
      (group_meets 125 tokens.end_object (NoMembers level) member_spell member_height (Member P) level (beyond_member part) object_delimiter refl object_closes
      (λ ts s n. members_no_key (value level) n ts (stuck_key ts s)) (more_members level) member_meets inside)
    where
      go : (r : Beyond) → beyond_object part inside ≡ r
          → MeetsGroup 125 tokens.end_object (NoMembers level) member_spell member_height (Member P) level (beyond_member part) object_delimiter refl object_closes
          (λ ts s n. members_no_key (value level) n ts (stuck_key ts s)) (more_members level) member_meets inside r
          → Meets S (suc level) (123 ∷ inside) r
      go (Err stop) is h = λ p may. ap (value (suc level)) (brace p may inside) ∙ ap (parse_map kit.object) (h (length (tokens_from fresh inside)))
      go (Ok rest) is g =
          let split = split_then (123 ∷ inside) inside rest (123 ∷ []) g.prefix (split_one 123 inside (omega arith)) g.split in
          let read : (any : List ℕ) → tokens_from fresh (g.prefix ++ any) ≡ members_tokens (members_of g.list) ++ tokens_from after_value any =
          λ any. g.read any ∙ ap (λ ts. ts ++ tokens_from after_value any) (sym (flat_members g.list)) in
          inl (record {
            prefix = 123 ∷ g.prefix;
            value = kit.object (members_of g.list);
            split = split;
            some = omega arith;
            shallow = omega (arith, low_members level g.list g.low);
            follows = λ any. true;
            here = refl;
            ends = λ any f. refl;
            read = λ p may any f. brace p may (g.prefix ++ any) ∙ ap (λ ts. tokens.begin_object ∷ ts) (read any);
            means = λ u. record {
              inside = inside;
              opens = refl;
              list = g.list;
              same = refl;
              are = g.means ((split_one 123 inside (omega arith)).1 u).1;
              rest = rest;
              passed = is;
              bytes = 123 ∷ g.prefix;
              whole = split.0;
              utf8 = (split.1 u).0;
              alone = brace fresh refl g.prefix ∙ ap (λ ts. tokens.begin_object ∷ ts) (ap (tokens_from fresh) (sym (append-nil g.prefix)) ∙ read []
                  ∙ ap (λ ts. members_tokens (members_of g.list) ++ ts) after_none ∙ append-nil (members_tokens (members_of g.list)));
            };
          })

  nested_meets : (here : List ℕ) → begins is_white here ≡ false → Meets S (suc level) here (beyond_nested part here)
  nested_meets [] w = scalar_meets P part (suc level) [] refl refl refl
  nested_meets (x ∷ xs) w = by_tests (x == 123) (x == 91) refl refl
    where
      by_tests : (o a : Bool) → (x == 123) ≡ o → (x == 91) ≡ a
          → Meets S (suc level) (x ∷ xs) (if o then beyond_object part xs else (if a then beyond_array part xs else beyond_scalar (x ∷ xs)))
      by_tests true a e f = subst (λ y. Meets S (suc level) (y ∷ xs) (beyond_object part xs)) (sym (eqb-true x 123 e)) (object_meets xs)
      by_tests false true e f = subst (λ y. Meets S (suc level) (y ∷ xs) (beyond_array part xs)) (sym (eqb-true x 91 f)) (array_meets xs)
      by_tests false false e f = scalar_meets P part (suc level) (x ∷ xs) w e f

-- where no bracket may open
failed : (P : List ℕ → Json → Type 0) (level : ℕ) (text : List ℕ) (r : Beyond) → result_ok r ≡ None → Fails level text → Meets P level text r
failed P level text (Ok rest) e h = not_found rest (sym e)
failed P level text (Err stop) e h = h

unnested_meets : (P : List ℕ → Json → Type 0) (part : List ℕ → Beyond) (here : List ℕ) → begins is_white here ≡ false → Meets (Shape P part) 0 here (beyond_unnested here)
unfolding value
unnested_meets P part [] w = scalar_meets P part 0 [] refl refl refl
unnested_meets P part (x ∷ xs) w = by_tests (x == 123) (x == 91) refl refl
  where
    by_tests : (o a : Bool) → (x == 123) ≡ o → (x == 91) ≡ a → Meets (Shape P part) 0 (x ∷ xs) (beyond_unnested (x ∷ xs))
    by_tests true a e f = failed (Shape P part) 0 (x ∷ xs) (beyond_unnested (x ∷ xs)) (rw e refl)
        (λ p may. ap (λ y. value 0 (tokens_from p (y ∷ xs))) (eqb-true x 123 e) ∙ ap (value 0) (brace p may xs))
    by_tests false true e f = failed (Shape P part) 0 (x ∷ xs) (beyond_unnested (x ∷ xs)) (rw (e, f) refl)
        (λ p may. ap (λ y. value 0 (tokens_from p (y ∷ xs))) (eqb-true x 91 f) ∙ ap (value 0) (bracket p may xs))
    by_tests false false e f = rw (e, f) (scalar_meets P part 0 (x ∷ xs) w e f)

-- white space before a value
white_meets : (Q R : List ℕ → Json → Type 0) (level : ℕ) (text : List ℕ) (r : Beyond) → ((j : Json) → depth j ≤ level → Q (beyond_white text) j → R text j)
    → Meets Q level (beyond_white text) r → Meets R level text r
white_meets Q R level text r is = go r
  where
    fails : Fails level (beyond_white text) → Fails level text
    fails h p may = ap (value level) (white_tokens p text) ∙ h p may

    go : (r : Beyond) → Meets Q level (beyond_white text) r → Meets R level text r
    go (Err stop) h = fails h
    go (Ok rest) (inr (e, h)) = inr (e, fails h)
    go (Ok rest) (inl a) =
        let w = white_passed text in
        inl (record {
          prefix = w.prefix ++ a.prefix;
          value = a.value;
          split = split_then text (beyond_white text) rest w.prefix a.prefix w.split a.split;
          some = omega (arith, a.some, length-append w.prefix a.prefix);
          shallow = a.shallow;
          follows = a.follows;
          here = a.here;
          ends = a.ends;
          read = λ p may any f. ap (tokens_from p) (append_assoc w.prefix a.prefix any) ∙ ap (punctuate p) (w.skips (a.prefix ++ any)) ∙ a.read p may any f;
          means = λ u. is a.value a.shallow (a.means (w.split.1 u).1);
        })

-- ---- any value, with at most n brackets

module _ (R : ℕ → List ℕ → Json → Type 0) (most : ℕ)
    (flat_is : (P : List ℕ → Json → Type 0) (part : List ℕ → Beyond) (text : List ℕ) (j : Json) → depth j ≤ 0 → Shape P part (beyond_white text) j → R 0 text j)
    (deep_is : (level : ℕ) (text : List ℕ) (j : Json) → suc level ≤ most → depth j ≤ suc level → Shape (R level) (beyond_value level) (beyond_white text) j → R (suc level) text j) where
  pub value_meets : (level : ℕ) → level ≤ most → (text : List ℕ) → Meets (R level) level text (beyond_value level text)
  unfolding beyond_value
  value_meets zero le text =
      white_meets (Shape (λ t j. ⊥) syntax_at) (R 0) 0 text (beyond_unnested (beyond_white text)) (flat_is (λ t j. ⊥) syntax_at text)
      (unnested_meets (λ t j. ⊥) syntax_at (beyond_white text) (white_stops text))
  value_meets (suc level) le text =
      white_meets (Shape (R level) (beyond_value level)) (R (suc level)) (suc level) text (beyond_nested (beyond_value level) (beyond_white text)) (λ j. deep_is level text j le)
      (nested_meets (R level) level (beyond_value level) (value_meets level (omega (arith, le))) (beyond_white text) (white_stops text))

-- ---- text after a value

comma_behind : (j : Json) (ls : List Lexeme) → if_last j (punctuate after_comma ls) ≡ None
unfolding punctuate
comma_behind j [] = refl
comma_behind j (token tokens.begin_object ∷ ls) = refl
comma_behind j (token tokens.end_object ∷ ls) = refl
comma_behind j (token tokens.begin_array ∷ ls) = refl
comma_behind j (token tokens.end_array ∷ ls) = refl
comma_behind j (token (tokens.key s) ∷ ls) = refl
comma_behind j (token (tokens.string s) ∷ ls) = by_colon (begins_colon ls) refl
  where
    by_colon : (b : Bool) → begins_colon ls ≡ b → if_last j (punctuate after_comma (token (tokens.string s) ∷ ls)) ≡ None
    by_colon true e = rw e refl
    by_colon false e = rw e refl
comma_behind j (token (tokens.number s) ∷ ls) = refl
comma_behind j (token (tokens.boolean b) ∷ ls) = refl
comma_behind j (token tokens.null ∷ ls) = refl
comma_behind j (token tokens.bad ∷ ls) = refl
comma_behind j (comma ∷ ls) = refl
comma_behind j (colon ∷ ls) = refl

word_behind : (j : Json) (t : Token) (ls : List Lexeme) → IsWord t → if_last j (punctuate after_value (token t ∷ ls)) ≡ None
unfolding punctuate
word_behind j (tokens.number s) ls w = refl
word_behind j (tokens.boolean b) ls w = refl
word_behind j tokens.null ls w = refl
word_behind j tokens.bad ls w = refl
word_behind j _ ls w = absurd w

string_behind : (j : Json) (o : Option (List ℕ)) (ls : List Lexeme) (b : Bool) → begins_colon ls ≡ b → if_last j (punctuate after_value (token (string_token o) ∷ ls)) ≡ None
unfolding punctuate
string_behind j None ls b e = refl
string_behind j (Some s) ls true e = rw e refl
string_behind j (Some s) ls false e = rw e refl

-- a value is not the last where more than white space comes next
pub some_behind : (j : Json) (x : ℕ) (xs : List ℕ) → is_white x ≡ false → if_last j (tokens_from after_value (x ∷ xs)) ≡ None
unfolding punctuate lex
some_behind j x xs =
    cases_byte Q x (λ w. string_behind j (content plain xs) (lex in_string xs) (begins_colon (lex in_string xs)) refl) (λ w. refl) (λ w. refl) (λ w. refl) (λ w. refl) (λ w. refl)
    (λ w. refl) (λ w. comma_behind j (lex between xs)) (λ white w. absurd (true≢false (sym white ∙ w)))
    (λ o w. rw o.kind (word_behind j (word (x ∷ xs)) (lex in_word xs) (word_word (x ∷ xs))))
  where
    Q : ℕ → Type 0
    Q y = is_white y ≡ false → if_last j (tokens_from after_value (y ∷ xs)) ≡ None
