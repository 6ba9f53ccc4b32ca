-- The text of a value on many lines: what is before and after it makes no difference within it.
use Rattle.std.proofs.Common.{◌≡◌, ℕ, ◌+◌, ◌-◌, ◌/◌, ◌%◌, ◌==◌, ◌<◌, ◌≤◌, Bool, true, false, List, [], ◌∷◌, ◌++◌, length, refl, sym, ap, ap₂, ◌∙◌, subst, append_assoc, append-nil, arith}
use Rattle.std.specs.Prelude.{if◌then◌else◌, nat_lt, ◌||◌, codes}
use Rattle.std.specs.{Char.digit_char, List.list_any, List.join_with_byte}
use Rattle.std.proofs.lemmas.Bool.{or_parts, ltb-true, ltb-false, ne_eqb, le-ltb}
use Rattle.bd_extjson_text.specs.Text.{needs_escape, escape_byte, escaped, quoted, object, listed, member, wrapper_text}
use Rattle.bd_wide_dump.specs.Pretty.{opens, closes, next_place, line_end, gap, laid_out}
use Rattle.bd_wide_dump.specs.declared.pretty.Position.TheVariants.{Outside, Inside}

-- ---- after a byte that ends a value

-- After such a byte is no gap of its own.
pub record IsLast (b : ℕ) : Type 0 where
  pub opens_none : opens b ≡ false
  pub no_comma : (b == 44) ≡ false
  pub no_colon : (b == 58) ≡ false

-- it makes no difference which of these bytes it is
after_last : (n b : ℕ) (text : List ℕ) → IsLast b → laid_out Outside n b text ≡ laid_out Outside n 0 text
after_last n b [] last = refl
after_last n b (x ∷ text) last =
    let o = last.opens_none in
    let m = last.no_comma in
    let l = last.no_colon in
    rw (o, m, l) refl

quote_last : IsLast 34
quote_last = record { opens_none = refl; no_comma = refl; no_colon = refl }

-- ---- strings

-- in a string the byte before makes no difference
in_string : (n a b : ℕ) (text : List ℕ) → laid_out Inside n a text ≡ laid_out Inside n b text
in_string n a b [] = refl
in_string n a b (x ∷ text) = refl

plain_position : (b : ℕ) → needs_escape b ≡ false → next_place Inside b ≡ Inside
plain_position b plain =
    let parts = or_parts (b == 34 || b == 92) (nat_lt b 32) plain in
    let both = or_parts (b == 34) (b == 92) parts.0 in
    rw (both.0, both.1) refl

plain_byte : (n a b : ℕ) (text : List ℕ) → needs_escape b ≡ false → laid_out Inside n a (b ∷ text) ≡ b ∷ laid_out Inside n 34 text
plain_byte n a b text plain = ap (λ p. b ∷ laid_out p n b text) (plain_position b plain) ∙ ap (λ (l : List ℕ). b ∷ l) (in_string n b 34 text)

plain_when : (b : ℕ) → (b ≡ 34 → ⊥) → (b ≡ 92 → ⊥) → 32 ≤ b → needs_escape b ≡ false
plain_when b quote solidus le = rw (ne_eqb b 34 quote, ne_eqb b 92 solidus, le-ltb b 32 le) refl

digit_plain : (d : ℕ) → needs_escape (digit_char d) ≡ false
digit_plain d = elim (nat_lt d 10) as (λ v. nat_lt d 10 ≡ v → needs_escape (if v then 48 + d else 87 + d) ≡ false) [
  | true ↦ λ e. let lt = ltb-true d 10 e in plain_when (48 + d) (λ h. omega arith) (λ h. omega arith) (omega arith)
  | false ↦ λ e. let ge = ltb-false d 10 e in plain_when (87 + d) (λ h. omega arith) (λ h. omega arith) (omega arith)
] refl

-- a byte of a string, with its escape
escape_laid : (n a b : ℕ) (text : List ℕ) → laid_out Inside n a (escape_byte b ++ text) ≡ escape_byte b ++ laid_out Inside n 34 text
unfolding escape_byte
escape_laid n a b text = by (b == 34 || b == 92) (b == 8) (b == 12) (b == 10) (b == 13) (b == 9) (nat_lt b 32) refl refl
  where
    by : (q b8 b12 b10 b13 b9 l : Bool) → (b == 34 || b == 92) ≡ q → nat_lt b 32 ≡ l
        → laid_out Inside n a ((if q then 92 ∷ b ∷ [] else (if b8 then codes "\\b" else (if b12 then codes "\\f" else (if b10 then codes "\\n" else (if b13 then codes "\\r" else (if b9 then codes "\\t"
        else (if l then codes "\\u00" ++ (digit_char (b / 16) ∷ digit_char (b % 16) ∷ []) else b ∷ []))))))) ++ text)
        ≡ (if q then 92 ∷ b ∷ [] else (if b8 then codes "\\b" else (if b12 then codes "\\f" else (if b10 then codes "\\n" else (if b13 then codes "\\r" else (if b9 then codes "\\t"
        else (if l then codes "\\u00" ++ (digit_char (b / 16) ∷ digit_char (b % 16) ∷ []) else b ∷ []))))))) ++ laid_out Inside n 34 text
    by true b8 b12 b10 b13 b9 l e f = ap (λ (x : List ℕ). 92 ∷ b ∷ x) (in_string n b 34 text)
    by false true b12 b10 b13 b9 l e f = ap (λ (x : List ℕ). 92 ∷ 98 ∷ x) (in_string n 98 34 text)
    by false false true b10 b13 b9 l e f = ap (λ (x : List ℕ). 92 ∷ 102 ∷ x) (in_string n 102 34 text)
    by false false false true b13 b9 l e f = ap (λ (x : List ℕ). 92 ∷ 110 ∷ x) (in_string n 110 34 text)
    by false false false false true b9 l e f = ap (λ (x : List ℕ). 92 ∷ 114 ∷ x) (in_string n 114 34 text)
    by false false false false false true l e f = ap (λ (x : List ℕ). 92 ∷ 116 ∷ x) (in_string n 116 34 text)
    by false false false false false false true e f =
        ap (λ (x : List ℕ). 92 ∷ 117 ∷ 48 ∷ 48 ∷ x) (plain_byte n 48 (digit_char (b / 16)) (digit_char (b % 16) ∷ text) (digit_plain (b / 16))
        ∙ ap (λ (x : List ℕ). digit_char (b / 16) ∷ x) (plain_byte n 34 (digit_char (b % 16)) text (digit_plain (b % 16))))
    by false false false false false false false e f = plain_byte n a b text (rw (e, f) refl)

-- the rest of a string and what follows it
string_laid : (n a : ℕ) (s more : List ℕ) → laid_out Inside n a (escaped s ++ 34 ∷ more) ≡ escaped s ++ 34 ∷ laid_out Outside n 0 more
string_laid n a [] more = ap (λ (l : List ℕ). 34 ∷ l) (after_last n 34 more quote_last)
string_laid n a (b ∷ s) more =
    ap (λ (l : List ℕ). laid_out Inside n a l) (append_assoc (escape_byte b) (escaped s) (34 ∷ more)) ∙ escape_laid n a b (escaped s ++ 34 ∷ more)
    ∙ ap (λ (l : List ℕ). escape_byte b ++ l) (string_laid n 34 s more) ∙ sym (append_assoc (escape_byte b) (escaped s) (34 ∷ laid_out Outside n 0 more))

-- ---- texts that end as they begin

-- The text ends outside of strings with as many brackets open as where it begins, and that is its layout, whatever is before and after it.
abbrev pub Lays : ℕ → List ℕ → List ℕ → Type 0
Lays n text laid = (before : ℕ) (more : List ℕ) → laid_out Outside n before (text ++ more) ≡ gap n before 0 ++ (laid ++ laid_out Outside n 0 more)

-- It has such a layout.
abbrev pub IsWhole : List ℕ → Type 0
IsWhole text = (n : ℕ) → Lays n text (laid_out Outside n 0 text)

-- the layout is that of the text alone
pub alone : (n : ℕ) (text laid : List ℕ) → Lays n text laid → laid_out Outside n 0 text ≡ laid
alone n text laid lays = ap (λ (l : List ℕ). laid_out Outside n 0 l) (sym (append-nil text)) ∙ lays 0 [] ∙ append-nil laid

whole : (text : List ℕ) (laid : ℕ → List ℕ) → ((n : ℕ) → Lays n text (laid n)) → IsWhole text
whole text laid lays n = subst (Lays n text) (sym (alone n text (laid n) (lays n))) (lays n)

-- a string
quoted_lays : (n : ℕ) (s : List ℕ) → Lays n (quoted s) (quoted s)
unfolding quoted
quoted_lays n s before more =
    append_assoc (gap n before 0) (34 ∷ []) (laid_out Inside n 34 ((escaped s ++ 34 ∷ []) ++ more))
    ∙ ap (λ (l : List ℕ). gap n before 0 ++ 34 ∷ l) (ap (λ (l : List ℕ). laid_out Inside n 34 l) (append_assoc (escaped s) (34 ∷ []) more)
    ∙ string_laid n 34 s more ∙ sym (append_assoc (escaped s) (34 ∷ []) (laid_out Outside n 0 more)))

pub quoted_alone : (n : ℕ) (s : List ℕ) → laid_out Outside n 0 (quoted s) ≡ quoted s
quoted_alone n s = alone n (quoted s) (quoted s) (quoted_lays n s)

pub quoted_whole : (s : List ℕ) → IsWhole (quoted s)
quoted_whole s = whole (quoted s) (λ n. quoted s) (λ n. quoted_lays n s)

-- ---- tokens that are no strings

-- whether a byte has a meaning of its own in JSON
abbrev pub is_special : ℕ → Bool
is_special b = opens b || (closes b || (b == 44 || (b == 58 || needs_escape b)))

bare_byte : (n before b : ℕ) (text : List ℕ) → is_special b ≡ false → laid_out Outside n before (b ∷ text) ≡ gap n before 0 ++ (b ∷ laid_out Outside n 0 text)
bare_byte n before b text bare =
    let one = or_parts (opens b) (closes b || (b == 44 || (b == 58 || needs_escape b))) bare in
    let two = or_parts (closes b) (b == 44 || (b == 58 || needs_escape b)) one.1 in
    let three = or_parts (b == 44) (b == 58 || needs_escape b) two.1 in
    let four = or_parts (b == 58) (needs_escape b) three.1 in
    let five = or_parts (b == 34 || b == 92) (nat_lt b 32) four.1 in
    let six = or_parts (b == 34) (b == 92) five.0 in
    let last : IsLast b = record { opens_none = one.0; no_comma = three.0; no_colon = four.0 } in
    by (opens b) (closes b) (b == 34) one.0 two.0 six.0 ∙ append_assoc (gap n before 0) (b ∷ []) (laid_out Outside n b text)
    ∙ ap (λ (l : List ℕ). gap n before 0 ++ b ∷ l) (after_last n b text last)
  where
    by : (o c q : Bool) → o ≡ false → c ≡ false → q ≡ false
        → ((if opens before then (if c then [] else line_end n) else (if c then line_end (n - 1) else (if before == 44 then line_end n else (if before == 58 then 32 ∷ [] else [])))) ++ b ∷ [])
        ++ laid_out (if q then Inside else Outside) (if o then n + 1 else (if c then n - 1 else n)) b text
        ≡ (gap n before 0 ++ b ∷ []) ++ laid_out Outside n b text
    by o c q e f g = rw (e, f, g) refl

bare_lays : (n b : ℕ) (text : List ℕ) → list_any is_special (b ∷ text) ≡ false → Lays n (b ∷ text) (b ∷ text)
bare_lays n b [] bare before more = bare_byte n before b more (or_parts (is_special b) false bare).0
bare_lays n b (c ∷ text) bare before more =
    let parts = or_parts (is_special b) (list_any is_special (c ∷ text)) bare in
    bare_byte n before b (c ∷ (text ++ more)) parts.0 ∙ ap (λ (l : List ℕ). gap n before 0 ++ b ∷ l) (bare_lays n c text parts.1 0 more)

-- The text is a token that is no string.
abbrev pub IsBare : List ℕ → Type 0
IsBare text = (0 < length text) × (list_any is_special text ≡ false)

token_lays : (n : ℕ) (text : List ℕ) → IsBare text → Lays n text text
token_lays n [] bare = absurd (omega (arith, bare.0))
token_lays n (b ∷ text) bare = bare_lays n b text bare.1

pub bare_alone : (n : ℕ) (text : List ℕ) → IsBare text → laid_out Outside n 0 text ≡ text
bare_alone n text bare = alone n text text (token_lays n text bare)

pub bare_whole : (text : List ℕ) → IsBare text → IsWhole text
bare_whole text bare = whole text (λ n. text) (λ n. token_lays n text bare)

-- ---- members, objects and arrays

module _ (n : ℕ) (x y : List ℕ) (one : IsWhole x) (two : IsWhole y) where
  comma_lays : Lays n (x ++ 44 ∷ y) (laid_out Outside n 0 x ++ 44 ∷ (line_end n ++ laid_out Outside n 0 y))
  comma_lays before more =
      ap (λ (l : List ℕ). laid_out Outside n before l) (append_assoc x (44 ∷ y) more) ∙ one n before (44 ∷ (y ++ more))
      ∙ ap (λ (l : List ℕ). gap n before 0 ++ (laid_out Outside n 0 x ++ 44 ∷ l)) (two n 44 more)
      ∙ simp append_assoc

  colon_lays : Lays n (x ++ 58 ∷ y) (laid_out Outside n 0 x ++ 58 ∷ 32 ∷ laid_out Outside n 0 y)
  colon_lays before more =
      ap (λ (l : List ℕ). laid_out Outside n before l) (append_assoc x (58 ∷ y) more) ∙ one n before (58 ∷ (y ++ more))
      ∙ ap (λ (l : List ℕ). gap n before 0 ++ (laid_out Outside n 0 x ++ 58 ∷ l)) (two n 58 more)
      ∙ simp append_assoc

-- what brackets around a text add
abbrev pub around : ℕ → ℕ → ℕ → List ℕ → List ℕ
around open_ close n laid = open_ ∷ (line_end (n + 1) ++ (laid ++ (line_end n ++ close ∷ [])))

less : (n : ℕ) → n + 1 - 1 ≡ n
less n = omega arith

module _ (n : ℕ) (text : List ℕ) where
  pub close_object : laid_out Outside (n + 1) 0 (125 ∷ text) ≡ line_end n ++ 125 ∷ laid_out Outside n 0 text
  close_object = rw less (append_assoc (line_end n) (125 ∷ []) (laid_out Outside n 125 text)
      ∙ ap (λ (l : List ℕ). line_end n ++ 125 ∷ l) (after_last n 125 text (record { opens_none = refl; no_comma = refl; no_colon = refl })))

  pub close_array : laid_out Outside (n + 1) 0 (93 ∷ text) ≡ line_end n ++ 93 ∷ laid_out Outside n 0 text
  close_array = rw less (append_assoc (line_end n) (93 ∷ []) (laid_out Outside n 93 text)
      ∙ ap (λ (l : List ℕ). line_end n ++ 93 ∷ l) (after_last n 93 text (record { opens_none = refl; no_comma = refl; no_colon = refl })))

  pub empty_object : laid_out Outside (n + 1) 123 (125 ∷ text) ≡ 125 ∷ laid_out Outside n 0 text
  empty_object = rw less (ap (λ (l : List ℕ). 125 ∷ l) (after_last n 125 text (record { opens_none = refl; no_comma = refl; no_colon = refl })))

  pub empty_array : laid_out Outside (n + 1) 91 (93 ∷ text) ≡ 93 ∷ laid_out Outside n 0 text
  empty_array = rw less (ap (λ (l : List ℕ). 93 ∷ l) (after_last n 93 text (record { opens_none = refl; no_comma = refl; no_colon = refl })))

module _ (n : ℕ) (x : List ℕ) (inside : IsWhole x) where
  object_lays : Lays n (123 ∷ (x ++ 125 ∷ [])) (around 123 125 n (laid_out Outside (n + 1) 0 x))
  object_lays before more =
      append_assoc (gap n before 0) (123 ∷ []) (laid_out Outside (n + 1) 123 ((x ++ 125 ∷ []) ++ more))
      ∙ ap (λ (l : List ℕ). gap n before 0 ++ 123 ∷ l) (ap (λ (l : List ℕ). laid_out Outside (n + 1) 123 l) (append_assoc x (125 ∷ []) more)
      ∙ inside (n + 1) 123 (125 ∷ more) ∙ ap (λ (l : List ℕ). line_end (n + 1) ++ (laid_out Outside (n + 1) 0 x ++ l)) (close_object n more)
      ∙ simp append_assoc)

  array_lays : Lays n (91 ∷ (x ++ 93 ∷ [])) (around 91 93 n (laid_out Outside (n + 1) 0 x))
  array_lays before more =
      append_assoc (gap n before 0) (91 ∷ []) (laid_out Outside (n + 1) 91 ((x ++ 93 ∷ []) ++ more))
      ∙ ap (λ (l : List ℕ). gap n before 0 ++ 91 ∷ l) (ap (λ (l : List ℕ). laid_out Outside (n + 1) 91 l) (append_assoc x (93 ∷ []) more)
      ∙ inside (n + 1) 91 (93 ∷ more) ∙ ap (λ (l : List ℕ). line_end (n + 1) ++ (laid_out Outside (n + 1) 0 x ++ l)) (close_array n more)
      ∙ simp append_assoc)

-- Each of these is whole.
abbrev pub AreWhole : List (List ℕ) → Type 0
AreWhole [] = Unit {0}
AreWhole (x ∷ xs) = IsWhole x × AreWhole xs

joined_whole : (x : List ℕ) (xs : List (List ℕ)) → IsWhole x → AreWhole xs → IsWhole (join_with_byte 44 (x ∷ xs))
joined_whole x [] one others = one
joined_whole x (y ∷ ys) one others =
    let more = joined_whole y ys others.0 others.1 in
    let rest = join_with_byte 44 (y ∷ ys) in
    whole (x ++ 44 ∷ rest) (λ n. laid_out Outside n 0 x ++ 44 ∷ (line_end n ++ laid_out Outside n 0 rest)) (λ n. comma_lays n x rest one more)

pub object_whole : (members : List (List ℕ)) → AreWhole members → IsWhole (object members)
object_whole [] are = whole (123 ∷ 125 ∷ []) (λ n. 123 ∷ 125 ∷ []) (λ n before more. append_assoc (gap n before 0) (123 ∷ []) (laid_out Outside (n + 1) 123 (125 ∷ more))
    ∙ ap (λ (l : List ℕ). gap n before 0 ++ 123 ∷ l) (empty_object n more))
object_whole (m ∷ ms) are =
    let x = join_with_byte 44 (m ∷ ms) in
    whole (object (m ∷ ms)) (λ n. around 123 125 n (laid_out Outside (n + 1) 0 x)) (λ n. object_lays n x (joined_whole m ms are.0 are.1))

pub listed_whole : (values : List (List ℕ)) → AreWhole values → IsWhole (listed values)
listed_whole [] are = whole (91 ∷ 93 ∷ []) (λ n. 91 ∷ 93 ∷ []) (λ n before more. append_assoc (gap n before 0) (91 ∷ []) (laid_out Outside (n + 1) 91 (93 ∷ more))
    ∙ ap (λ (l : List ℕ). gap n before 0 ++ 91 ∷ l) (empty_array n more))
listed_whole (v ∷ vs) are =
    let x = join_with_byte 44 (v ∷ vs) in
    whole (listed (v ∷ vs)) (λ n. around 91 93 n (laid_out Outside (n + 1) 0 x)) (λ n. array_lays n x (joined_whole v vs are.0 are.1))

pub member_whole : (name value : List ℕ) → IsWhole value → IsWhole (member name value)
member_whole name value h = whole (member name value) (λ n. laid_out Outside n 0 (quoted name) ++ 58 ∷ 32 ∷ laid_out Outside n 0 value) (λ n. colon_lays n (quoted name) value (quoted_whole name) h)

pub wrapper_whole : (name value : List ℕ) → IsWhole value → IsWhole (wrapper_text name value)
wrapper_whole name value h = object_whole (member name value ∷ []) (member_whole name value h, tt)

pub member_alone : (n : ℕ) (name value : List ℕ) → IsWhole value → laid_out Outside n 0 (member name value) ≡ quoted name ++ 58 ∷ 32 ∷ laid_out Outside n 0 value
member_alone n name value h =
    alone n (member name value) (laid_out Outside n 0 (quoted name) ++ 58 ∷ 32 ∷ laid_out Outside n 0 value) (colon_lays n (quoted name) value (quoted_whole name) h)
    ∙ ap (λ (l : List ℕ). l ++ 58 ∷ 32 ∷ laid_out Outside n 0 value) (quoted_alone n name)

pub wrapper_alone : (n : ℕ) (name value : List ℕ) → IsWhole value
    → laid_out Outside n 0 (wrapper_text name value) ≡ around 123 125 n (quoted name ++ 58 ∷ 32 ∷ laid_out Outside (n + 1) 0 value)
wrapper_alone n name value h =
    alone n (wrapper_text name value) (around 123 125 n (laid_out Outside (n + 1) 0 (member name value))) (object_lays n (member name value) (member_whole name value h))
    ∙ ap (around 123 125 n) (member_alone (n + 1) name value h)

-- two strings in an object
string_member : (n : ℕ) (name contents : List ℕ) → laid_out Outside n 0 (member name (quoted contents)) ≡ quoted name ++ 58 ∷ 32 ∷ quoted contents
string_member n name contents = member_alone n name (quoted contents) (quoted_whole contents) ∙ ap (λ (l : List ℕ). quoted name ++ 58 ∷ 32 ∷ l) (quoted_alone n contents)

pub strings_alone : (n : ℕ) (a x b y : List ℕ) → laid_out Outside n 0 (object (member a (quoted x) ∷ member b (quoted y) ∷ []))
    ≡ around 123 125 n ((quoted a ++ 58 ∷ 32 ∷ quoted x) ++ 44 ∷ (line_end (n + 1) ++ (quoted b ++ 58 ∷ 32 ∷ quoted y)))
strings_alone n a x b y =
    let first : List ℕ = member a (quoted x) in
    let second : List ℕ = member b (quoted y) in
    let one = member_whole a (quoted x) (quoted_whole x) in
    let two = member_whole b (quoted y) (quoted_whole y) in
    let laid : List ℕ = laid_out Outside (n + 1) 0 first ++ 44 ∷ (line_end (n + 1) ++ laid_out Outside (n + 1) 0 second) in
    alone n (object (first ∷ second ∷ [])) (around 123 125 n (laid_out Outside (n + 1) 0 (first ++ 44 ∷ second))) (object_lays n (first ++ 44 ∷ second) (joined_whole first (second ∷ []) one (two, tt)))
    ∙ ap (around 123 125 n) (alone (n + 1) (first ++ 44 ∷ second) laid (comma_lays (n + 1) first second one two)
    ∙ ap₂ (λ (u v : List ℕ). u ++ 44 ∷ (line_end (n + 1) ++ v)) (string_member (n + 1) a x) (string_member (n + 1) b y))
