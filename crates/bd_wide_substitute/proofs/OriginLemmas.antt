-- The byte of a text for a byte of what its pieces become.
use Rattle.std.proofs.Common.{◌≡◌, ◌<◌, ◌≤◌, ℕ, zero, suc, ◌+◌, ◌-◌, Bool, true, false, cond, nat_lt, List, [], ◌∷◌, ◌++◌, length, take, drop, refl, sym, ap, ◌∙◌, subst, arith, length-take, length-append, take-append-drop, Option, Some, None, replicate, codes, ℤ}
use Rattle.std.specs.Fmt.{signed_decimal}
use Rattle.std.specs.Int.{w64}
use Rattle.std.specs.Int.RustNames.{FitsSigned}
use Rattle.base64.specs.Engines.{standard}
use Rattle.base64.specs.Rfc4648.{encode_symbols, padding_len, unpadded_len}
use Rattle.base64.proofs.RoundTrip.{length-encode_symbols}
use Rattle.hex.specs.Hex.{IsBytes, encode_with}
use Rattle.bd_value.specs.Tree.{binary, date}
use Rattle.bd_extjson_text.specs.Text.{base64_text, hex_text, scalar_text}
use Rattle.bd_extjson_text.proofs.TextLemmas.{date_pieces, written-binary}
use Rattle.std.proofs.lemmas.Bool.{le-leb, lt-leb, leb-true, leb-false}
use Rattle.std.proofs.lemmas.List.{length-replicate}
use Rattle.bd_wide_substitute.specs.declared.wrapped.WideValue.{WideValue}
use Rattle.bd_wide_substitute.specs.declared.wrapped.WideValue.TheVariants as values
use Rattle.bd_wide_substitute.specs.Substitutes.{ArePieces, IsBefore, Piece, all_values, byte_in, byte_within, filled, filler_of, origin, original, same, value, value_text, whole}
use Rattle.bd_wide_substitute.specs.inside.Taken.{IsCount, IsFound, IsPiece, IsReached}
use Rattle.bd_wide_substitute.proofs.OnceLemmas.{after_one, empty_origin}

-- ---- one piece

origin_in : (p : Piece) (ps : List Piece) (at : ℕ) → at < length (filled whole p) → origin (p ∷ ps) at ≡ byte_within p at
origin_in p ps at h = let in_it : nat_lt at (length (filled whole p)) ≡ true = le-leb (suc at) (length (filled whole p)) (omega (arith, h)) in rw in_it refl

origin_beyond : (p : Piece) (ps : List Piece) (at : ℕ) → length (filled whole p) ≤ at → origin (p ∷ ps) at ≡ length (original p) + origin ps (at - length (filled whole p))
origin_beyond p ps at h = let is_beyond : nat_lt at (length (filled whole p)) ≡ false = lt-leb (suc at) (length (filled whole p)) (omega (arith, h)) in rw is_beyond refl

-- ---- the pieces from a byte on

pub reached_all : (line : List ℕ) (at : ℕ) → IsReached line at line at
reached_all line at = record { within = omega arith; reached = λ pieces are. (pieces, are, omega arith) }

piece_bytes : (rest : List ℕ) (n : ℕ) (found : Option WideValue) (p : Piece) → IsPiece rest n found p → original p ≡ take n rest
piece_bytes rest n None (same first) is = is
piece_bytes rest n (Some x) (value first y) is = is.0
piece_bytes rest n None (value first y) is = absurd is
piece_bytes rest n (Some x) (same first) is = absurd is

not_empty : (p : Piece) (n : ℕ) → length (original p) ≡ n → 1 ≤ n → p ≡ same [] → ⊥
not_empty p n long some e = let none : length (original p) ≡ 0 = ap (λ q. length (original q)) e in omega (arith, long, some, none)

module _ (line : List ℕ) (at : ℕ) (rest : List ℕ) (rest_count n : ℕ) (found : Option WideValue) (h : IsReached line at rest rest_count) (f : IsFound rest n found) where
  first_bytes : original f.piece ≡ take n rest
  first_bytes = piece_bytes rest n found f.piece f.is

  first_long : length (original f.piece) ≡ n
  first_long = omega (arith, ap length first_bytes, length-take n rest, f.within)

  pieces_on : (pieces : List Piece) → ArePieces line pieces → (rs : List Piece) × ArePieces (drop n rest) rs × (origin pieces at + length rest ≡ length line + origin (f.piece ∷ rs) rest_count)
  pieces_on pieces are =
      let r = h.reached pieces are in
      let split : rest ≡ original f.piece ++ drop n rest = sym (take-append-drop n rest) ∙ ap (λ t. t ++ drop n rest) (sym first_bytes) in
      let o = after_one f.piece (drop n rest) rest (not_empty f.piece n first_long f.some) split f.before r.0 r.1 in
      (o.0, o.1, r.2 ∙ ap (λ k. length line + k) (o.2 rest_count))

  -- beyond a piece
  pub reached_beyond : (m : ℕ) → length (filled whole f.piece) ≡ m → m ≤ rest_count → IsReached line at (drop n rest) (rest_count - m)
  reached_beyond m size is_beyond =
      let shorter : length (take n rest) + length (drop n rest) ≡ length rest = sym (length-append (take n rest) (drop n rest)) ∙ ap length (take-append-drop n rest) in
      let taken : length (take n rest) ≡ n = omega (arith, length-take n rest, f.within) in
      record {
        within = omega (arith, h.within, shorter);
        reached = λ pieces are.
            let r = pieces_on pieces are in
            let e = origin_beyond f.piece r.0 rest_count (omega (arith, size, is_beyond)) ∙ ap (λ k. length (original f.piece) + origin r.0 (rest_count - k)) size in
            (r.0, r.1, omega (arith, r.2, e, first_long, shorter, taken));
      }

  -- inside a piece
  pub reached_in : (m b : ℕ) → length (filled whole f.piece) ≡ m → rest_count < m → byte_within f.piece rest_count ≡ b → (pieces : List Piece) → ArePieces line pieces → length line - length rest + b ≡ origin pieces at
  reached_in m b size less is pieces are =
      let r = pieces_on pieces are in
      let e = origin_in f.piece r.0 rest_count (omega (arith, size, less)) in
      omega (arith, r.2, e, is, h.within)

  -- as a whole at the first byte of a piece
  pub reached_first : (m : ℕ) → length (filled whole f.piece) ≡ m → rest_count < m → byte_within f.piece rest_count ≡ 0 → (pieces : List Piece) → ArePieces line pieces → length line - length rest ≡ origin pieces at
  reached_first m size less is pieces are = let e = reached_in m 0 size less is pieces are in omega (arith, e)

-- nothing remains
pub reached_end : (line : List ℕ) (at : ℕ) (rest : List ℕ) (rest_count : ℕ) → IsReached line at rest rest_count → length rest < 1 → (pieces : List Piece) → ArePieces line pieces → length line ≡ origin pieces at
reached_end line at [] rest_count h less pieces are =
    let r = h.reached pieces are in
    omega (arith, r.2, empty_origin r.0 rest_count r.1)
reached_end line at (c ∷ cs) rest_count h less pieces are = absurd (omega arith)

-- ---- a text without values

pub same_byte : (ps : List Piece) (source : List ℕ) (at : ℕ) → at ≤ length source → ArePieces source ps → all_values ps ≡ [] → origin ps at ≡ at
same_byte [] source at h are none = let start : at ≡ 0 = omega (arith, h, ap length are) in sym start
same_byte (value bytes v ∷ ps) source at h are none = absurd (let e : v ∷ all_values ps ≡ [] = none in cc)
same_byte (same bytes ∷ ps) source at h are none =
    elim (nat_lt at (length bytes)) as (λ b. nat_lt at (length bytes) ≡ b → origin (same bytes ∷ ps) at ≡ at) [
      | true ↦ λ e. origin_in (same bytes) ps at (leb-true (suc at) (length bytes) e)
      | false ↦ λ e.
          let is_beyond : length bytes ≤ at = (let k = leb-false (suc at) (length bytes) e in omega (arith, k)) in
          let long : length source ≡ length bytes + length are.0 = ap length are.1 ∙ length-append bytes are.0 in
          let rest = same_byte ps are.0 (at - length bytes) (omega (arith, long, h, is_beyond)) are.3 none in
          origin_beyond (same bytes) ps at is_beyond ∙ omega (arith, rest, is_beyond)
    ] refl

-- ---- how many bytes a piece becomes

module _ (n : ℕ) (bytes : List ℕ) where
  pub counted_date : (z : ℤ) (m : ℕ) (found : Option WideValue) (p : Piece) → found ≡ Some (values.Date z) → m ≡ length (scalar_text (date z)) → IsPiece bytes n found p → IsCount (Some m) n p
  counted_date z m found p e size is = go p (subst (λ (f : Option WideValue). IsPiece bytes n f p) e is)
    where
      go : (p : Piece) → IsPiece bytes n (Some (values.Date z)) p → IsCount (Some m) n p
      go (same first) h = absurd h
      go (value first y) h = (ap (λ (v : WideValue). length (value_text whole (length first) v)) (sym h.1) ∙ sym size, λ at. ap (λ (v : WideValue). byte_in v at) (sym h.1))

  pub counted_uuid : (b : List ℕ) (m : ℕ) (found : Option WideValue) (p : Piece) → found ≡ Some (values.Uuid b) → m ≡ length (scalar_text (binary 4 b)) → IsPiece bytes n found p → IsCount (Some m) n p
  counted_uuid b m found p e size is = go p (subst (λ (f : Option WideValue). IsPiece bytes n f p) e is)
    where
      go : (p : Piece) → IsPiece bytes n (Some (values.Uuid b)) p → IsCount (Some m) n p
      go (same first) h = absurd h
      go (value first y) h = (ap (λ (v : WideValue). length (value_text whole (length first) v)) (sym h.1) ∙ sym size, λ at. ap (λ (v : WideValue). byte_in v at) (sym h.1))

  pub counted_same : (found : Option WideValue) (p : Piece) → n ≤ length bytes → ((z : ℤ) → found ≡ Some (values.Date z) → ⊥) → ((b : List ℕ) → found ≡ Some (values.Uuid b) → ⊥) → IsPiece bytes n found p → IsCount None n p
  counted_same None (same first) within a b is = (ap length is ∙ omega (arith, length-take n bytes, within), λ at. refl)
  counted_same None (value first y) within a b is = absurd is
  counted_same (Some (values.Date z)) p within a b is = absurd (a z refl)
  counted_same (Some (values.Uuid u)) p within a b is = absurd (b u refl)
  counted_same (Some (values.Number x)) (same first) within a b is = absurd is
  counted_same (Some (values.Number x)) (value first y) within a b is =
      let long : length first ≡ n = ap length is.0 ∙ omega (arith, length-take n bytes, within) in
      let all : length (filler_of whole (length first)) ≡ n = omega (arith, length-replicate {A = ℕ} (length first - 1) 32, long, is.2) in
      (ap (λ (v : WideValue). length (value_text whole (length first) v)) (sym is.1) ∙ all, λ at. ap (λ (v : WideValue). byte_in v at) (sym is.1))

-- a date in canonical form
pub date_long : (z : ℤ) → FitsSigned w64 z → length (scalar_text (date z)) ≡ 28 + length (signed_decimal z)
date_long z fits =
    let lead = codes "{\"$date\":{\"$numberLong\":\"" in
    let digits = signed_decimal z in
    omega (arith, ap length (date_pieces [] z fits), length-append (lead ++ digits) (codes "\"}}"), length-append lead digits)

base64_long : (bytes : List ℕ) → length bytes ≡ 16 → length (base64_text bytes) ≡ 24
unfolding base64_text
base64_long bytes e =
    let symbols = encode_symbols standard.encode_table bytes in
    let pad = replicate (padding_len (length bytes)) standard.padding.value in
    let two : length pad ≡ 2 = length-replicate (padding_len (length bytes)) standard.padding.value ∙ ap padding_len e in
    let some : length symbols ≡ 22 = length-encode_symbols standard.encode_table bytes ∙ ap unpadded_len e in
    length-append symbols pad ∙ omega (arith, two, some)

subtype_long : length (hex_text (4 ∷ [])) ≡ 2
unfolding hex_text encode_with
subtype_long = refl

subtype_small : IsBytes (4 ∷ [])
subtype_small zero = omega arith
subtype_small (suc i) = omega arith

-- a UUID in canonical form
pub uuid_long : (bytes : List ℕ) → length bytes ≡ 16 → IsBytes bytes → length (scalar_text (binary 4 bytes)) ≡ 64
uuid_long bytes e fits =
    let a = codes "{\"$binary\":{\"base64\":\"" in
    let b = codes "\",\"subType\":\"" in
    let symbols = base64_text bytes in
    let digits = hex_text (4 ∷ []) in
    let two : length digits ≡ 2 = subtype_long in
    omega (
      arith,
      ap length (written-binary [] bytes 4 fits subtype_small),
      length-append (((a ++ symbols) ++ b) ++ digits) (codes "\"}}"),
      length-append ((a ++ symbols) ++ b) digits,
      length-append (a ++ symbols) b,
      length-append a symbols,
      base64_long bytes e,
      two,
    )
