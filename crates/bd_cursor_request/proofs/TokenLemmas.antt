-- Tokens and their bytes.
use Rattle.std.proofs.Common.{◌≡◌, ◌≤◌, ◌<◌, ◌^◌, ◌+◌, ◌++◌, replicate, ◌==◌, ◌&&◌, ℕ, Bool, true, false, cond, List, [], ◌∷◌, Option, Some, None, Result, Ok}
use Rattle.std.proofs.Common.{length, take, drop, refl, sym, ap, ap₂, ◌∙◌, arith}
use Rattle.std.specs.{Int.from_le_bytes, Int.to_le_bytes, Int.w32, Int.w64, Option.option_and_then, Result.result_ok}
use Rattle.std.proofs.{lemmas.Bool.eqb-true, Math.Seq.drop-append_seam, Math.Seq.take-append_seam, lemmas.Nat.from_le_bytes-to_le_bytes_4}
use Rattle.std.proofs.lemmas.List.{length-append, length-replicate, length-take-le, take_all}
use Rattle.std.proofs.{lemmas.Nat.from_le_bytes-to_le_bytes_8}
use Rattle.base64.proofs.RoundTrip.{length-encode_symbols}
use Rattle.base64.specs.{Rfc4648.encode_symbols, Rfc4648.padding_len, Engines.standard, GeneralPurpose.decode_of, GeneralPurpose.encode_of}
use Rattle.base64.specs.{declared.decode.DecodeError.DecodeError}
use Rattle.bd_cursor_request.specs.Token.{token_after_version, token_bytes, token_in, token_of, token_text}
use Rattle.bd_cursor_request.specs.declared.token.Token.{Token}

-- the first n bytes, and those after them
pub record IsSplit (n : ℕ) (bytes prefix after : List ℕ) : Type 0 where
  pub part : prefix ≡ take n bytes
  pub remaining : after ≡ drop n bytes
  pub size : length after + n ≡ length bytes

abbrev token_with : ℕ → ℕ → List ℕ → Option Token
token_with n m digest = Some (record { given = n; last = m; digest = digest })

read_whole : (rest : List ℕ) → length rest ≡ 44 → Some (token_after_version rest) ≡ token_in (1 ∷ rest)
read_whole rest is = rw is refl

-- a token from its parts, one after the other
pub token_parted : (bytes rest rest2 rest3 given last digest : List ℕ) (version n m : ℕ) → bytes ≡ version ∷ rest → version ≡ 1
    → IsSplit 8 rest given rest2 → IsSplit 4 rest2 last rest3 → digest ≡ take 32 rest3 → length bytes ≡ 45
    → n ≡ from_le_bytes w64 given → m ≡ from_le_bytes w32 last → Some (record { given = n; last = m; digest = digest }) ≡ token_in bytes
token_parted bytes rest rest2 rest3 given last digest version n m is one a b c whole_size x y =
    let all = ap (λ (xs : List ℕ). length xs) (sym is) ∙ whole_size in
    let size : length rest ≡ 44 = omega (arith, all) in
    let short : length rest3 ≡ 32 = (let p = a.size in let q = b.size in omega (arith, p, q, size)) in
    let whole = c ∙ take_all 32 rest3 (omega (arith, short)) ∙ b.remaining ∙ ap (drop 4) a.remaining in
    ap₂ (λ (k j : ℕ). token_with k j digest) (x ∙ ap (from_le_bytes w64) a.part) (y ∙ ap (from_le_bytes w32) (b.part ∙ ap (take 4) a.remaining))
    ∙ ap (token_with (from_le_bytes w64 (take 8 rest)) (from_le_bytes w32 (take 4 (drop 8 rest)))) whole
    ∙ read_whole rest size ∙ ap token_in (sym (is ∙ ap (λ v. v ∷ rest) one))

-- ---- and their texts

decoded_as : (text : List ℕ) (r : Result (List ℕ) DecodeError) → length text ≡ 60 → decode_of standard text ≡ r → option_and_then token_in (result_ok r) ≡ token_of text
decoded_as text r size is = sym (ap₂ (λ (n : ℕ) (o : Result (List ℕ) DecodeError). cond (n == 60) (option_and_then token_in (result_ok o)) None) size is)

pub token_there : (text new : List ℕ) (n : ℕ) → length text ≡ 60 → decode_of standard text ≡ Ok (take n new) → n ≡ 45 → length new ≡ 45 → token_in new ≡ token_of text
token_there text new n size whole is l =
    ap token_in (sym (ap (λ k. take k new) is ∙ take_all 45 new (omega (arith, l)))) ∙ decoded_as text (Ok (take n new)) size whole

none_of_size : (bytes : List ℕ) → (length bytes ≡ 45 → ⊥) → None ≡ token_in bytes
none_of_size [] other = refl
none_of_size (version ∷ bytes) other = go (version == 1) (length bytes == 44) refl
  where
    go : (a b : Bool) → (length bytes == 44) ≡ b → None ≡ cond (a && b) (Some (token_after_version bytes)) None
    go false b is = refl
    go true false is = refl
    go true true is = absurd (other (let e = eqb-true (length bytes) 44 is in omega (arith, e)))

pub token_of_another_size : (text new : List ℕ) (n : ℕ) → length text ≡ 60 → decode_of standard text ≡ Ok (take n new) → (n ≡ 45 → ⊥) → n ≤ length new → None ≡ token_of text
token_of_another_size text new n size whole other le =
    none_of_size (take n new) (λ e. other (sym (length-take-le n new le) ∙ e)) ∙ decoded_as text (Ok (take n new)) size whole

-- ---- and back

encoded_length : (m : List ℕ) → length m ≡ 45 → length (encode_of standard m) ≡ 60
encoded_length m is =
    let symbols = length-encode_symbols standard.encode_table m in
    let signs : padding_len (length m) ≡ 0 = rw is refl in
    let parts = length-append (encode_symbols standard.encode_table m) (replicate {A = ℕ} (padding_len (length m)) 61) in
    let filled = length-replicate {A = ℕ} (padding_len (length m)) 61 in
    parts ∙ omega (arith, symbols, signs, filled, is)

eight : (n : ℕ) → length (to_le_bytes w64 n) ≡ 8
eight n = refl

four : (n : ℕ) → length (to_le_bytes w32 n) ≡ 4
four n = refl

pub token_size : (t : Token) → length t.digest ≡ 32 → length (token_bytes t) ≡ 45
token_size t d = omega (arith, d, length-append (to_le_bytes w64 t.given) (to_le_bytes w32 t.last ++ t.digest), length-append (to_le_bytes w32 t.last) t.digest, eight t.given, four t.last)

pub token_back : (t : Token) → t.given < 2 ^ 64 → t.last < 2 ^ 32 → length t.digest ≡ 32 → token_in (token_bytes t) ≡ Some t
token_back t g l d =
    let given = to_le_bytes w64 t.given in
    let last = to_le_bytes w32 t.last in
    let rest = given ++ (last ++ t.digest) in
    let size : length rest ≡ 44 = omega (arith, d, length-append given (last ++ t.digest), length-append last t.digest, eight t.given, four t.last) in
    let first : take 8 rest ≡ given = take-append_seam given (last ++ t.digest) in
    let after : drop 8 rest ≡ last ++ t.digest = drop-append_seam given (last ++ t.digest) in
    let second : take 4 (drop 8 rest) ≡ last = ap (take 4) after ∙ take-append_seam last t.digest in
    let third : drop 4 (drop 8 rest) ≡ t.digest = ap (drop 4) after ∙ drop-append_seam last t.digest in
    sym (read_whole rest size)
    ∙ ap₂ (λ (n m : ℕ). token_with n m (drop 4 (drop 8 rest))) (ap (from_le_bytes w64) first ∙ from_le_bytes-to_le_bytes_8 t.given g)
    (ap (from_le_bytes w32) second ∙ from_le_bytes-to_le_bytes_4 t.last l)
    ∙ ap (token_with t.given t.last) third

pub text_back : (t : Token) (text : List ℕ) → t.given < 2 ^ 64 → t.last < 2 ^ 32 → length t.digest ≡ 32 → text ≡ token_text t → decode_of standard text ≡ Ok (token_bytes t)
    → (length text ≡ 60) × (token_of text ≡ Some t)
text_back t text g l d is decodes =
    let size = ap (λ (xs : List ℕ). length xs) is ∙ encoded_length (token_bytes t) (token_size t d) in
    (size, sym (decoded_as text (Ok (token_bytes t)) size decodes) ∙ token_back t g l d)
