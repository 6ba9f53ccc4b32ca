use Rattle.std.proofs.Common.{refl, ◌≡◌, ◌≢◌, ◌∷◌, [], Option, Some, None, sym, Bor, List, ℕ, option_map, ap, ◌∙◌, arith}
use Rattle.std.proofs.lemmas.Result.{err_from_is_err_and}
use Rattle.json.specs.Token.{Token}
use Rattle.json.specs.Json.{read_key}
use Rattle.json.specs.Reads.{token_of}
use Rattle.json.specs.Find.{as_str}
use Rattle.json.proofs.Grammar.{value_is}
use Rattle.bd_extjson.proofs.MemberLemmas.{unreadable}
use Rattle.bd_extjson_pack.specs.inside.Writes.{alone}
use Rattle.bd_extjson_pack.proofs.BodyLemmas as bodies
use Rattle.bd_extjson_pack.proofs.tokens.only_string.Goals as goal

not_ended : (ts q : List Token) (k : List ℕ) → read_key ts ≡ Some (Some k, q) → (r : List Token) → read_key ts ≢ Some (None, r)
not_ended ts q k e r f =
    let names : Some (Some k) ≡ Some None = ap (λ (o : Option (Option (List ℕ) × List Token)). option_map (λ (p : Option (List ℕ) × List Token). p.0) o) (sym e ∙ f) in
    absurd cc

pub returns-in_default-clause-refused : goal.returns-in_default-clause-refused
returns-in_default-clause-refused c =
    let empty : c.args.reader.now ≡ [] = grind arith in
    (refl, λ name depth. rw empty (unreadable (alone as_str) name depth _ [] (value_is depth [])))

pub returns-in_default-token : goal.returns-in_default-token
returns-in_default-token c = record {
  gives = tt;
  shorter = tt;
  refused =
      let first : c.args.reader.now ≡ token_of c.in-Some.token ∷ c.next.new.self = grind arith in
      (refl, λ name depth. rw first (bodies.not_alone as_str name depth _ (token_of c.in-Some.token ∷ c.next.new.self) (bodies.no_string depth c.in-Some.token c.next.new.self c.in_default-token.not-String)));
}

pub returns-in_err-next_key-clause-refused : goal.returns-in_err-next_key-clause-refused
returns-in_err-next_key-clause-refused c =
    let p = err_from_is_err_and c.from_residual.result c.from_residual.ensures.1 in
    let first : c.args.reader.now ≡ Token.string c.in-String.text.now ∷ c.next.new.self = grind arith in
    let none = c.in_err-next_key.ensures.value in
    rw (p.1, p.2) (refl, λ name depth. bodies.string_goes_on name c.in-String.text.now depth c.args.reader.now c.next.new.self first (λ r e. cc (none, e)))

pub returns-in-Some-2-clause-refused : goal.returns-in-Some-2-clause-refused
returns-in-Some-2-clause-refused c =
    let first : c.args.reader.now ≡ Token.string c.in-String.text.now ∷ c.next.new.self = grind arith in
    let key = c.in_ok-next_key.ensures.value ∙ ap (λ k. Some (option_map (λ (s : Bor (List ℕ)). s.now) k, c.next_key.new.self)) c.in-Some-2.is in
    (refl, λ name depth. bodies.string_goes_on name c.in-String.text.now depth c.args.reader.now c.next.new.self first (not_ended c.next.new.self c.next_key.new.self c.in-Some-2.field-0.now key))

pub returns-in-None-clause-gives : goal.returns-in-None-clause-gives
returns-in-None-clause-gives c = λ name depth.
    let first : c.args.reader.now ≡ Token.string c.in-String.text.now ∷ c.next.new.self = grind arith in
    let key = c.in_ok-next_key.ensures.value ∙ ap (λ k. Some (option_map (λ (s : Bor (List ℕ)). s.now) k, c.next_key.new.self)) c.in-None.is in
    bodies.string_ends name c.in-String.text.now depth c.args.reader.now c.next.new.self c.next_key.new.self first key
