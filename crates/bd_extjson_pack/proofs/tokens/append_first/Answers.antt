use Rattle.std.proofs.Common.{◌≡◌, ◌∷◌, [], sym, ap, ◌∙◌, arith}
use Rattle.std.proofs.lemmas.Result.{err_from_is_err_and}
use Rattle.std.specs.Option.{is_some}
use Rattle.json.specs.Token.{Token}
use Rattle.json.specs.Reads.{token_of}
use Rattle.bd_extjson.proofs.ReadLemmas as steps
use Rattle.bd_extjson_pack.proofs.BodyLemmas as bodies
use Rattle.bd_extjson_pack.proofs.tokens.append_first.Goals as goal

pub returns-clause-gives : goal.returns-clause-gives
returns-clause-gives c =
    let first : c.args.reader.now ≡ Token.begin_object ∷ c.next.new.self = grind arith in
    let none = sym (ap is_some (steps.wrapper_is _ _ c.and_then.ensures)) ∙ sym c.is_some.ensures ∙ c.if-is_some.false in
    rw (bodies.first_fields c.args.reader.now c.next.new.self first c.next_key.new.self _ c.in_ok-first.ensures.value none) c.append_fields.ensures.gives

pub returns-then-is_some-clause-gives : goal.returns-then-is_some-clause-gives
returns-then-is_some-clause-gives c =
    let first : c.args.reader.now ≡ Token.begin_object ∷ c.next.new.self = grind arith in
    let some = sym (ap is_some (steps.wrapper_is _ _ c.and_then.ensures)) ∙ sym c.is_some.ensures ∙ c.if-is_some.true in
    bodies.first_wrapper c.args.reader.now c.next.new.self first c.next_key.new.self _ c.in_ok-first.ensures.value some

pub returns-in_default-clause-gives : goal.returns-in_default-clause-gives
returns-in_default-clause-gives c =
    let empty : c.args.reader.now ≡ [] = grind arith in
    rw empty bodies.no_token

pub returns-in_default-token : goal.returns-in_default-token
returns-in_default-token c =
    let first : c.args.reader.now ≡ token_of c.in-Some.token ∷ c.next.new.self = grind arith in
    record { within = tt; gives = rw first (bodies.no_brace c.in-Some.token c.next.new.self c.in_default-token.not-BeginObject) }

pub returns-in_err-first-clause-gives : goal.returns-in_err-first-clause-gives
returns-in_err-first-clause-gives c =
    let p = err_from_is_err_and c.from_residual.result c.from_residual.ensures.1 in
    let first : c.args.reader.now ≡ Token.begin_object ∷ c.next.new.self = grind arith in
    rw (p.1, p.2) (bodies.no_first_name c.args.reader.now c.next.new.self first c.in_err-first.ensures.value)
