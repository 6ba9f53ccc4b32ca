use Rattle.std.proofs.Common.{ap, ◌∙◌, ◌≡◌, arith, Some, None, ◌-◌, option_map}
use Rattle.json.specs.Json.{read_key}
use Rattle.json.specs.Value.{value_view}
use Rattle.bd_extjson.specs.inside.Fixed.{bare}
use Rattle.bd_extjson.proofs.MemberLemmas as seconds
use Rattle.bd_extjson.proofs.fixed.read_member.Goals as goal

pub returns-in_err-ok-clause-none : goal.returns-in_err-ok-clause-none
returns-in_err-ok-clause-none c = rw c.from_residual.ensures (λ f depth n le ends needs.
    let none : read_key c.args.reader.now ≡ None = grind arith in
    seconds.no_name f depth n c.args.reader.now none)

pub returns-in_err-name-clause-none : goal.returns-in_err-name-clause-none
returns-in_err-name-clause-none c = rw c.from_residual-in_err-name.ensures (λ f depth n le ends needs.
    let key : read_key c.args.reader.now ≡ Some (None, c.next_key.new.self) = grind arith in
    seconds.ended f depth n c.args.reader.now c.next_key.new.self le key ∙ ap (option_map (λ a. (a, c.next_key.new.self))) ends)

pub returns-in_err-read_bare-clause-none : goal.returns-in_err-read_bare-clause-none
returns-in_err-read_bare-clause-none c = rw c.from_residual-in_err-read_bare.ensures (λ f depth n le ends needs.
    let k = c.in_ok-name.name.now in
    let r = c.next_key.new.self in
    let key : read_key c.args.reader.now ≡ Some (Some k, r) = grind arith in
    seconds.named f k depth n c.args.reader.now r le key ∙ seconds.unread f bare k depth (n - 1) r (c.in_err-read_bare.ensures.none depth) (needs k))

pub returns-clause-read : goal.returns-clause-read
returns-clause-read c = λ f depth n le.
    let k = c.in_ok-name.name.now in
    let r = c.next_key.new.self in
    let key : read_key c.args.reader.now ≡ Some (Some k, r) = grind arith in
    seconds.named f k depth n c.args.reader.now r le key ∙ seconds.member_is f k depth (n - 1) r c.read_bare.new.reader (value_view c.in_ok-read_bare.field-0) (c.in_ok-read_bare.ensures.read depth)
