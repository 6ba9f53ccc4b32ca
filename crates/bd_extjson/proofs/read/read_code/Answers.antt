use Rattle.std.proofs.Common.{◌≤◌, ◌-◌, ℕ, length, Some, List, option_map, Bor, sym, ap, ◌∙◌, arith}
use Rattle.std.proofs.lemmas.Result.{err_from_is_err_and}
use Rattle.json.specs.Json.{value}
use Rattle.json.specs.Value.{value_view}
use Rattle.json.proofs.Grammar.{read_key-shorter}
use Rattle.bd_extjson_wrapper.specs.declared.wrapper.Wrapper.TheVariants as kinds
use Rattle.bd_extjson.specs.Read.{wrapped}
use Rattle.bd_extjson.proofs.ReadLemmas.{fails_by, fails_where}
use Rattle.bd_extjson.proofs.MemberLemmas as seconds
use Rattle.bd_extjson.proofs.read.read_code.Goals as goal

pub returns-in_err-second-clause-none : goal.returns-in_err-second-clause-none
returns-in_err-second-clause-none c =
    let p = err_from_is_err_and c.from_residual.result c.from_residual.ensures.1 in
    rw (p.1, p.2) (λ n depth_left j t le. seconds.no_name (wrapped depth_left kinds.Scope j t) c.args.depth n c.args.reader.now c.in_err-second.ensures.value)

pub returns-in_default-clause-none : goal.returns-in_default-clause-none
returns-in_default-clause-none c = λ n depth_left j t le.
    let key = c.in_ok-second.ensures.value ∙ ap (λ k. Some (option_map (λ (s : Bor (List ℕ)). s.now) k, c.next_key.new.self)) c.in_default.is in
    seconds.ended (wrapped depth_left kinds.Scope j t) c.args.depth n c.args.reader.now c.next_key.new.self le key

pub returns-then-not-names_code-clause-none : goal.returns-then-not-names_code-clause-none
returns-then-not-names_code-clause-none c = λ n depth_left j t le.
    let key = c.in_ok-second.ensures.value ∙ ap (λ k. Some (option_map (λ (s : Bor (List ℕ)). s.now) k, c.next_key.new.self)) c.in-Some.is in
    seconds.scope_without_code c.in-Some.second.now depth_left c.args.depth n c.args.reader.now c.next_key.new.self j t le key (sym c.if-not-names_code.ensures)

pub returns-in_err-code-clause-none : goal.returns-in_err-code-clause-none
returns-in_err-code-clause-none c =
    let p = err_from_is_err_and c.from_residual-in_err-code.result c.from_residual-in_err-code.ensures.1 in
    let key = c.in_ok-second.ensures.value ∙ ap (λ k. Some (option_map (λ (s : Bor (List ℕ)). s.now) k, c.next_key.new.self)) c.in-Some.is in
    rw (p.1, p.2) (λ n depth_left j t le. fails_by c.in_err-code.field-0.0 (value c.args.depth c.next_key.new.self) _
    (λ none. seconds.code_unread c.in-Some.second.now depth_left c.args.depth n c.args.reader.now c.next_key.new.self j t le key none)
    c.in_err-code.ensures.gives)

pub returns-in_err-end_object-clause-none : goal.returns-in_err-end_object-clause-none
returns-in_err-end_object-clause-none c =
    let p = err_from_is_err_and c.from_residual-in_err-end_object.result c.from_residual-in_err-end_object.ensures.1 in
    let r = c.next_key.new.self in
    let s = c.read_part.new.reader in
    let key = c.in_ok-second.ensures.value ∙ ap (λ k. Some (option_map (λ (s : Bor (List ℕ)). s.now) k, r)) c.in-Some.is in
    let shorter = read_key-shorter c.args.reader.now (Some c.in-Some.second.now) r key in
    rw (p.1, p.2) (λ n depth_left j t le.
    let less : length s ≤ n - 1 = omega (arith, le, shorter, c.in_ok-code.ensures.shorter) in
    fails_where c.in_err-end_object.field-0.0 _
    (λ e. seconds.code_unended c.in-Some.second.now depth_left c.args.depth n c.args.reader.now r s j
    (value_view c.in_ok-code.code) t le key c.in_ok-code.ensures.gives less (c.in_err-end_object.ensures.refused.1)))

pub returns-clause-code : goal.returns-clause-code
returns-clause-code c = λ n depth_left j u le h.
    let r = c.next_key.new.self in
    let s = c.read_part.new.reader in
    let q = c.end_object.new.reader in
    let key = c.in_ok-second.ensures.value ∙ ap (λ k. Some (option_map (λ (s : Bor (List ℕ)). s.now) k, r)) c.in-Some.is in
    let shorter = read_key-shorter c.args.reader.now (Some c.in-Some.second.now) r key in
    let less : length s ≤ n - 1 = omega (arith, le, shorter, c.in_ok-code.ensures.shorter) in
    seconds.code_ended c.in-Some.second.now depth_left c.args.depth n c.args.reader.now r s q j (value_view c.in_ok-code.code) u le key (sym c.if-not-names_code.ensures) c.in_ok-code.ensures.gives less
    c.in_ok-end_object.ensures.ended h
