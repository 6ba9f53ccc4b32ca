use Rattle.std.proofs.Common.{◌≡◌, ◌<◌, ◌≤◌, ◌-◌, ℕ, Some, None, length, map, option_map, sym, ap, ◌∙◌, arith, ◌++◌, ◌∷◌, [], List}
use Rattle.std.proofs.lemmas.Result.{err_from_is_err_and}
use Rattle.std.proofs.lemmas.List.{map_push}
use Rattle.std.specs.Borrow.{Bor}
use Rattle.json.specs.Value.{value_view}
use Rattle.bd_extjson_wrapper.specs.Wrapper.{single, through, after_key}
use Rattle.bd_extjson_wrapper.specs.declared.wrapper.Wrapper.TheVariants as kinds
use Rattle.json.specs.Json.{value, items, parse_map, after_end_array}
use Rattle.json.proofs.Grammar.{read_key-shorter}
use Rattle.bd_value.specs.Tree.{leaf, field}
use Rattle.bd_value.specs.View.{tree_of, pairs}
use Rattle.bd_extjson.specs.Read.{wrap, wrap_items, wrap_object, wrapped, wrap_fields}
use Rattle.bd_extjson.proofs.ReadLemmas as steps
use Rattle.bd_extjson.proofs.ReadLemmas.{items_before, fields_before}
use Rattle.bd_extjson.proofs.MemberLemmas as seconds
use Rattle.bd_extjson.proofs.read.+reading.Goals as goal

-- ---- read_fields

pub read_fields-loop-next-preserved : goal.read_fields-loop-next-preserved
read_fields-loop-next-preserved t c =
    let l = c.loop-next in
    let n = l.invariant.0 in
    let k = c.in-Some.name.now in
    let v = tree_of c.in_ok-value.value in
    let r = c.read_value.new.reader in
    let named = ap (λ k. through (wrap_fields c.args.depth_left) (after_key c.args.depth n (option_map (λ s. s.now) k) l.reader)) c.in-Some.is in
    let turn = steps.field_goes_on k c.args.depth_left c.args.depth n l.reader r v (sym c.if-has_zero.ensures) c.in_ok-value.ensures.gives in
    let key = c.in_ok-next.ensures.value in
    let less = read_key-shorter r (option_map (λ s. s.now) c.in_ok-next.next) c.next_key.new.self key in
    let lesser = c.in_ok-value.ensures.shorter in
    let within : length r ≤ n = omega (arith, l.invariant.1, lesser) in
    let next = ap (through (wrap_fields c.args.depth_left)) (steps.next_name c.args.depth n r c.next_key.new.self (option_map (λ s. s.now) c.in_ok-next.next) within key) in
    let pushed : pairs c.push.new.self ≡ pairs l.read ++ (k, v) ∷ [] = rw (← c.in_ok-from_str.ensures.ok) c.in_ok-push.ensures.ok in (
      n - 1,
      omega (arith, within, less),
      l.invariant.2 ∙ ap (parse_map (fields_before (pairs l.read))) (named ∙ turn ∙ ap (parse_map (field k v)) next) ∙ steps.one_more_field (pairs l.read) k v _
          ∙ ap (λ ps. parse_map (fields_before ps) (through (wrap_fields c.args.depth_left) (after_key c.args.depth (n - 1) (option_map (λ s. s.now) c.in_ok-next.next) c.next_key.new.self))) (sym pushed),
      omega (arith, l.invariant.3, less, lesser),
    )

-- ---- read_items

pub read_items-loop-alloc-preserved : goal.read_items-loop-alloc-preserved
read_items-loop-alloc-preserved t c =
    let l = c.loop-alloc in
    let n = l.invariant.0 in
    let going : (after_end_array l.reader ≡ None) × (c.take_end_array.new.self ≡ l.reader) = grind arith in
    let v = tree_of c.in_ok-value.value in
    let r = c.read_value.new.reader in
    let less : length r < length l.reader = rw (← going.1) c.in_ok-value.ensures.shorter in
    let turn = steps.items_go_on c.args.depth_left c.args.depth n l.reader r v (omega (arith, l.invariant.1, less)) going.0 (rw (← going.1) c.in_ok-value.ensures.gives) in
    let pushed : map tree_of c.push.new.self.items ≡ map tree_of l.found.items ++ v ∷ [] = rw c.in_ok-push.ensures.items (map_push _ l.found.items c.in_ok-value.value) in (
      n - 1,
      omega (arith, l.invariant.1, less),
      l.invariant.2 ∙ ap (parse_map (items_before (map tree_of l.found.items))) turn ∙ steps.one_more_item (map tree_of l.found.items) v _
          ∙ ap (λ ts. parse_map (items_before ts) (through (wrap_items c.args.depth_left) (items (value c.args.depth) (n - 1) r))) (sym pushed),
      omega (arith, l.invariant.3, less),
    )

-- ---- read_object

pub read_object-returns-in-Some-clause-gives : goal.read_object-returns-in-Some-clause-gives
read_object-returns-in-Some-clause-gives t c =
    let key = option_map (λ s. s.now) c.in_ok-first.first in
    let start = ap (through (wrap_object c.args.depth_left)) (steps.first_name c.args.depth c.args.reader.now c.next_key.new.self key c.in_ok-first.ensures.value) in
    rw start (steps.object_is_wrapper tree_of c.read_wrapper.result c.read_wrapper.new.reader c.in-Some.wrapper c.args.depth_left c.args.depth (length c.next_key.new.self) c.next_key.new.self key
    (sym (steps.wrapper_is _ _ c.and_then.ensures) ∙ c.in-Some.is) (λ name is. c.read_wrapper.ensures.gives name is))

pub read_object-returns-then-depth_left-eq0-clause-gives : goal.read_object-returns-then-depth_left-eq0-clause-gives
read_object-returns-then-depth_left-eq0-clause-gives t c =
    let key = option_map (λ s. s.now) c.in_ok-first.first in
    let start = ap (through (wrap_object c.args.depth_left)) (steps.first_name c.args.depth c.args.reader.now c.next_key.new.self key c.in_ok-first.ensures.value) in
    start ∙ steps.object_refused c.args.depth_left c.args.depth _ c.next_key.new.self key (omega arith) (sym (steps.wrapper_is _ _ c.and_then.ensures) ∙ c.in_default.is)

-- ---- read_value

-- ---- read_wrapper

pub read_wrapper-returns-in_err-second-clause-gives : goal.read_wrapper-returns-in_err-second-clause-gives
read_wrapper-returns-in_err-second-clause-gives t c = λ name is.
    let p = err_from_is_err_and c.from_residual-in_err-second.result c.from_residual-in_err-second.ensures.1 in
    let w = c.args.wrapper in
    let j = value_view c.in_ok-part.part in
    rw (p.1, p.2) (seconds.first_part w name c.args.depth_left c.args.depth (length c.args.reader.now) c.args.reader.now c.read_part.new.reader j is c.in_ok-part.ensures.gives
    ∙ seconds.no_name (wrapped c.args.depth_left w j (wrap (c.args.depth_left - 1) j)) c.args.depth (length c.args.reader.now) c.read_part.new.reader c.in_err-second.ensures.value)

pub read_wrapper-returns-in_default-clause-gives : goal.read_wrapper-returns-in_default-clause-gives
read_wrapper-returns-in_default-clause-gives t c = λ name is.
    let w = c.args.wrapper in
    let j = value_view c.in_ok-part.part in
    let s = c.read_part.new.reader in
    let le : length s ≤ length c.args.reader.now = omega (arith, c.in_ok-part.ensures.shorter) in
    let key = c.in_ok-second.ensures.value ∙ ap (λ k. Some (option_map (λ (s : Bor (List ℕ)). s.now) k, c.next_key.new.self)) c.in_default.is in
    steps.fact tree_of c.unwrap_single.result c.next_key.new.self (option_map leaf (single w j)) _
    (seconds.first_part w name c.args.depth_left c.args.depth (length c.args.reader.now) c.args.reader.now s j is c.in_ok-part.ensures.gives
    ∙ seconds.ended (wrapped c.args.depth_left w j (wrap (c.args.depth_left - 1) j)) c.args.depth (length c.args.reader.now) s c.next_key.new.self le key)
    c.unwrap_single.ensures.value

pub read_wrapper-returns-then-not-is_code-clause-gives : goal.read_wrapper-returns-then-not-is_code-clause-gives
read_wrapper-returns-then-not-is_code-clause-gives t c = λ name is.
    let w = c.args.wrapper in
    let j = value_view c.in_ok-part.part in
    let s = c.read_part.new.reader in
    let f = wrapped c.args.depth_left w j (wrap (c.args.depth_left - 1) j) in
    let le : length s ≤ length c.args.reader.now = omega (arith, c.in_ok-part.ensures.shorter) in
    let key = c.in_ok-second.ensures.value ∙ ap (λ k. Some (option_map (λ (s : Bor (List ℕ)). s.now) k, c.next_key.new.self)) c.in-Some.is in
    seconds.first_part w name c.args.depth_left c.args.depth (length c.args.reader.now) c.args.reader.now s j is c.in_ok-part.ensures.gives
    ∙ seconds.named f c.in-Some.second.now c.args.depth (length c.args.reader.now) s c.next_key.new.self le key
    ∙ steps.refused_member f c.in-Some.second.now c.args.depth (length c.args.reader.now - 1) c.next_key.new.self
    (λ i ms. seconds.one_name_alone w c.args.depth_left j (wrap (c.args.depth_left - 1) j) c.in-Some.second.now i ms (sym c.if-not-is_code.ensures) (sym c.if-is_scope.ensures))

pub read_wrapper-returns-clause-gives : goal.read_wrapper-returns-clause-gives
read_wrapper-returns-clause-gives t c = λ name is.
    let w = c.args.wrapper in
    let code : w ≡ kinds.Code = seconds.code_is w (sym c.if-not-is_code.ensures) in
    let j = value_view c.in_ok-part.part in
    let s = c.read_part.new.reader in
    let r = c.next_key.new.self in
    let n = length c.args.reader.now in
    let u = wrap (c.args.depth_left - 1) j in
    let le : length s ≤ n = omega (arith, c.in_ok-part.ensures.shorter) in
    let key = c.in_ok-second.ensures.value ∙ ap (λ k. Some (option_map (λ (s : Bor (List ℕ)). s.now) k, r)) c.in-Some.is in
    let shorter = read_key-shorter s (Some c.in-Some.second.now) r key in
    let less : length r ≤ n - 1 = omega (arith, c.in_ok-part.ensures.shorter, shorter) in
    rw (seconds.first_part kinds.Code name c.args.depth_left c.args.depth n c.args.reader.now s j (is ∙ ap Some code) c.in_ok-part.ensures.gives
    ∙ seconds.named (wrapped c.args.depth_left kinds.Code j u) c.in-Some.second.now c.args.depth n s r le key)
    (c.read_scope_second.ensures.gives (n - 1) u less)

-- ---- read_scope_second

pub read_scope_second-returns-then-depth_left-eq0-clause-gives : goal.read_scope_second-returns-then-depth_left-eq0-clause-gives
read_scope_second-returns-then-depth_left-eq0-clause-gives t c = λ n u le.
    seconds.no_depth_left_second kinds.Code c.args.second.now c.args.depth_left c.args.depth n c.args.reader.now (value_view c.args.code.now) u (omega arith)

pub read_scope_second-returns-then-not-names_scope-clause-gives : goal.read_scope_second-returns-then-not-names_scope-clause-gives
read_scope_second-returns-then-not-names_scope-clause-gives t c = λ n u le.
    seconds.code_without_scope c.args.second.now c.args.depth_left c.args.depth n c.args.reader.now (value_view c.args.code.now) u (sym c.if-not-names_scope.ensures)

pub read_scope_second-returns-in_err-scope-clause-gives : goal.read_scope_second-returns-in_err-scope-clause-gives
read_scope_second-returns-in_err-scope-clause-gives t c = λ n u le. grind (arith, seconds.scope_unread)

pub read_scope_second-returns-in_err-end_object-clause-gives : goal.read_scope_second-returns-in_err-end_object-clause-gives
read_scope_second-returns-in_err-end_object-clause-gives t c = λ n u le.
    let p = err_from_is_err_and c.from_residual-in_err-end_object.result c.from_residual-in_err-end_object.ensures.1 in
    let r = c.read_value.new.reader in
    let less : length r ≤ n = omega (arith, le, c.in_ok-scope.ensures.shorter) in
    rw (p.1, p.2) (steps.fails_where c.in_err-end_object.field-0.0 _
    (λ e. seconds.scope_unended c.args.second.now c.args.depth_left c.args.depth n c.args.reader.now r (value_view c.args.code.now) u
    (tree_of c.in_ok-scope.scope) (sym c.if-not-names_scope.ensures) c.in_ok-scope.ensures.gives less (c.in_err-end_object.ensures.refused.1)))

pub read_scope_second-returns-clause-gives : goal.read_scope_second-returns-clause-gives
read_scope_second-returns-clause-gives t c = λ n u le.
    let r = c.read_value.new.reader in
    let s = c.end_object.new.reader in
    let less : length r ≤ n = omega (arith, le, c.in_ok-scope.ensures.shorter) in
    steps.fact tree_of c.code_with_scope.result s _ _
    (seconds.scope_ended c.args.second.now c.args.depth_left c.args.depth n c.args.reader.now r s (value_view c.args.code.now) u
    (tree_of c.in_ok-scope.scope) (sym c.if-not-names_scope.ensures) c.in_ok-scope.ensures.gives less
    c.in_ok-end_object.ensures.ended (omega arith))
    c.code_with_scope.ensures

-- ---- read_scope_first

pub read_scope_first-returns-then-depth_left-eq0-clause-gives : goal.read_scope_first-returns-then-depth_left-eq0-clause-gives
read_scope_first-returns-then-depth_left-eq0-clause-gives t c = λ name is.
    seconds.no_depth_left_first name c.args.depth_left c.args.depth (length c.args.reader.now) c.args.reader.now is (omega arith)

pub read_scope_first-returns-in_err-scope-clause-gives : goal.read_scope_first-returns-in_err-scope-clause-gives
read_scope_first-returns-in_err-scope-clause-gives t c = λ name is. grind (arith, seconds.first_unread)

pub read_scope_first-returns-in-Ok-clause-gives : goal.read_scope_first-returns-in-Ok-clause-gives
read_scope_first-returns-in-Ok-clause-gives t c = λ name is.
    let n = length c.args.reader.now in
    let p = seconds.first_read name c.args.depth_left c.args.depth n c.args.reader.now c.read_value.new.reader (tree_of c.in_ok-scope.scope) is c.in_ok-scope.ensures.gives in
    rw (p.1) (steps.fact tree_of c.code_with_scope.result c.read_code.new.reader _ _
    (c.in-Ok.ensures.code n c.args.depth_left p.0 (tree_of c.in_ok-scope.scope) (omega (arith, c.in_ok-scope.ensures.shorter)) (omega arith)) c.code_with_scope.ensures)

pub read_scope_first-returns-in-Err-clause-gives : goal.read_scope_first-returns-in-Err-clause-gives
read_scope_first-returns-in-Err-clause-gives t c = λ name is.
    let n = length c.args.reader.now in
    let p = seconds.first_read name c.args.depth_left c.args.depth n c.args.reader.now c.read_value.new.reader (tree_of c.in_ok-scope.scope) is c.in_ok-scope.ensures.gives in
    rw (p.1) (c.in-Err.ensures.none n c.args.depth_left p.0 _ (omega (arith, c.in_ok-scope.ensures.shorter)))
