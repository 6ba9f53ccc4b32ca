use Rattle.std.proofs.Common.{◌≡◌, ◌++◌, ◌∷◌, [], List, ℕ, length, take, sym, ap, ◌∙◌, arith, append_assoc}
use Rattle.std.specs.Prelude.{if◌then◌else◌}
use Rattle.bd_extjson_text.specs.Text.{escaped, quoted}
use Rattle.bd_extjson_text.proofs.JsonStringLemmas.{escaped-plain}
use Rattle.bd_extjson_text.proofs.BufferLemmas.{failed, prefix, lent, lent_text}
use Rattle.bd_extjson_text.proofs.json_string.append_name.Goals as goal

named : (old comma name : List ℕ) → (((old ++ comma) ++ 34 ∷ []) ++ name) ++ 34 ∷ 58 ∷ [] ≡ old ++ (comma ++ ((34 ∷ (name ++ 34 ∷ [])) ++ 58 ∷ []))
named old comma name = simp append_assoc

pub returns-then-copy_plain-clause-text : goal.returns-then-copy_plain-clause-text
unfolding quoted
returns-then-copy_plain-clause-text c =
    let made = c.grow_buffer.new.out in
    let buffer = c.put_known.new.buffer in
    let old : List ℕ = take c.args.end c.args.out.now.items in
    let comma : List ℕ = if c.args.later then 44 ∷ [] else [] in
    let name = c.as_bytes-bytes.result.now in
    let same : length buffer ≡ length made.items = omega (
      arith,
      c.put_known.auto.buffer,
      c.copy_plain.auto.buffer,
      c.put_byte-at.auto.buffer,
      c.put_separator-at.auto.buffer,
      c.as_mut_slice-buffer.ensures.len,
      made.ok.0,
    ) in
    let lead : take c.args.end c.as_mut_slice-buffer.result.now ≡ old = ap (λ (l : List ℕ). take c.args.end l) c.as_mut_slice-buffer.ensures.value ∙ c.grow_buffer.ensures.unchanged in
    let quote = c.put_byte-at.ensures.appended ∙ ap (λ (l : List ℕ). l ++ 34 ∷ []) (c.put_separator-at.ensures.appended ∙ ap (λ (l : List ℕ). l ++ comma) lead) in
    let written = c.copy_plain.ensures.copied c.if-copy_plain.true ∙ ap (λ (l : List ℕ). l ++ name) quote in
    let all = c.put_known.ensures.appended ∙ ap (λ (l : List ℕ). l ++ 34 ∷ 58 ∷ []) written ∙ named old comma name in
    let plain : name ≡ escaped c.args.name.now = sym (escaped-plain name (c.copy_plain.ensures.plain c.if-copy_plain.true)) ∙ ap escaped c.as_bytes-bytes.ensures.value in (
      lent_text made.len c.put_known.result buffer made.items _ same made.ok.0 all
          ∙ ap (λ (l : List ℕ). old ++ (comma ++ ((34 ∷ (l ++ 34 ∷ [])) ++ 58 ∷ []))) plain,
      rw (lent made.len buffer made.items same made.ok.0) (omega (arith, same, c.put_known.ensures.end, c.copy_plain.auto.buffer, c.in_ok-grow_buffer.ensures.capacity)),
    )

pub returns-in_err-at-clause-text : goal.returns-in_err-at-clause-text
returns-in_err-at-clause-text c =
    let made = c.grow_buffer.new.out in
    let buffer = c.copy_plain.new.buffer in
    let old = c.args.out.now.items in
    let comma : List ℕ = if c.args.later then 44 ∷ [] else [] in
    let same : length buffer ≡ length made.items = omega (arith, c.copy_plain.auto.buffer, c.put_byte-at.auto.buffer, c.put_separator-at.auto.buffer, c.as_mut_slice-buffer.ensures.len, made.ok.0) in
    let lead : take c.args.end c.as_mut_slice-buffer.result.now ≡ take c.args.end old = ap (λ (l : List ℕ). take c.args.end l) c.as_mut_slice-buffer.ensures.value ∙ c.grow_buffer.ensures.unchanged in
    let quote = c.put_byte-at.ensures.appended ∙ ap (λ (l : List ℕ). l ++ 34 ∷ []) (c.put_separator-at.ensures.appended ∙ ap (λ (l : List ℕ). l ++ comma) lead) in
    let there = lent_text made.len c.put_byte-at.result buffer made.items _ same made.ok.0 (c.copy_plain.ensures.unchanged ∙ quote ∙ append_assoc (take c.args.end old) comma (34 ∷ [])) in
    failed _ _ _ _ c.from_residual-in_err-at.result c.from_residual-in_err-at.ensures.0
    (prefix c.args.end c.put_byte-at.result old (comma ++ 34 ∷ []) c.append_escaped.new.out.items
    (omega arith) (c.in_err-at.ensures.text ∙ there))
