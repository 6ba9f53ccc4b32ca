use Rattle.std.proofs.Common.{rules, ◌≡◌, ◌++◌, ℕ, List, length, drop, ap, ap₂, ◌∙◌}
use Rattle.std.specs.Prelude.{codes}
use Rattle.bd_bson_view.specs.Sizes.{long_of}
use Rattle.bd_wide_text.specs.Decimal128.{decimal128_text}
use Rattle.bd_wide_dump.specs.WideText.{decimal_text}
use Rattle.bd_wide_dump.proofs.LineLemmas.{number_in_part, number_done, number_kept, on_err}
use Rattle.bd_wide_dump.proofs.number.append_decimal128.Goals as goal

pub returns-in_err-write_decimal128-clause-err : goal.returns-in_err-write_decimal128-clause-err
returns-in_err-write_decimal128-clause-err c =
    on_err c.from_residual-in_err-write_decimal128.result (number_in_part c.args.end c.args.out.now.items c.truncate.new.self.items c.write_decimal128.new.out.items
    (codes "{\"$numberDecimal\":\"") c.requires.buffer (c.truncate.ensures.items ∙ c.in_ok-at.ensures.text.0) c.in_err-write_decimal128.ensures.prefix)

pub returns-clause-text : goal.returns-clause-text
returns-clause-text c =
    let here = c.split_at.ensures.back in
    let low = c.long.ensures ∙ ap long_of here in
    let high = c.long-2.ensures ∙ ap long_of (c.split_at-2.ensures.back ∙ ap (drop 8) here) in
    let all : c.len-at.result ≡ length c.write_decimal128.new.out.items = search rules in
    number_done (λ text. text ≡ decimal_text (drop c.args.start c.args.bytes.now)) c.args.out.now.items c.write_decimal128.new.out.items c.append_few-2.new.out.items
    (codes "{\"$numberDecimal\":\"") (decimal128_text c.long.result c.long-2.result) (codes "\"}") c.args.end c.len-at.result c.append_few-2.result
    (c.in_ok-write_decimal128.ensures.ok ∙ ap (λ (x : List ℕ). x ++ decimal128_text c.long.result c.long-2.result) (c.truncate.ensures.items ∙ c.in_ok-at.ensures.text.0))
    all (ap₂ (λ (l h : ℕ). codes "{\"$numberDecimal\":\"" ++ (decimal128_text l h ++ codes "\"}")) low high) c.append_few-2.ensures.text

pub returns-clause-err : goal.returns-clause-err
returns-clause-err c =
    let all : c.len-at.result ≡ length c.write_decimal128.new.out.items = search rules in
    let text = decimal128_text c.long.result c.long-2.result in
    number_kept c.args.out.now.items c.write_decimal128.new.out.items c.append_few-2.new.out.items (codes "{\"$numberDecimal\":\"") text (codes "\"}") c.args.end c.len-at.result
    c.append_few-2.result c.requires.buffer (c.in_ok-write_decimal128.ensures.ok ∙ ap (λ (x : List ℕ). x ++ text) (c.truncate.ensures.items ∙ c.in_ok-at.ensures.text.0)) all
    c.append_few-2.ensures.text
