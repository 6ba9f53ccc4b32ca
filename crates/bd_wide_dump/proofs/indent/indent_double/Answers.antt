use Rattle.std.proofs.Common.{List, ℕ, true, false, drop, ap, sym, ◌∙◌}
use Rattle.bd_wide_dump.specs.WideText.{IsNumberText}
use Rattle.bd_bson_view.specs.Sizes.{long_of}
use Rattle.bd_bson_view.specs.Spelling.{as_double}
use Rattle.bd_wide_dump.proofs.IndentLemmas.{bare_laid, double_in, wrapped_laid}
use Rattle.bd_wide_dump.proofs.indent.indent_double.Goals as goal

pub returns-then-is_bare-clause-text : goal.returns-then-is_bare-clause-text
returns-then-is_bare-clause-text c =
    let Is : List ℕ → Type 0 = IsNumberText c.args.format as_double (drop c.args.start c.args.bytes.now) in
    bare_laid c.args.level c.long-bits.result Is c.args.out.now.items c.append_digits.new.out.items c.args.end c.append_digits.result
    (double_in c.args.format (drop c.args.start c.args.bytes.now) c.long-bits.result true (c.long-bits.ensures ∙ ap long_of c.split_at.ensures.back) (sym c.is_bare.ensures ∙ c.if-is_bare.true)) c.append_digits.ensures.text

pub returns-clause-text : goal.returns-clause-text
returns-clause-text c =
    let Is : List ℕ → Type 0 = IsNumberText c.args.format as_double (drop c.args.start c.args.bytes.now) in
    wrapped_laid c.args.level c.long-bits.result Is c.args.out.now.items c.indent_wrapped.new.out.items c.args.end c.indent_wrapped.result
    (double_in c.args.format (drop c.args.start c.args.bytes.now) c.long-bits.result false (c.long-bits.ensures ∙ ap long_of c.split_at.ensures.back) (sym c.is_bare.ensures ∙ c.if-is_bare.false)) c.indent_wrapped.ensures.text
