use Rattle.std.proofs.Common.{rules, refl, ◌++◌}
use Rattle.std.specs.Prelude.{codes}
use Rattle.bd_wide_pack.proofs.CanonicalLineLemmas.{unquoted, wrapper_read}
use Rattle.bd_wide_pack.proofs.NumberTextLemmas.{decimal_printed}
use Rattle.bd_wide_pack.proofs.canonical_line.decimal128.Goals as goal

pub returns : goal.returns
returns c =
    let s = c.in_ok-contents.ensures in
    let contents = c.in_ok-contents.contents.now in
    let name = codes "{\"$numberDecimal\":\"" in (
      name ++ (contents ++ codes "\"}"),
      decimal_printed c.in_ok-low.low c.in_ok-low.high contents (unquoted contents s.3) (search rules),
      wrapper_read (codes "{\"$numberDecimal\":") name c.args.text.now c.in_ok-after_word.field-0.now contents c.in_ok-contents.rest.now c.in_ok-after_word-2.field-0.now refl c.in_ok-after_word.ensures s.0 s.2 c.in_ok-after_word-2.ensures,
    )
