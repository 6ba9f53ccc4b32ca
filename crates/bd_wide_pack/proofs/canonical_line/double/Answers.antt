use Rattle.std.proofs.Common.{rules, refl, ◌++◌}
use Rattle.std.specs.Prelude.{codes}
use Rattle.bd_wide_pack.proofs.CanonicalLineLemmas.{wrapper_read}
use Rattle.bd_wide_pack.proofs.NumberTextLemmas.{double_printed}
use Rattle.bd_wide_pack.proofs.canonical_line.double.Goals as goal

pub returns : goal.returns
returns c =
    let s = c.in_ok-contents.ensures in
    let contents = c.in_ok-contents.contents.now in
    let name = codes "{\"$numberDouble\":\"" in (
      name ++ (contents ++ codes "\"}"),
      double_printed c.in_ok-bits.bits contents (search rules),
      wrapper_read (codes "{\"$numberDouble\":") name c.args.text.now c.in_ok-after_word.field-0.now contents c.in_ok-contents.rest.now c.in_ok-after_word-2.field-0.now refl c.in_ok-after_word.ensures s.0 s.2 c.in_ok-after_word-2.ensures,
    )
