use Rattle.std.proofs.Common.{rules, arith, ◌≡◌, ◌∷◌, ◌++◌, [], Ok, None, length-append, sym, ◌∙◌}
use Rattle.bd_cli_files.proofs.PackLemmas as packs
use Rattle.bd_cli_files.proofs.pack.Packing.pack_line.Goals as goal

pub returns-in-None-clause-packs : goal.returns-in-None-clause-packs
returns-in-None-clause-packs g c lines (ds, first, bytes, counted, numbered, advised) =
    let line = c.args.line.now in
    let good : c.args.self.now.bad ≡ None = search rules in
    let none : c.pack_line.result ≡ Ok None = search rules in
    let d = c.pack_line.ensures.packed none in
    let before = rw good at first in (
      ds ++ d.0 ∷ [],
      rw good (packs.packs_one g.P.LinePacker.form line lines ds d.0 (sym c.is_empty_line.ensures ∙ c.if-is_empty_line.false) d.1 before),
      packs.one_more_document g.P.LinePacker.form ds d.0 _ _ bytes d.2,
      omega (arith, counted, length-append ds (d.0 ∷ [])),
      omega (arith, numbered, length-append lines (line ∷ [])),
      packs.advised_more g.P.LinePacker.form line lines _ _ advised,
    )

pub returns-in-Some-clause-packs : goal.returns-in-Some-clause-packs
returns-in-Some-clause-packs g c lines (ds, first, bytes, counted, numbered, advised) =
    let line = c.args.line.now in
    let good : c.args.self.now.bad ≡ None = search rules in
    let before = rw good at first in
    let bad = rw c.in-Some.is at c.in_ok-pack_line.ensures.bad in (
      ds,
      packs.ends_bad g.P.LinePacker.form line lines ds c.in-Some.fault _ numbered (sym c.is_empty_line.ensures ∙ c.if-is_empty_line.false) bad.0 before,
      rw bad.1 bytes,
      counted,
      omega (arith, numbered, length-append lines (line ∷ [])),
      packs.advised_here g.P.LinePacker.form line lines c.in-Some.fault _ _ numbered c.advice-self.ensures,
    )
