use Rattle.std.proofs.Common.{ap, length}
use Rattle.bd_wide_pack.proofs.CanonicalLineLemmas.{packs}
use Rattle.bd_wide_pack.proofs.canonical_line.append_canonical.Goals as goal

pub returns-in-empty : goal.returns-in-empty
returns-in-empty c =
    let g = c.in_ok-append_fields.ensures.gives in
    packs c.args.text.now c.in_ok-append_fields.field-0.now c.args.out.now.items c.append_fields.new.out.items g.2 g.0 g.1 g.3 (ap (λ x. length x) c.in-empty.is) g.4 c.requires g.5 c.in_ok-append_fields.ensures.within
