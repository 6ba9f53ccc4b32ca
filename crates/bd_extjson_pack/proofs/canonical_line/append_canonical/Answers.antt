use Rattle.std.proofs.Common.{ap, length}
use Rattle.bd_extjson_pack.proofs.CanonicalLemmas.{packs_canonical}
use Rattle.bd_extjson_pack.proofs.canonical_line.append_canonical.Goals as goal

pub returns-in-empty : goal.returns-in-empty
returns-in-empty c =
    let g = c.in_ok-append_fields.ensures.gives in
    packs_canonical c.args.text.now c.in_ok-append_fields.field-0.now c.append_fields.new.out.items c.args.out.now.items g.0 g.1 g.2 c.in_ok-append_fields.ensures.within g.3 (ap (λ x. length x) c.in-empty.is)
