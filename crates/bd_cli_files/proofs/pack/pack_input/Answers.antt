use Rattle.std.proofs.Common.{rules, arith, ◌≡◌, ◌<◌, ◌≤◌, ◌++◌, ◌∷◌, ◌+◌, [], ℕ, List, length, take, refl, subst, ap, ◌∙◌, append-nil, length-append, length-take}
use Rattle.std.specs.Io.KnownBytes.{Consumes, IsAtEnd}
use Rattle.std.proofs.KnownBytes.{Consumes-trans}
use Rattle.bd_value.specs.Limits.{longest_input}
use Rattle.bd_io_device.proofs.DevicesLemmas.{reads_none, reads_more}
use Rattle.bd_cli_files.specs.inside.Pack.{ArePacked}
use Rattle.bd_cli_files.proofs.PackLemmas as packs
use Rattle.bd_cli_files.proofs.pack.pack_input.Goals as goal

pub loop-n-init : goal.loop-n-init
loop-n-init g c = record {
  text = [];
  turns = 0;
  taken = rw c.new-partial.ensures.items (packs.starts g.P.LinePacker.form c.args.packing.now c.requires.none);
  consumed = search rules;
  reads = reads_none _ [] refl;
  within = search rules;
  numbered = search rules;
  counted = search rules;
  no_failure = refl;
}

pub returns-then-remaining-n-clause-fault : goal.returns-then-remaining-n-clause-fault
returns-then-remaining-n-clause-fault g c =
    let inv = c.loop-n.invariant in
    let part = take c.in-Ok.n c.read.new.buffer in
    let size : length part ≡ c.in-Ok.n = search (rules, length-take) in
    let more : longest_input < length (inv.text ++ part) = omega (arith, inv.within, size, c.if-remaining-n.true, length-append inv.text part) in (
      packs.more_than longest_input _ _ _ (Consumes-trans _ _ _ inv.text part inv.consumed c.in-Ok.ensures.bytes.0) more,
      search rules,
    )

pub returns-in_default-pack_block-clause-fault : goal.returns-in_default-pack_block-clause-fault
returns-in_default-pack_block-clause-fault g c =
    let inv = c.loop-n.invariant in
    let part = take c.in-Ok.n c.read.new.buffer in
    let size : length part ≡ c.in-Ok.n = search (rules, length-take) in
    let short : length (inv.text ++ part) ≤ longest_input = omega (arith, inv.within, size, c.if-remaining-n.false, length-append inv.text part) in
    ((inv.text ++ part, Consumes-trans _ _ _ inv.text part inv.consumed c.in-Ok.ensures.bytes.0, short), search rules)

pub loop-n-preserved : goal.loop-n-preserved
loop-n-preserved g c =
    let inv = c.loop-n.invariant in
    let part = take c.in-Ok.n c.read.new.buffer in
    let some : 0 < length part = search rules in
    let size : length part ≡ c.in-Ok.n = search (rules, length-take) in
    record {
      text = inv.text ++ part;
      turns = inv.turns + 1;
      taken = c.in-Ok-pack_block.ensures.packs inv.text inv.taken;
      consumed = Consumes-trans _ _ _ inv.text part inv.consumed c.in-Ok.ensures.bytes.0;
      reads = reads_more _ _ _ _ inv.text part _ inv.reads c.in-Ok.ensures.gives some refl;
      within = omega (arith, inv.within, size, c.if-remaining-n.false, length-append inv.text part);
      numbered = omega (arith, inv.numbered, size, c.in-Ok-pack_block.ensures.counts, length-append inv.text part);
      counted = search rules;
      no_failure = search rules;
    }

pub returns-in-Ok-pack_line-clause-packs : goal.returns-in-Ok-pack_line-clause-packs
returns-in-Ok-pack_line-clause-packs g c =
    let inv = c.loop-n.invariant in
    let before = (g.R.Input.state c.args.input.now).remaining in
    let after = (g.R.Input.state c.read.new.self).remaining in
    let part = take c.in-Ok.n c.read.new.buffer in
    let none : part ≡ [] = search rules in
    let all : Consumes before after inv.text
    = subst (Consumes before after) (ap (λ x. inv.text ++ x) none ∙ append-nil inv.text) (Consumes-trans _ _ _ inv.text part inv.consumed c.in-Ok.ensures.bytes.0) in
    let end : IsAtEnd after = search rules in (
      inv.text,
      (packs.all_given before after inv.text all end, end, omega (arith, inv.within), search rules),
      packs.ends_text g.P.LinePacker.form inv.text c.loop-n.partial.items c.loop-n.packing c.pack_line.new.self inv.taken
          (λ lines packed. subst (λ (x : List ℕ). ArePacked g.P.LinePacker.form (lines ++ x ∷ []) c.pack_line.new.self) c.deref.ensures.value (c.in-Ok-pack_line.ensures.packs lines packed)),
    )
