use Rattle.std.proofs.Common.{rules, arith, ◌≡◌, ◌++◌, ◌+◌, ◌-◌, [], ℕ, List, length, take, drop, refl, subst, sym, ap, ◌∙◌, length-drop}
use Rattle.std.proofs.lemmas.List.{take_all}
use Rattle.bd_cli_files.specs.inside.Pack.{IsTaken}
use Rattle.bd_cli_files.proofs.PackLemmas as packs
use Rattle.bd_cli_files.proofs.PackLemmas.{TakesFirst}
use Rattle.bd_cli_files.proofs.pack.Packing.pack_block.Goals as goal

pub loop-end-init : goal.loop-end-init
loop-end-init g c = record {
  takes = packs.takes_none g.P.LinePacker.form c.args.block.now c.args.partial.now.items c.args.self.now;
  counts = search rules;
  fits = search rules;
}

pub loop-end-preserved : goal.loop-end-preserved
loop-end-preserved g c =
    let block = c.args.block.now in
    let was = c.args.partial.now.items in
    let rest = c.loop-end.rest.now in
    let after = drop (c.in-Some.end + 1) rest in
    let found = c.in-Some.ensures.found in
    let whole : take (length rest - (c.in-Some.end + 1)) after ≡ after = take_all (length rest - (c.in-Some.end + 1)) after (omega (arith, length-drop (c.in-Some.end + 1) rest)) in
    let next = packs.takes_next g.P.LinePacker.form block was rest c.loop-end.partial.items (take c.in-Some.end rest) after c.args.self.now c.loop-end.self c.end_line.new.self
    c.loop-end.invariant.takes found.2 found.1 c.in_ok-end_line.ensures.packs in
    let given : TakesFirst g.P.LinePacker.form block c.args.self.now was (take (length rest - (c.in-Some.end + 1)) after) c.end_line.new.self []
    = subst (λ (x : List ℕ). TakesFirst g.P.LinePacker.form block c.args.self.now was x c.end_line.new.self []) (sym whole) next in
    record {
      takes = subst (λ (x : List ℕ). TakesFirst g.P.LinePacker.form block c.args.self.now was (take (length rest - (c.in-Some.end + 1)) after) c.end_line.new.self x) (sym c.in_ok-end_line.ensures.partial) given;
      counts = search rules;
      fits = let n : length (take (length rest - (c.in-Some.end + 1)) after) ≡ length rest - (c.in-Some.end + 1) = ap (λ (x : List ℕ). length x) whole ∙ length-drop (c.in-Some.end + 1) rest in
          omega (arith, n, found.0, c.in_ok-end_line.ensures.counts, c.loop-end.invariant.fits);
    }

pub returns-clause-packs : goal.returns-clause-packs
returns-clause-packs g c text before =
    let all = packs.takes_all g.P.LinePacker.form c.args.block.now c.args.partial.now.items c.loop-end.rest.now c.loop-end.partial.items c.args.self.now c.loop-end.self
    c.loop-end.invariant.takes (c.in_default.ensures.none refl) text before in
    packs.on_ok_grown c.extend_from_slice.result (IsTaken g.P.LinePacker.form (text ++ c.args.block.now) c.loop-end.self) c.loop-end.partial.items c.loop-end.rest.now c.extend_from_slice.new.self.items c.extend_from_slice.ensures.items all
