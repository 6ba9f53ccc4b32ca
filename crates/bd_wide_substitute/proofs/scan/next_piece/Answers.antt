use Rattle.std.proofs.Common.{◌-◌, ◌∙◌, sym, length, refl}
use Rattle.bd_wide_substitute.proofs.PieceLemmas.{other_found, run_begins, wrapped_found}
use Rattle.bd_wide_substitute.proofs.scan.next_piece.Goals as goal

pub run_piece-requires : goal.run_piece-requires
run_piece-requires c = run_begins c.args.bytes.now c.requires.0 c.args.first c.requires.1 (sym c.is_of_number.ensures ∙ c.if-is_of_number.true)

pub returns-in-Some : goal.returns-in-Some
returns-in-Some c =
    let bytes = c.args.bytes.now in
    wrapped_found bytes c.in-Some.rest.now c.in-Some.value (length bytes - length c.in-Some.rest.now) c.in-Some.ensures.rest refl c.in-Some.ensures.some

pub returns-in-None : goal.returns-in-None
returns-in-None c =
    other_found c.args.bytes.now c.requires.0 c.args.first c.requires.1 c.if-first-eq34.false (sym c.is_of_number.ensures ∙ c.if-is_of_number.false) c.in-None.ensures.none
