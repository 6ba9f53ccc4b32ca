use Rattle.std.proofs.Common.{rules}
use Rattle.bd_io_device.specs.Devices.{over}
use Rattle.bd_cli_scan.specs.Dump.{IsPieceOf}
use Rattle.bd_cli_scan.proofs.OutputLemmas.{wrote_some}
use Rattle.bd_cli_scan.proofs.dump.PrinterVisitor.visit.Goals as goal

pub returns-in_err-write_all : goal.returns-in_err-write_all
returns-in_err-write_all g c =
    wrote_some (IsPieceOf (g.P.Pieces.form c.args.self.now.pieces.now) c.args.number c.args.document.now) c.in_ok-piece.piece.now (over g.O.Output.state c.args.out.now c.write_all.new.writer)
    c.from_residual-in_err-write_all.result c.in_ok-piece.ensures (search rules)
