use Rattle.bd_wide_copy.proofs.DumpLemmas.{ok_dump}
use Rattle.bd_wide_copy.proofs.dump.WideDump.write_copy.Goals as goal

pub returns-else-is_err-clause-ok : goal.returns-else-is_err-clause-ok
returns-else-is_err-clause-ok g c =
    let written = rw c.reserve.ensures.items at c.write_copies-written.ensures.ok in
    ok_dump c.write_copies-written.result c.args.longs (g.C.Codes.worth_of c.args.codes.now) (g.C.Codes.code_of c.args.codes.now) c.args.self.now.bytes.items c.deref.result.now
    c.args.out.now.items c.write_copies-written.new.out.items c.deref.ensures.value c.args.self.now.short written
