use Rattle.bd_value.proofs.PrefixLemmas.{prefix_more}
use Rattle.bd_wide_copy.proofs.DumpLemmas.{copied_on, all_copied}
use Rattle.bd_wide_copy.proofs.copies.write_copies.Goals as goal

pub loop-size-preserved : goal.loop-size-preserved
loop-size-preserved g c =
    let l = c.loop-size in
    let e = c.in_ok-write_copy.ensures.ok in
    record {
      comes = copied_on c.args.longs (g.C.Codes.worth_of c.args.codes.now) (g.C.Codes.code_of c.args.codes.now) c.args.bytes.now l.rest.now c.args.out.now.items l.out.items
          c.write_copy.new.out.items c.split_at.result.0.now c.split_at.result.1.now c.in-Some.size l.invariant.comes c.in-Some.ensures.gives
          c.split_at.ensures.front c.split_at.ensures.back e;
      begins = prefix_more c.args.out.now.items l.out.items e.0 c.write_copy.new.out.items l.invariant.begins e.2;
    }

pub returns-clause-ok : goal.returns-clause-ok
returns-clause-ok g c =
    all_copied c.args.longs (g.C.Codes.worth_of c.args.codes.now) (g.C.Codes.code_of c.args.codes.now) c.args.bytes.now c.loop-size.rest.now c.args.out.now.items c.loop-size.out.items
    c.loop-size.invariant.comes c.in_default.ensures.gives
