use Rattle.bd_wide_copy.proofs.dump.WideDump.into_parts.Goals as goal

pub returns-clause-starts : goal.returns-clause-starts
returns-clause-starts c = let d = c.args.self in record { fit = d.fit; begin = d.begin; sound = d.sound }
