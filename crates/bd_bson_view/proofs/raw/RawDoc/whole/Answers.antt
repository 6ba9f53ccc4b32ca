use Rattle.std.proofs.Common.{rules, arith}
use Rattle.bd_bson_view.proofs.SoundLemmas.{whole_sound, whole_is}
use Rattle.bd_bson_view.proofs.raw.RawDoc.whole.Goals as goal

pub invariant_of-result : goal.invariant_of-result
invariant_of-result c = record { inside = search rules; short = omega (arith, c.requires.1.short); sound = whole_sound c.args.bytes.now c.requires.0 c.requires.1 }

pub returns-clause-document : goal.returns-clause-document
returns-clause-document c = whole_is c.args.bytes.now c.requires.0 c.requires.1 _
