use Rattle.std.proofs.Common.{List, ℕ, refl}
use Rattle.bd_value.specs.Tree.{Doc}
use Rattle.bd_bson_write.specs.TreeBytes.{SpellsPlainly}
use Rattle.bd_bson_write.proofs.WritingLemmas.{plainly_spells}
use Rattle.bd_extjson.proofs.FitLemmas.{reads_sound}
use Rattle.bd_extjson_pack.specs.Packable.{plain, IsPackable}
use Rattle.bd_extjson_pack.proofs.PlainLemmas.{reads_plain}
use Rattle.bd_extjson_pack.proofs.laws.packs_documents.Goals as goal

plainly : (line : List ℕ) (d : Doc) → IsPackable line d → SpellsPlainly d (plain d)
plainly line d packable =
    let limits = reads_plain line d packable.0 in
    record { spelled = refl; no_zero = limits.1; short = packable.1; shallow = limits.0 }

pub returns-clause-written : goal.returns-clause-written
returns-clause-written c = plainly

pub returns-clause-spelled : goal.returns-clause-spelled
returns-clause-spelled c line d packable =
    let sound = reads_sound line d packable.0 in
    plainly_spells d (plain d) sound (plainly line d packable)
