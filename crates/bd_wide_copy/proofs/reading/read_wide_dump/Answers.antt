use Rattle.std.proofs.Common.{subst, sym, ap, ◌∙◌}
use Rattle.bd_bson_check.specs.declared.profile.Profile.TheVariants.{All}
use Rattle.bd_wide_copy.specs.Dump.{AreDocuments}
use Rattle.bd_wide_copy.specs.Starts.{have_no_fault}
use Rattle.bd_wide_copy.proofs.StartsLemmas.{sound_documents}
use Rattle.bd_wide_copy.proofs.reading.read_wide_dump.Goals as goal

pub returns-clause-documents : goal.returns-clause-documents
returns-clause-documents c =
    let e = c.in_ok-starts.ensures in
    subst AreDocuments c.deref.ensures.value (sound_documents c.deref.result.now e.fit
    (ap (have_no_fault All c.deref.result.now) (sym e.starts) ∙ e.sound))
