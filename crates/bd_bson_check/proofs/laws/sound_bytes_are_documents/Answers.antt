use Rattle.std.proofs.Common.{◌≡◌, ◌+◌, length, None, Result, Ok, Err, refl, ap}
use Rattle.std.specs.Result.{result_err}
use Rattle.bd_bson_check.specs.Fault.{Fault}
use Rattle.bd_bson_check.specs.declared.profile.Profile.TheVariants.{All}
use Rattle.bd_bson_check.specs.FirstFault.{skip_document}
use Rattle.bd_bson_check.proofs.WideLemmas.{document_by_value, document_by_value_again}
use Rattle.bd_bson_check.proofs.laws.sound_bytes_are_documents.Goals as goal

no_err : (r : Result (Unit {0}) Fault) → result_err r ≡ None → r ≡ Ok tt
no_err (Ok tt) is = refl
no_err (Err f) is = absurd cc

pub returns-clause-some : goal.returns-clause-some
returns-clause-some c = λ worth base bytes fits is. document_by_value worth (base + length bytes) bytes fits (no_err (skip_document All (base + length bytes) bytes) is)

pub returns-clause-none : goal.returns-clause-none
returns-clause-none c = λ worth base bytes d h. ap result_err (document_by_value_again worth (base + length bytes) bytes d h)
