use Rattle.std.proofs.Common.{refl}
use Rattle.bd_value.specs.declared.node.Kind.TheVariants as kinds
use Rattle.bd_bson_view.proofs.ContentsLemmas.{document_has_elements}
use Rattle.bd_bson_view.proofs.SoundLemmas.{document_elements}
use Rattle.bd_bson_view.proofs.raw.RawDoc.elements.Goals as goal

pub invariant_of-result : goal.invariant_of-result
invariant_of-result c = record { short = c.args.self.short; remaining = (document_has_elements c.args.self.bytes.now c.args.self.start kinds.Doc c.args.self.sound refl).0 }

pub returns-clause-elements : goal.returns-clause-elements
returns-clause-elements c = document_elements c.args.self.bytes.now c.args.self.start c.args.self.sound _
