use Rattle.std.proofs.Common.{ℕ, List, sym, subst}
use Rattle.bd_bson_view.specs.Sound.{IsAt, IsPlace}
use Rattle.bd_bson_dump.proofs.collection.Dump.value_at.Goals as goal

pub value_in-requires : goal.value_in-requires
value_in-requires c = record { short = rw c.deref.ensures.value c.args.self.now.short; offset = subst (λ (x : List ℕ). IsPlace x c.args.at) (sym c.deref.ensures.value) c.requires }

pub returns-clause-value : goal.returns-clause-value
returns-clause-value c tree h = c.value_in.ensures.value tree (subst (λ (x : List ℕ). IsAt x c.args.at tree) (sym c.deref.ensures.value) h)
