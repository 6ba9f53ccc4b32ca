use Rattle.std.proofs.Common.{◌∙◌, List, ℕ, Some, ap, drop, sym, subst, arith}
use Rattle.bd_value.specs.Tree.{Tree, pairs_in}
use Rattle.bd_value.specs.declared.node.Kind.TheVariants as kinds
use Rattle.bd_bson_dump.specs.Collection.{documents}
use Rattle.bd_bson_view.specs.Sound.{Sound}
use Rattle.bd_bson_dump.proofs.CollectionLemmas.{documents_length, start_at, start_inside, means_there, document_of}
use Rattle.bd_bson_dump.proofs.collection.Dump.document.Goals as goal

pub index-requires : goal.index-requires
index-requires c = omega (arith, documents_length c.args.self.now)

pub at-requires : goal.at-requires
at-requires c =
    let at = start_at c.args.self.now.starts.items c.args.n c.index.result.now (omega (arith, documents_length c.args.self.now)) c.index.ensures in
    let sound = means_there c.args.self.now.bytes.items c.args.self.now.starts.items c.args.self.now.are_at c.args.n c.index.result.now at in
    record {
      short = rw c.deref.ensures.value c.args.self.now.short;
      inside = rw c.deref.ensures.value
          (start_inside c.args.self.now.bytes.items c.index.result.now sound);
      sound =
          subst (λ (x : List ℕ). Sound kinds.Doc (drop c.index.result.now x)) (sym c.deref.ensures.value) sound;
    }

pub returns-clause-document : goal.returns-clause-document
unfolding documents
returns-clause-document c =
    let bytes = c.args.self.now.bytes.items in
    let starts = c.args.self.now.starts.items in
    let at = start_at starts c.args.n c.index.result.now (omega (arith, documents_length c.args.self.now)) c.index.ensures in
    let sound = subst (λ (x : List ℕ). Sound kinds.Doc (drop c.index.result.now x)) (sym c.deref.ensures.value) (means_there bytes starts c.args.self.now.are_at c.args.n c.index.result.now at) in
    document_of bytes starts c.args.self.now.are_at c.args.n c.index.result.now c.deref.result.now sound at (sym c.deref.ensures.value)
    ∙ ap (λ (t : Tree). Some (pairs_in t)) (sym (c.at.ensures.meaning sound))
