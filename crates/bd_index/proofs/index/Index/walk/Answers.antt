use Rattle.std.proofs.Common.{◌<◌, Bool, false, List, length, sym, ap, ◌∙◌, subst}
use Rattle.std.proofs.lemmas.List.{get_or-replicate, length-replicate}
use Rattle.bd_bson_dump.specs.Collection.{documents}
use Rattle.bd_path.specs.PathNames.{names_of}
use Rattle.bd_index.specs.Walk.{entries_ahead}
use Rattle.bd_index.proofs.WalkLemmas.{AreOrdered, from_above, in_range_for, upward, walks_fresh}
use Rattle.bd_index.proofs.index.Index.walk.Goals.{in-Up, in-Down}
use Rattle.bd_index.proofs.index.Index.walk.Goals as goal

ordered : (c : goal.Joined-dir) → AreOrdered c.args.dir (names_of c.args.self.now.path) (documents c.args.dump.now) (entries_ahead c.match-dir.order)
ordered c =
    let k = c.requires.index.keeps in
    let path = names_of c.args.self.now.path in
    let ds = documents c.args.dump.now in
    let are = rw c.requires.whole at k.are in
    elim c.match-dir.branch [
      | in-Up w ↦ rw (w.in-Up.is, ap entries_ahead w.order-is ∙ w.upward-order.ensures c.requires.index) (upward path ds k.entries are)
      | in-Down w ↦ rw (w.in-Down.is, ap entries_ahead w.order-is ∙ w.downward-order.ensures c.requires.index) (from_above path ds k.entries are)
    ]

pub invariant_of-result : goal.invariant_of-result
invariant_of-result c =
    let visits = c.in_ok-visited.ensures.items_if_clones_equal (λ y e. e) in
    record {
      in_range = in_range_for c.args.dir (names_of c.args.self.now.path) (documents c.args.dump.now) (entries_ahead c.match-dir.order) (ordered c)
          (length c.in_ok-visited.visited.items) (ap (λ (l : List Bool). length l) visits ∙ length-replicate _ false ∙ c.len.ensures);
    }

pub returns : goal.returns
returns c =
    let visits = c.in_ok-visited.ensures.items_if_clones_equal (λ y e. e) in
    walks_fresh c.args.dir (names_of c.args.self.now.path) (documents c.args.dump.now) (entries_ahead c.match-dir.order) c.in_ok-visited.visited.items
    (ordered c.before) (ap (λ (l : List Bool). length l) visits ∙ length-replicate _ false ∙ c.len.ensures)
    (λ k d lt. rw visits (get_or-replicate _ k false d (subst (λ n. k < n) (sym c.len.ensures) lt)))
