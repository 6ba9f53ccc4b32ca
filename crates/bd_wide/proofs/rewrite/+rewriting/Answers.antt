use Rattle.std.proofs.Common.{◌≡◌, ◌-◌, ◌∙◌, length, arith, rules, ap, sym, drop, ◌++◌, Some, refl, true, false, List, ℕ}
use Rattle.bd_bson_view.specs.Spelling.{number}
use Rattle.bd_wide.specs.Rewritten.{IsBody, IsScoped, IsNested}
use Rattle.bd_wide.specs.inside.Rewritten.{holder_least}
use Rattle.bd_bson_view.specs.declared.raw_parts.Holder.TheVariants as holders
use Rattle.std.proofs.Common.{length-drop}
use Rattle.bd_value.proofs.PrefixLemmas.{prefix_more}
use Rattle.bd_wide.proofs.RunLemmas as runs
use Rattle.bd_wide.proofs.RewriteLemmas as rewrites
use Rattle.bd_wide.proofs.rewrite.+rewriting.Goals as goal

pub body-returns-in_err-elements-clause-prefix : goal.body-returns-in_err-elements-clause-prefix
body-returns-in_err-elements-clause-prefix g t c =
    rewrites.on_err c.from_residual-in_err-elements.result _ (rewrites.prefix_of_two c.args.out.now.items c.append_number.new.out.items c.elements.new.out.items (number 0)
    c.in_ok-append_number.ensures.ok c.in_err-elements.ensures.prefix)

pub body-seal-requires : goal.body-seal-requires
body-seal-requires g t c =
    let added = c.in_ok-elements.ensures.ok in
    let size = rewrites.opened c.args.out.now.items _ _ c.extend_from_slice.new.self.items _ _ c.in_ok-append_number.ensures.ok added.2 c.in_ok-extend_from_slice.ensures.items in
    let at : c.len-at.result ≡ length c.args.out.now.items = search rules in
    search rules

pub body-returns-clause-ok : goal.body-returns-clause-ok
body-returns-clause-ok g t c =
    let at : c.len-at.result ≡ length c.args.out.now.items = search rules in
    rewrites.body_ok (g.W.NumberWriter.is_written c.args.writer.now) (IsNested (g.W.NumberWriter.is_written c.args.writer.now) c.args.depth_left) c.args.value.now c.args.out.now.items _ _ c.extend_from_slice.new.self.items c.seal.new.out.items
    (drop 4 c.args.value.now) c.inner_and_last.result.0.now c.inner_and_last.result.1.now c.len-at.result
    c.requires refl c.inner_and_last.ensures.inner c.inner_and_last.ensures.last at
    c.in_ok-append_number.ensures.ok c.in_ok-elements.ensures.ok c.in_ok-extend_from_slice.ensures.items c.seal.ensures

pub element-returns-clause-ok : goal.element-returns-clause-ok
element-returns-clause-ok g t c =
    rewrites.values_added c.nested.result (g.W.NumberWriter.is_written c.args.writer.now) (IsNested (g.W.NumberWriter.is_written c.args.writer.now) c.args.depth_left) c.args.part c.in-Values.holder c.args.typed c.args.head.now c.args.value.now c.args.out.now.items c.extend_from_slice.new.self.items c.nested.new.out.items
    c.in-Values.is c.in_ok-extend_from_slice.ensures.items c.nested.ensures.ok

pub elements-loop-typed-preserved : goal.elements-loop-typed-preserved
elements-loop-typed-preserved g t c =
    let l = c.loop-typed in
    let s = c.in-Some in
    let on = runs.run_goes_on (g.W.NumberWriter.is_written c.args.writer.now) (IsNested (g.W.NumberWriter.is_written c.args.writer.now) c.args.depth_left) c.args.bytes.now c.args.out.now.items l.out.items l.run.now l.rest.now c.split_at.result.0.now c.split_at.result.1.now
    c.split_at-in-Some.result.0.now c.split_at-in-Some.result.1.now s.typed s.k s.n l.invariant.comes l.invariant.run_is s.ensures.gives c.in_default-looked_into.ensures
    c.split_at.ensures.front c.split_at.ensures.back c.split_at-in-Some.ensures.front c.split_at-in-Some.ensures.back in
    record { comes = on.0; run_is = on.1; begun = l.invariant.begun }

pub elements-loop-typed-preserved-in_ok-element : goal.elements-loop-typed-preserved-in_ok-element
elements-loop-typed-preserved-in_ok-element g t c =
    let l = c.loop-typed in
    let s = c.in-Some in
    let head : List ℕ = c.split_at.result.0.now in
    let after : List ℕ = c.split_at-in-Some.result.1.now in
    let begun = c.put_run.new.out.items in
    let written = c.element.new.out.items in
    record {
      comes = runs.comes_anew (g.W.NumberWriter.is_written c.args.writer.now) (IsNested (g.W.NumberWriter.is_written c.args.writer.now) c.args.depth_left) c.args.bytes.now after c.args.out.now.items written
          (rewrites.stepped (g.W.NumberWriter.is_written c.args.writer.now) (IsNested (g.W.NumberWriter.is_written c.args.writer.now) c.args.depth_left) c.args.bytes.now c.args.out.now.items begun written l.rest.now head c.split_at.result.1.now
          c.split_at-in-Some.result.0.now after s.typed s.k s.n
          (runs.comes_flushed (g.W.NumberWriter.is_written c.args.writer.now) (IsNested (g.W.NumberWriter.is_written c.args.writer.now) c.args.depth_left) c.args.bytes.now l.rest.now c.args.out.now.items l.out.items begun l.run.now l.invariant.comes c.in_ok-put_run.ensures.ok) s.ensures.gives
          c.split_at.ensures.front c.split_at.ensures.back c.split_at-in-Some.ensures.front c.split_at-in-Some.ensures.back
          (rewrites.as_part (g.W.NumberWriter.is_written c.args.writer.now) (IsNested (g.W.NumberWriter.is_written c.args.writer.now) c.args.depth_left) s.typed c.in-Some-looked_into.part head c.split_at-in-Some.result.0.now begun written c.in-Some-looked_into.ensures c.in_ok-element.ensures.ok));
      run_is = runs.run_begins after;
      begun =
          let added = c.in_ok-element.ensures.ok in
          prefix_more c.args.out.now.items begun added.0 written (prefix_more c.args.out.now.items l.out.items (runs.before l.run.now l.rest.now) begun l.invariant.begun c.in_ok-put_run.ensures.ok) added.2;
    }

pub elements-returns-clause-ok : goal.elements-returns-clause-ok
elements-returns-clause-ok g t c =
    let l = c.loop-typed in
    let out = l.out.items ++ runs.before l.run.now l.rest.now in
    rewrites.ok_on c.extend_from_slice.result _ _ (rewrites.ok_if c.extend_from_slice.result _ _ _ c.extend_from_slice.ensures.items) (λ written.
    rewrites.all_written (g.W.NumberWriter.is_written c.args.writer.now) (IsNested (g.W.NumberWriter.is_written c.args.writer.now) c.args.depth_left) c.args.bytes.now c.args.out.now.items out c.extend_from_slice.new.self.items l.rest.now
    l.invariant.comes c.in_default.ensures.gives (runs.run_written l.out.items l.run.now l.rest.now c.extend_from_slice.new.self.items l.invariant.run_is written))

pub element-nested-requires : goal.element-nested-requires
element-nested-requires g t c κs within =
    let e = c.decreases in
    let least = rewrites.holder_takes_least c.args.typed c.in-Values.holder (c.requires.part ∙ ap Some c.in-Values.is) in
    let v = c.requires.value in
    (omega arith, (within, omega (arith, least, v)))

pub with_scope-nested-requires : goal.with_scope-nested-requires
unfolding holder_least
with_scope-nested-requires g t c κs within =
    let e = c.decreases in
    let b = c.split_at.ensures.back in
    let f = c.requires.inside in
    (omega arith, (within, omega (arith, ap (λ xs. length xs) b, length-drop c.args.at c.args.value.now, f.1)))

pub with_scope-returns-in_err-nested-clause-prefix : goal.with_scope-returns-in_err-nested-clause-prefix
with_scope-returns-in_err-nested-clause-prefix g t c =
    rewrites.on_err c.from_residual-in_err-nested.result _ (rewrites.prefix_of_two c.args.out.now.items (c.args.out.now.items ++ number 0) c.nested.new.out.items (number 0)
    refl (rewrites.prefix_of_two (c.args.out.now.items ++ number 0) c.write_code.new.out.items c.nested.new.out.items _
    c.in_ok-write_code.ensures.ok c.in_err-nested.ensures.prefix))

pub with_scope-returns-clause-ok : goal.with_scope-returns-clause-ok
with_scope-returns-clause-ok g t c =
    let at : c.len-start.result ≡ length c.args.out.now.items = search rules in
    let f = c.requires.inside in
    rewrites.scoped_ok (IsNested (g.W.NumberWriter.is_written c.args.writer.now) c.args.depth_left holders.Document) c.args.value.now c.args.out.now.items c.write_code.new.out.items c.nested.new.out.items c.seal.new.out.items
    c.split_at.result.1.now c.len-start.result c.args.at (sym c.requires.offset) f.0 f.1
    c.split_at.ensures.back at c.in_ok-write_code.ensures.ok c.in_ok-nested.ensures.ok c.seal.ensures

pub nested-returns-in-Document-clause-ok : goal.nested-returns-in-Document-clause-ok
nested-returns-in-Document-clause-ok g t c =
    rewrites.nested_ok c.body.result (g.W.NumberWriter.is_written c.args.writer.now) c.args.depth_left c.args.holder holders.Document c.args.value.now c.args.out.now.items c.body.new.out.items
    (IsBody (g.W.NumberWriter.is_written c.args.writer.now) (IsNested (g.W.NumberWriter.is_written c.args.writer.now) (c.args.depth_left - 1)) c.args.value.now) c.in-Document.is (λ x. (rewrites.below (g.W.NumberWriter.is_written c.args.writer.now) c.args.depth_left c.args.value.now x (omega arith)).0) c.body.ensures.ok

pub nested-returns-in-Array-clause-ok : goal.nested-returns-in-Array-clause-ok
nested-returns-in-Array-clause-ok g t c =
    rewrites.nested_ok c.body-in-Array.result (g.W.NumberWriter.is_written c.args.writer.now) c.args.depth_left c.args.holder holders.Array c.args.value.now c.args.out.now.items c.body-in-Array.new.out.items
    (IsBody (g.W.NumberWriter.is_written c.args.writer.now) (IsNested (g.W.NumberWriter.is_written c.args.writer.now) (c.args.depth_left - 1)) c.args.value.now) c.in-Array.is (λ x. (rewrites.below (g.W.NumberWriter.is_written c.args.writer.now) c.args.depth_left c.args.value.now x (omega arith)).1) c.body-in-Array.ensures.ok

pub nested-returns-in-CodeScope-clause-ok : goal.nested-returns-in-CodeScope-clause-ok
nested-returns-in-CodeScope-clause-ok g t c =
    rewrites.nested_ok c.scoped.result (g.W.NumberWriter.is_written c.args.writer.now) c.args.depth_left c.args.holder holders.CodeScope c.args.value.now c.args.out.now.items c.scoped.new.out.items
    (IsScoped (IsNested (g.W.NumberWriter.is_written c.args.writer.now) (c.args.depth_left - 1) holders.Document) c.args.value.now) c.in-CodeScope.is (λ x. (rewrites.below (g.W.NumberWriter.is_written c.args.writer.now) c.args.depth_left c.args.value.now x (omega arith)).2) c.scoped.ensures.ok
