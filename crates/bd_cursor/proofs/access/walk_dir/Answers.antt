use Rattle.std.proofs.Common.{◌≡◌, Bool, true, false, length, ap, ap₂, sym, ◌∙◌}
use Rattle.std.specs.{Prelude.◌==◌, Prelude.◌&&◌, Prelude.not, Prelude.string_bytes, Str.bytes_eq}
use Rattle.bd_path.specs.declared.path.Path.{Path}
use Rattle.bd_cursor.proofs.AccessLemmas.{dir_if, walk_of}
use Rattle.bd_cursor.proofs.access.walk_dir.Goals.{else-is_empty-via-then-is_empty+then-not-sparse+else-eq, else-is_empty-via-then-is_empty+else-not-sparse, else-is_empty-via-else-is_empty}
use Rattle.bd_cursor.proofs.access.walk_dir.Goals as goal

pub returns-then-eq : goal.returns-then-eq
returns-then-eq c =
    let i = c.args.index.now in
    let s = c.in_ok-path.field-0-0.now in
    let others = c.in_ok-path.others.now in
    let alone : (length others == 0) ≡ true = sym c.is_empty.ensures ∙ c.if-is_empty.true in
    let whole : i.sparse ≡ false = sym c.sparse.ensures ∙ c.if-not-sparse.true in
    let same : bytes_eq (string_bytes s.0.text) (string_bytes i.path.text) ≡ true =
    sym (ap₂ bytes_eq c.as_str.ensures (c.as_str-then-not-sparse.ensures ∙ ap (λ (p : Path). string_bytes p.text) c.path.ensures)) ∙ sym c.eq.ensures ∙ c.if-eq.true in
    sym (walk_of i c.args.sort.now s others c.in_ok-path.ensures.cases.0 ∙ ap₂ (λ (a b : Bool). dir_if (a && b) s.1) alone (ap₂ (λ (a b : Bool). not a && b) whole same))

pub returns-else-is_empty : goal.returns-else-is_empty
returns-else-is_empty c =
    let i = c.args.index.now in
    let s = c.in_ok-path.field-0-0.now in
    let others = c.in_ok-path.others.now in
    let is = walk_of i c.args.sort.now s others c.in_ok-path.ensures.cases.0 in
    let equal = bytes_eq (string_bytes s.0.text) (string_bytes i.path.text) in
    elim c.else-is_empty.branch [
      | else-is_empty-via-then-is_empty+then-not-sparse+else-eq w ↦
          let alone : (length others == 0) ≡ true = sym c.is_empty.ensures ∙ w.if-is_empty.true in
          let whole : i.sparse ≡ false = sym w.sparse.ensures ∙ w.if-not-sparse.true in
          let other : equal ≡ false =
          sym (ap₂ bytes_eq w.as_str.ensures (w.as_str-then-not-sparse.ensures ∙ ap (λ (p : Path). string_bytes p.text) w.path.ensures)) ∙ sym w.eq.ensures ∙ w.if-eq.false in
          sym (is ∙ ap₂ (λ (a b : Bool). dir_if (a && b) s.1) alone (ap₂ (λ (a b : Bool). not a && b) whole other))
      | else-is_empty-via-then-is_empty+else-not-sparse w ↦
          let alone : (length others == 0) ≡ true = sym c.is_empty.ensures ∙ w.if-is_empty.true in
          let sparse : i.sparse ≡ true = sym w.sparse.ensures ∙ w.if-not-sparse.false in
          sym (is ∙ ap₂ (λ (a b : Bool). dir_if (a && (not b && equal)) s.1) alone sparse)
      | else-is_empty-via-else-is_empty w ↦
          let more : (length others == 0) ≡ false = sym c.is_empty.ensures ∙ w.if-is_empty.false in
          sym (is ∙ ap (λ (a : Bool). dir_if (a && (not i.sparse && equal)) s.1) more)
    ]
