-- The text of a document, after what is in a buffer.
use Rattle.std.proofs.Common.{◌≡◌, ◌≤◌, ◌++◌, ℕ, List, [], Some, Result, Ok, Err, length, take, slice_get, sym, ap, subst, ◌∙◌, append-nil}
use Rattle.std.proofs.{lemmas.List.length-take-le, lemmas.Option.get_or_from_slice_get}
use Rattle.std.specs.Prelude.{IfOk, OnErr}
use Rattle.bd_value.specs.Tree.{Doc, Tree, doc, fields_of}
use Rattle.bd_extjson_text.specs.{Buffer.Appends, Text.text as text_of}
use Rattle.bd_cli_print.specs.Printer.{IsNamedText}

-- `mid` has space for more after the first `end` bytes of `old`
module _ (old mid new : List ℕ) (end at : ℕ) (same : take at mid ≡ take end old ++ []) where
  unchanged : take at mid ≡ take end old
  unchanged = same ∙ append-nil (take end old)

  pub text_appended : {E : Type 0} (r : Result ℕ E) (ds : List Doc) (place : ℕ) (d : Doc) (tree : Tree) → slice_get ds place ≡ Some d → tree ≡ doc (fields_of d)
      → Appends mid at r new (text_of tree) → IfOk r (λ to. (text : List ℕ) × IsNamedText ds place text × (take to new ≡ take end old ++ text))
  text_appended (Ok to) ds place d tree there is appends = (
    text_of tree,
    ap text_of (is ∙ ap (λ (x : Doc). doc (fields_of x)) (sym (get_or_from_slice_get ds place d [] there))),
    appends.0 ∙ ap (λ (x : List ℕ). x ++ text_of tree) unchanged,
  )
  text_appended (Err e) ds place d tree there is appends = _

  pub text_unchanged : {E : Type 0} (r : Result ℕ E) (text : List ℕ) → end ≤ length old → at ≤ length mid → Appends mid at r new text
      → OnErr r (take end new ≡ take end old)
  text_unchanged (Ok to) text within inside appends = _
  text_unchanged (Err e) text within inside appends =
      let one : at ≡ end = sym (length-take-le at mid inside) ∙ ap length unchanged ∙ length-take-le end old within in
      subst (λ (n : ℕ). take n new ≡ take end old) one (appends ∙ unchanged)
