use Rattle.std.proofs.Common.{List, ℕ, ◌∙◌, Some, None, refl, sym, subst}
use Rattle.bd_bson_view.specs.Spelling.{IsDocument}
use Rattle.bd_wide_pack.proofs.LineLemmas.{fault_reported, is_packed, made_outcome, mixed_bad}
use Rattle.bd_wide_pack.proofs.line.WidePacker.pack_texts.Goals as goal

pub returns-in-Some-clause-bad : goal.returns-in-Some-clause-bad
returns-in-Some-clause-bad c =
    let m = c.requires in
    let all = made_outcome c.args.line.now c.deref.result.now c.deref-2.result.now c.pack_text.new.bytes.items c.pack_text-2.new.bytes.items c.args.self.now.made m c.in_ok-whole.whole c.in_ok-text.text
    (Some c.in-Some.fault) c.deref.ensures.value c.deref-2.ensures.value c.in_ok-whole.ensures c.in_ok-text.ensures (sym c.in-Some.is ∙ c.first_fault.ensures) in
    (fault_reported c.args.line.now m.pieces c.args.self.now.made.numbers.items m.are m.is.2 c.pack_text.new.bytes.items c.pack_text-2.new.bytes.items c.in-Some.fault c.reported.result all c.reported.ensures, refl {a = c.args.out.now.items})

pub returns-in-None-clause-packed : goal.returns-in-None-clause-packed
returns-in-None-clause-packed c done =
    let m = c.requires in
    let all = made_outcome c.args.line.now c.deref.result.now c.deref-2.result.now c.pack_text.new.bytes.items c.pack_text-2.new.bytes.items c.args.self.now.made m c.in_ok-whole.whole c.in_ok-text.text
    None c.deref.ensures.value c.deref-2.ensures.value c.in_ok-whole.ensures c.in_ok-text.ensures (sym c.in-None.is ∙ c.first_fault.ensures) in
    let w = subst (λ (b : List ℕ). IsDocument all.0 b) (sym c.deref-in-None.ensures.value) all.3 in
    let t = subst (λ (b : List ℕ). IsDocument all.1 b) (sym c.deref-in-None-2.ensures.value) all.4 in
    let h = c.put_mixed.ensures.packed all.0 all.1 w t done in
    let numbers = c.deref-in-None-3.ensures.value in
    (h.0, is_packed c.args.line.now m.pieces c.deref-in-None-3.result.now m.are (numbers ∙ m.is.2) all.0 all.1 all.2 h.0 h.1 h.2, h.3)

pub returns-in-None-clause-bad : goal.returns-in-None-clause-bad
returns-in-None-clause-bad c =
    let m = c.requires in
    let all = made_outcome c.args.line.now c.deref.result.now c.deref-2.result.now c.pack_text.new.bytes.items c.pack_text-2.new.bytes.items c.args.self.now.made m c.in_ok-whole.whole c.in_ok-text.text
    None c.deref.ensures.value c.deref-2.ensures.value c.in_ok-whole.ensures c.in_ok-text.ensures (sym c.in-None.is ∙ c.first_fault.ensures) in
    let w = subst (λ (b : List ℕ). IsDocument all.0 b) (sym c.deref-in-None.ensures.value) all.3 in
    let t = subst (λ (b : List ℕ). IsDocument all.1 b) (sym c.deref-in-None-2.ensures.value) all.4 in
    let numbers = c.deref-in-None-3.ensures.value in
    mixed_bad c.args.line.now m.pieces c.deref-in-None-3.result.now m.are (numbers ∙ m.is.2) all.0 all.1 all.2 _ c.put_mixed.result (c.put_mixed.ensures.bad all.0 all.1 w t)
