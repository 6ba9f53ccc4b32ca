use Rattle.std.proofs.Common.{◌≡◌, ℕ, ◌-◌, List, ◌∷◌, length, take, drop, refl, subst, arith}
use Rattle.std.proofs.lemmas.List.{take_all, length-drop}
use Rattle.bd_extjson_text.specs.Buffer.{Appends}
use Rattle.bd_extjson_text.specs.Text.{hex_text}
use Rattle.bd_extjson_text.proofs.BufferLemmas.{then}
use Rattle.bd_wide_dump.specs.Plain.{uuid_text}
use Rattle.bd_wide_dump.proofs.RelaxedLemmas.{known}
use Rattle.bd_wide_dump.proofs.plain.append_uuid.Goals as goal

pub returns : goal.returns
returns c =
    let id = c.args.id.now in
    let group : List ℕ → List ℕ = λ x. 45 ∷ hex_text x in
    let old = c.args.out.now.items in
    let m1 = c.append_hex.new.out.items in
    let m2 = c.append_group.new.out.items in
    let m3 = c.append_group-2.new.out.items in
    let m4 = c.append_group-3.new.out.items in
    let new = c.append_group-4.new.out.items in
    let r = c.append_group-4.result in
    let a = c.in_ok-at.ensures in
    let b = c.in_ok-at-2.ensures in
    let d = c.in_ok-at-3.ensures in
    let e = c.in_ok-at-4.ensures in
    let rest : take (length id - 10) (drop 10 id) ≡ drop 10 id = take_all (length id - 10) (drop 10 id) (omega (arith, length-drop 10 id)) in
    let last = subst (λ (x : List ℕ). Appends m4 c.in_ok-at-4.at r new (group x)) rest c.append_group-4.ensures in
    let three = then c.in_ok-at-3.at c.in_ok-at-4.at m3 m4 new (group (take 2 (drop 8 id))) (group (drop 10 id)) r d.1 e.0 last in
    let two = then c.in_ok-at-2.at c.in_ok-at-3.at m2 m3 new (group (take 2 (drop 6 id))) _ r b.1 d.0 three in
    let one = then c.in_ok-at.at c.in_ok-at-2.at m1 m2 new (group (take 2 (drop 4 id))) _ r a.1 b.0 two in
    known old c.args.end new (λ text. text ≡ uuid_text id) (uuid_text id) r refl (then c.args.end c.in_ok-at.at old m1 new (hex_text (take 4 id)) _ r c.requires.1 a.0 one)
