use Rattle.std.proofs.Common.{rules, sym, arith, ◌∙◌, ◌≡◌, get_or, eqb, false}
use Rattle.bd_extjson_pack.proofs.CanonicalLemmas.{name_read, no_wrapper}
use Rattle.bd_extjson_pack.proofs.canonical_line.field_name.Goals as goal

pub returns : goal.returns
returns c =
    let name = c.in_ok-name.name.now in
    let read = c.in_ok-name.ensures in
    let both = name_read c.args.text.now name c.in_ok-name.rest.now c.in_ok-after_word.field-0.now c.in_ok-quoted.quoted.now read.0 read.2 c.in_ok-after_word.ensures (search rules) in
    let other : eqb (get_or name 0 0) 36 ≡ false = sym (c.starts_with.ensures.byte (omega arith) (omega arith) (λ w o found. found)) ∙ c.if-starts_with.false in
    (name, search rules, both.0, both.1, read.1, no_wrapper name other)
