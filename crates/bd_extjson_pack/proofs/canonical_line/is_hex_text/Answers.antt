use Rattle.std.proofs.Common.{◌∙◌, ap, sym}
use Rattle.std.specs.Str.{bytes_eq}
use Rattle.bd_extjson_pack.proofs.CanonicalLemmas.{hex_is}
use Rattle.bd_extjson_pack.proofs.canonical_line.is_hex_text.Goals as goal

pub returns : goal.returns
returns c is =
    let same = ap (λ x. bytes_eq x c.encode_to_slice.new.output) (sym c.as_bytes.ensures.value) ∙ sym c.eq.ensures ∙ is in
    hex_is c.encode_to_slice.result c.args.text.now c.encode_to_slice.new.output c.args.bytes.now (sym c.if-is_err.ensures.value) c.encode_to_slice.ensures.written same
