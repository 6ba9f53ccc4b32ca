use Rattle.std.proofs.Common.{◌≡◌, ◌≤◌, length, rules, arith, ◌∙◌}
use Rattle.base64.proofs.Decoding.{conservative_ok}
use Rattle.base64.specs.{Decode.decoded_estimate, Engines.standard}
use Rattle.bd_cursor_request.proofs.TokenLemmas as tokens
use Rattle.bd_cursor_request.proofs.token.decoded.Goals as goal

pub returns-in-Ok-eq45 : goal.returns-in-Ok-eq45
returns-in-Ok-eq45 c =
    let text = c.args.text.now in
    let new = c.decode_slice.new.output in
    let n = c.in-Ok-eq45.field-0 in
    let size : length text ≡ 60 = search rules in
    let capacity : decoded_estimate (length text) ≤ 45 = omega (arith, size) in
    let ok = conservative_ok standard.decode_table text _ new standard.padding.value standard.config.decode_allow_trailing_bits
    standard.config.decode_padding_mode c.decode_slice.result n capacity c.decode_slice.ensures.value c.in-Ok-eq45.is c.decode_slice.ensures.written in
    c.token_in.ensures ∙ tokens.token_there text new n size ok.0 c.in-Ok-eq45.field-0-test (search rules)

pub returns-in_default : goal.returns-in_default
returns-in_default c =
    let text = c.args.text.now in
    let new = c.decode_slice.new.output in
    let n = c.in_default.field-0 in
    let size : length text ≡ 60 = search rules in
    let capacity : decoded_estimate (length text) ≤ 45 = omega (arith, size) in
    let ok = conservative_ok standard.decode_table text _ new standard.padding.value standard.config.decode_allow_trailing_bits
    standard.config.decode_padding_mode c.decode_slice.result n capacity c.decode_slice.ensures.value c.in_default.is c.decode_slice.ensures.written in
    tokens.token_of_another_size text new n size ok.0 (search rules) (search rules)
