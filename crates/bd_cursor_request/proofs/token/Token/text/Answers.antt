use Rattle.std.proofs.Common.{rules, ap, ◌∙◌, Ok, string_bytes}
use Rattle.base64.specs.{Engines.standard, GeneralPurpose.encode_of}
use Rattle.bd_cursor_request.proofs.TokenLemmas.{text_back}
use Rattle.bd_cursor_request.proofs.token.Token.text.Goals as goal

pub returns-clause-size : goal.returns-clause-size
returns-clause-size c =
    let bytes = c.deref.ensures.0 ∙ c.bytes_of-bytes.ensures in
    (text_back c.args.self.now (string_bytes c.in_ok-text.text) (search rules) (search rules) (search rules) (c.in_ok-text.ensures.text
    ∙ ap (encode_of standard) bytes) (c.in_ok-text.ensures.decoded ∙ ap (λ xs. Ok xs) bytes)).0

pub returns-clause-read_back : goal.returns-clause-read_back
returns-clause-read_back c =
    let bytes = c.deref.ensures.0 ∙ c.bytes_of-bytes.ensures in
    (text_back c.args.self.now (string_bytes c.in_ok-text.text) (search rules) (search rules) (search rules) (c.in_ok-text.ensures.text
    ∙ ap (encode_of standard) bytes) (c.in_ok-text.ensures.decoded ∙ ap (λ xs. Ok xs) bytes)).1
