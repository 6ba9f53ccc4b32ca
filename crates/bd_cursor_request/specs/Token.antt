-- Tokens: a position in an answer, as a text.
use Rattle.std.specs.Prelude.{ℕ, ◌==◌, ◌&&◌, List, [], ◌∷◌, ◌++◌, length, take, drop, if◌then◌else◌}
use Rattle.std.specs.{Prelude.Option, Prelude.Some, Prelude.None, Prelude.option_and_then, Result.result_ok}
use Rattle.std.specs.Int.{w32, w64, from_le_bytes, to_le_bytes}
use Rattle.base64.specs.{Engines.standard, GeneralPurpose.decode_of, GeneralPurpose.encode_of}
use Rattle.sha2.specs.Sha256.{sha256}
use Rattle.bd_cursor_request.specs.declared.token.Token.{Token}

-- the 45 bytes of a token: version 1, the count of returned documents (uint64) and the number
-- of the last (uint32), least byte first, and the digest
abbrev pub token_bytes : Token → List ℕ
token_bytes t = 1 ∷ (to_le_bytes w64 t.given ++ (to_le_bytes w32 t.last ++ t.digest))

-- the text of a token: its 45 bytes in base64 (RFC 4648), which are 60 characters
abbrev pub token_text : Token → List ℕ
token_text t = encode_of standard (token_bytes t)

-- the token in the 44 bytes after the version
abbrev pub token_after_version : List ℕ → Token
token_after_version bytes = record {
  given = from_le_bytes w64 (take 8 bytes);
  last = from_le_bytes w32 (take 4 (drop 8 bytes));
  digest = drop 4 (drop 8 bytes);
}

-- the token in 45 bytes of version 1; None for any other bytes
abbrev pub token_in : List ℕ → Option Token
token_in [] = None
token_in (version ∷ bytes) = if (version == 1) && (length bytes == 44) then Some (token_after_version bytes) else None

-- the token in a text of 60 characters of base64; None for any other text
abbrev pub token_of : List ℕ → Option Token
token_of text = if length text == 60 then option_and_then token_in (result_ok (decode_of standard text)) else None

-- the digest of tokens for a dump and a request: SHA-256 of the SHA-256 of
-- the dump's bytes and the text of the request
abbrev pub token_digest : List ℕ → List ℕ → List ℕ
token_digest bytes text = sha256 (sha256 bytes ++ text)
