use Rattle.bd_extjson_pack.proofs.CanonicalLemmas.{string_read, quiet_prefix}
use Rattle.bd_extjson_pack.proofs.canonical_line.string.Goals as goal

pub returns : goal.returns
returns c =
    let n = c.plain_length.result in
    let splits = c.in_ok-inside-2.ensures in
    let plain = quiet_prefix c.in_ok-inside.inside.now c.as_bytes.result.now n c.as_bytes.ensures.value c.plain_length.ensures.within c.plain_length.ensures.plain in
    string_read c.args.text.now c.in_ok-inside.inside.now c.in_ok-inside-2.inside.now c.in_ok-inside-2.rest.now c.in_ok-after_word.field-0.now n
    c.in_ok-inside.ensures splits.front splits.back c.in_ok-after_word.ensures plain
