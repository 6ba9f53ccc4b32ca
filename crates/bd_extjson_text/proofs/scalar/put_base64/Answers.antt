use Rattle.std.proofs.Common.{◌≡◌, ℕ, List, ◌+◌, ◌-◌, ◌≤◌, ◌++◌, length, take, drop, ap, ◌∙◌, arith}
use Rattle.std.proofs.lemmas.List.{length-take, length-drop}
use Rattle.std.proofs.lemmas.Slice.{take-put_mid}
use Rattle.base64.specs.Engines.{standard}
use Rattle.base64.specs.GeneralPurpose.{encode_of, encoded_size_of}
use Rattle.bd_extjson_text.specs.Text.{base64_text}
use Rattle.bd_extjson_text.proofs.BufferLemmas.{all_written}
use Rattle.bd_extjson_text.proofs.scalar.put_base64.Goals as goal

pub returns-clause-appended : goal.returns-clause-appended
unfolding base64_text
returns-clause-appended c =
    let end : ℕ = c.args.end in
    let buffer = c.args.buffer.now in
    let there : List ℕ = take (end + c.args.size - end) (drop end buffer) in
    let few : length there ≤ encoded_size_of standard (length c.args.bytes.now) = omega (arith, length-take (end + c.args.size - end) (drop end buffer), c.requires.size) in
    let long : c.args.size ≡ length c.encode_slice.new.output = omega (arith, c.encode_slice.auto.output, length-take (end + c.args.size - end) (drop end buffer), length-drop end buffer) in
    let all = all_written c.encode_slice.new.output (encode_of standard c.args.bytes.now) there (encoded_size_of standard (length c.args.bytes.now)) few c.in-Ok.ensures.written in
    take-put_mid end _ buffer c.encode_slice.new.output (end + c.args.size) (omega arith) (omega arith) ∙ ap (λ (l : List ℕ). take end buffer ++ l) all
