use Rattle.std.proofs.Common.{arith, ℕ, ◌-◌, ◌≤◌, length}
use Rattle.std.proofs.lemmas.Fmt.{length-decimal-le}
use Rattle.std.proofs.lemmas.List.{length-take, length-drop}
use Rattle.bd_extjson_text.proofs.BufferLemmas.{put_prefix, leaf_prefix}
use Rattle.bd_extjson_text.proofs.scalar.put_digits.Goals as goal

pub write_digits-start-requires : goal.write_digits-start-requires
write_digits-start-requires c = (length-decimal-le 20 c.args.n (omega arith) (omega arith) (omega arith), omega arith)

pub returns-clause-appended : goal.returns-clause-appended
returns-clause-appended c =
    let written = c.write_digits-start.ensures in
    let copied = c.copy_from_slice.ensures in
    let few : 20 - c.write_digits-start.result ≤ length c.copy_from_slice.new.self = omega (arith, copied.len, length-take {A = ℕ}, length-drop {A = ℕ}) in
    let digits = leaf_prefix _ _ _ _ _ _ copied.after written.written (omega arith) (omega arith) in
    put_prefix c.args.end _ _ c.args.buffer.now c.copy_from_slice.new.self _ (omega arith) few digits
