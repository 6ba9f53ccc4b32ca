use Rattle.std.proofs.Common.{length, sym}
use Rattle.bd_value.specs.View.{view_of}
use Rattle.bd_bson_view.specs.Unique.{number_length}
use Rattle.bd_bson_write.specs.TreeBytes.{leaf_bytes}
use Rattle.bd_bson_write.proofs.CountingLemmas.{remainder_of, long_size, timestamp_size}
use Rattle.bd_bson_write.proofs.counting.after_scalar.Goals as goal

pub returns-in-Int32 : goal.returns-in-Int32
returns-in-Int32 c = remainder_of c.args.limit 4 (length (leaf_bytes (view_of c.args.scalar))) c.after_bytes.result (rw c.in-Int32.is (sym (number_length _))) c.after_bytes.ensures

pub returns-in-Int64 : goal.returns-in-Int64
returns-in-Int64 c = remainder_of c.args.limit 8 (length (leaf_bytes (view_of c.args.scalar))) c.after_bytes-in-Int64.result (rw c.in-Int64.is (long_size _)) c.after_bytes-in-Int64.ensures

pub returns-in-Date : goal.returns-in-Date
returns-in-Date c = remainder_of c.args.limit 8 (length (leaf_bytes (view_of c.args.scalar))) c.after_bytes-in-Date.result (rw c.in-Date.is (long_size _)) c.after_bytes-in-Date.ensures

pub returns-in-Timestamp : goal.returns-in-Timestamp
returns-in-Timestamp c = remainder_of c.args.limit 8 (length (leaf_bytes (view_of c.args.scalar))) c.after_bytes-in-Timestamp.result (rw c.in-Timestamp.is (timestamp_size _ _)) c.after_bytes-in-Timestamp.ensures
