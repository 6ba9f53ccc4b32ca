use Rattle.std.proofs.Common.{rules}
use Rattle.std.proofs.lemmas.Result.{err_from_is_err_and}
use Rattle.bd_bson_stream.proofs.StreamLemmas.{joined_gave, fails_after, reads_joined}
use Rattle.bd_bson_stream.specs.Stream.{BuffersNone}
use Rattle.bd_bson_stream.proofs.doc_buffer.DocBuffer.advance.Goals as goal

pub returns-in_err-read_rest-clause-fails : goal.returns-in_err-read_rest-clause-fails
returns-in_err-read_rest-clause-fails g c =
    let e = c.in_ok-head.ensures in
    let gave = (rw c.in-Some.is at e.length).3 in
    let read = rw c.in-Some.is at e.reads in
    let k = e.unchanged.0 in
    let unchanged : BuffersNone c.args.self.now c.read_length.new.self = record { offset = k.offset; number = k.number; capacity = k.capacity; empty = k.empty } in
    let p = err_from_is_err_and c.from_residual-in_err-read_rest.result c.from_residual-in_err-read_rest.ensures.1 in
    rw (p.1, p.2) (fails_after g.R.Input.state g.R.Input.read_gives c.in-Some.head c.args.self.now c.read_length.new.self _ c.args.reader.now c.read_length.new.reader _
    gave read e.counted e.no_failure unchanged (search rules) _ c.in_err-read_rest.ensures.fails)

pub returns-clause-reads : goal.returns-clause-reads
returns-clause-reads g c _ =
    let e = c.in_ok-head.ensures in
    let r = c.in_ok-read_rest.ensures in
    let gave = (rw c.in-Some.is at e.length).3 in
    let read = rw c.in-Some.is at e.reads in
    record {
      frame = r.frame;
      gave = joined_gave _ _ _ c.in-Some.head _ gave r.gives;
      reads = reads_joined _ _ _ _ _ _ c.in-Some.head r.reads.0 _ e.counted.0 r.counted.0 read r.reads.2 r.reads.1;
      offset = search rules;
      number = search rules;
      capacity = search rules;
      counted = search rules;
      no_failure = search rules;
      grown = search rules;
    }
