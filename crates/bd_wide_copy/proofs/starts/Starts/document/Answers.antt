use Rattle.std.proofs.Common.{arith}
use Rattle.bd_wide_copy.proofs.StartsLemmas.{number_inside, start_inside, framed_here, document_here, sound_here}
use Rattle.bd_wide_copy.proofs.starts.Starts.document.Goals as goal

pub index-requires : goal.index-requires
index-requires c =
    let s = c.requires.starts in
    omega (arith, number_inside c.args.bytes.now c.args.self.now.starts.items s.fit s.begin s.sound c.args.n c.requires.inside)

pub split_at-requires : goal.split_at-requires
split_at-requires c =
    let s = c.requires.starts in
    let lt = number_inside c.args.bytes.now c.args.self.now.starts.items s.fit s.begin s.sound c.args.n c.requires.inside in
    start_inside c.args.bytes.now c.args.self.now.starts.items s.fit s.begin s.sound c.args.n c.index.result.now lt c.index.ensures

pub number-size-requires : goal.number-size-requires
number-size-requires c =
    let s = c.requires.starts in
    let lt = number_inside c.args.bytes.now c.args.self.now.starts.items s.fit s.begin s.sound c.args.n c.requires.inside in
    let f = framed_here c.args.bytes.now c.args.self.now.starts.items s.fit s.begin s.sound c.args.n c.index.result.now c.split_at.result.1.now lt c.index.ensures c.split_at.ensures.back in
    omega (arith, f.0, f.1)

pub split_at-requires-2 : goal.split_at-requires-2
split_at-requires-2 c =
    let s = c.requires.starts in
    let lt = number_inside c.args.bytes.now c.args.self.now.starts.items s.fit s.begin s.sound c.args.n c.requires.inside in
    let f = framed_here c.args.bytes.now c.args.self.now.starts.items s.fit s.begin s.sound c.args.n c.index.result.now c.split_at.result.1.now lt c.index.ensures c.split_at.ensures.back in
    rw c.number-size.ensures f.1

pub returns-clause-document : goal.returns-clause-document
returns-clause-document c =
    let s = c.requires.starts in
    let lt = number_inside c.args.bytes.now c.args.self.now.starts.items s.fit s.begin s.sound c.args.n c.requires.inside in
    document_here c.args.bytes.now c.args.self.now.starts.items s.fit s.begin s.sound c.args.n c.index.result.now c.number-size.result c.split_at.result.1.now c.split_at-2.result.0.now
    lt c.index.ensures c.split_at.ensures.back c.number-size.ensures c.split_at-2.ensures.front

pub returns-clause-sound : goal.returns-clause-sound
returns-clause-sound c =
    let s = c.requires.starts in
    let lt = number_inside c.args.bytes.now c.args.self.now.starts.items s.fit s.begin s.sound c.args.n c.requires.inside in
    sound_here c.args.bytes.now c.args.self.now.starts.items s.fit s.begin s.sound c.args.n c.index.result.now c.number-size.result c.split_at.result.1.now c.split_at-2.result.0.now
    lt c.index.ensures c.split_at.ensures.back c.number-size.ensures c.split_at-2.ensures.front
