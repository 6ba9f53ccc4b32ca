use Rattle.bd_bson_dump.proofs.CheckResultLemmas.{none_at, turn_at, last_at}
use Rattle.bd_bson_dump.proofs.laws.checks_in_turn.Goals as goal

pub returns : goal.returns
returns c = record { end = none_at; turn = turn_at; last = last_at }
