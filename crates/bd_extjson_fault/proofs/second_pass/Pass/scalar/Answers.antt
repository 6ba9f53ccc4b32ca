use Rattle.std.proofs.Common.{refl, inl, inr}
use Rattle.bd_extjson_fault.proofs.TreeFaultLemmas.{letter_found}
use Rattle.bd_extjson_fault.proofs.second_pass.Pass.scalar.Goals as goal

pub returns-in_ok-self-in-34-clause-fault : goal.returns-in_ok-self-in-34-clause-fault
returns-in_ok-self-in-34-clause-fault c =
    letter_found c.args.text.now _ 34 c.args.self.now.fault c.args.depth_left (inl refl) c.in-len1-up.len_at_least c.in-34.is

pub returns-in_ok-self-in-116-clause-fault : goal.returns-in_ok-self-in-116-clause-fault
returns-in_ok-self-in-116-clause-fault c =
    letter_found c.args.text.now _ 116 c.args.self.now.fault c.args.depth_left (inr (inl refl)) c.in-len1-up.len_at_least c.in-116.is

pub returns-in_ok-self-in-102-clause-fault : goal.returns-in_ok-self-in-102-clause-fault
returns-in_ok-self-in-102-clause-fault c =
    letter_found c.args.text.now _ 102 c.args.self.now.fault c.args.depth_left (inr (inr (inl refl))) c.in-len1-up.len_at_least c.in-102.is

pub returns-in_ok-self-in-110-clause-fault : goal.returns-in_ok-self-in-110-clause-fault
returns-in_ok-self-in-110-clause-fault c =
    letter_found c.args.text.now _ 110 c.args.self.now.fault c.args.depth_left (inr (inr (inr refl))) c.in-len1-up.len_at_least c.in-110.is
