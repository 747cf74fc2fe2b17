use Rattle.std.proofs.Common.{◌≡◌, drop}
use Rattle.policy_table.specs.Surveys.{first_of_code as first_in}
use Rattle.policy_table.proofs.surveys.first_of_code.Given as goal

abbrev pub invariant-loop-fault : goal.invariant-loop-fault
invariant-loop-fault l = first_in l.code (drop l.fault-index l.faults) ≡ first_in l.code l.faults
