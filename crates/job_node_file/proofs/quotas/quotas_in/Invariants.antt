use Rattle.std.proofs.Common.{◌≡◌, ◌++◌, drop}
use Rattle.job_node_file.specs.Quotas.{quotas_in as quotas_of}
use Rattle.job_node_file.proofs.quotas.quotas_in.Given as goal

abbrev pub invariant-loop-own : goal.invariant-loop-own
invariant-loop-own l = l.quotas.items ++ quotas_of (drop l.own-index l.rules) ≡ quotas_of l.rules
