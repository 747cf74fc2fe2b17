use Rattle.std.proofs.Common.{◌≡◌, ◌++◌, drop}
use Rattle.std.specs.List.{flat_map}
use Rattle.std.specs.String.{string_bytes}
use Rattle.job_node_file.specs.Quotas.{quota_row}
use Rattle.job_node_file.proofs.quotas.add_each_row.Given as goal

abbrev pub invariant-loop-quota : goal.invariant-loop-quota
invariant-loop-quota l =
    string_bytes l.text ++ flat_map quota_row (drop l.quota-index l.quotas) ≡ string_bytes l.initial.text ++ flat_map quota_row l.quotas
