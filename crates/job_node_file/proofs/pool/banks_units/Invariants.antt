use Rattle.std.proofs.Common.{◌≡◌, ◌≤◌, ◌+◌, ◌*◌, drop}
use Rattle.std.specs.Prelude.{◌^◌}
use Rattle.job_node_file.specs.Pools.{banks_units as units_of}
use Rattle.job_node_file.proofs.pool.banks_units.Given as goal

abbrev pub invariant-loop-bank : goal.invariant-loop-bank
invariant-loop-bank l = (l.units + units_of l.ports (drop l.bank-index l.banks) ≡ units_of l.ports l.banks)
    × (l.units ≤ 2 ^ 43 * l.bank-index)
