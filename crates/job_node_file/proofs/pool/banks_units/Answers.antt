use Rattle.std.proofs.Common.{arith}
use Rattle.std.proofs.lemmas.List.{at_drop_all}
use Rattle.job_node_file.specs.Pools.{banks_units as units_of}
use Rattle.job_node_file.proofs.pool.banks_units.Goals as goal

pub returns-clause-units : goal.returns-clause-units
returns-clause-units c =
    let none = at_drop_all (units_of c.args.ports) c.args.banks.now c.loop-bank.bank-index (omega (arith, c.loop-bank-test.false)) in
    omega (arith, none, c.loop-bank.invariant.0)
