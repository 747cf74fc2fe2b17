use Rattle.std.proofs.Common.{◌≡◌, arith, rules}
use Rattle.bpf.specs.Weight.{times_at}
use Rattle.weights.specs.Classes.{cost_by}
use Rattle.bpf.proofs.Weighed.{saturated-mul}
use Rattle.weights.proofs.weighing.part.Goals as goal

pub returns-in-Some : goal.returns-in-Some
returns-in-Some c =
    let cost : c.from.result ≡ cost_by c.args.costs.now c.in-Some.insn = search rules in
    rw (c.saturating_mul.ensures, c.times.ensures, cost, c.in-Some.is)
    (saturated-mul (times_at c.args.loops.now c.args.slot) (cost_by c.args.costs.now c.in-Some.insn))

pub returns-in-None : goal.returns-in-None
returns-in-None c = rw c.in-None.is (omega arith)
