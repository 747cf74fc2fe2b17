use Rattle.std.proofs.Common.{rules, ◌≡◌, ◌<◌, ℕ, arith, subst}
use Rattle.job_charts.specs.ComparedFile.{AreSameIfCharted}
use Rattle.job_charts.proofs.Charted.{same_at_all, same_more}
use Rattle.job_charts.proofs.DifferAt.{not_apart}
use Rattle.job_charts.proofs.compare.differ_somewhere.Goals as goal

pub loop-port-preserved : goal.loop-port-preserved
loop-port-preserved c =
    same_more c.args.asked.now c.args.old.now c.args.new.now c.loop-port.port c.loop-port.invariant
    (not_apart c.args.asked.now c.args.old.now c.args.new.now c.loop-port.port c.in_ok-differ_at.field-0 (search rules) c.in_ok-differ_at.ensures)

pub returns : goal.returns
returns c =
    let all : c.loop-port.port ≡ 32 = omega (arith, c.loop-port.auto.port-end, c.loop-port-test.false) in
    same_at_all c.args.asked.now c.unnamed_ports_are_alike.ensures c.args.old.now c.args.new.now
    (subst (λ (count : ℕ). (port : ℕ) → port < count → AreSameIfCharted c.args.asked.now c.args.old.now c.args.new.now port) all c.loop-port.invariant)
