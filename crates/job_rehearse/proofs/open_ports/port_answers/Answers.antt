use Rattle.std.proofs.Common.{◌≡◌, arith, subst}
use Rattle.job_rehearse.specs.OpenPorts.{AreOpen}
use Rattle.job_rehearse.proofs.Runs.{one_more_port}
use Rattle.job_rehearse.proofs.open_ports.port_answers.Goals as goal

pub loop-port-preserved : goal.loop-port-preserved
loop-port-preserved c =
    one_more_port c.args.judge.now c.args.image.now c.args.node c.args.asker c.loop-port.port c.loop-port.answers.items c.in_ok-passing_at.field-0 _
    c.loop-port.invariant c.in_ok-passing_at.ensures c.in_ok-push.ensures.items

pub returns : goal.returns
returns c =
    let all : c.loop-port.port ≡ c.args.node.ports = omega (arith, c.loop-port.auto.port-end, c.loop-port-test.false) in
    subst (λ count. AreOpen c.args.judge.now c.args.image.now c.args.node c.args.asker count c.loop-port.answers.items) all c.loop-port.invariant
