use Rattle.std.proofs.Common.{◌≡◌, ◌∙◌, ap, arith}
use Rattle.chart_lines.specs.Ports.{names_port, ports_for, stands_for, wanted_below}
use Rattle.chart_lines.proofs.ports.Tables.ports_for.Goals as goal

pub returns : goal.returns
unfolding ports_for
returns c =
    let all : c.loop-port.port ≡ 32 = omega (arith, c.loop-port.auto.port-end, c.loop-port-test.false) in
    c.loop-port.invariant ∙ ap (λ count. wanted_below (λ port. stands_for (λ p. names_port c.args.self p) c.args.own port) count) all
