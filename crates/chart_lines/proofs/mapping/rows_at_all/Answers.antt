use Rattle.std.proofs.Common.{◌≡◌, [], arith, subst}
use Rattle.policy_table.specs.PortTables.{is_named}
use Rattle.chart_lines.specs.AskedTables.{asked_at}
use Rattle.chart_lines.specs.Mapped.{PrintsLines, PrintsPorts}
use Rattle.chart_lines.specs.Ports.{AtPort, ports_for}
use Rattle.chart_lines.proofs.Reporting.{reports_more}
use Rattle.chart_lines.proofs.mapping.rows_at_all.Goals as goal

pub loop-port-preserved : goal.loop-port-preserved
loop-port-preserved c =
    reports_more (AtPort (λ port. is_named port c.args.policy.now.rules) (λ port. PrintsLines c.args.asked.now (ports_for (λ own. is_named own c.args.policy.now.rules) port) (asked_at c.args.policy.now port))) c.loop-port.port [] c.loop-port.rows.items c.add_port.new.rows.items
    c.loop-port.invariant c.in_ok-add_port.ensures

pub returns : goal.returns
returns c =
    let all : c.loop-port.port ≡ 32 = omega (arith, c.loop-port.auto.port-end, c.loop-port-test.false) in
    subst (λ count. PrintsPorts c.args.asked.now c.args.policy.now count [] c.loop-port.rows.items) all c.loop-port.invariant
