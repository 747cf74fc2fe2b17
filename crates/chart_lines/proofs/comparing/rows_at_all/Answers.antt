use Rattle.std.proofs.Common.{◌≡◌, [], arith, subst}
use Rattle.chart_lines.specs.AskedTables.{asked_at}
use Rattle.chart_lines.specs.Compared.{PrintsLines, PrintsPorts}
use Rattle.chart_lines.specs.Ports.{AtPort, is_named_by, ports_for}
use Rattle.chart_lines.proofs.Reporting.{reports_more}
use Rattle.chart_lines.proofs.comparing.rows_at_all.Goals as goal

pub loop-port-preserved : goal.loop-port-preserved
loop-port-preserved c =
    let old = c.args.old.now in
    let new = c.args.new.now in
    reports_more (AtPort (λ port. is_named_by old new port) (λ port. PrintsLines c.args.asked.now (ports_for (λ own. is_named_by old new own) port) (asked_at old port) (asked_at new port))) c.loop-port.port [] c.loop-port.rows.items c.add_port.new.rows.items
    c.loop-port.invariant c.in_ok-add_port.ensures

pub returns : goal.returns
returns c =
    let all : c.loop-port.port ≡ 32 = omega (arith, c.loop-port.auto.port-end, c.loop-port-test.false) in
    subst (λ count. PrintsPorts c.args.asked.now c.args.old.now c.args.new.now count [] c.loop-port.rows.items) all c.loop-port.invariant
