use Rattle.std.proofs.Common.{◌≡◌, ◌++◌, ◌∷◌, [], arith, subst}
use Rattle.policy_table.specs.PortTables.{is_named}
use Rattle.chart_lines.specs.AskedTables.{asked_at}
use Rattle.chart_lines.specs.Never.{AreTables}
use Rattle.chart_lines.specs.Ports.{AtPort}
use Rattle.chart_lines.proofs.Reporting.{reports_more}
use Rattle.chart_lines.proofs.never.tables_of.Goals as goal

pub loop-port-preserved : goal.loop-port-preserved
loop-port-preserved c =
    reports_more (AtPort (λ port. is_named port c.args.policy.now.rules) (λ port before after. after ≡ before ++ asked_at c.args.policy.now port ∷ [])) c.loop-port.port [] c.loop-port.tables.items c.add_table.new.tables.items
    c.loop-port.invariant c.in_ok-add_table.ensures

pub returns : goal.returns
returns c =
    let all : c.loop-port.port ≡ 32 = omega (arith, c.loop-port.auto.port-end, c.loop-port-test.false) in
    subst (λ count. AreTables c.args.policy.now count c.loop-port.tables.items) all c.loop-port.invariant
