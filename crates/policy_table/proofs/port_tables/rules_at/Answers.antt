use Rattle.std.specs.Prelude.{All}
use Rattle.std.proofs.Common.{◌≡◌, ◌++◌, List, sym, ap, ◌∙◌, subst, arith}
use Rattle.std.proofs.lemmas.List.{append-nil, drop_all}
use Rattle.policy_table.specs.Limits.{FitsFields}
use Rattle.policy_table.specs.Ports.{rules_at as asked_at}
use Rattle.policy_table.specs.declared.port_rules.PortRule.{PortRule}
use Rattle.policy_table.specs.declared.rules.Rule.{Rule}
use Rattle.policy_table.proofs.PortTables.{rules_at_fit}
use Rattle.policy_table.proofs.port_tables.rules_at.Goals as goal

pub returns-clause-fit : goal.returns-clause-fit
returns-clause-fit c =
    let gone = drop_all c.loop-own.own-index c.args.rules.now (omega (arith, c.loop-own-test.false)) in
    let same : c.loop-own.all.items ≡ asked_at c.args.port c.args.rules.now =
    sym (append-nil c.loop-own.all.items)
    ∙ ap (λ (left : List PortRule). c.loop-own.all.items ++ asked_at c.args.port left) (sym gone)
    ∙ c.loop-own.invariant in
    subst (λ (rules : List Rule). All FitsFields rules) (sym same) (rules_at_fit c.args.port c.args.rules.now c.requires)
