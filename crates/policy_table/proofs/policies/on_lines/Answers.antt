use Rattle.std.specs.Prelude.{All}
use Rattle.std.proofs.Common.{◌≡◌, ◌+◌, ◌++◌, List, sym, ap, ◌∙◌, subst, arith}
use Rattle.std.proofs.lemmas.List.{append-nil, drop_all}
use Rattle.policy_table.specs.Ports.{FitsPort, on_lines as written_on}
use Rattle.policy_table.specs.declared.port_rules.PortRule.{PortRule}
use Rattle.policy_table.specs.declared.rules.Rule.{Rule}
use Rattle.policy_table.proofs.PortsFit.{lines_fit}
use Rattle.policy_table.proofs.policies.on_lines.Goals as goal

pub returns-clause-fit : goal.returns-clause-fit
returns-clause-fit c =
    let gone = drop_all c.loop-rule.rule-index c.args.rules.now (omega (arith, c.loop-rule-test.false)) in
    let same : c.loop-rule.all.items ≡ written_on 1 c.args.rules.now =
    sym (append-nil c.loop-rule.all.items)
    ∙ ap (λ (left : List Rule). c.loop-rule.all.items ++ written_on (c.loop-rule.rule-index + 1) left) (sym gone)
    ∙ c.loop-rule.invariant.1 in
    λ fits. subst (λ (rules : List PortRule). All FitsPort rules) (sym same) (lines_fit 1 c.args.rules.now fits)
