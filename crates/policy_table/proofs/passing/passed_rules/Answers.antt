use Rattle.std.proofs.lemmas.List.{drop_all}
use Rattle.std.proofs.Common.{sym, ◌∙◌, arith}
use Rattle.machine.specs.Memory.{header}
use Rattle.policy_table.proofs.PassingBy.{stops_after, stops_there}
use Rattle.policy_table.proofs.passing.passed_rules.Goals as goal

pub returns-in_default : goal.returns-in_default
returns-in_default c =
    stops_there c.args.rules.now (header c.args.front.now c.args.tail.now) c.loop-rule.rule-index c.loop-rule.left.now _ c.loop-rule.all.items _ c.loop-rule-test.true (let none = sym c.passed.ensures ∙ c.in_default.is in rw (c.first_text_fault.ensures) at none) c.loop-rule.invariant

pub returns : goal.returns
returns c =
    stops_after c.args.rules.now (header c.args.front.now c.args.tail.now) c.loop-rule.rule-index c.loop-rule.left.now c.loop-rule.all.items _ (drop_all c.loop-rule.rule-index c.args.rules.now (omega (arith, c.loop-rule-test.false))) c.loop-rule.invariant
