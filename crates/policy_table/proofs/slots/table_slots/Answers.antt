use Rattle.std.proofs.Common.{List, ap, arith}
use Rattle.std.proofs.lemmas.List.{drop_all}
use Rattle.policy_table.specs.Slots.{rules_slots}
use Rattle.policy_table.specs.declared.port_rules.PortRule.{PortRule}
use Rattle.policy_table.proofs.slots.table_slots.Goals as goal

pub returns : goal.returns
returns c =
    let none = ap (λ (rules : List PortRule). rules_slots rules) (drop_all c.loop-own.own-index c.args.rules.now (omega (arith, c.loop-own-test.false))) in
    omega (arith, none, c.loop-own.invariant.0, c.loop-own.invariant.1)
