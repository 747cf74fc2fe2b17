use Rattle.std.proofs.Common.{◌≡◌, ◌<◌, ◌+◌, ℕ, suc, List, ◌++◌, length, get_or, drop, sym, ap, ◌∙◌, add-one, append_assoc}
use Rattle.std.proofs.Math.Seq.{drop-cons}
use Rattle.std.proofs.lemmas.List.Elements.{All-get_or}
use Rattle.bpf_insn.specs.declared.insn.Insn.{Insn}
use Rattle.policy.specs.Code.{port_rule_code, rules_code}
use Rattle.policy_table.specs.Ports.{FitsPort}
use Rattle.policy_table.specs.declared.port_rules.PortRule.{PortRule}
use Rattle.policy.proofs.code.table_insns.Goals as goal

-- one rule more, and the rules after it
code_after : (rules : List PortRule) (i : ℕ) (d : PortRule) (before after total : List Insn) → i < length rules → after ≡ before ++ port_rule_code (get_or rules i d)
    → before ++ rules_code (drop i rules) ≡ total → after ++ rules_code (drop (i + 1) rules) ≡ total
code_after rules i d before after total within pushed whole =
    let rest : List Insn = rules_code (drop (suc i) rules) in
    let next : rules_code (drop i rules) ≡ port_rule_code (get_or rules i d) ++ rest = ap (λ (rs : List PortRule). rules_code rs) (drop-cons rules i d within) in
    ap (λ (k : ℕ). after ++ rules_code (drop k rules)) (add-one i)
    ∙ ap (λ (insns : List Insn). insns ++ rest) pushed
    ∙ append_assoc before (port_rule_code (get_or rules i d)) rest
    ∙ sym (ap (λ (insns : List Insn). before ++ insns) next)
    ∙ whole

pub loop-own-preserved : goal.loop-own-preserved
loop-own-preserved c =
    code_after c.args.rules.now c.loop-own.own-index _ c.loop-own.insns.items c.push_port_rule.new.insns.items _ c.loop-own-test.true c.in_ok-push_port_rule.ensures c.loop-own.invariant

pub push_port_rule-requires : goal.push_port_rule-requires
push_port_rule-requires c = (All-get_or FitsPort c.args.rules.now c.loop-own.own-index _ c.loop-own-test.true c.requires).rule.quota
