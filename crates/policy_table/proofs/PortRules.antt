-- Rules with ports, one by one.
use Rattle.std.specs.Prelude.{◌-◌, ◌^◌, min}
use Rattle.std.proofs.Common.{◌≡◌, ◌<◌, ◌+◌, ℕ, suc, List, [], ◌∷◌, ◌++◌, length, get_or, drop, sym, ap, ◌∙◌, arith, add-one, append_assoc}
use Rattle.std.proofs.Math.Seq.{drop-cons}
use Rattle.policy_table.specs.Ports.{at_every_port, on_lines}
use Rattle.policy_table.specs.Slots.{port_rule_slots, rules_slots}
use Rattle.policy_table.specs.declared.port_rules.PortRule.{PortRule}
use Rattle.policy_table.specs.declared.rules.Rule.{Rule}

-- ---- lines

-- one rule more on a line of its own
pub line_after : (rules : List Rule) (i : ℕ) (d : Rule) (before after total : List PortRule) → i < length rules
    → after ≡ before ++ at_every_port (i + 1) (get_or rules i d) ∷ [] → before ++ on_lines (i + 1) (drop i rules) ≡ total
    → after ++ on_lines (i + 1 + 1) (drop (i + 1) rules) ≡ total
line_after rules i d before after total within pushed whole =
    let own : PortRule = at_every_port (i + 1) (get_or rules i d) in
    let rest : List PortRule = on_lines (suc (i + 1)) (drop (suc i) rules) in
    let next : on_lines (i + 1) (drop i rules) ≡ own ∷ rest = ap (λ (rs : List Rule). on_lines (i + 1) rs) (drop-cons rules i d within) in
    ap (λ (k : ℕ). after ++ on_lines (i + 1 + 1) (drop k rules)) (add-one i)
    ∙ ap (λ (k : ℕ). after ++ on_lines k (drop (suc i) rules)) (add-one (i + 1))
    ∙ ap (λ (own_rules : List PortRule). own_rules ++ rest) pushed
    ∙ append_assoc before (own ∷ []) rest
    ∙ sym (ap (λ (own_rules : List PortRule). before ++ own_rules) next)
    ∙ whole

-- ---- slots

-- one rule more is counted, up to the greatest number
pub slots_after : (rules : List PortRule) (i : ℕ) (d : PortRule) (before after total : ℕ) → i < length rules
    → after ≡ min (before + port_rule_slots (get_or rules i d)) (2 ^ 64 - 1) → min (before + rules_slots (drop i rules)) (2 ^ 64 - 1) ≡ total
    → min (after + rules_slots (drop (i + 1) rules)) (2 ^ 64 - 1) ≡ total
slots_after rules i d before after total within added whole =
    let next : rules_slots (drop i rules) ≡ port_rule_slots (get_or rules i d) + rules_slots (drop (suc i) rules) = ap (λ (rs : List PortRule). rules_slots rs) (drop-cons rules i d within) in
    let same : rules_slots (drop (i + 1) rules) ≡ rules_slots (drop (suc i) rules) = ap (λ (k : ℕ). rules_slots (drop k rules)) (add-one i) in
    omega (arith, next, same, added, whole)
