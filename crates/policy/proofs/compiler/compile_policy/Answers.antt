use Rattle.std.proofs.Common.{◌≡◌, ◌≤◌, List, length, Option, Some, None, refl, sym, ◌∙◌, subst, le_of_eq}
use Rattle.std.specs.Prelude.{All}
use Rattle.bpf.specs.Weight.{weight_of}
use Rattle.machine.specs.Sizes.{Maps}
use Rattle.policy.specs.Code.{table_code}
use Rattle.policy.specs.Compiled.{HasPortMeaning, IsPortCompiled, IsPortFault}
use Rattle.policy_table.specs.Policies.{PolicyValue, policy_fault}
use Rattle.policy_table.specs.Ports.{FitsPort}
use Rattle.policy_table.specs.Slots.{table_slots}
use Rattle.policy_table.specs.declared.port_rules.PortRule.{PortRule}
use Rattle.policy_table.specs.declared.text_faults.TextFault.{TextFault}
use Rattle.policy.proofs.Made.{made, made_justified, own_program}
use Rattle.policy.proofs.Refused.{policy_cells, policy_fits, port_cells}
use Rattle.policy.proofs.Weighing.{weighs}
use Rattle.policy.proofs.compiler.compile_policy.Goals as goal

compiled : (sizes : Maps) (policy : PolicyValue) → policy_fault sizes policy ≡ None → HasPortMeaning policy.rules (own_program policy.rules) → IsPortCompiled sizes policy (own_program policy.rules)
compiled sizes policy none meaning = record {
  faultless = none;
  meaning = meaning;
  version = refl;
  no_loop = refl;
  budget = sym (weighs (table_code policy.rules) (length (table_code policy.rules)));
  cells = port_cells sizes policy.rules (policy_cells sizes policy none);
}

-- the fault is the first of the table
reported : (first found : Option TextFault) (fault : TextFault) → found ≡ first → found ≡ Some fault → IsPortFault first fault
reported first found fault is some = subst (λ (o : Option TextFault). IsPortFault o fault) (sym some ∙ is) refl

pub returns-in-Some-clause-fault : goal.returns-in-Some-clause-fault
returns-in-Some-clause-fault c = reported _ _ _ c.fault_for.ensures c.in-Some.is

pub image_of_rules-requires-clause-room : goal.image_of_rules-requires-clause-room
image_of_rules-requires-clause-room c =
    let none : policy_fault c.args.sizes.now c.args.policy.now ≡ None = sym c.fault_for.ensures ∙ c.in_default.is in
    subst (λ (rules : List PortRule). table_slots rules ≤ 512) (sym c.rules.ensures.rules) (policy_fits c.args.sizes.now c.args.policy.now none)

pub image_of_rules-requires-clause-fit : goal.image_of_rules-requires-clause-fit
image_of_rules-requires-clause-fit c =
    subst (λ (rules : List PortRule). All FitsPort rules) (sym c.rules.ensures.rules) c.rules.ensures.fit

pub returns-clause-compiled : goal.returns-clause-compiled
returns-clause-compiled c =
    let all : List PortRule = c.args.policy.now.rules in
    let none : policy_fault c.args.sizes.now c.args.policy.now ≡ None = sym c.fault_for.ensures ∙ c.in_default.is in
    let meaning = c.code_has_meaning.ensures all (length (table_code all)) c.rules.ensures.fit in
    made (IsPortCompiled c.args.sizes.now c.args.policy.now) _ all c.in_ok-image.image c.in_ok-image.ensures.image c.rules.ensures.rules (compiled c.args.sizes.now c.args.policy.now none meaning)

pub returns-clause-justified : goal.returns-clause-justified
returns-clause-justified c =
    let all : List PortRule = c.args.policy.now.rules in
    let none : policy_fault c.args.sizes.now c.args.policy.now ≡ None = sym c.fault_for.ensures ∙ c.in_default.is in
    let light : weight_of (own_program all) ≤ length (table_code all) = le_of_eq (weighs (table_code all) (length (table_code all))) in
    made_justified c.args.sizes.now _ all c.in_ok-image.image c.in_ok-image.ensures.image c.in_ok-image.ensures.limits c.rules.ensures.rules
    (λ limits. c.code_is_justified.ensures c.args.sizes.now all (length (table_code all)) c.rules.ensures.fit (policy_cells c.args.sizes.now c.args.policy.now none) limits light)
