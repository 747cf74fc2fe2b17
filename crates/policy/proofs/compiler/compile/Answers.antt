use Rattle.std.specs.Prelude.{All}
use Rattle.std.proofs.Common.{◌≡◌, ◌≤◌, ℕ, List, length, None, refl, sym, ◌∙◌, subst, le_of_eq}
use Rattle.bpf.specs.Program.{IsProgram, Program}
use Rattle.bpf.specs.Weight.{weight_of}
use Rattle.machine.specs.Sizes.{Maps}
use Rattle.bver.specs.Justified.{IsJustified}
use Rattle.policy.specs.Code.{table_code}
use Rattle.policy.specs.Compiled.{HasCells, HasMeaning, HasPortMeaning, IsCompiled}
use Rattle.policy_table.specs.FirstFault.{compile_fault}
use Rattle.policy_table.specs.Limits.{FitsFields}
use Rattle.policy_table.specs.Meaning.{decision}
use Rattle.policy_table.specs.Ports.{FitsPort, on_lines}
use Rattle.policy.specs.Meant.{IsMadeOf, table_program}
use Rattle.policy_table.specs.Slots.{table_slots}
use Rattle.policy_table.specs.declared.port_rules.PortRule.{PortRule}
use Rattle.policy_table.specs.declared.rules.Rule.{Rule}
use Rattle.policy.proofs.Made.{made, made_justified, own_program, plain_cells, plain_meaning}
use Rattle.policy.proofs.Refused.{is_reported, port_cells, table_cells, table_fits}
use Rattle.policy.proofs.Weighing.{weighs}
use Rattle.policy.proofs.compiler.compile.Goals as goal

compiled : (sizes : Maps) (rules : List Rule) → compile_fault sizes rules ≡ None → HasPortMeaning (on_lines 1 rules) (own_program (on_lines 1 rules)) → IsCompiled sizes rules (own_program (on_lines 1 rules))
compiled sizes rules none meaning = record {
  faultless = none;
  meaning = plain_meaning rules (own_program (on_lines 1 rules)) meaning;
  version = refl;
  no_loop = refl;
  budget = sym (weighs (table_code (on_lines 1 rules)) (length (table_code (on_lines 1 rules))));
  cells = plain_cells sizes rules (port_cells sizes (on_lines 1 rules) (table_cells sizes rules none));
}

pub returns-in-Some-clause-fault : goal.returns-in-Some-clause-fault
returns-in-Some-clause-fault c =
    is_reported c.args.sizes.now c.args.table.now _ (sym c.fault_for.ensures ∙ c.in-Some.is)

pub image_of_rules-requires-clause-room : goal.image_of_rules-requires-clause-room
image_of_rules-requires-clause-room c =
    let none : compile_fault c.args.sizes.now c.args.table.now ≡ None = sym c.fault_for.ensures ∙ c.in_default.is in
    let same : c.as_slice.result.now ≡ on_lines 1 c.args.table.now = cc (c.as_slice.ensures.value, c.in_ok-rules.ensures.lines, c.rules.ensures.rules) in
    subst (λ (rules : List PortRule). table_slots rules ≤ 512) (sym same) (table_fits c.args.sizes.now c.args.table.now none)

pub image_of_rules-requires-clause-fit : goal.image_of_rules-requires-clause-fit
image_of_rules-requires-clause-fit c =
    let fields : All FitsFields c.rules.result.now = subst (λ (rules : List Rule). All FitsFields rules) (sym c.rules.ensures.rules) c.rules.ensures.fit in
    subst (λ (rules : List PortRule). All FitsPort rules) (sym c.as_slice.ensures.value) (c.in_ok-rules.ensures.fit fields)

pub returns-clause-compiled : goal.returns-clause-compiled
returns-clause-compiled c =
    let rules : List Rule = c.args.table.now in
    let all : List PortRule = on_lines 1 rules in
    let none : compile_fault c.args.sizes.now rules ≡ None = sym c.fault_for.ensures ∙ c.in_default.is in
    let same : c.as_slice.result.now ≡ all = cc (c.as_slice.ensures.value, c.in_ok-rules.ensures.lines, c.rules.ensures.rules) in
    let fields : All FitsFields c.rules.result.now = subst (λ (rs : List Rule). All FitsFields rs) (sym c.rules.ensures.rules) c.rules.ensures.fit in
    let items : c.in_ok-rules.rules.items ≡ all = cc (c.in_ok-rules.ensures.lines, c.rules.ensures.rules) in
    let fits : All FitsPort all = subst (λ (rs : List PortRule). All FitsPort rs) items (c.in_ok-rules.ensures.fit fields) in
    let meaning = c.code_has_meaning.ensures all (length (table_code all)) fits in
    made (IsCompiled c.args.sizes.now rules) _ all c.in_ok-image.image c.in_ok-image.ensures.image same (compiled c.args.sizes.now rules none meaning)

pub returns-clause-justified : goal.returns-clause-justified
returns-clause-justified c =
    let rules : List Rule = c.args.table.now in
    let all : List PortRule = on_lines 1 rules in
    let none : compile_fault c.args.sizes.now rules ≡ None = sym c.fault_for.ensures ∙ c.in_default.is in
    let same : c.as_slice.result.now ≡ all = cc (c.as_slice.ensures.value, c.in_ok-rules.ensures.lines, c.rules.ensures.rules) in
    let fields : All FitsFields c.rules.result.now = subst (λ (rs : List Rule). All FitsFields rs) (sym c.rules.ensures.rules) c.rules.ensures.fit in
    let items : c.in_ok-rules.rules.items ≡ all = cc (c.in_ok-rules.ensures.lines, c.rules.ensures.rules) in
    let fits : All FitsPort all = subst (λ (rs : List PortRule). All FitsPort rs) items (c.in_ok-rules.ensures.fit fields) in
    let light : weight_of (own_program all) ≤ length (table_code all) = le_of_eq (weighs (table_code all) (length (table_code all))) in
    made_justified c.args.sizes.now _ all c.in_ok-image.image c.in_ok-image.ensures.image c.in_ok-image.ensures.limits same
    (λ limits. c.code_is_justified.ensures c.args.sizes.now all (length (table_code all)) fits (table_cells c.args.sizes.now rules none) limits light)
