-- Images that are made of the program of a table.
use Rattle.std.proofs.Common.{◌≡◌, ◌<◌, ℕ, List, length, refl, sym, ap, ◌∙◌, subst}
use Rattle.bpf.specs.Program.{IsProgram, Program}
use Rattle.machine.specs.Memory.{Header}
use Rattle.machine.specs.Sizes.{Maps}
use Rattle.bver.specs.Justified.{IsJustified}
use Rattle.policy.specs.Code.{table_code}
use Rattle.policy.specs.Compiled.{HasCells, HasMeaning, HasPortCells, HasPortMeaning}
use Rattle.policy.specs.Meant.{IsMadeOf, straight_program, table_program}
use Rattle.policy_table.specs.Meaning.{decision}
use Rattle.policy_table.specs.Ports.{on_lines, port_decision, rules_at}
use Rattle.policy_table.specs.declared.port_rules.PortRule.{PortRule}
use Rattle.policy_table.specs.declared.rules.Rule.{Rule}
use Rattle.policy.proofs.Refused.{lines_at}

-- the program of a table, with its weight as its budget
abbrev pub own_program : List PortRule → Program
own_program rules = table_program (length (table_code rules)) rules

-- a property of it is one of the image
pub made : (P : Program → Type 0) (given all : List PortRule) (image : Program) → IsMadeOf (table_code given) image → given ≡ all → P (own_program all) → P image
made P given all image is same holds =
    let whole : image ≡ own_program all = is.whole ∙ ap (λ (rules : List PortRule). own_program rules) same in
    subst (λ (p : Program). P p) (sym whole) holds

-- and it is justified, within the limits of the format
pub made_justified : (sizes : Maps) (given all : List PortRule) (image : Program) → IsMadeOf (table_code given) image → IsProgram image → given ≡ all
    → (IsProgram (own_program all) → IsJustified (own_program all) sizes) → IsJustified image sizes
made_justified sizes given all image is limits same holds =
    let whole : image ≡ own_program all = is.whole ∙ ap (λ (rules : List PortRule). own_program rules) same in
    subst (λ (p : Program). IsJustified p sizes) (sym whole) (holds (subst (λ (p : Program). IsProgram p) whole limits))

-- ---- rules that are asked at every port

pub plain_meaning : (rules : List Rule) (p : Program) → HasPortMeaning (on_lines 1 rules) p → HasMeaning rules p
plain_meaning rules p meaning = record {
  runs = λ header port reported is_header small words. rw (sym (lines_at port 1 rules)) (meaning.runs header port reported is_header small words);
  only = λ header port reported calls n verdict is_header small words answered runs.
      rw (sym (lines_at port 1 rules)) (meaning.only header port reported calls n verdict is_header small words answered runs);
}

pub plain_cells : (sizes : Maps) (rules : List Rule) → HasPortCells sizes (on_lines 1 rules) → HasCells sizes rules
plain_cells sizes rules cells header reported = subst (λ (rs : List Rule). HasCells sizes rs) (lines_at 0 1 rules) (λ own_header own_reported. cells own_header 0 own_reported) header reported
