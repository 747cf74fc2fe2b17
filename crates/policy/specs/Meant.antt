-- The meaning of the program of a policy table, and that it is justified: the laws of the compiler.
use Rattle.std.specs.Prelude.{◌≡◌, ◌≤◌, ℕ, List, [], length, None, All}
use Rattle.std.specs.List.{flat_map}
use Rattle.bpf.specs.Parts.{placed_slots}
use Rattle.bpf.specs.Program.{IsProgram, Program, program}
use Rattle.bpf.specs.declared.version.Version.TheVariants.{One}
use Rattle.bpf.specs.Weight.{weight_of}
use Rattle.bpf_insn.specs.declared.insn.Insn.{Insn}
use Rattle.machine.specs.Sizes.{Maps}
use Rattle.bver.specs.Justified.{IsJustified}
use Rattle.policy.specs.Code.{table_code}
use Rattle.policy.specs.Compiled.{HasPortMeaning}
use Rattle.policy_table.specs.FirstFault.{quota_fault}
use Rattle.policy_table.specs.Ports.{FitsPort}
use Rattle.policy_table.specs.declared.port_rules.PortRule.{PortRule}

-- the program of these instructions, without a loop, in version 1 of the format
abbrev pub straight_program : (budget : ℕ) → List Insn → Program
straight_program budget insns = program One budget [] (flat_map placed_slots insns)

-- a program is these instructions, without a loop, and a run performs each at most once: their number is its budget
pub record IsMadeOf (insns : List Insn) (program : Program) : Type 0 where
  pub whole : program ≡ straight_program (length insns) insns

-- the program of a table
abbrev pub table_program : (budget : ℕ) → List PortRule → Program
table_program budget rules = straight_program budget (table_code rules)

-- the program of a table has its meaning, whatever its budget
abbrev pub CodeHasMeaning : Type 0
CodeHasMeaning =
    (rules : List PortRule) (budget : ℕ) → All FitsPort rules → HasPortMeaning rules (table_program budget rules)

-- the maps have the cell of each quota, in a counter map
abbrev pub HaveCells : Maps → List PortRule → Type 0
HaveCells sizes rules = All (λ own. quota_fault sizes own.rule.quota ≡ None) rules

-- the program of a table whose cells the maps have is justified, within the limits of the format and of its budget
abbrev pub CodeIsJustified : Type 0
CodeIsJustified =
    (sizes : Maps) (rules : List PortRule) (budget : ℕ) → All FitsPort rules → HaveCells sizes rules
    → IsProgram (table_program budget rules) → weight_of (table_program budget rules) ≤ budget
    → IsJustified (table_program budget rules) sizes
