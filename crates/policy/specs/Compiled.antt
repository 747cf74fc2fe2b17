-- The result of compiling a policy table: its first fault, or a program that has its meaning.
use Rattle.std.specs.Prelude.{◌≡◌, ◌<◌, ℕ, List, [], Option, Some, None, All}
use Rattle.bpf.specs.Program.{Program}
use Rattle.bpf.specs.declared.version.Version.TheVariants.{One}
use Rattle.bpf.specs.Weight.{weight_of}
use Rattle.machine.specs.declared.calls.Call.{Call}
use Rattle.machine.specs.Memory.{Header, IsProgramHeader}
use Rattle.machine.specs.Runs.{AreAnswered, Runs}
use Rattle.machine.specs.Sizes.{IsInside, Maps, kind_of_map}
use Rattle.machine.specs.declared.kinds.MapKind.TheVariants.{Counter}
use Rattle.policy_table.specs.FirstFault.{compile_fault}
use Rattle.policy_table.specs.Meaning.{AreAnswerWords, decision}
use Rattle.policy_table.specs.Policies.{PolicyValue, policy_fault}
use Rattle.policy_table.specs.Ports.{port_decision}
use Rattle.policy_table.specs.declared.faults.PolicyFault.{PolicyFault}
use Rattle.policy_table.specs.declared.faults.PolicyFault.TheVariants.{TooLong, BadRange, Memory, NoCell, BadLine}
use Rattle.policy_table.specs.declared.port_rules.PortRule.{PortRule}
use Rattle.policy_table.specs.declared.rules.Rule.{Rule}
use Rattle.policy_table.specs.declared.text_faults.TextFault.{TextFault}
use Rattle.policy_table.specs.declared.text_faults.TextFault.TheVariants as texts

-- ---- faults

-- why a table with this first fault is not compiled: that fault, or memory is refused if there is none
abbrev pub IsCompileFault : (first : Option PolicyFault) → PolicyFault → Type 0
IsCompileFault first TooLong = first ≡ Some TooLong
IsCompileFault first BadRange = first ≡ Some BadRange
IsCompileFault first Memory = first ≡ None
IsCompileFault first NoCell = first ≡ Some NoCell
IsCompileFault first BadLine = ⊥

-- the same of a table of either version, with the place of the fault
abbrev pub IsPortFault : (first : Option TextFault) → TextFault → Type 0
IsPortFault None fault = fault ≡ texts.Memory
IsPortFault (Some first) fault = fault ≡ first

-- ---- meaning

-- On every header and port, and for all answers of the cells, the program has a run with the table's draws and its
-- verdict. It has no other run.
pub record HasMeaning (rules : List Rule) (program : Program) : Type 0 where
  pub runs : (header : Header) (port : ℕ) (reported : ℕ → ℕ) → IsProgramHeader header → port < 32 → AreAnswerWords reported
      → (n : ℕ) × Runs program header port (decision rules header reported).0 n (decision rules header reported).1
  pub only : (header : Header) (port : ℕ) (reported : ℕ → ℕ) (calls : List Call) (n verdict : ℕ)
      → IsProgramHeader header → port < 32 → AreAnswerWords reported
      → AreAnswered reported calls → Runs program header port calls n verdict
      → (calls ≡ (decision rules header reported).0) × (verdict ≡ (decision rules header reported).1)

-- The same of a table with ports: at each port, the draws and the verdict are those of the rules that are asked
-- there.
pub record HasPortMeaning (rules : List PortRule) (program : Program) : Type 0 where
  pub runs : (header : Header) (port : ℕ) (reported : ℕ → ℕ) → IsProgramHeader header → port < 32 → AreAnswerWords reported
      → (n : ℕ) × Runs program header port (port_decision rules header port reported).0 n (port_decision rules header port reported).1
  pub only : (header : Header) (port : ℕ) (reported : ℕ → ℕ) (calls : List Call) (n verdict : ℕ)
      → IsProgramHeader header → port < 32 → AreAnswerWords reported
      → AreAnswered reported calls → Runs program header port calls n verdict
      → (calls ≡ (port_decision rules header port reported).0) × (verdict ≡ (port_decision rules header port reported).1)

-- the call is of a cell of the maps, in a counter map
pub record IsOfCounter (sizes : Maps) (c : Call) : Type 0 where
  pub inside : IsInside sizes c.question.map c.question.key
  pub kind : kind_of_map sizes c.question.map ≡ Counter

-- the maps have every cell that the table draws from, in a counter map
abbrev pub HasCells : Maps → List Rule → Type 0
HasCells sizes rules =
    (header : Header) (reported : ℕ → ℕ) → All (IsOfCounter sizes) (decision rules header reported).0

-- the maps have every cell that the table draws from at a port, in a counter map
abbrev pub HasPortCells : Maps → List PortRule → Type 0
HasPortCells sizes rules =
    (header : Header) (port : ℕ) (reported : ℕ → ℕ) → All (IsOfCounter sizes) (port_decision rules header port reported).0

-- A program of a table: it has the table's meaning, version 1, no loop, and its weight as its budget. The maps have
-- the cells that it draws from.
pub record IsCompiled (sizes : Maps) (rules : List Rule) (program : Program) : Type 0 where
  pub faultless : compile_fault sizes rules ≡ None
  pub meaning : HasMeaning rules program
  pub version : program.version ≡ One
  pub no_loop : program.loops ≡ []
  pub budget : program.budget ≡ weight_of program
  pub cells : HasCells sizes rules

-- the same of a table of either version
pub record IsPortCompiled (sizes : Maps) (policy : PolicyValue) (program : Program) : Type 0 where
  pub faultless : policy_fault sizes policy ≡ None
  pub meaning : HasPortMeaning policy.rules program
  pub version : program.version ≡ One
  pub no_loop : program.loops ≡ []
  pub budget : program.budget ≡ weight_of program
  pub cells : HasPortCells sizes policy.rules
