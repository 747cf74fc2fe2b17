-- The facts of each slot that the tests of loops need, found once.
use Rattle.std.specs.Prelude.{◌≡◌, ◌≤◌, ◌<◌, ℕ, ℤ, Bool, false, if◌then◌else◌, List, length, slice_index_or}
use Rattle.std.specs.Prelude.{Option, None, Some}
use Rattle.bpf.specs.Program.{Program, insn_at}
use Rattle.bpf_insn.specs.Bits.{is_bit}
use Rattle.bpf_insn.specs.Flow.{is_written}
use Rattle.bpf_insn.specs.declared.insn.Insn.{Insn}
use Rattle.machine.specs.Laws.{is_store}
use Rattle.bver_form.specs.declared.facts.SlotFacts.{SlotFacts}
use Rattle.bver_form.specs.Jumps.{jump_distance}

-- whether an instruction begins there that writes the register; a call writes r0 to r5
abbrev pub writes_at : Option Insn → (register : ℕ) → Bool
writes_at None register = false
writes_at (Some insn) register = is_written insn register

-- whether an instruction begins there that is a store
abbrev pub stores_at : Option Insn → Bool
stores_at None = false
stores_at (Some insn) = is_store insn

-- how far the instruction jumps that begins there, if one does and jumps
abbrev pub distance_at : Option Insn → Option ℤ
distance_at None = None
distance_at (Some insn) = jump_distance insn

-- the distance of a jump by the facts, if there is one
abbrev pub stated_distance : SlotFacts → Option ℤ
stated_distance facts = if facts.jumps then Some facts.distance else None

-- The facts are those of the instruction that begins at a slot, if one does. They say what it writes, r0 as the
-- lowest bit, whether it stores, and how far it jumps.
pub record AreFactsOf (insn : Option Insn) (facts : SlotFacts) : Type 0 where
  pub registers : (register : ℕ) → register ≤ 10 → is_bit facts.registers register ≡ writes_at insn register
  pub stores : facts.stores ≡ stores_at insn
  pub jump : stated_distance facts ≡ distance_at insn

-- each slot's facts are at its place
abbrev pub AreFacts : Program → List SlotFacts → Type 0
AreFacts p facts =
    (slot : ℕ) (any : SlotFacts) → slot < length p.slots → AreFactsOf (insn_at p slot) (slice_index_or facts slot any)
