-- What the instructions of a loop write, as the verifier keeps it.
use Rattle.std.specs.Prelude.{◌≡◌, ◌≤◌, ◌↔◌, ℕ, Bool, List, length, slice_index_or, IsTrue}
use Rattle.bpf_insn.specs.Bits.{is_bit}
use Rattle.bpf.specs.declared.loops.Loop.{Loop}
use Rattle.bpf.specs.Program.{Program}
use Rattle.bver_pass.specs.declared.written.Written.{Written}
use Rattle.bver_pass.specs.Heads.{IsDeclared}
use Rattle.bver_pass.specs.Justified.{HasStore, IsWrittenIn}

-- whether a register is among those of a number, whose lowest bit is that of r0
abbrev pub has_register : (registers register : ℕ) → Bool
has_register registers register = is_bit registers register

-- the registers are those that an instruction of the loop writes; with them is whether one of its instructions is a
-- store
pub record IsWrittenByLoop (p : Program) (l : Loop) (w : Written) : Type 0 where
  pub registers : (register : ℕ) → register ≤ 10 → IsTrue (has_register w.registers register) ↔ IsWrittenIn p l register
  pub stores : IsTrue w.stores ↔ HasStore p l

-- what each declared loop writes is at its place
pub record AreWrittenByLoops (p : Program) (written : List Written) : Type 0 where
  pub count : length written ≡ 8
  pub each : (l : Loop) (place : ℕ) → IsDeclared p l place
      → (d : Written) → IsWrittenByLoop p l (slice_index_or written place d)
