-- Laws of the spelling of instructions (RFC 9669, section 3): bytes and instructions determine each other.
use Rattle.std.specs.Prelude.{◌≡◌, ◌<◌, ℕ, List, ◌++◌, Option, Ok, Err, IfSome, slice_index}
use Rattle.bpf_insn.specs.declared.insn.Insn.{Insn}
use Rattle.bpf_insn.specs.declared.decoder.BadInsn.{BadInsn}
use Rattle.bpf_insn.specs.Faults.{IsFault}
use Rattle.bpf_insn.specs.Spelling.{AreSlotBytes, IsInsn, Spells, spelling}
use Rattle.bpf_insn.specs.Reading.{insn_reading}

-- bytes that spell an instruction are read as it
abbrev pub SpellingsAreRead : Type 0
SpellingsAreRead =
    (bytes : List ℕ) (next : Option (List ℕ)) (insn : Insn)
    → Spells bytes next insn → insn_reading bytes next ≡ Ok insn

-- no bytes spell two instructions
abbrev pub BytesSpellOne : Type 0
BytesSpellOne =
    (bytes : List ℕ) (next : Option (List ℕ)) (a b : Insn)
    → Spells bytes next a → Spells bytes next b → a ≡ b

-- no spelling begins another
abbrev pub SpellingsAreApart : Type 0
SpellingsAreApart =
    (a b : Insn) (after more : List ℕ) → IsInsn a → IsInsn b
    → spelling a ++ after ≡ spelling b ++ more → a ≡ b

-- a fault that is read is in the bytes
abbrev pub FaultsStand : Type 0
FaultsStand =
    (bytes : List ℕ) (next : Option (List ℕ)) (fault : BadInsn)
    → slice_index bytes 0 < 256 → insn_reading bytes next ≡ Err fault → IsFault bytes next fault

-- an instruction that is read from slots is the one that they spell
abbrev pub ReadingsAreSpelled : Type 0
ReadingsAreSpelled =
    (bytes : List ℕ) (next : Option (List ℕ)) (insn : Insn)
    → AreSlotBytes bytes → IfSome next AreSlotBytes
    → insn_reading bytes next ≡ Ok insn → Spells bytes next insn

-- a fault that is in slots is the one that is read: they have no other
abbrev pub FaultsAreRead : Type 0
FaultsAreRead =
    (bytes : List ℕ) (next : Option (List ℕ)) (fault : BadInsn)
    → AreSlotBytes bytes → IfSome next AreSlotBytes
    → IsFault bytes next fault → insn_reading bytes next ≡ Err fault
