-- Laws of the spelling of images: bytes and programs determine each other.
use Rattle.std.specs.Prelude.{◌≡◌, ◌<◌, ℕ, List, ◌++◌, Ok, Err, slice_index}
use Rattle.bpf_insn.specs.declared.decoder.BadInsn.{BadInsn}
use Rattle.bpf.specs.declared.fault.ImageFault.TheVariants.{Insn}
use Rattle.bpf.specs.Program.{IsProgram, Program, image_bytes}
use Rattle.bpf.specs.Reading.{IsFaultAt, image_reading}

-- bytes that spell a program are read as that program
abbrev pub ImagesAreRead : Type 0
ImagesAreRead = (p : Program) → IsProgram p → image_reading (image_bytes p) ≡ Ok p

-- no bytes spell two programs
abbrev pub BytesSpellOneProgram : Type 0
BytesSpellOneProgram =
    (p q : Program) → IsProgram p → IsProgram q → image_bytes p ≡ image_bytes q → p ≡ q

-- no image begins another
abbrev pub ImagesAreApart : Type 0
ImagesAreApart =
    (p q : Program) (after more : List ℕ) → IsProgram p → IsProgram q
    → image_bytes p ++ after ≡ image_bytes q ++ more → p ≡ q

-- the fault of an instruction that is read is in the bytes of its slot
abbrev pub SlotFaultsStand : Type 0
SlotFaultsStand =
    (bytes : List ℕ) (slot : ℕ) (fault : BadInsn) → ((i : ℕ) → slice_index bytes i < 256)
    → image_reading bytes ≡ Err (Insn slot fault) → IsFaultAt bytes (Insn slot fault)
