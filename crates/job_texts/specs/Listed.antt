-- The text of an image with the slots of its instructions, as `dis --slots` prints it.
use Rattle.std.specs.Prelude.{ℕ, suc, Bool, true, false, List, [], ◌∷◌, ◌++◌, Option, Some, None, codes, decimal}
use Rattle.basm.specs.Printed.{directives, printed_image}
use Rattle.bpf.specs.Program.{Program}
use Rattle.bpf_insn.specs.declared.insn.Insn.{Insn}
use Rattle.bpf_insn.specs.Text.{insn_text}

-- the line of the instruction that begins at a slot, after the slot; a second slot has none
abbrev pub numbered_line : (slot : ℕ) → Option Insn → List ℕ
numbered_line slot None = []
numbered_line slot (Some insn) = decimal slot ++ codes ": " ++ insn_text insn ++ codes "\n"

-- the lines of the instructions from a slot on
abbrev pub numbered_lines : (slot : ℕ) → List (Option Insn) → List ℕ
numbered_lines slot [] = []
numbered_lines slot (insn ∷ insns) = numbered_line slot insn ++ numbered_lines (suc slot) insns

-- the version, the budget and the loops as in the text of the image, and each instruction after its slot
unfoldable pub numbered_image : Program → List ℕ
numbered_image p = directives p ++ numbered_lines 0 p.slots

-- the text of an image, with or without the slots
abbrev pub listing : (slots : Bool) → Program → List ℕ
listing false p = printed_image p
listing true p = numbered_image p
