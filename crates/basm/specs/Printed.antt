-- The text that an image is printed as.
use Rattle.std.specs.Prelude.{ℕ, List, [], ◌++◌, Option, Some, None, codes, decimal}
use Rattle.std.specs.List.{flat_map}
use Rattle.bpf_insn.specs.declared.insn.Insn.{Insn}
use Rattle.bpf_insn.specs.Text.{insn_text}
use Rattle.bpf_parts.specs.Text.{register_text}
use Rattle.bpf.specs.declared.loops.Loop.{Loop}
use Rattle.bpf.specs.declared.version.Version.{Version}
use Rattle.bpf.specs.declared.version.Version.TheVariants.{One, Two}
use Rattle.bpf.specs.Program.{Program}
use Rattle.bpf.specs.Version.{version_number}

-- the line that declares a version; version 1 has none
abbrev pub version_line : Version → List ℕ
version_line One = []
version_line Two = codes ".version " ++ decimal (version_number Two) ++ codes "\n"

-- the line that declares a budget
abbrev pub budget_line : ℕ → List ℕ
budget_line budget = codes ".budget " ++ decimal budget ++ codes "\n"

-- the line that declares a loop, by its slots
abbrev pub loop_line : Loop → List ℕ
loop_line l =
    codes ".loop " ++ decimal l.head ++ codes ", " ++ decimal l.back ++ codes ", " ++ decimal l.bound ++ codes ", "
    ++ register_text l.register ++ codes "\n"

-- the lines of an image before its instructions: the version, the budget and the loops in their order
abbrev pub directives : Program → List ℕ
directives p = version_line p.version ++ budget_line p.budget ++ flat_map loop_line p.loops

-- the line of the instruction that begins at a slot; a second slot has none
abbrev pub slot_line : Option Insn → List ℕ
slot_line None = []
slot_line (Some insn) = insn_text insn ++ codes "\n"

-- the version, the budget, the loops in their order and the instructions, each on a line of its own
unfoldable pub printed_image : Program → List ℕ
printed_image p =
    version_line p.version ++ budget_line p.budget ++ flat_map loop_line p.loops ++ flat_map slot_line p.slots
