-- Whether numbers on the stack keep their ranges (a choice of this project).
use Rattle.bpf.specs.declared.version.Version.{Version}
use Rattle.bpf.specs.declared.version.Version.TheVariants.{One, Two}
use Rattle.absdom_stack.specs.declared.spill.Spill.{Spill}
use Rattle.absdom_stack.specs.declared.spill.Spill.TheVariants.{Forgets, Keeps}

-- Whether the words of the stack keep the ranges of the numbers that are stored there, by the version of the format.
-- They keep them from version 2.
abbrev pub spill_of : Version → Spill
spill_of One = Forgets
spill_of Two = Keeps
