-- Why a command line asks for nothing, and where that is printed.
use Rattle.std.specs.Prelude.{◌≡◌, ℕ, List, [], ◌∷◌, Bool, false, ◌&&◌, if◌then◌else◌, bytes_eq, codes, string_bytes}
use Rattle.std.specs.Borrow.{Bor}
use Rattle.std.specs.List.{list_any}
use Rattle.commands.specs.declared.refusals.Stream.{Stream}
use Rattle.commands.specs.declared.refusals.Stream.TheVariants.{Output, Errors}
use Rattle.job_parts.specs.declared.usage.UsageFault.{UsageFault}
use Rattle.job_parts.specs.declared.usage.UsageFault.TheVariants.{Parse, BadOption, Memory}

-- what an error of the arguments is: that memory was refused, if it was, else that an argument is no text
abbrev pub IsArgumentFault : (was_refused : Type 0) → UsageFault → Type 0
IsArgumentFault was_refused Memory = was_refused
IsArgumentFault was_refused BadOption = ¬ was_refused
IsArgumentFault was_refused (Parse text) = ⊥

-- the words of the command line are not known: memory was refused, or one is no text
abbrev pub AreUnknown : UsageFault → Type 0
AreUnknown Memory = Unit {0}
AreUnknown BadOption = Unit {0}
AreUnknown (Parse text) = ⊥

-- the words ask for a talk in frames: the first is `live`, and one of the others `--frames`
abbrev pub ask_frames : List (Bor (List ℕ)) → Bool
ask_frames [] = false
ask_frames (first ∷ others) =
    bytes_eq first.now (codes "live") && list_any (λ word. bytes_eq word.now (codes "--frames")) others

-- where a fault of these words is printed
abbrev pub stream_of : List (Bor (List ℕ)) → UsageFault → Stream
stream_of words (Parse text) = Errors
stream_of words BadOption = Errors
stream_of words Memory = if ask_frames words then Errors else Output

-- what more is printed: nothing, except of a bad option
abbrev pub ReportsMore : UsageFault → (text : List ℕ) → Type 0
ReportsMore (Parse text) more = more ≡ []
ReportsMore BadOption more = Unit {0}
ReportsMore Memory more = more ≡ []

-- what is printed of a fault, with its last line feed
abbrev pub usage_fault_words : UsageFault → List ℕ
usage_fault_words (Parse text) = string_bytes text
usage_fault_words BadOption = codes "bad option\n"
usage_fault_words Memory = codes "no memory\n"
