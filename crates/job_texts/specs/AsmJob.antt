-- The job `asm`: its words, and what it prints.
use Rattle.std.specs.Prelude.{◌≡◌, ◌⊎◌, ℕ, List, [], ◌∷◌, ◌++◌, Some, None, codes, decimal, length, string_bytes}
use Rattle.clap.specs.Walk.{Row, first_of}
use Rattle.clap.specs.Simple.{App, new_app, with_rule}
use Rattle.bpf.specs.Program.{Program}
use Rattle.job_parts.specs.Arguments.{file_rule}
use Rattle.job_texts.specs.declared.asm.AsmWords.{AsmWords}
use Rattle.job_parts.specs.declared.usage.UsageFault.{UsageFault}
use Rattle.job_parts.specs.declared.usage.UsageFault.TheVariants.{Parse, BadOption, Memory}

-- `asm FILE OUT`
abbrev pub asm_app : App
asm_app = with_rule (with_rule (new_app (codes "asm")) (file_rule (codes "text"))) (file_rule (codes "image"))

-- the words are those of asm with these matches
abbrev pub NamesAsm : List Row → AsmWords → Type 0
NamesAsm rows words = (first_of (codes "text") rows ≡ Some (string_bytes words.text))
    × (first_of (codes "image") rows ≡ Some (string_bytes words.image))

-- matches of asm without one of its files, or memory was refused
abbrev pub LacksEither : List Row → UsageFault → Type 0
LacksEither rows Memory = Unit {0}
LacksEither rows BadOption = (first_of (codes "text") rows ≡ None) ⊎ (first_of (codes "image") rows ≡ None)
LacksEither rows (Parse text) = ⊥

-- the line of an image that was assembled
abbrev pub parts_line : Program → List ℕ
parts_line p =
    codes "slots " ++ decimal (length p.slots) ++ codes " loops " ++ decimal (length p.loops) ++ codes " budget "
    ++ decimal p.budget
    ++ 10 ∷ []
