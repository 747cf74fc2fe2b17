-- The words of the job `rehearse`.
use Rattle.std.specs.Prelude.{◌≡◌, ◌⊎◌, ℕ, false, List, Option, Some, None, codes, string_bytes}
use Rattle.clap.specs.Walk.{Row, first_of}
use Rattle.clap.specs.Simple.{App, new_app, with_rule}
use Rattle.job_packets.specs.HexWords.{Has}
use Rattle.job_packets.specs.Slots.{WritesSlots, every_slot}
use Rattle.job_parts.specs.Arguments.{file_rule, flag_rule, option_rule}
use Rattle.job_parts.specs.TwoFiles.{NamesOneInput, are_one_input}
use Rattle.job_parts.specs.declared.usage.UsageFault.{UsageFault}
use Rattle.job_parts.specs.declared.usage.UsageFault.TheVariants.{Parse, BadOption, Memory}
use Rattle.job_rehearse.specs.Loaders.{GivesLoaders}
use Rattle.job_rehearse.specs.Places.{GivesRehearsalNode, SpoilsPlace}
use Rattle.job_rehearse.specs.declared.rehearse.RehearseWords.{RehearseWords}

-- `rehearse OLD NEW [--maps LIST] [--slot LIST]`
abbrev pub slots_app : App
slots_app =
    with_rule
    (with_rule
    (with_rule (with_rule (new_app (codes "rehearse")) (file_rule (codes "old"))) (file_rule (codes "new")))
    (option_rule (codes "maps"))) (option_rule (codes "slot"))

-- the same, with `[--port N] [--initiator HH] [--key HH] [--any]` after it
abbrev pub loads_app : App
loads_app =
    with_rule
    (with_rule
    (with_rule (with_rule slots_app (option_rule (codes "port"))) (option_rule (codes "initiator")))
    (option_rule (codes "key"))) (flag_rule (codes "any"))

-- the same, with `[--node FILE]` after it
abbrev pub rehearse_app : App
rehearse_app = with_rule loads_app (option_rule (codes "node"))

-- the slots are those that the option's value writes; without the option each of the four
abbrev pub GivesSlots : Option (List ℕ) → (slots : List ℕ) → Type 0
GivesSlots None slots = slots ≡ every_slot
GivesSlots (Some word) slots = WritesSlots word slots

-- the option has a value that writes no slots
abbrev pub AreBadSlots : Option (List ℕ) → Type 0
AreBadSlots None = ⊥
AreBadSlots (Some word) = ¬ Has (WritesSlots word)

-- matches with such a value for --slot, or memory was refused
abbrev pub RefusesSlots : List Row → UsageFault → Type 0
RefusesSlots rows Memory = Unit {0}
RefusesSlots rows BadOption = AreBadSlots (first_of (codes "slot") rows)
RefusesSlots rows (Parse text) = ⊥

-- the words are those of rehearse with these matches
pub record NamesRehearse (rows : List Row) (words : RehearseWords) : Type 0 where
  pub old : first_of (codes "old") rows ≡ Some (string_bytes words.old)
  pub new : first_of (codes "new") rows ≡ Some (string_bytes words.new)
  pub apart : are_one_input (string_bytes words.old) (string_bytes words.new) ≡ false
  pub place : GivesRehearsalNode rows words.place
  pub slots : GivesSlots (first_of (codes "slot") rows) words.slots.items
  pub loaders : GivesLoaders rows words.loaders

-- matches without one of the files, with one input for both, with options that say no node or no slots, or that do not say whose
-- loads are rehearsed
abbrev pub SpoilsRehearse : List Row → Type 0
SpoilsRehearse rows = (first_of (codes "old") rows ≡ None) ⊎ (first_of (codes "new") rows ≡ None) ⊎ NamesOneInput rows
    ⊎ SpoilsPlace rows ⊎ AreBadSlots (first_of (codes "slot") rows) ⊎ (¬ Has (GivesLoaders rows))

-- such matches, or memory was refused
abbrev pub RefusesRehearse : List Row → UsageFault → Type 0
RefusesRehearse rows Memory = Unit {0}
RefusesRehearse rows BadOption = SpoilsRehearse rows
RefusesRehearse rows (Parse text) = ⊥
