-- What the first words of lines say of names and slots, whether or not the lines are right.
use Rattle.std.specs.Prelude.{◌≡◌, ◌↔◌, ℕ, ◌+◌, ◌-◌, min, Bool, ◌&&◌, ◌==◌, if◌then◌else◌, List, [], ◌∷◌, ◌++◌}
use Rattle.std.specs.Prelude.{length, take, codes, Option, Some, None}
use Rattle.std.specs.List.{list_any}
use Rattle.std.specs.Str.{bytes_eq}
use Rattle.basm_lex.specs.Lines.{operands_of, word_of}
use Rattle.basm_lex.specs.Names.{is_name}
use Rattle.basm_lex.specs.declared.mnemonics.Mnemonic.{Mnemonic}
use Rattle.basm_lex.specs.Mnemonics.{mnemonic_slots, mnemonic_named}
use Rattle.basm.specs.declared.survey.Survey.{Survey}
use Rattle.basm.specs.Names.{HasOneMore, slot_named}
use Rattle.basm.specs.Relation.{AreDistinctNames}

-- the name of a word that is a label
unfoldable pub label_of : List ℕ → Option (List ℕ)
label_of word =
    let name = take (length word - 1) word in
    if is_name name && bytes_eq word (name ++ codes ":") then Some name else None

-- the name, if no operands follow it
abbrev pub lone_label : List (List ℕ) → Option (List ℕ) → Option (List ℕ)
lone_label [] name = name
lone_label (operand ∷ operands) name = None

-- the name that a line defines: a label with something after it defines none
abbrev pub label_in : List ℕ → Option (List ℕ)
label_in line = lone_label (operands_of line) (label_of (word_of line))

-- how many slots a mnemonic takes; an unknown word takes one
abbrev pub slots_named : Option Mnemonic → ℕ
slots_named None = 1
slots_named (Some found) = mnemonic_slots found

-- how many slots a word that is no label takes; a directive takes none, and so does no word
unfoldable pub word_slots : List ℕ → ℕ
word_slots [] = 0
word_slots (c ∷ cs) = if c == 46 then 0 else slots_named (mnemonic_named (c ∷ cs))

-- the same of a word that may be a label
abbrev pub slots_beside : Option (List ℕ) → List ℕ → ℕ
slots_beside None word = word_slots word
slots_beside (Some name) word = 0

-- the number of slots, if 32 bits can count them, else the greatest number of 32 bits
abbrev pub slot_count : ℕ → ℕ
slot_count slots = min slots 4294967295

-- the slot of the next instruction, after a line
abbrev pub slot_after : ℕ → List ℕ → ℕ
slot_after slot line = slot_count (slot + slots_beside (label_in line) (word_of line))

-- the same, after lines
abbrev pub slots_from : ℕ → List (List ℕ) → ℕ
slots_from slot [] = slot
slots_from slot (line ∷ lines) = slots_from (slot_after slot line) lines

-- the name of a label, with its slot
abbrev pub named_slot : Option (List ℕ) → ℕ → List (List ℕ × ℕ)
named_slot None slot = []
named_slot (Some name) slot = (name, slot) ∷ []

-- the names of the labels among the lines, with the slot of the next instruction
abbrev pub labels_from : ℕ → List (List ℕ) → List (List ℕ × ℕ)
labels_from slot [] = []
labels_from slot (line ∷ lines) = named_slot (label_in line) slot ++ labels_from (slot_after slot line) lines

-- whether the line begins with `.budget`
abbrev pub declares_budget : List ℕ → Bool
declares_budget line = bytes_eq (word_of line) (codes ".budget")

-- the survey of these lines
pub record IsSurvey (lines : List (List ℕ)) (survey : Survey) : Type 0 where
  pub names : (name : List ℕ) → slot_named survey.names name ≡ slot_named (labels_from 0 lines) name
  pub apart : (survey.repeated ≡ None) ↔ AreDistinctNames (labels_from 0 lines)
  pub slots : survey.slots ≡ slots_from 0 lines
  pub budget : survey.has_budget ≡ list_any declares_budget lines

-- the survey has found one more name
pub record AddsName (name : List ℕ) (old new : Survey) : Type 0 where
  pub names : HasOneMore old.names new.names name old.slots
  pub repeated : (new.repeated ≡ None) ↔ ((old.repeated ≡ None) × (slot_named old.names name ≡ None))
  pub slots : new.slots ≡ old.slots
  pub budget : new.has_budget ≡ old.has_budget
