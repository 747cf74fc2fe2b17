-- The parts of an image that the lines so far declare, and what an item adds to them.
use Rattle.std.specs.Prelude.{◌≡◌, ℕ, ◌+◌, ◌≤◌, ◌<◌, ◌==◌, Bool, true, false, List, ◌∷◌, [], ◌++◌, length, pos}
use Rattle.std.specs.Prelude.{Option, Some, None, Result, MatchResult}
use Rattle.std.specs.Option.{option_to_list}
use Rattle.std.specs.List.{flat_map, list_any}
use Rattle.std.specs.List.Sorted.{IsPermutation}
use Rattle.bpf.specs.Parts.{placed_slots}
use Rattle.bpf.specs.declared.header.TheConstants.{MAX_LOOPS, MAX_SLOTS}
use Rattle.bpf.specs.declared.loops.Loop.{Loop}
use Rattle.bpf.specs.Program.{Program, IsBudget, IsLoop, IsProgram}
use Rattle.bpf_insn.specs.declared.insn.Insn.{Insn}
use Rattle.bpf_insn.specs.Spelling.{slots_of}
use Rattle.basm_lex.specs.Numbers.{WritesNumber}
use Rattle.basm_lex.specs.Operands.{WritesRegister}
use Rattle.basm.specs.declared.faults.AsmCode.{AsmCode}
use Rattle.basm.specs.declared.faults.AsmCode.TheVariants.{Memory}
use Rattle.basm.specs.declared.partial_image.PartialImage.{PartialImage}
use Rattle.basm.specs.declared.survey.Survey.{Survey}
use Rattle.basm.specs.Names.{slot_named}
use Rattle.basm.specs.Relation.{Four, Item, Nothing, Label, OneVersion, Budget, OneLoop, Code, AreLines, IsLine}
use Rattle.basm.specs.Relation.{IsText, IsVersionOf, WritesEnd, version_in, budget_in, loop_in_line, insn_in, line_slots_in}

-- the slots of the names of a text, as its survey found them
abbrev pub names_in : Survey → List ℕ → Option ℕ
names_in survey = slot_named survey.names

-- the operands of `.loop` write the loop
abbrev pub WritesLoop : (names : List ℕ → Option ℕ) → List (List ℕ) → Loop → Type 0
WritesLoop names xs l =
    Four xs (λ a. WritesEnd names a l.head) (λ b. WritesEnd names b l.back) (λ c. WritesNumber c (pos l.bound))
    (λ d. WritesRegister d l.register)

-- the instruction is appended, and there are at most `MAX_SLOTS` slots after it
pub record PushesInsn (old new : List Insn) (slot : ℕ) (insn : Insn) (after : ℕ) : Type 0 where
  pub pushed : new ≡ old ++ insn ∷ []
  pub next : after ≡ slot + slots_of insn
  pub few : after ≤ MAX_SLOTS

-- the item is added after the others
pub record AddsItem (item : Item) (old new : PartialImage) : Type 0 where
  pub version : option_to_list new.version ≡ option_to_list old.version ++ version_in item
  pub budget : option_to_list new.budget ≡ option_to_list old.budget ++ budget_in item
  pub loops : new.loops.items ≡ old.loops.items ++ loop_in_line item
  pub insns : new.insns.items ≡ old.insns.items ++ insn_in item
  pub slots : new.slots ≡ old.slots + line_slots_in item

-- the result has the property, unless memory was refused
abbrev pub UnlessMemory : {X : Type 0} → Result X AsmCode → (X → Type 0) → Type 0
UnlessMemory result P = MatchResult result P (λ code. code ≡ Memory)

-- whether one of the loops has the head
abbrev pub has_head : ℕ → List Loop → Bool
has_head head loops = list_any (λ l. l.head == head) loops

-- the item may come after the parts, in a text of this many slots
abbrev pub HasRoom : (slots : ℕ) → Item → PartialImage → Type 0
HasRoom slots Nothing parts = Unit {0}
HasRoom slots (Label name) parts = Unit {0}
HasRoom slots (OneVersion version) parts = parts.version ≡ None
HasRoom slots (Budget n) parts = IsBudget n × (parts.budget ≡ None)
HasRoom slots (OneLoop l) parts =
    IsLoop slots l × (slots ≤ MAX_SLOTS) × (has_head l.head parts.loops.items ≡ false)
    × (length parts.loops.items < MAX_LOOPS)
HasRoom slots (Code insn) parts = parts.slots + slots_of insn ≤ MAX_SLOTS

-- what the line says was added
pub record AddsLine (names : List ℕ → Option ℕ) (line : List ℕ) (old new : PartialImage) : Type 0 where
  pub item : Item
  pub says : IsLine names old.slots line item
  pub adds : AddsItem item old new
  pub few : old.slots ≤ MAX_SLOTS → new.slots ≤ MAX_SLOTS

-- how many slots the items take
abbrev pub slots_of_items : List Item → ℕ
slots_of_items [] = 0
slots_of_items (item ∷ items) = line_slots_in item + slots_of_items items

-- the parts are those of the items
pub record ArePartsOf (items : List Item) (parts : PartialImage) : Type 0 where
  pub version : option_to_list parts.version ≡ flat_map version_in items
  pub budget : option_to_list parts.budget ≡ flat_map budget_in items
  pub loops : parts.loops.items ≡ flat_map loop_in_line items
  pub insns : parts.insns.items ≡ flat_map insn_in items
  pub slots : parts.slots ≡ slots_of_items items

-- the lines say the parts
pub record SayParts (names : List ℕ → Option ℕ) (lines : List (List ℕ)) (parts : PartialImage) : Type 0 where
  pub items : List Item
  pub says : AreLines names 0 lines items
  pub parts_of : ArePartsOf items parts
  pub few : parts.slots ≤ MAX_SLOTS

-- the image of the parts, its loops by rising head
pub record IsImageOf (parts : PartialImage) (p : Program) : Type 0 where
  pub program : IsProgram p
  pub version : IsVersionOf (option_to_list parts.version) p.version
  pub budget : parts.budget ≡ Some p.budget
  pub loops : IsPermutation parts.loops.items p.loops
  pub code : p.slots ≡ flat_map placed_slots parts.insns.items

-- the survey of a right text
pub record SurveysText {text : List ℕ} {p : Program} (t : IsText text p) (survey : Survey) : Type 0 where
  pub names : slot_named survey.names ≡ t.names
  pub repeated : survey.repeated ≡ None
  pub slots : survey.slots ≡ length p.slots
  pub budget : survey.has_budget ≡ true
