-- The text relation: which lines write an image.
use Rattle.std.specs.Prelude.{◌≡◌, ◌≢◌, ◌↔◌, ◌⊎◌, ℕ, ◌+◌, ℤ, pos, ◌-ℤ◌, List, [], ◌∷◌, ◌++◌, codes, Option, Some}
use Rattle.std.specs.Prelude.{FitsSigned}
use Rattle.std.specs.Int.{w16, w32}
use Rattle.std.specs.List.{flat_map}
use Rattle.std.specs.List.Sorted.{IsPermutation}
use Rattle.bpf_parts.specs.declared.operation.Operand.{Operand}
use Rattle.bpf_parts.specs.declared.operation.Operand.TheVariants.{FromRegister, Immediate}
use Rattle.bpf_parts.specs.declared.distance.Distance.TheVariants.{Short, Long}
use Rattle.bpf_insn.specs.declared.insn.Insn.{Insn}
use Rattle.bpf_insn.specs.declared.insn.Insn.TheVariants.{Alu, Negate, MoveSigned, ByteSwap, Load, Store, Jump, Goto}
use Rattle.bpf_insn.specs.declared.insn.Insn.TheVariants.{Wide, LoadMap, LoadAddress, Call, Exit}
use Rattle.bpf_parts.specs.Codes.{address_subtype, address_first, address_second}
use Rattle.bpf_insn.specs.Spelling.{slots_of}
use Rattle.bpf_insn.specs.Text.{insn_name}
use Rattle.bpf.specs.declared.loops.Loop.{Loop}
use Rattle.bpf.specs.declared.version.Version.{Version}
use Rattle.bpf.specs.declared.version.Version.TheVariants as versions
use Rattle.bpf.specs.Parts.{placed_slots}
use Rattle.bpf.specs.Program.{Program, IsProgram}
use Rattle.bpf.specs.Version.{version_number}
use Rattle.basm_lex.specs.Lines.{IsLabel, operands_of, word_of}
pub use Rattle.basm_lex.specs.Lines.{pieces_of, texts}
use Rattle.basm_lex.specs.Names.{IsName}
use Rattle.basm_lex.specs.Numbers.{WritesDistance, WritesNumber, WritesWide}
use Rattle.basm_lex.specs.Operands.{WritesMemoryOperand, WritesRegister}

-- ---- one word

-- a register or a number
abbrev pub WritesOperand : List ℕ → Operand → Type 0
WritesOperand word (FromRegister register) = WritesRegister word register
WritesOperand word (Immediate value) = WritesNumber word value

-- the name of a slot at this distance from the next one
pub record NamesTarget (names : List ℕ → Option ℕ) (slot : ℕ) (word : List ℕ) (offset : ℤ) : Type 0 where
  pub name : IsName word
  pub target : ℕ
  pub stands : names word ≡ Some target
  pub away : offset ≡ pos target -ℤ pos slot -ℤ pos 1

-- a target by its distance or its name, if names have these slots
abbrev pub WritesTarget : (names : List ℕ → Option ℕ) (slot : ℕ) → List ℕ → ℤ → Type 0
WritesTarget names slot word offset = NamesTarget names slot word offset ⊎ WritesDistance word offset

-- a target by its distance or its name, in reach of a field of 16 bits
abbrev pub WritesShortTarget : (names : List ℕ → Option ℕ) (slot : ℕ) → List ℕ → ℤ → Type 0
WritesShortTarget names slot word offset = WritesTarget names slot word offset × FitsSigned w16 offset

-- a target by its distance or its name, in reach of a field of 32 bits
abbrev pub WritesLongTarget : (names : List ℕ → Option ℕ) (slot : ℕ) → List ℕ → ℤ → Type 0
WritesLongTarget names slot word offset = WritesTarget names slot word offset × FitsSigned w32 offset

-- ---- the words of an instruction, by its own name

-- one operand, which is in the relation
abbrev pub One : List (List ℕ) → (List ℕ → Type 0) → Type 0
One [] P = ⊥
One (a ∷ []) P = P a
One (a ∷ b ∷ xs) P = ⊥

-- two operands, each in its relation
abbrev pub Two : List (List ℕ) → (List ℕ → Type 0) → (List ℕ → Type 0) → Type 0
Two [] P Q = ⊥
Two (a ∷ xs) P Q = P a × One xs Q

-- three operands, each in its relation
abbrev pub Three : List (List ℕ) → (List ℕ → Type 0) → (List ℕ → Type 0) → (List ℕ → Type 0) → Type 0
Three [] P Q R = ⊥
Three (a ∷ xs) P Q R = P a × Two xs Q R

-- four operands, each in its relation
abbrev pub Four : List (List ℕ) → (List ℕ → Type 0) → (List ℕ → Type 0) → (List ℕ → Type 0) → (List ℕ → Type 0) → Type 0
Four [] P Q R S = ⊥
Four (a ∷ xs) P Q R S = P a × Three xs Q R S

-- the operands of an instruction that begins at the slot
abbrev pub WritesOperands : (names : List ℕ → Option ℕ) (slot : ℕ) → List (List ℕ) → Insn → Type 0
WritesOperands names slot xs (Alu op width dst src) = Two xs (λ a. WritesRegister a dst) (λ b. WritesOperand b src)
WritesOperands names slot xs (Negate width dst) = One xs (λ a. WritesRegister a dst)
WritesOperands names slot xs (MoveSigned extension dst src) =
    Two xs (λ a. WritesRegister a dst) (λ b. WritesRegister b src)
WritesOperands names slot xs (ByteSwap swap bits dst) = One xs (λ a. WritesRegister a dst)
WritesOperands names slot xs (Load size dst place) =
    Two xs (λ a. WritesRegister a dst) (λ b. WritesMemoryOperand b place)
WritesOperands names slot xs (Store size place src) =
    Two xs (λ a. WritesMemoryOperand a place) (λ b. WritesOperand b src)
WritesOperands names slot xs (Jump comparison offset) =
    Three xs (λ a. WritesRegister a comparison.dst) (λ b. WritesOperand b comparison.src)
    (λ c. WritesShortTarget names slot c offset)
WritesOperands names slot xs (Goto (Short offset)) = One xs (λ a. WritesShortTarget names slot a offset)
WritesOperands names slot xs (Goto (Long distance)) = One xs (λ a. WritesLongTarget names slot a distance)
WritesOperands names slot xs (Wide dst value) = Two xs (λ a. WritesRegister a dst) (λ b. WritesWide b value)
WritesOperands names slot xs (LoadMap dst index) = Two xs (λ a. WritesRegister a dst) (λ b. WritesNumber b index)
WritesOperands names slot xs (LoadAddress dst address) =
    Four xs (λ a. WritesNumber a (pos (address_subtype address))) (λ b. WritesRegister b dst)
    (λ c. WritesNumber c (address_first address)) (λ d. WritesNumber d (address_second address))
WritesOperands names slot xs (Call callee number) = One xs (λ a. WritesNumber a number)
WritesOperands names slot xs Exit = xs ≡ []

-- a word and operands write the instruction
pub record WritesInsn (names : List ℕ → Option ℕ) (slot : ℕ) (word : List ℕ) (xs : List (List ℕ)) (insn : Insn) : Type 0
  where
    pub name : word ≡ insn_name insn
    pub operands : WritesOperands names slot xs insn

-- ---- lines

-- a loop's end: a slot by its number or its name
abbrev pub WritesEnd : (names : List ℕ → Option ℕ) → List ℕ → ℕ → Type 0
WritesEnd names word slot = (IsName word × (names word ≡ Some slot)) ⊎ WritesNumber word (pos slot)

-- what a line says
pub data Item : Type 0 where
  Nothing : Item
  Label : List ℕ → Item
  OneVersion : Version → Item
  Budget : ℕ → Item
  OneLoop : Loop → Item
  Code : Insn → Item

-- how many slots a line takes: those of its instruction, or none
abbrev pub line_slots_in : Item → ℕ
line_slots_in Nothing = 0
line_slots_in (Label name) = 0
line_slots_in (OneVersion version) = 0
line_slots_in (Budget n) = 0
line_slots_in (OneLoop l) = 0
line_slots_in (Code insn) = slots_of insn

-- the line says the item, if the next instruction begins at the slot
abbrev pub IsLine : (names : List ℕ → Option ℕ) (slot : ℕ) → List ℕ → Item → Type 0
IsLine names slot line Nothing = (word_of line ≡ []) × (operands_of line ≡ [])
IsLine names slot line (Label name) = IsLabel line name
IsLine names slot line (OneVersion version) =
    (word_of line ≡ codes ".version") × One (operands_of line) (λ a. WritesNumber a (pos (version_number version)))
IsLine names slot line (Budget n) =
    (word_of line ≡ codes ".budget") × One (operands_of line) (λ a. WritesNumber a (pos n))
IsLine names slot line (OneLoop l) =
    (word_of line ≡ codes ".loop")
    × Four (operands_of line) (λ a. WritesEnd names a l.head) (λ b. WritesEnd names b l.back)
    (λ c. WritesNumber c (pos l.bound)) (λ d. WritesRegister d l.register)
IsLine names slot line (Code insn) = WritesInsn names slot (word_of line) (operands_of line) insn

-- the lines say these items, each at the slot that the items before it leave
abbrev pub AreLines : (names : List ℕ → Option ℕ) (slot : ℕ) → List (List ℕ) → List Item → Type 0
AreLines names slot [] [] = Unit {0}
AreLines names slot [] (item ∷ items) = ⊥
AreLines names slot (line ∷ lines) [] = ⊥
AreLines names slot (line ∷ lines) (item ∷ items) =
    IsLine names slot line item × AreLines names (slot + line_slots_in item) lines items

-- ---- the whole text

-- the names that labels define, with the slot of the next instruction
abbrev pub name_of : ℕ → Item → List (List ℕ × ℕ)
name_of slot Nothing = []
name_of slot (Label name) = (name, slot) ∷ []
name_of slot (OneVersion version) = []
name_of slot (Budget n) = []
name_of slot (OneLoop l) = []
name_of slot (Code insn) = []

-- the names that the labels of some items define, with their slots, from a slot
abbrev pub names_from : ℕ → List Item → List (List ℕ × ℕ)
names_from slot [] = []
names_from slot (item ∷ items) = name_of slot item ++ names_from (slot + line_slots_in item) items

-- the version that a line declares, if it does
abbrev pub version_in : Item → List Version
version_in Nothing = []
version_in (Label name) = []
version_in (OneVersion version) = version ∷ []
version_in (Budget n) = []
version_in (OneLoop l) = []
version_in (Code insn) = []

-- the version of a text that declares these versions: the only one, or 1 if there is none
abbrev pub IsVersionOf : List Version → Version → Type 0
IsVersionOf [] version = version ≡ versions.One
IsVersionOf (declared ∷ []) version = version ≡ declared
IsVersionOf (declared ∷ second ∷ more) version = ⊥

-- the budget that a line declares, if it does
abbrev pub budget_in : Item → List ℕ
budget_in Nothing = []
budget_in (Label name) = []
budget_in (OneVersion version) = []
budget_in (Budget n) = n ∷ []
budget_in (OneLoop l) = []
budget_in (Code insn) = []

-- the loop that a line declares, if it does
abbrev pub loop_in_line : Item → List Loop
loop_in_line Nothing = []
loop_in_line (Label name) = []
loop_in_line (OneVersion version) = []
loop_in_line (Budget n) = []
loop_in_line (OneLoop l) = l ∷ []
loop_in_line (Code insn) = []

-- the instruction of a line, if it has one
abbrev pub insn_in : Item → List Insn
insn_in Nothing = []
insn_in (Label name) = []
insn_in (OneVersion version) = []
insn_in (Budget n) = []
insn_in (OneLoop l) = []
insn_in (Code insn) = insn ∷ []

-- a label among them gives the name this slot
abbrev pub Defines : List (List ℕ × ℕ) → List ℕ → ℕ → Type 0
Defines [] name slot = ⊥
Defines (pair ∷ pairs) name slot = ((pair.0 ≡ name) × (pair.1 ≡ slot)) ⊎ Defines pairs name slot

-- no label defines the name
abbrev pub IsFree : List (List ℕ × ℕ) → List ℕ → Type 0
IsFree [] name = Unit {0}
IsFree (pair ∷ pairs) name = (pair.0 ≢ name) × IsFree pairs name

-- no name is defined twice
abbrev pub AreDistinctNames : List (List ℕ × ℕ) → Type 0
AreDistinctNames [] = Unit {0}
AreDistinctNames (pair ∷ pairs) = IsFree pairs pair.0 × AreDistinctNames pairs

-- the lines write the image: at most one version, one budget, loops in any order, and the instructions in their order
pub record IsText (text : List ℕ) (p : Program) : Type 0 where
  pub items : List Item
  pub names : List ℕ → Option ℕ
  pub lines : AreLines names 0 (pieces_of text) items
  pub defined : (name : List ℕ) (slot : ℕ) → (names name ≡ Some slot) ↔ Defines (names_from 0 items) name slot
  pub apart : AreDistinctNames (names_from 0 items)
  pub version : IsVersionOf (flat_map version_in items) p.version
  pub budget : flat_map budget_in items ≡ p.budget ∷ []
  pub loops : IsPermutation (flat_map loop_in_line items) p.loops
  pub code : p.slots ≡ flat_map placed_slots (flat_map insn_in items)
  pub program : IsProgram p
