-- The printed line of each item says it.
use Rattle.std.proofs.Common.{◌≡◌, ℕ, ◌+◌, ◌<◌, ◌≤◌, List, [], ◌∷◌, ◌++◌, Option, inr, refl, sym, arith, subst}
use Rattle.std.specs.Prelude.{◌==◌, codes, decimal}
use Rattle.std.specs.List.{slice_split}
use Rattle.bpf_insn.specs.Spelling.{IsInsn}
use Rattle.bpf_insn.specs.Text.{insn_name, insn_operands, name_with_operands}
use Rattle.bpf_parts.specs.Text.{register_text}
use Rattle.bpf.specs.declared.version.Version.{Version}
use Rattle.bpf.specs.declared.version.Version.TheVariants.{One, Two}
use Rattle.bpf.specs.Program.{IsBudget, IsLoop}
use Rattle.bpf.specs.Version.{version_number}
use Rattle.basm_lex.specs.Lines.{code_of, operands_of, rest_of_line, word_of}
use Rattle.basm.specs.Relation.{AreLines, IsLine, Item, line_slots_in, names_from}
use Rattle.basm.specs.Relation.Item.{Nothing, Label, OneVersion, Budget, OneLoop, Code}
use Rattle.basm_lex.specs.Printed.{AreWords, IsWord}
use Rattle.basm.proofs.Printed.Insns.{PrintedWords, operands_write}

abbrev pub item_name : Item → List ℕ
item_name Nothing = []
item_name (Label name) = []
item_name (OneVersion version) = codes ".version"
item_name (Budget n) = codes ".budget"
item_name (OneLoop l) = codes ".loop"
item_name (Code insn) = insn_name insn

abbrev pub item_operands : Item → List (List ℕ)
item_operands Nothing = []
item_operands (Label name) = []
item_operands (OneVersion version) = decimal (version_number version) ∷ []
item_operands (Budget n) = decimal n ∷ []
item_operands (OneLoop l) = decimal l.head ∷ decimal l.back ∷ decimal l.bound ∷ register_text l.register ∷ []
item_operands (Code insn) = insn_operands insn

-- the line that is printed for an item
abbrev pub item_line : Item → List ℕ
item_line item = name_with_operands (item_name item) (item_operands item)

-- an item of an image of `slots` slots
abbrev pub IsPrinted : (slots : ℕ) → Item → Type 0
IsPrinted slots Nothing = ⊥
IsPrinted slots (Label name) = ⊥
IsPrinted slots (OneVersion version) = Unit {0}
IsPrinted slots (Budget n) = IsBudget n
IsPrinted slots (OneLoop l) = IsLoop slots l
IsPrinted slots (Code insn) = IsInsn insn

abbrev pub ArePrinted : (slots : ℕ) → List Item → Type 0
ArePrinted slots [] = Unit {0}
ArePrinted slots (item ∷ items) = IsPrinted slots item × ArePrinted slots items

-- the number of a version is small
version_low : (version : Version) → version_number version < 3
version_low One = omega arith
version_low Two = omega arith

item_word : PrintedWords → (slots : ℕ) (item : Item) → IsPrinted slots item → IsWord (item_name item)
item_word laws slots Nothing is = absurd is
item_word laws slots (Label name) is = absurd is
item_word laws slots (OneVersion version) is = refl
item_word laws slots (Budget n) is = refl
item_word laws slots (OneLoop l) is = refl
item_word laws slots (Code insn) is = laws.name insn

item_words : PrintedWords → (slots : ℕ) → slots ≤ 512 → (item : Item) → IsPrinted slots item → AreWords (item_operands item)
item_words laws slots few Nothing is = absurd is
item_words laws slots few (Label name) is = absurd is
item_words laws slots few (OneVersion version) is = let low = version_low version in (laws.numeral (version_number version) (omega arith), tt)
item_words laws slots few (Budget n) is = (laws.numeral n (omega (arith, is.1)), tt)
item_words laws slots few (OneLoop l) is = (
  laws.numeral l.head (omega (arith, is.ordered, is.within)),
  (
    laws.numeral l.back (omega (arith, is.within)),
    (laws.numeral l.bound (omega (arith, is.high)), (laws.register l.register (omega (arith, is.register)), tt)),
  ),
)
item_words laws slots few (Code insn) is = laws.operands insn is

-- the item, by the words of its line
words_say : PrintedWords → (names : List ℕ → Option ℕ) (slots slot : ℕ) → slots ≤ 512 → (item : Item) → IsPrinted slots item → (line : List ℕ)
    → word_of line ≡ item_name item → operands_of line ≡ item_operands item → IsLine names slot line item
words_say laws names slots slot few Nothing is line word operands = absurd is
words_say laws names slots slot few (Label name) is line word operands = absurd is
words_say laws names slots slot few (OneVersion version) is line word operands =
    let low = version_low version in (word, rw operands (laws.number (version_number version) (omega arith)))
words_say laws names slots slot few (Budget n) is line word operands =
    (word, rw operands (laws.number n (omega (arith, is.1))))
words_say laws names slots slot few (OneLoop l) is line word operands = (
  word,
  rw operands (
    inr (laws.number l.head (omega (arith, is.ordered, is.within))),
    (
      inr (laws.number l.back (omega (arith, is.within))),
      (laws.number l.bound (omega (arith, is.high)), (omega (arith, is.register), refl)),
    ),
  ),
)
words_say laws names slots slot few (Code insn) is line word operands =
    record { name = word; operands = rw operands (operands_write laws names slot insn is) }

line_says : PrintedWords → (names : List ℕ → Option ℕ) (slots slot : ℕ) → slots ≤ 512 → (item : Item) → IsPrinted slots item → IsLine names slot (item_line item) item
line_says laws names slots slot few item is =
    let name = item_word laws slots item is in
    let words = item_words laws slots few item is in
    words_say laws names slots slot few item is (item_line item) (laws.first (item_name item) (item_operands item) name words)
    (laws.rest (item_name item) (item_operands item) name words)

-- ---- all lines, each with its end, and the empty one after the last end

abbrev pub text_of : List Item → List ℕ
text_of [] = []
text_of (item ∷ items) = item_line item ++ 10 ∷ text_of items

nothing_said : (names : List ℕ → Option ℕ) (slot : ℕ) → IsLine names slot [] Nothing
unfolding word_of rest_of_line code_of
nothing_said names slot = (refl, refl)

pub lines_say : PrintedWords → (names : List ℕ → Option ℕ) (slots slot : ℕ) → slots ≤ 512 → (items : List Item) → ArePrinted slots items
    → AreLines names slot (slice_split (λ c. c == 10) (text_of items)) (items ++ Nothing ∷ [])
lines_say laws names slots slot few [] are = (nothing_said names slot, tt)
lines_say laws names slots slot few (item ∷ items) are =
    let parts = laws.line (item_name item) (item_operands item) (text_of items) (item_word laws slots item are.0) (item_words laws slots few item are.0) in
    subst (λ lines. AreLines names slot lines (item ∷ (items ++ Nothing ∷ []))) (sym parts)
    (line_says laws names slots slot few item are.0, lines_say laws names slots (slot + line_slots_in item) few items are.1)

-- no label is printed
pub no_names : (slots slot : ℕ) (items : List Item) → ArePrinted slots items → names_from slot (items ++ Nothing ∷ []) ≡ []
no_names slots slot [] are = refl
no_names slots slot (Nothing ∷ items) are = absurd are.0
no_names slots slot (Label name ∷ items) are = absurd are.0
no_names slots slot (OneVersion version ∷ items) are = no_names slots (slot + 0) items are.1
no_names slots slot (Budget n ∷ items) are = no_names slots (slot + 0) items are.1
no_names slots slot (OneLoop l ∷ items) are = no_names slots (slot + 0) items are.1
no_names slots slot (Code insn ∷ items) are = no_names slots (slot + line_slots_in (Code insn)) items are.1
