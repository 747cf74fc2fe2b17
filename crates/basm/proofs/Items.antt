-- Lines with the items that they say, one more at a time.
use Rattle.std.proofs.Common.{◌≡◌, false, not, ℤ, Some, None, ℕ, suc, ◌+◌, ◌≤◌, List, [], ◌∷◌, ◌++◌, map, length, get_or, take, Option, refl, sym, ap, ◌∙◌, subst, zero-add, arith}
use Rattle.std.proofs.lemmas.List.{append-nil, append_assoc, length-append}
use Rattle.std.specs.Prelude.{codes}
use Rattle.std.specs.Option.{is_some}
use Rattle.std.specs.List.{before_first, flat_map, prefix_len}
use Rattle.std.proofs.lemmas.Bool.{cond_both}
use Rattle.bpf_insn.specs.declared.insn.Insn.{Insn}
use Rattle.bpf.specs.declared.loops.Loop.{Loop}
use Rattle.bpf.specs.Parts.{placed_slots, second_slots}
use Rattle.bpf_insn.specs.Spelling.{second_immediate, slots_in as immediate_slots, slots_of}
use Rattle.basm_lex.specs.Lines.{IsLabel, code_of, without_trailing_spaces, is_semicolon, is_space, operands_of, rest_of_line, without_leading_spaces, trimmed_text, trailing_part, word_of}
use Rattle.basm.specs.declared.partial_image.PartialImage.{PartialImage}
use Rattle.basm.specs.PartialImage.{AddsItem, AddsLine, ArePartsOf, SayParts, WritesLoop, slots_of_items}
use Rattle.basm.specs.Relation.{Item, Nothing, Label, OneVersion, Budget, OneLoop, Code, AreLines, Four, IsLine, WritesInsn, budget_in, insn_in, loop_in_line, line_slots_in, version_in}

pub not_nil : {X : Type 0} (c : X) (cs : List X) → c ∷ cs ≡ [] → ⊥
not_nil c cs same = cc

-- ---- operands

pub four_from : {X : Type 0} (text : X → List ℕ) (xs : List X) (d : X) (P Q R S : List ℕ → Type 0) → length xs ≡ 4
    → P (text (get_or xs 0 d)) → Q (text (get_or xs 1 d)) → R (text (get_or xs 2 d)) → S (text (get_or xs 3 d)) → Four (map text xs) P Q R S
four_from text [] d P Q R S four p q r s = absurd (omega arith)
four_from text (a ∷ []) d P Q R S four p q r s = absurd (omega arith)
four_from text (a ∷ b ∷ []) d P Q R S four p q r s = absurd (omega arith)
four_from text (a ∷ b ∷ c ∷ []) d P Q R S four p q r s = absurd (omega arith)
four_from text (a ∷ b ∷ c ∷ e ∷ []) d P Q R S four p q r s = (p, (q, (r, s)))
four_from text (a ∷ b ∷ c ∷ e ∷ f ∷ xs) d P Q R S four p q r s = absurd (omega arith)

-- ---- what a line adds

word_begins : (c : ℕ) (cs : List ℕ) → is_space c ≡ false → before_first is_space (c ∷ cs) ≡ c ∷ before_first is_space cs
word_begins c cs other = rw other (more (prefix_len (λ x. not (is_space x)) cs) _ (omega arith))
  where
    more : (n m : ℕ) → m ≡ suc n → take m (c ∷ cs) ≡ c ∷ take n cs
    more n m same = rw same refl

unless_begins : (c : ℕ) (cs : List ℕ) → is_space c ≡ false → (ds : List ℕ) × (trailing_part c cs ≡ c ∷ ds)
unless_begins c [] other = ([], rw other refl)
unless_begins c (d ∷ ds) other = (d ∷ ds, refl)

kept : (c : ℕ) (cs : List ℕ) → is_space c ≡ false → before_first is_space (trailing_part c cs) ≡ [] → ⊥
kept c cs other none =
    let text = unless_begins c cs other in
    not_nil c (before_first is_space text.0) (sym (word_begins c text.0 other) ∙ ap (before_first is_space) (sym text.1) ∙ none)

no_word : (text : List ℕ) → before_first is_space (trimmed_text text) ≡ [] → trimmed_text text ≡ []
no_word [] none = refl
no_word (c ∷ cs) none =
    let P : List ℕ → Type 0 = λ s. before_first is_space (without_trailing_spaces s) ≡ [] → without_trailing_spaces s ≡ [] in
    cond_both (is_space c) (without_leading_spaces cs) (c ∷ cs) P (λ yes. no_word cs) (λ other none. absurd (kept c (without_trailing_spaces cs) other none)) none

-- a line without a word has no operands
no_operands : (line : List ℕ) → word_of line ≡ [] → operands_of line ≡ []
unfolding word_of rest_of_line code_of
no_operands line none = rw (no_word (before_first is_semicolon line) none) refl

-- an item that declares nothing
pub adds_nothing : (parts : PartialImage) → AddsItem Nothing parts parts
adds_nothing parts = record { version = sym (append-nil _); budget = sym (append-nil _); loops = sym (append-nil _); insns = sym (append-nil _); slots = omega arith }

pub adds_label : (name : List ℕ) (parts : PartialImage) → AddsItem (Label name) parts parts
adds_label name parts = record { version = sym (append-nil _); budget = sym (append-nil _); loops = sym (append-nil _); insns = sym (append-nil _); slots = omega arith }

pub line_nothing : (names : List ℕ → Option ℕ) (line : List ℕ) (parts : PartialImage) → word_of line ≡ [] → AddsLine names line parts parts
line_nothing names line parts word = record {
  item = Nothing;
  says = (word, no_operands line word);
  adds = adds_nothing parts;
  few = λ h. h;
}

pub line_label : (names : List ℕ → Option ℕ) (line : List ℕ) (parts : PartialImage) (name : List ℕ)
    → IsLabel line name → AddsLine names line parts parts
line_label names line parts name label = record {
  item = Label name;
  says = label;
  adds = adds_label name parts;
  few = λ h. h;
}

pub line_loop : (xs : List (List ℕ)) (names : List ℕ → Option ℕ) (line : List ℕ) (old new : PartialImage) (l : Loop)
    → word_of line ≡ codes ".loop" → xs ≡ operands_of line → WritesLoop names xs l
    → AddsItem (OneLoop l) old new → AddsLine names line old new
line_loop xs names line old new l word operands four adds =
    let P : List (List ℕ) → Type 0 = λ ys. WritesLoop names ys l in
    record {
      item = OneLoop l;
      says = (word, subst P operands four);
      adds = adds;
      few = λ h. let same = adds.slots in omega arith;
    }

pub line_insn : (xs : List (List ℕ)) (names : List ℕ → Option ℕ) (line word : List ℕ) (old new : PartialImage) (insn : Insn)
    → word_of line ≡ word → xs ≡ operands_of line → WritesInsn names old.slots word xs insn
    → AddsItem (Code insn) old new → new.slots ≤ 512 → AddsLine names line old new
line_insn xs names line word old new insn same operands writes adds few =
    let P : List (List ℕ) → Type 0 = λ ys. WritesInsn names old.slots word ys insn in
    let Q : List ℕ → Type 0 = λ w. WritesInsn names old.slots w (operands_of line) insn in
    record {
      item = Code insn;
      says = subst Q (sym same) (subst P operands writes);
      adds = adds;
      few = λ h. few;
    }

-- ---- one item more

pub lines_push : (names : List ℕ → Option ℕ) (slot : ℕ) (lines : List (List ℕ)) (items : List Item) (line : List ℕ) (item : Item)
    → AreLines names slot lines items → IsLine names (slot + slots_of_items items) line item → AreLines names slot (lines ++ line ∷ []) (items ++ item ∷ [])
lines_push names slot [] [] line item says last = let P : ℕ → Type 0 = λ s. IsLine names s line item in (subst P (omega arith) last, tt)
lines_push names slot [] (i ∷ items) line item says last = absurd says
lines_push names slot (l ∷ lines) [] line item says last = absurd says
lines_push names slot (l ∷ lines) (i ∷ items) line item says last =
    let P : ℕ → Type 0 = λ s. IsLine names s line item in
    (says.0, lines_push names (slot + line_slots_in i) lines items line item says.1 (subst P (omega arith) last))

slots_push : (items : List Item) (item : Item) → slots_of_items (items ++ item ∷ []) ≡ slots_of_items items + line_slots_in item
slots_push [] item = omega arith
slots_push (i ∷ items) item = omega (arith, slots_push items item)

flat_push : {A : Type 0} (f : Item → List A) (items : List Item) (item : Item) → flat_map f items ++ f item ≡ flat_map f (items ++ item ∷ [])
flat_push f [] item = sym (append-nil (f item))
flat_push f (i ∷ items) item = append_assoc (f i) (flat_map f items) (f item) ∙ ap (λ rest. f i ++ rest) (flat_push f items item)

pub parts_push : (items : List Item) (item : Item) (old new : PartialImage) → ArePartsOf items old → AddsItem item old new → ArePartsOf (items ++ item ∷ []) new
parts_push items item old new are adds = record {
  version = adds.version ∙ rw are.version (flat_push version_in items item);
  budget = adds.budget ∙ rw are.budget (flat_push budget_in items item);
  loops = adds.loops ∙ rw are.loops (flat_push loop_in_line items item);
  insns = adds.insns ∙ rw are.insns (flat_push insn_in items item);
  slots = adds.slots ∙ rw are.slots (sym (slots_push items item));
}

pub say_push : (names : List ℕ → Option ℕ) (lines : List (List ℕ)) (line : List ℕ) (old new : PartialImage)
    → SayParts names lines old → AddsLine names line old new → SayParts names (lines ++ line ∷ []) new
say_push names lines line old new say adds =
    let P : ℕ → Type 0 = λ slot. IsLine names slot line adds.item in
    record {
      items = say.items ++ adds.item ∷ [];
      says = lines_push names 0 lines say.items line adds.item say.says (subst P (say.parts_of.slots ∙ sym (zero-add _)) adds.says);
      parts_of = parts_push say.items adds.item old new say.parts_of adds.adds;
      few = adds.few say.few;
    }

-- ---- how many slots there are

slots_placed : (insn : Insn) → length (placed_slots insn) ≡ slots_of insn
slots_placed insn = at (second_immediate insn)
  where
    at : (o : Option ℤ) → length (Some insn ∷ second_slots (is_some o)) ≡ immediate_slots o
    at None = refl
    at (Some immediate) = refl

pub slots_are : (items : List Item) → length (flat_map placed_slots (flat_map insn_in items)) ≡ slots_of_items items
slots_are [] = refl
slots_are (Nothing ∷ items) = slots_are items ∙ omega arith
slots_are (Label name ∷ items) = slots_are items ∙ omega arith
slots_are (OneVersion version ∷ items) = slots_are items ∙ omega arith
slots_are (Budget n ∷ items) = slots_are items ∙ omega arith
slots_are (OneLoop l ∷ items) = slots_are items ∙ omega arith
slots_are (Code insn ∷ items) = omega (arith, length-append (placed_slots insn) (flat_map placed_slots (flat_map insn_in items)), slots_placed insn, slots_are items)
