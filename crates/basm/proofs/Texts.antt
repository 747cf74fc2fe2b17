-- The whole text: what the survey and the parts of right lines say together.
use Rattle.std.proofs.Common.{◌≡◌, true, length, ℕ, ◌+◌, ◌≤◌, List, [], ◌∷◌, ◌++◌, Option, Some, None, refl, sym, ap, ◌∙◌, subst, arith}
use Rattle.std.specs.Prelude.{◌==◌, ◌↔◌, codes}
use Rattle.std.specs.List.{flat_map, list_any, slice_split}
use Rattle.std.proofs.lemmas.Bool.{or_left, or_right}
use Rattle.std.proofs.lemmas.Slice.Eq.{bytes_eq-Decides}
use Rattle.std.specs.List.Sorted.{IsPermutation}
use Rattle.std.specs.Option.{option_to_list}
use Rattle.bpf.specs.declared.loops.Loop.{Loop}
use Rattle.bpf.specs.Parts.{placed_slots}
use Rattle.bpf.specs.Program.{Program}
use Rattle.basm_lex.specs.Lines.{word_of}
use Rattle.basm.specs.declared.partial_image.PartialImage.{PartialImage}
use Rattle.basm.specs.declared.survey.Survey.{Survey}
use Rattle.basm.specs.PartialImage.{IsImageOf, SayParts, SurveysText, slots_of_items}
use Rattle.basm.specs.Labels.{IsSurvey, lone_label, declares_budget, label_in, label_of, named_slot, labels_from, slot_after, slots_from, slots_beside, word_slots}
use Rattle.basm.specs.Names.{slot_named}
use Rattle.bpf.specs.declared.version.Version.{Version}
use Rattle.basm.specs.Relation.{budget_in, AreDistinctNames, Defines, AreLines, Budget, Code, IsLine, IsText, IsVersionOf, Item, Label, Nothing, OneLoop, OneVersion, name_of, names_from, line_slots_in}
use Rattle.basm.proofs.Items.{not_nil, slots_are}
use Rattle.basm.proofs.Lookups.{slot_named-Defines}
use Rattle.basm.proofs.Surveys.{label_named}
use Rattle.basm.proofs.Words.{AreNamed, Takes, insn_takes}

-- the labels and the slots of a first word
abbrev pub SaysWord : ℕ → List (List ℕ × ℕ) → ℕ → List ℕ → Type 0
SaysWord slot pairs slots word = (named_slot (label_of word) slot ≡ pairs) × (slots_beside (label_of word) word ≡ slots)

no_word : (slot : ℕ) → SaysWord slot [] 0 []
unfolding label_of word_slots
no_word slot = (refl, refl)

version_word : (slot : ℕ) → SaysWord slot [] 0 (codes ".version")
unfolding label_of word_slots
version_word slot = (refl, refl)

budget_word : (slot : ℕ) → SaysWord slot [] 0 (codes ".budget")
unfolding label_of word_slots
budget_word slot = (refl, refl)

loop_word : (slot : ℕ) → SaysWord slot [] 0 (codes ".loop")
unfolding label_of word_slots
loop_word slot = (refl, refl)

label_word : (slot : ℕ) (word name : List ℕ) → label_of word ≡ Some name → SaysWord slot ((name, slot) ∷ []) 0 word
label_word slot word name label = rw label (refl, refl)

other_word : (slot slots : ℕ) (word : List ℕ) → Takes slots word → SaysWord slot [] slots word
other_word slot slots word takes = rw takes.no_label (refl, takes.slots_are)

-- a right line's first word says what its item says
line_says : AreNamed → (names : List ℕ → Option ℕ) (slot : ℕ) (line : List ℕ) (item : Item) → IsLine names slot line item → SaysWord slot (name_of slot item) (line_slots_in item) (word_of line)
line_says named names slot line Nothing says = let P : List ℕ → Type 0 = SaysWord slot [] 0 in subst P (sym says.0) (no_word slot)
line_says named names slot line (Label name) says = label_word slot (word_of line) name (label_named (word_of line) name says.0 says.1)
line_says named names slot line (OneVersion version) says = let P : List ℕ → Type 0 = SaysWord slot [] 0 in subst P (sym says.0) (version_word slot)
line_says named names slot line (Budget n) says = let P : List ℕ → Type 0 = SaysWord slot [] 0 in subst P (sym says.0) (budget_word slot)
line_says named names slot line (OneLoop l) says = let P : List ℕ → Type 0 = SaysWord slot [] 0 in subst P (sym says.0) (loop_word slot)
line_says named names slot line (Code insn) says =
    let P : List ℕ → Type 0 = SaysWord slot [] (line_slots_in (Code insn)) in subst P (sym says.name) (other_word slot (line_slots_in (Code insn)) _ (insn_takes named insn))

-- whether something comes after the word matters only for a label
unless_none : (operands : List (List ℕ)) (o : Option (List ℕ)) → o ≡ None → lone_label operands o ≡ o
unless_none [] o none = refl
unless_none (operand ∷ operands) o none = sym none

unlabelled : (slot : ℕ) (word : List ℕ) (pairs : List (List ℕ × ℕ)) (slots : ℕ) → SaysWord slot pairs slots word → pairs ≡ [] → label_of word ≡ None
unlabelled slot word pairs slots says none = at (label_of word) (says.0 ∙ none)
  where
    at : (o : Option (List ℕ)) → named_slot o slot ≡ [] → o ≡ None
    at None h = refl
    at (Some name) h = absurd (not_nil _ _ h)

label_same : AreNamed → (names : List ℕ → Option ℕ) (slot : ℕ) (line : List ℕ) (item : Item) → IsLine names slot line item → label_in line ≡ label_of (word_of line)
label_same named names slot line Nothing says = rw says.1 refl
label_same named names slot line (Label name) says = rw says.2 refl
label_same named names slot line (OneVersion version) says = unless_none _ _ (unlabelled slot _ _ _ (line_says named names slot line (OneVersion version) says) refl)
label_same named names slot line (Budget n) says = unless_none _ _ (unlabelled slot _ _ _ (line_says named names slot line (Budget n) says) refl)
label_same named names slot line (OneLoop l) says = unless_none _ _ (unlabelled slot _ _ _ (line_says named names slot line (OneLoop l) says) refl)
label_same named names slot line (Code insn) says = unless_none _ _ (unlabelled slot _ _ _ (line_says named names slot line (Code insn) says) refl)

-- and so do all lines, as long as there are not too many slots
pub labels_are : AreNamed → (names : List ℕ → Option ℕ) (slot : ℕ) (lines : List (List ℕ)) (items : List Item) → AreLines names slot lines items → slot + slots_of_items items ≤ 512
    → (labels_from slot lines ≡ names_from slot items) × (slots_from slot lines ≡ slot + slots_of_items items)
labels_are named names slot [] [] says few = (refl, omega arith)
labels_are named names slot [] (item ∷ items) says few = absurd says
labels_are named names slot (line ∷ lines) [] says few = absurd says
labels_are named names slot (line ∷ lines) (item ∷ items) says few =
    let same = label_same named names slot line item says.0 in
    let P : Option (List ℕ) → Type 0 = λ o. (named_slot o slot ≡ name_of slot item) × (slots_beside o (word_of line) ≡ line_slots_in item) in
    let one = subst P (sym same) (line_says named names slot line item says.0) in
    let slots = one.1 in
    let next : slot_after slot line ≡ slot + line_slots_in item = omega arith in
    let rest = labels_are named names (slot + line_slots_in item) lines items says.1 (omega arith) in
    (rw (one.0, next) (ap (λ (pairs : List (List ℕ × ℕ)). name_of slot item ++ pairs) rest.0), rw next (rest.1 ∙ omega arith))

pub text_is : AreNamed → (text : List ℕ) (survey : Survey) (parts : PartialImage) (p : Program) → IsSurvey (slice_split (λ c. c == 10) text) survey → survey.repeated ≡ None
    → SayParts (slot_named survey.names) (slice_split (λ c. c == 10) text) parts → IsImageOf parts p → IsText text p
text_is named text survey parts p is unrepeated say image =
    let lines = slice_split (λ c. c == 10) text in
    let few : 0 + slots_of_items say.items ≤ 512 = let same = say.parts_of.slots in let low = say.few in omega arith in
    let labels = (labels_are named (slot_named survey.names) 0 lines say.items say.says few).0 in
    let P : List (List ℕ × ℕ) → Type 0 = AreDistinctNames in
    let apart : AreDistinctNames (names_from 0 say.items) = subst P labels (is.apart.0 unrepeated) in
    let Q : List Loop → Type 0 = λ ls. IsPermutation ls p.loops in
    let R : List Version → Type 0 = λ declared. IsVersionOf declared p.version in
    record {
      items = say.items;
      names = slot_named survey.names;
      lines = say.says;
      defined = λ name slot.
          let same : slot_named survey.names name ≡ slot_named (names_from 0 say.items) name = is.names name ∙ ap (λ (pairs : List (List ℕ × ℕ)). slot_named pairs name) labels in
          let both = slot_named-Defines (names_from 0 say.items) apart name slot in
          (λ found. both.0 (sym same ∙ found), λ defines. same ∙ both.1 defines);
      apart = apart;
      version = subst R say.parts_of.version image.version;
      budget = sym say.parts_of.budget ∙ ap option_to_list image.budget;
      loops = subst Q say.parts_of.loops image.loops;
      code = image.code ∙ ap (flat_map placed_slots) say.parts_of.insns;
      program = image.program;
    }

-- ---- the survey of a right text

same_option : (o q : Option ℕ) → ((s : ℕ) → o ≡ Some s → q ≡ Some s) → ((s : ℕ) → q ≡ Some s → o ≡ Some s) → o ≡ q
same_option None None there back = refl
same_option None (Some s) there back = back s refl
same_option (Some s) q there back = sym (there s refl)

same_function : {X Y : Type 0} (f g : X → Y) → ((x : X) → f x ≡ g x) → f ≡ g
same_function f g h = λ i. λ x. h x i

-- one budget among the items is one among the lines
declared : (names : List ℕ → Option ℕ) (slot : ℕ) (lines : List (List ℕ)) (items : List Item) (n : ℕ) (ns : List ℕ) → AreLines names slot lines items → flat_map budget_in items ≡ n ∷ ns
    → list_any declares_budget lines ≡ true
declared names slot [] [] n ns says budget = absurd (not_nil n ns (sym budget))
declared names slot [] (item ∷ items) n ns says budget = absurd says
declared names slot (line ∷ lines) [] n ns says budget = absurd says
declared names slot (line ∷ lines) (Nothing ∷ items) n ns says budget = or_right (declares_budget line) _ (declared names (slot + 0) lines items n ns says.1 budget)
declared names slot (line ∷ lines) (Label name ∷ items) n ns says budget = or_right (declares_budget line) _ (declared names (slot + 0) lines items n ns says.1 budget)
declared names slot (line ∷ lines) (OneVersion version ∷ items) n ns says budget = or_right (declares_budget line) _ (declared names (slot + 0) lines items n ns says.1 budget)
declared names slot (line ∷ lines) (Budget m ∷ items) n ns says budget = or_left (declares_budget line) _ ((bytes_eq-Decides (word_of line) (codes ".budget")).1 says.0.0)
declared names slot (line ∷ lines) (OneLoop l ∷ items) n ns says budget = or_right (declares_budget line) _ (declared names (slot + 0) lines items n ns says.1 budget)
declared names slot (line ∷ lines) (Code insn ∷ items) n ns says budget = or_right (declares_budget line) _ (declared names (slot + line_slots_in (Code insn)) lines items n ns says.1 budget)

pub surveys_text : AreNamed → {text : List ℕ} {p : Program} (t : IsText text p) (survey : Survey) → IsSurvey (slice_split (λ c. c == 10) text) survey → SurveysText t survey
surveys_text named {text} {p} t survey is =
    let lines = slice_split (λ c. c == 10) text in
    let slots : slots_of_items t.items ≡ length p.slots = sym (ap length t.code ∙ slots_are t.items) in
    let labels = labels_are named t.names 0 lines t.items t.lines (let few = t.program.slots in omega arith) in
    let pairs = names_from 0 t.items in
    let P : List (List ℕ × ℕ) → Type 0 = AreDistinctNames in
    record {
      names = same_function (slot_named survey.names) t.names (λ name.
          let both : (slot : ℕ) → (slot_named pairs name ≡ Some slot) ↔ Defines pairs name slot = slot_named-Defines pairs t.apart name in
          is.names name ∙ ap (λ (ps : List (List ℕ × ℕ)). slot_named ps name) labels.0
          ∙ same_option (slot_named pairs name) (t.names name) (λ s found. (t.defined name s).1 ((both s).0 found)) (λ s found. (both s).1 ((t.defined name s).0 found)));
      repeated = is.apart.1 (subst P (sym labels.0) t.apart);
      slots = is.slots ∙ labels.1 ∙ omega arith;
      budget = is.budget ∙ declared t.names 0 lines t.items p.budget [] t.lines t.budget;
    }
