-- A printed image is in the text relation.
use Rattle.std.proofs.Common.{◌≡◌, ℕ, ◌+◌, Bool, true, false, List, [], ◌∷◌, ◌++◌, length, Option, Some, None, is_some, refl, sym, ap, ◌∙◌, subst, append-nil, append_assoc}
use Rattle.std.specs.Prelude.{◌↔◌, codes, decimal}
use Rattle.std.specs.List.{flat_map}
use Rattle.std.proofs.lemmas.List.Sorted.{IsPermutation-refl}
use Rattle.bpf_insn.specs.declared.insn.Insn.{Insn}
use Rattle.bpf_insn.specs.Spelling.{second_immediate}
use Rattle.bpf_insn.specs.Text.{insn_text}
use Rattle.bpf_parts.specs.Text.{register_text}
use Rattle.bpf.specs.declared.loops.Loop.{Loop}
use Rattle.bpf.specs.Parts.{placed_slots, second_slots}
use Rattle.bpf.specs.Program.{AreLoops, AreSlots, IsProgram, Program}
use Rattle.bpf.specs.declared.version.Version.{Version}
use Rattle.bpf.specs.declared.version.Version.TheVariants.{One, Two}
use Rattle.basm.specs.Printed.{budget_line, loop_line, printed_image, slot_line, version_line}
use Rattle.basm.specs.Relation.{Defines, IsText, IsVersionOf, Item, budget_in, insn_in, loop_in_line, version_in}
use Rattle.basm.specs.Relation.Item.{Nothing, OneVersion, Budget, OneLoop, Code}
use Rattle.basm.proofs.Printed.Insns.{PrintedWords}
use Rattle.basm.proofs.Printed.Items.{ArePrinted, item_line, lines_say, no_names, text_of}

abbrev slot_items : List (Option Insn) → List Item
slot_items [] = []
slot_items (None ∷ slots) = slot_items slots
slot_items (Some insn ∷ slots) = Code insn ∷ slot_items slots

abbrev loop_items : List Loop → List Item → List Item
loop_items [] rest = rest
loop_items (l ∷ ls) rest = OneLoop l ∷ loop_items ls rest

abbrev version_items : Version → List Item → List Item
version_items One rest = rest
version_items Two rest = OneVersion Two ∷ rest

-- the items after the version
abbrev items_after : Program → List Item
items_after p = Budget p.budget ∷ loop_items p.loops (slot_items p.slots)

-- what the lines of a printed image say
abbrev items_of : Program → List Item
items_of p = version_items p.version (items_after p)

-- ---- the text is that of the items

line_printed : (name number end more : List ℕ) → (name ++ number ++ end) ++ more ≡ (name ++ (number ++ [])) ++ (end ++ more)
line_printed name number end more = simp (append_assoc, append-nil)

version_printed : (version : Version) (rest : List Item) → version_line version ++ text_of rest ≡ text_of (version_items version rest)
version_printed One rest = refl
version_printed Two rest = line_printed (codes ".version ") (decimal 2) (codes "\n") (text_of rest)

budget_printed : (budget : ℕ) (rest : List ℕ) → budget_line budget ++ rest ≡ item_line (Budget budget) ++ 10 ∷ rest
budget_printed budget rest = simp append_assoc

-- both ways to join a name and four operands, over plain variables since `simp` does not look into texts
four_operands : (front comma a b c d end rest : List ℕ)
    → front ++ a ++ comma ++ b ++ comma ++ c ++ comma ++ d ++ end ++ rest
    ≡ (front ++ a ++ (comma ++ b ++ (comma ++ c ++ (comma ++ d ++ [])))) ++ (end ++ rest)
four_operands front comma a b c d end rest = simp (append_assoc, append-nil)

loop_printed : (l : Loop) (rest : List ℕ) → loop_line l ++ rest ≡ item_line (OneLoop l) ++ 10 ∷ rest
loop_printed l rest =
    four_operands (codes ".loop ") (codes ", ") (decimal l.head) (decimal l.back) (decimal l.bound) (register_text l.register) (codes "\n") rest

slots_printed : (slots : List (Option Insn)) → flat_map slot_line slots ≡ text_of (slot_items slots)
unfolding insn_text
slots_printed [] = refl
slots_printed (None ∷ slots) = slots_printed slots
slots_printed (Some insn ∷ slots) =
    append_assoc (insn_text insn) (codes "\n") (flat_map slot_line slots)
    ∙ ap (λ rest. insn_text insn ++ 10 ∷ rest) (slots_printed slots)

loops_printed : (ls : List Loop) (rest : List Item) → flat_map loop_line ls ++ text_of rest ≡ text_of (loop_items ls rest)
loops_printed [] rest = refl
loops_printed (l ∷ ls) rest =
    append_assoc (loop_line l) (flat_map loop_line ls) (text_of rest)
    ∙ loop_printed l (flat_map loop_line ls ++ text_of rest)
    ∙ ap (λ more. item_line (OneLoop l) ++ 10 ∷ more) (loops_printed ls rest)

four_parts : (a b c d : List ℕ) → a ++ b ++ c ++ d ≡ a ++ (b ++ (c ++ d))
four_parts a b c d = simp append_assoc

image_printed : (p : Program) → printed_image p ≡ text_of (items_of p)
unfolding printed_image
image_printed p =
    four_parts (version_line p.version) (budget_line p.budget) (flat_map loop_line p.loops) (flat_map slot_line p.slots)
    ∙ ap (λ more. version_line p.version ++ more) (
    budget_printed p.budget (flat_map loop_line p.loops ++ flat_map slot_line p.slots)
    ∙ ap (λ more. item_line (Budget p.budget) ++ 10 ∷ more)
    (ap (λ code. flat_map loop_line p.loops ++ code) (slots_printed p.slots) ∙ loops_printed p.loops (slot_items p.slots))
    )
    ∙ version_printed p.version (items_after p)

-- ---- each item is one that is printed

are_slots : (slots : ℕ) (second : Bool) (xs : List (Option Insn)) → AreSlots second xs → ArePrinted slots (slot_items xs)
are_slots slots second [] are = tt
are_slots slots true (None ∷ xs) are = are_slots slots false xs are
are_slots slots true (Some insn ∷ xs) are = absurd are
are_slots slots false (None ∷ xs) are = absurd are
are_slots slots false (Some insn ∷ xs) are = (are.0, are_slots slots (is_some (second_immediate insn)) xs are.1)

are_loops : (slots least : ℕ) (ls : List Loop) (rest : List Item) → AreLoops slots least ls → ArePrinted slots rest → ArePrinted slots (loop_items ls rest)
are_loops slots least [] rest loops are = are
are_loops slots least (l ∷ ls) rest loops are = (loops.1, are_loops slots (l.head + 1) ls rest loops.2 are)

versions_printed : (slots : ℕ) (version : Version) (rest : List Item) → ArePrinted slots rest → ArePrinted slots (version_items version rest)
versions_printed slots One rest are = are
versions_printed slots Two rest are = (tt, are)

are_printed : (p : Program) → IsProgram p → ArePrinted (length p.slots) (items_of p)
are_printed p is =
    versions_printed (length p.slots) p.version (items_after p)
    (is.budget, are_loops (length p.slots) 0 p.loops (slot_items p.slots) is.loops (are_slots (length p.slots) false p.slots is.code))

-- ---- version, budget, loops and instructions of the items

slots_no_version : (xs : List (Option Insn)) → flat_map version_in (slot_items xs ++ Nothing ∷ []) ≡ []
slots_no_version [] = refl
slots_no_version (None ∷ xs) = slots_no_version xs
slots_no_version (Some insn ∷ xs) = slots_no_version xs

loops_no_version : (ls : List Loop) (xs : List (Option Insn)) → flat_map version_in (loop_items ls (slot_items xs) ++ Nothing ∷ []) ≡ []
loops_no_version [] xs = slots_no_version xs
loops_no_version (l ∷ ls) xs = loops_no_version ls xs

version_again : (version : Version) (rest : List Item) → flat_map version_in (rest ++ Nothing ∷ []) ≡ [] → IsVersionOf (flat_map version_in (version_items version rest ++ Nothing ∷ [])) version
version_again One rest none = let P : List Version → Type 0 = λ declared. IsVersionOf declared One in subst P (sym none) refl
version_again Two rest none = let P : List Version → Type 0 = λ more. IsVersionOf (Two ∷ more) Two in subst P (sym none) refl

-- a version declares nothing else
after_version : {X : Type 0} (f : Item → List X) (version : Version) (rest : List Item) → f (OneVersion version) ≡ [] → flat_map f (version_items version rest ++ Nothing ∷ []) ≡ flat_map f (rest ++ Nothing ∷ [])
after_version f One rest none = refl
after_version f Two rest none = ap (λ front. front ++ flat_map f (rest ++ Nothing ∷ [])) none

slots_no_budget : (xs : List (Option Insn)) → flat_map budget_in (slot_items xs ++ Nothing ∷ []) ≡ []
slots_no_budget [] = refl
slots_no_budget (None ∷ xs) = slots_no_budget xs
slots_no_budget (Some insn ∷ xs) = slots_no_budget xs

slots_no_loop : (xs : List (Option Insn)) → flat_map loop_in_line (slot_items xs ++ Nothing ∷ []) ≡ []
slots_no_loop [] = refl
slots_no_loop (None ∷ xs) = slots_no_loop xs
slots_no_loop (Some insn ∷ xs) = slots_no_loop xs

loops_no_budget : (ls : List Loop) (xs : List (Option Insn)) → flat_map budget_in (loop_items ls (slot_items xs) ++ Nothing ∷ []) ≡ []
loops_no_budget [] xs = slots_no_budget xs
loops_no_budget (l ∷ ls) xs = loops_no_budget ls xs

loops_again : (ls : List Loop) (xs : List (Option Insn)) → flat_map loop_in_line (loop_items ls (slot_items xs) ++ Nothing ∷ []) ≡ ls
loops_again [] xs = slots_no_loop xs
loops_again (l ∷ ls) xs = ap (λ more. l ∷ more) (loops_again ls xs)

loops_no_code : (ls : List Loop) (rest : List Item) → flat_map insn_in (loop_items ls rest ++ Nothing ∷ []) ≡ flat_map insn_in (rest ++ Nothing ∷ [])
loops_no_code [] rest = refl
loops_no_code (l ∷ ls) rest = loops_no_code ls rest

slots_again : (second : Bool) (xs : List (Option Insn)) → AreSlots second xs
    → second_slots second ++ flat_map placed_slots (flat_map insn_in (slot_items xs ++ Nothing ∷ [])) ≡ xs
slots_again true [] are = absurd (cc)
slots_again false [] are = refl
slots_again true (None ∷ xs) are = ap (λ more. None ∷ more) (slots_again false xs are)
slots_again true (Some insn ∷ xs) are = absurd are
slots_again false (None ∷ xs) are = absurd are
slots_again false (Some insn ∷ xs) are = ap (λ more. Some insn ∷ more) (slots_again (is_some (second_immediate insn)) xs are.1)

-- ---- the whole

no_definition : (name : List ℕ) (slot : ℕ) → (◌≡◌ {A = Option ℕ} None (Some slot)) ↔ Defines [] name slot
no_definition name slot = (λ same. absurd (cc), λ none. absurd none)

printed_items : PrintedWords → (p : Program) → IsProgram p → IsText (text_of (items_of p)) p
printed_items laws p is =
    let printed = are_printed p is in
    let none = no_names (length p.slots) 0 (items_of p) printed in
    record {
      items = items_of p ++ Nothing ∷ [];
      names = λ name. None;
      lines = lines_say laws (λ name. None) (length p.slots) 0 is.slots.1 (items_of p) printed;
      defined = rw none no_definition;
      apart = rw none tt;
      version = version_again p.version (items_after p) (loops_no_version p.loops p.slots);
      budget = after_version budget_in p.version (items_after p) refl ∙ ap (λ more. p.budget ∷ more) (loops_no_budget p.loops p.slots);
      loops = rw (after_version loop_in_line p.version (items_after p) refl ∙ loops_again p.loops p.slots) (IsPermutation-refl p.loops);
      code = sym (ap (flat_map placed_slots) (after_version insn_in p.version (items_after p) refl ∙ loops_no_code p.loops (slot_items p.slots)) ∙ slots_again false p.slots is.code);
      program = is;
    }

pub printed_is_text : PrintedWords → (text : List ℕ) (p : Program) → IsProgram p → text ≡ printed_image p → IsText text p
printed_is_text laws text p is printed = rw (printed ∙ image_printed p) (printed_items laws p is)
