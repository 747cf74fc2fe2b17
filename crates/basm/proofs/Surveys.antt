-- What the survey of some lines is with one line more, and what it is if the lines are right.
use Rattle.std.proofs.Common.{◌≡◌, Bool, true, false, ℕ, ◌+◌, ◌-◌, ◌≤◌, List, [], ◌∷◌, ◌++◌, length, take, Option, Some, None, refl, sym, ap, ◌∙◌, subst, inl, inr, arith, rules}
use Rattle.std.specs.Prelude.{◌≢◌, ◌&&◌, ◌||◌, codes}
use Rattle.std.specs.List.{list_any}
use Rattle.std.specs.Str.{bytes_eq}
use Rattle.std.proofs.lemmas.Bool.{and_parts, cases_Bool, cond_both}
use Rattle.std.proofs.lemmas.List.{append-nil, append_assoc, take_at, length-append}
use Rattle.std.proofs.lemmas.Option.{none-some}
use Rattle.std.proofs.lemmas.Slice.Eq.{bytes_eq-Decides}
use Rattle.basm_lex.specs.Lines.{IsLabel, operands_of, word_of}
use Rattle.basm_lex.specs.Names.{IsName, is_name}
use Rattle.basm.specs.declared.survey.Survey.{Survey}
use Rattle.basm.specs.Labels.{AddsName, IsSurvey, slot_count, lone_label, declares_budget, label_in, label_of, named_slot, labels_from, slot_after, slots_from, word_slots}
use Rattle.basm.specs.Names.{slot_named}
use Rattle.basm.proofs.Lookups.{apart_more, same_bytes, slot_named-push}

-- ---- labels

pub label_named : (word name : List ℕ) → IsName name → word ≡ name ++ 58 ∷ [] → label_of word ≡ Some name
unfolding label_of
label_named word name is_name same =
    let front : (n : ℕ) → length name ≡ n → take n (name ++ 58 ∷ []) ≡ name = λ n e. take_at name (58 ∷ []) n e in
    let cut : take (length (name ++ 58 ∷ []) - 1) (name ++ 58 ∷ []) ≡ name = front _ (omega (arith, length-append name (58 ∷ []))) in
    rw same (rw cut (rw (is_name, same_bytes (name ++ 58 ∷ [])) refl))

pub no_label : (word : List ℕ) → ((name : List ℕ) → IsName name → word ≢ name ++ 58 ∷ []) → label_of word ≡ None
unfolding label_of
no_label word none =
    let name = take (length word - 1) word in
    let P : Option (List ℕ) → Type 0 = λ o. o ≡ None in
    cond_both (is_name name && bytes_eq word (name ++ codes ":")) (Some name) None P
    (λ yes. let parts = and_parts (is_name name) (bytes_eq word (name ++ codes ":")) yes in
    absurd (none name parts.0 ((bytes_eq-Decides word (name ++ codes ":")).0 parts.1)))
    (λ no. refl)

-- the name of a line that is a label
pub line_named : (line name : List ℕ) → IsLabel line name → label_in line ≡ Some name
line_named line name says = rw says.2 (label_named (word_of line) name says.0 says.1)

-- and of one that is none
pub line_unnamed : (line : List ℕ) → ((name : List ℕ) → ¬ IsLabel line name) → label_in line ≡ None
line_unnamed line none = at (operands_of line) (λ name is_name word operands. none name (is_name, word, operands))
  where
    at : (operands : List (List ℕ)) → ((name : List ℕ) → IsName name → word_of line ≡ name ++ 58 ∷ [] → operands ≡ [] → ⊥) → lone_label operands (label_of (word_of line)) ≡ None
    at [] h = no_label (word_of line) (λ name is_name word. h name is_name word refl)
    at (operand ∷ operands) h = refl

-- a label is no directive
label_budget : (word name : List ℕ) → label_of word ≡ Some name → bytes_eq word (codes ".budget") ≡ false
unfolding label_of
label_budget word name label = elim (cases_Bool (bytes_eq word (codes ".budget"))) [
  | inl same ↦
      let P : List ℕ → Type 0 = λ w. label_of w ≡ Some name in
      let found : label_of (codes ".budget") ≡ Some name = subst P ((bytes_eq-Decides word (codes ".budget")).0 same) label in
      absurd (none-some name found)
  | inr other ↦ other
]

-- ---- one line more

slots_push : (slot : ℕ) (lines : List (List ℕ)) (line : List ℕ) → slots_from slot (lines ++ line ∷ []) ≡ slot_after (slots_from slot lines) line
slots_push slot [] line = refl
slots_push slot (x ∷ lines) line = slots_push (slot_after slot x) lines line

labels_push : (slot : ℕ) (lines : List (List ℕ)) (line : List ℕ)
    → labels_from slot (lines ++ line ∷ []) ≡ labels_from slot lines ++ named_slot (label_in line) (slots_from slot lines)
labels_push slot [] line = append-nil (named_slot (label_in line) slot)
labels_push slot (x ∷ lines) line =
    let front = named_slot (label_in x) slot in
    ap (λ (rest : List (List ℕ × ℕ)). front ++ rest) (labels_push (slot_after slot x) lines line)
    ∙ sym (append_assoc front (labels_from (slot_after slot x) lines) (named_slot (label_in line) (slots_from (slot_after slot x) lines)))

any_push : {X : Type 0} (test : X → Bool) (xs : List X) (x : X) → list_any test (xs ++ x ∷ []) ≡ (list_any test xs || test x)
any_push test [] x = search rules
any_push test (y ∷ ys) x =
    elim (test y) as (λ t. (t || list_any test (ys ++ x ∷ [])) ≡ ((t || list_any test ys) || test x)) [ true ↦ refl | false ↦ any_push test ys x ]

or_false : (b : Bool) → (b || false) ≡ b
or_false true = refl
or_false false = refl

slots_low : (slot : ℕ) (lines : List (List ℕ)) → slot ≤ 4294967295 → slots_from slot lines ≤ 4294967295
slots_low slot [] low = low
slots_low slot (line ∷ lines) low = slots_low (slot_after slot line) lines (omega arith)

-- a line that is a label
pub survey_label : (lines : List (List ℕ)) (line name : List ℕ) (old new : Survey) → IsLabel line name
    → AddsName name old new → IsSurvey lines old → IsSurvey (lines ++ line ∷ []) new
survey_label lines line name old new says adds is =
    let label = line_named line name says in
    let pairs = labels_from 0 lines in
    let more : labels_from 0 (lines ++ line ∷ []) ≡ pairs ++ (name, slots_from 0 lines) ∷ [] =
    labels_push 0 lines line ∙ ap (λ (l : Option (List ℕ)). pairs ++ named_slot l (slots_from 0 lines)) label in
    let same_slot : old.names ++ (name, old.slots) ∷ [] ≡ old.names ++ (name, slots_from 0 lines) ∷ [] = ap (λ (s : ℕ). old.names ++ (name, s) ∷ []) is.slots in
    record {
      names = λ other.
          adds.names other ∙ slot_named-push old.names name old.slots other ∙ rw (is.slots, is.names other) (sym (slot_named-push pairs name (slots_from 0 lines) other))
          ∙ ap (λ (ps : List (List ℕ × ℕ)). slot_named ps other) (sym more);
      apart = rw more (
        λ none. let parts = adds.repeated.0 none in (apart_more pairs name (slots_from 0 lines)).1 (is.apart.0 parts.0, sym (is.names name) ∙ parts.1),
        λ apart. let parts = (apart_more pairs name (slots_from 0 lines)).0 apart in adds.repeated.1 (is.apart.1 parts.0, is.names name ∙ parts.1),
      );
      slots = adds.slots ∙ is.slots ∙ sym (slots_push 0 lines line ∙ rw label (let low = slots_low 0 lines (omega arith) in omega arith));
      budget = adds.budget ∙ is.budget ∙ sym (any_push declares_budget lines line ∙ rw (label_budget (word_of line) name (label_named (word_of line) name says.0 says.1)) (or_false _));
    }

-- a line that is no label
pub survey_word : (lines : List (List ℕ)) (line : List ℕ) (old new : Survey) → ((name : List ℕ) → ¬ IsLabel line name)
    → new.names ≡ old.names → new.repeated ≡ old.repeated → new.slots ≡ slot_count (old.slots + word_slots (word_of line))
    → new.has_budget ≡ (old.has_budget || declares_budget line) → IsSurvey lines old → IsSurvey (lines ++ line ∷ []) new
survey_word lines line old new none names repeated slots budget is =
    let label = line_unnamed line none in
    let pairs = labels_from 0 lines in
    let same : labels_from 0 (lines ++ line ∷ []) ≡ pairs =
    labels_push 0 lines line ∙ ap (λ (l : Option (List ℕ)). pairs ++ named_slot l (slots_from 0 lines)) label ∙ append-nil pairs in
    record {
      names = λ other. rw (names, same) (is.names other);
      apart = rw (repeated, same) is.apart;
      slots = slots ∙ rw is.slots (sym (slots_push 0 lines line ∙ rw label refl));
      budget = budget ∙ rw is.budget (sym (any_push declares_budget lines line));
    }
