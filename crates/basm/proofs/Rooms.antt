-- The items of a right text: each has room after those before it.
use Rattle.std.proofs.Common.{◌≡◌, Bool, false, cond, ℕ, zero, suc, ◌+◌, ◌≤◌, ◌<◌, List, [], ◌∷◌, ◌++◌, length, get_or, take, drop, Option, Some, None, inl, inr, refl, sym, ap, ◌∙◌, subst, arith}
use Rattle.std.specs.Prelude.{◌==◌}
use Rattle.std.specs.List.{All, flat_map, slice_split, sum_by}
use Rattle.std.specs.List.Sorted.{IsPermutation}
use Rattle.std.specs.Option.{option_to_list}
use Rattle.std.proofs.lemmas.Bool.{cases_Bool, eq-eqb, eqb-true, ne_eqb}
use Rattle.std.proofs.lemmas.List.{drop_more, take_more, length-append, take-append-drop}
use Rattle.std.proofs.lemmas.List.Concat.{flat_map-append}
use Rattle.std.proofs.lemmas.List.Elements.{All-cons, All-contains, All-nil, Contains-append_right}
use Rattle.std.proofs.lemmas.List.Sorted.{All-permutation, IsPermutation-sym, length_permutation, sum_by-IsPermutation}
use Rattle.std.proofs.lemmas.List.Sums.{sum_by-append, sum_by-cons}
use Rattle.bpf.specs.declared.loops.Loop.{Loop}
use Rattle.bpf.specs.Parts.{placed_slots}
use Rattle.bpf.specs.Program.{AreLoops, IsLoop, IsProgram, Program}
use Rattle.bpf.specs.declared.version.Version.{Version}
use Rattle.basm.specs.declared.partial_image.PartialImage.{PartialImage}
use Rattle.basm.specs.declared.survey.Survey.{Survey}
use Rattle.basm.specs.Names.{slot_named}
use Rattle.basm.specs.PartialImage.{AddsItem, ArePartsOf, HasRoom, IsImageOf, SurveysText, has_head, slots_of_items}
use Rattle.basm.specs.Relation.{AreLines, Budget, Code, IsLine, IsText, IsVersionOf, Item, Label, Nothing, OneLoop, OneVersion, budget_in, loop_in_line, line_slots_in, version_in}
use Rattle.basm.proofs.Items.{not_nil, parts_push, slots_are}

-- ---- how many loops have a head

abbrev one_if : Bool → ℕ
one_if t = cond t 1 0

abbrev heads : ℕ → List Loop → ℕ
heads head loops = sum_by (λ l. one_if (l.head == head)) loops

no_heads : (slots least head : ℕ) (ls : List Loop) → AreLoops slots least ls → head < least → heads head ls ≡ 0
no_heads slots least head [] are low = refl
no_heads slots least head (l ∷ ls) are low =
    let first = are.0 in
    let here : one_if (l.head == head) ≡ 0 = ap one_if (ne_eqb l.head head (λ same. absurd (omega arith))) in
    sum_by-cons (λ l. one_if (l.head == head)) l ls ∙ omega (arith, here, no_heads slots (l.head + 1) head ls are.2 (omega arith))

heads_once : (slots least head : ℕ) (ls : List Loop) → AreLoops slots least ls → heads head ls ≤ 1
heads_once slots least head [] are = omega arith
heads_once slots least head (l ∷ ls) are =
    let all = sum_by-cons (λ l. one_if (l.head == head)) l ls in
    elim (cases_Bool (l.head == head)) [
      | inl found ↦
          let here : one_if (l.head == head) ≡ 1 = ap one_if found in
          let same = eqb-true l.head head found in
          omega (arith, all, here, no_heads slots (l.head + 1) head ls are.2 (omega arith))
      | inr other ↦
          let here : one_if (l.head == head) ≡ 0 = ap one_if other in
          omega (arith, all, here, heads_once slots (l.head + 1) head ls are.2)
    ]

headless : (head : ℕ) (ls : List Loop) → heads head ls ≡ 0 → has_head head ls ≡ false
headless head [] none = refl
headless head (l ∷ ls) none =
    let all = sum_by-cons (λ l. one_if (l.head == head)) l ls in
    elim (cases_Bool (l.head == head)) [
      | inl found ↦ let here : one_if (l.head == head) ≡ 1 = ap one_if found in absurd (omega arith)
      | inr other ↦ let here : one_if (l.head == head) ≡ 0 = ap one_if other in rw other (headless head ls (omega arith))
    ]

-- ---- lists that are cut at an element

only_one : {X : Type 0} (xs : List X) (x : X) (ys : List X) (y : X) → xs ++ x ∷ ys ≡ y ∷ [] → (xs ≡ []) × (x ≡ y)
only_one [] x ys y same = (refl, cc)
only_one (z ∷ xs) x ys y same = absurd (omega (arith, ap length same, length-append xs (x ∷ ys)))

only_version : (xs : List Version) (n : Version) (ys : List Version) (version : Version) → IsVersionOf (xs ++ n ∷ ys) version → (xs ≡ []) × (version ≡ n)
only_version [] n [] version says = (refl, says)
only_version [] n (m ∷ ys) version says = absurd says
only_version (x ∷ []) n ys version says = absurd says
only_version (x ∷ y ∷ xs) n ys version says = absurd says

none_from_list : {X : Type 0} (o : Option X) → option_to_list o ≡ [] → o ≡ None
none_from_list None h = refl
none_from_list (Some x) h = absurd (not_nil x [] h)

slots_append : (before after : List Item) → slots_of_items (before ++ after) ≡ slots_of_items before + slots_of_items after
slots_append [] after = omega arith
slots_append (item ∷ before) after = omega (arith, slots_append before after)

all_loops : (slots least : ℕ) (ls : List Loop) → AreLoops slots least ls → All (IsLoop slots) ls
all_loops slots least [] are = All-nil (IsLoop slots)
all_loops slots least (l ∷ ls) are = All-cons (IsLoop slots) l ls are.1 (all_loops slots (l.head + 1) ls are.2)

-- ---- room after the items before

room_for : (before after : List Item) (item : Item) (p : Program) (parts : PartialImage)
    → IsVersionOf (flat_map version_in (before ++ item ∷ after)) p.version → flat_map budget_in (before ++ item ∷ after) ≡ p.budget ∷ [] → IsPermutation (flat_map loop_in_line (before ++ item ∷ after)) p.loops
    → slots_of_items (before ++ item ∷ after) ≡ length p.slots → IsProgram p → ArePartsOf before parts → HasRoom (length p.slots) item parts
room_for before after Nothing p parts version budget loops slots is are = tt
room_for before after (Label name) p parts version budget loops slots is are = tt
room_for before after (OneVersion version) p parts says budget loops slots is are =
    let P : List Version → Type 0 = λ declared. IsVersionOf declared p.version in
    let cut = only_version (flat_map version_in before) version (flat_map version_in after) p.version (subst P (flat_map-append version_in before (OneVersion version ∷ after)) says) in
    none_from_list parts.version (are.version ∙ cut.0)
room_for before after (Budget n) p parts version budget loops slots is are =
    let cut = only_one (flat_map budget_in before) n (flat_map budget_in after) p.budget (sym (flat_map-append budget_in before (Budget n ∷ after)) ∙ budget) in
    let P : ℕ → Type 0 = λ n. (1 ≤ n) × (n ≤ 65536) in
    (subst P (sym cut.1) is.budget, none_from_list parts.budget (are.budget ∙ cut.0))
room_for before after (OneLoop l) p parts version budget loops slots is are =
    let front = flat_map loop_in_line before in let rest = flat_map loop_in_line after in
    let cut : flat_map loop_in_line (before ++ OneLoop l ∷ after) ≡ front ++ l ∷ rest = flat_map-append loop_in_line before (OneLoop l ∷ after) in
    let P : List Loop → Type 0 = λ ls. IsPermutation ls p.loops in
    let moved : IsPermutation (front ++ l ∷ rest) p.loops = subst P cut loops in
    let count : heads l.head p.loops ≡ heads l.head (front ++ l ∷ rest) = sum_by-IsPermutation (λ m. one_if (m.head == l.head)) (front ++ l ∷ rest) p.loops moved in
    let here : one_if (l.head == l.head) ≡ 1 = ap one_if (eq-eqb l.head l.head refl) in
    let none : heads l.head front ≡ 0 = omega (arith, count, here, heads_once (length p.slots) 0 l.head p.loops is.loops, sum_by-append (λ m. one_if (m.head == l.head)) front (l ∷ rest), sum_by-cons (λ m. one_if (m.head == l.head)) l rest) in
    let few = is.slots in let few_loops = is.few_loops in
    let Q : List Loop → Type 0 = λ ls. (has_head l.head ls ≡ false) × (length ls < 8) in
    let room : (has_head l.head front ≡ false) × (length front < 8) = (headless l.head front none, omega (arith, length_permutation (front ++ l ∷ rest) p.loops moved, length-append front (l ∷ rest))) in
    let following = subst Q (sym are.loops) room in (
      All-contains (IsLoop (length p.slots)) (front ++ l ∷ rest) l
          (All-permutation (IsLoop (length p.slots)) p.loops (front ++ l ∷ rest) (IsPermutation-sym (front ++ l ∷ rest) p.loops moved) (all_loops (length p.slots) 0 p.loops is.loops))
          (Contains-append_right front (l ∷ rest) l (0, omega arith, refl)),
      omega arith,
      following.0,
      following.1,
    )
room_for before after (Code insn) p parts version budget loops slots is are =
    let here = are.slots in let few = is.slots in omega (arith, slots_append before (Code insn ∷ after))

-- the items are cut at each of them
cut_at : (items : List Item) (n : ℕ) → n < length items → items ≡ take n items ++ get_or items n Nothing ∷ drop (n + 1) items
cut_at items n low = sym (take-append-drop n items) ∙ ap (λ (rest : List Item). take n items ++ rest) (drop_more items n Nothing low)

pub room_at : {text : List ℕ} {p : Program} (t : IsText text p) (n : ℕ) (parts : PartialImage) → n < length t.items → ArePartsOf (take n t.items) parts
    → HasRoom (length p.slots) (get_or t.items n Nothing) parts
room_at {p} t n parts low are =
    let cut = cut_at t.items n low in
    let P : List Item → Type 0 = λ items. IsPermutation (flat_map loop_in_line items) p.loops in
    let R : List Item → Type 0 = λ items. IsVersionOf (flat_map version_in items) p.version in
    let slots : slots_of_items t.items ≡ length p.slots = sym (ap length t.code ∙ slots_are t.items) in
    room_for (take n t.items) (drop (n + 1) t.items) (get_or t.items n Nothing) p parts
    (subst R cut t.version) (ap (flat_map budget_in) (sym cut) ∙ t.budget) (subst P cut t.loops) (ap slots_of_items (sym cut) ∙ slots) t.program are

-- ---- one line after the other

line_at : (names : List ℕ → Option ℕ) (slot : ℕ) (lines : List (List ℕ)) (items : List Item) (n : ℕ) (line : List ℕ) → AreLines names slot lines items → n < length lines → line ≡ get_or lines n line
    → IsLine names (slot + slots_of_items (take n items)) line (get_or items n Nothing) × (n < length items)
line_at names slot [] items n line says low same = absurd (omega arith)
line_at names slot (l ∷ lines) [] n line says low same = absurd says
line_at names slot (l ∷ lines) (item ∷ items) zero line says low same =
    let P : List ℕ → Type 0 = λ ys. IsLine names slot ys item in
    let Q : ℕ → Type 0 = λ k. IsLine names k line item in
    (subst Q (omega arith) (subst P (sym same) says.0), omega arith)
line_at names slot (l ∷ lines) (item ∷ items) (suc n) line says low same =
    let rest = line_at names (slot + line_slots_in item) lines items n line says.1 (omega arith) same in
    let Q : ℕ → Type 0 = λ k. IsLine names k line (get_or items n Nothing) in
    (subst Q (omega arith) rest.0, let far = rest.1 in omega arith)

-- the line of this turn says the text's next item, which has room
pub record IsTurn {text : List ℕ} {p : Program} (t : IsText text p) (survey : Survey) (parts : PartialImage) (n : ℕ) (line : List ℕ) : Type 0 where
  pub low : n < length t.items
  pub says : IsLine (slot_named survey.names) parts.slots line (get_or t.items n Nothing)
  pub room : HasRoom survey.slots (get_or t.items n Nothing) parts

pub turn_at : {text : List ℕ} {p : Program} (t : IsText text p) (survey : Survey) (parts : PartialImage) (n : ℕ) (line : List ℕ) → SurveysText t survey → ArePartsOf (take n t.items) parts
    → n < length (slice_split (λ c. c == 10) text) → line ≡ get_or (slice_split (λ c. c == 10) text) n line → IsTurn t survey parts n line
turn_at {text} {p} t survey parts n line surveys are low same =
    let item = get_or t.items n Nothing in
    let found = line_at t.names 0 (slice_split (λ c. c == 10) text) t.items n line t.lines low same in
    let slot : 0 + slots_of_items (take n t.items) ≡ parts.slots = let here = are.slots in omega arith in
    let P : ℕ → Type 0 = λ k. IsLine t.names k line item in
    let Q : (List ℕ → Option ℕ) → Type 0 = λ names. IsLine names parts.slots line item in
    let R : ℕ → Type 0 = λ slots. HasRoom slots item parts in
    record {
      low = found.1;
      says = subst Q (sym surveys.names) (subst P slot found.0);
      room = subst R (sym surveys.slots) (room_at t n parts found.1 are);
    }

pub turn_adds : {text : List ℕ} {p : Program} (t : IsText text p) (survey : Survey) (old new : PartialImage) (n : ℕ) (line : List ℕ) → IsTurn t survey old n line → ArePartsOf (take n t.items) old
    → AddsItem (get_or t.items n Nothing) old new → ArePartsOf (take (n + 1) t.items) new
turn_adds t survey old new n line turn are adds =
    let low = turn.low in
    let P : List Item → Type 0 = λ items. ArePartsOf items new in
    subst P (sym (take_more t.items n Nothing low)) (parts_push (take n t.items) (get_or t.items n Nothing) old new are adds)

pub all_lines : (names : List ℕ → Option ℕ) (slot : ℕ) (lines : List (List ℕ)) (items : List Item) → AreLines names slot lines items → length lines ≡ length items
all_lines names slot [] [] says = refl
all_lines names slot [] (item ∷ items) says = absurd says
all_lines names slot (line ∷ lines) [] says = absurd says
all_lines names slot (line ∷ lines) (item ∷ items) says = omega (arith, all_lines names (slot + line_slots_in item) lines items says.1)

-- ---- the whole

some_from_list : {X : Type 0} (o : Option X) (x : X) → option_to_list o ≡ x ∷ [] → o ≡ Some x
some_from_list None x same = absurd (not_nil x [] (sym same))
some_from_list (Some y) x same = cc

pub image_of : {text : List ℕ} {p : Program} (t : IsText text p) (parts : PartialImage) → ArePartsOf t.items parts → IsImageOf parts p
image_of {p} t parts are =
    let P : List Loop → Type 0 = λ ls. IsPermutation ls p.loops in
    let Q : List Version → Type 0 = λ declared. IsVersionOf declared p.version in
    record {
      program = t.program;
      version = subst Q (sym are.version) t.version;
      budget = some_from_list parts.budget p.budget (are.budget ∙ t.budget);
      loops = subst P (sym are.loops) t.loops;
      code = t.code ∙ ap (flat_map placed_slots) (sym are.insns);
    }
