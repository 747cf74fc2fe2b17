-- An image that is made of its parts.
use Rattle.std.proofs.Common.{◌≡◌, ℕ, suc, ◌+◌, ◌≤◌, ◌<◌, Bool, true, false, ◌&&◌, if◌then◌else◌, List, [], ◌∷◌, ◌++◌, Option, Some, None, Ok, Err, is_some, refl, sym, ap, ◌∙◌, subst, append_assoc, arith, drop, length, get_or, add-one, nat_le, nat_lt, length-append}
use Rattle.std.proofs.lemmas.Bool.Decides.{nat_tests}
use Rattle.std.proofs.Math.Seq.{drop-cons}
use Rattle.std.specs.List.{flat_map}
use Rattle.std.proofs.lemmas.Bool.{and_parts}
use Rattle.bpf_insn.specs.declared.insn.Insn.{Insn}
use Rattle.bpf_insn.specs.Spelling.{IsInsn, second_immediate}
use Rattle.bpf.specs.declared.header.ImageHeader.{ImageHeader}
use Rattle.bpf.specs.declared.loops.Loop.{Loop}
use Rattle.bpf.specs.declared.version.Version.{Version}
use Rattle.bpf.specs.declared.fault.ImageFault.{ImageFault}
use Rattle.bpf.specs.declared.fault.ImageFault.TheVariants as faults
use Rattle.bpf.specs.Program.{program, AreLoops, AreSlots, IsBudget, IsLoop, IsProgram, IsSlotCount}
use Rattle.bpf.specs.Reading.{are_loops, is_budget, is_count, is_loop}
use Rattle.bpf.proofs.Again.{test_again}
use Rattle.bpf.specs.Parts.{image_header_of, parts_fault, placed_slots, second_slots, unless}

-- ---- the slots

pub placed_more : (insns : List Insn) (i : ℕ) (x : Insn) (so_far total : List (Option Insn)) → i < length insns → get_or insns i x ≡ x → so_far ++ flat_map placed_slots (drop i insns) ≡ total → (so_far ++ placed_slots x) ++ flat_map placed_slots (drop (i + 1) insns) ≡ total
placed_more insns i x so_far total lt item before =
    let cut : drop i insns ≡ x ∷ drop (suc i) insns = drop-cons insns i x lt ∙ ap (λ (y : Insn). y ∷ drop (suc i) insns) item in
    let one : so_far ++ flat_map placed_slots (drop i insns) ≡ so_far ++ (placed_slots x ++ flat_map placed_slots (drop (suc i) insns)) = ap (λ (ys : List Insn). so_far ++ flat_map placed_slots ys) cut in
    let next : drop (i + 1) insns ≡ drop (suc i) insns = ap (λ (k : ℕ). drop k insns) (add-one i) in
    ap (λ (ys : List Insn). (so_far ++ placed_slots x) ++ flat_map placed_slots ys) next ∙ append_assoc so_far (placed_slots x) (flat_map placed_slots (drop (suc i) insns)) ∙ sym one ∙ before

are_append : (xs ys : List (Option Insn)) (second : Bool) → AreSlots second xs → AreSlots false ys → AreSlots second (xs ++ ys)
are_append [] ys second are more = subst (λ (b : Bool). AreSlots b ys) (sym are) more
are_append (None ∷ xs) ys true are more = are_append xs ys false are more
are_append (Some i ∷ xs) ys true are more = absurd are
are_append (None ∷ xs) ys false are more = absurd are
are_append (Some i ∷ xs) ys false are more = (are.0, are_append xs ys (is_some (second_immediate i)) are.1 more)

seconds_are : (b : Bool) → AreSlots b (second_slots b)
seconds_are true = refl
seconds_are false = refl

pub are_more : (xs : List (Option Insn)) (i : Insn) → AreSlots false xs → IsInsn i → AreSlots false (xs ++ placed_slots i)
are_more xs i are is = are_append xs (placed_slots i) false are (is, seconds_are (is_some (second_immediate i)))

-- each instruction has a slot
long : (insns : List Insn) → length insns ≤ length (flat_map placed_slots insns)
long [] = omega arith
long (i ∷ is) =
    omega (arith, long is, length-append (second_slots (is_some (second_immediate i))) (flat_map placed_slots is))

-- ---- the tests

-- the header of these parts
abbrev made : (version : Version) → List Insn → List Loop → (budget : ℕ) → ImageHeader
made version insns loops budget =
    record { version = version; loops = length loops; slots = length (flat_map placed_slots insns); budget = budget }

if_false : (b : Bool) (x y : Option ImageFault) → b ≡ false → (if b then x else y) ≡ y
if_false true x y h = cc
if_false false x y h = refl

count_over : (a : Bool) (b c : Bool) → b ≡ false → (a && b && c) ≡ false
count_over true b c h = rw h refl
count_over false b c h = refl

pub too_many : (version : Version) (insns : List Insn) (loops : List Loop) (budget : ℕ) → 512 < length insns → image_header_of version insns loops budget ≡ Err faults.Count
unfolding parts_fault
too_many version insns loops budget h =
    let more : 512 < length (flat_map placed_slots insns) = omega (arith, h, long insns) in
    let over : nat_le (length (flat_map placed_slots insns)) 512 ≡ false = grind (arith, nat_tests) in
    ap (λ (f : Option ImageFault). unless f (made version insns loops budget)) (if_false (is_count (length loops) (length (flat_map placed_slots insns)) 0) _ _ (count_over _ _ _ over))

-- the parts of a header have no fault
no_fault : {X : Type 0} (f : Option ImageFault) (x y : X) → Ok x ≡ unless f y → f ≡ None
no_fault None x y h = refl
no_fault (Some e) x y h = cc

header_made : (version : Version) (insns : List Insn) (loops : List Loop) (budget : ℕ) (h : ImageHeader) → Ok h ≡ image_header_of version insns loops budget → parts_fault (length (flat_map placed_slots insns)) loops budget ≡ None
header_made version insns loops budget h e =
    no_fault (parts_fault (length (flat_map placed_slots insns)) loops budget) h (made version insns loops budget) e

le_true : (a b : ℕ) → nat_le a b ≡ true → a ≤ b
le_true a b h = grind (arith, nat_tests)

lt_true : (a b : ℕ) → nat_lt a b ≡ true → a < b
lt_true a b h = grind (arith, nat_tests)

none_of : (b : Bool) (x : Option ImageFault) (e : ImageFault) → (if b then x else Some e) ≡ None → (b ≡ true) × (x ≡ None)
none_of true x e h = (refl, h)
none_of false x e h = cc

count_kept : (loops slots : ℕ) → is_count loops slots 0 ≡ true → (loops ≤ 8) × IsSlotCount slots
count_kept loops slots h =
    let p = and_parts _ _ h in
    let q = and_parts _ _ p.0 in
    let r = and_parts _ _ q.0 in
    (le_true _ _ r.0, (le_true _ _ r.1, le_true _ _ q.1))

budget_kept : (budget : ℕ) → is_budget budget ≡ true → IsBudget budget
budget_kept budget h =
    let p = and_parts _ _ h in
    (le_true _ _ p.0, le_true _ _ p.1)

loop_kept : (slots : ℕ) (l : Loop) → is_loop slots l ≡ true → IsLoop slots l
loop_kept slots l h =
    let f = and_parts _ _ h in
    let e = and_parts _ _ f.0 in
    let d = and_parts _ _ e.0 in
    let c = and_parts _ _ d.0 in
    record { ordered = lt_true _ _ c.0; within = lt_true _ _ c.1; low = le_true _ _ d.1; high = le_true _ _ e.1; register = le_true _ _ f.1 }

pub loops_kept : (slots least : ℕ) (ls : List Loop) → are_loops slots least ls ≡ true → AreLoops slots least ls
loops_kept slots least [] h = tt
loops_kept slots least (l ∷ ls) h =
    let p = and_parts _ _ h in
    let q = and_parts _ _ p.0 in
    (le_true _ _ q.0, loop_kept slots l q.1, loops_kept slots (l.head + 1) ls p.1)

kept : (version : Version) (budget : ℕ) (loops : List Loop) (slots : List (Option Insn)) → parts_fault (length slots) loops budget ≡ None → AreSlots false slots → IsProgram (program version budget loops slots)
unfolding parts_fault
kept version budget loops slots h are =
    let p = none_of (is_count (length loops) (length slots) 0) _ _ h in
    let q = none_of (is_budget budget) _ _ p.1 in
    let r = none_of (are_loops (length slots) 0 loops) _ _ q.1 in
    let counts = count_kept (length loops) (length slots) p.0 in
    record { budget = budget_kept budget q.0; slots = counts.1; few_loops = counts.0; loops = loops_kept (length slots) 0 loops r.0; code = are }

pub parts_kept : (version : Version) (insns : List Insn) (given loops : List Loop) (budget : ℕ) (h : ImageHeader) (slots : List (Option Insn)) → Ok h ≡ image_header_of version insns given budget → loops ≡ given → slots ≡ flat_map placed_slots insns → AreSlots false slots → IsProgram (program version budget loops slots)
parts_kept version insns given loops budget h slots made same is are =
    kept version budget loops slots (ap (λ (s : List (Option Insn)). parts_fault (length s) loops budget) is ∙ ap (λ (ls : List Loop). parts_fault (length (flat_map placed_slots insns)) ls budget) same ∙ header_made version insns given budget h made) are

-- ---- a loop that fits

pub fits_exactly : (slots : ℕ) (l : Loop) (b : Bool) → b ≡ is_loop slots l → (b ≡ true → IsLoop slots l) × (IsLoop slots l → b ≡ true)
fits_exactly slots l b is =
    (λ holds. loop_kept slots l (sym is ∙ holds), λ fits. is ∙ test_again slots l fits)
