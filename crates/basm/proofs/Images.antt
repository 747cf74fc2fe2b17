-- The image that is made of its parts.
use Rattle.std.proofs.Common.{◌≡◌, ℕ, ◌+◌, ◌≤◌, ◌<◌, Bool, true, false, ◌&&◌, List, [], ◌∷◌, length, Option, Some, None, Result, Ok, Err, refl, sym, ap, ◌∙◌, subst, arith, nat_le, nat_lt}
use Rattle.std.specs.Prelude.{if◌then◌else◌}
use Rattle.std.specs.List.{flat_map}
use Rattle.std.specs.List.Sorted.{IsNonDecreasingBy, IsPermutation}
use Rattle.std.specs.Option.{option_to_list}
use Rattle.std.specs.Result.{IsErrAnd}
use Rattle.std.proofs.lemmas.Option.{same_Some}
use Rattle.std.proofs.lemmas.Bool.Decides.{nat_tests}
use Rattle.bpf_insn.specs.declared.insn.Insn.{Insn}
use Rattle.bpf.specs.declared.fault.ImageFault.{ImageFault}
use Rattle.bpf.specs.declared.fault.ImageFault.TheVariants as faults
use Rattle.bpf.specs.declared.loops.Loop.{Loop}
use Rattle.bpf.specs.declared.version.Version.{Version}
use Rattle.bpf.specs.Parts.{parts_fault, parts_reading, placed_slots, unless}
use Rattle.bpf.specs.Program.{AreLoops, IsBudget, IsLoop, IsProgram, IsSlotCount, Program, program}
use Rattle.bpf.specs.Reading.{FailsReading, are_loops, is_budget, is_count, is_loop}
use Rattle.basm.specs.declared.faults.AsmFault.{AsmFault}
use Rattle.basm.specs.declared.partial_image.PartialImage.{PartialImage}
use Rattle.basm.specs.PartialImage.{IsImageOf}
use Rattle.basm.specs.Outcomes.{Makes, image_code, text_fault}
use Rattle.basm.specs.Relation.{IsVersionOf}
use Rattle.basm.proofs.Loops.{sorted_loops}

and_both : (a b : Bool) → a ≡ true → b ≡ true → (a && b) ≡ true
and_both a b p q = rw (p, q) refl

le_holds : (a b : ℕ) → a ≤ b → nat_le a b ≡ true
le_holds a b le = grind (arith, nat_tests)

lt_holds : (a b : ℕ) → a < b → nat_lt a b ≡ true
lt_holds a b lt = grind (arith, nat_tests)

if_true : (t : Bool) (x y : Option ImageFault) → t ≡ true → (if t then x else y) ≡ x
if_true true x y h = refl
if_true false x y h = cc

count_holds : (loops slots : ℕ) → loops ≤ 8 → IsSlotCount slots → is_count loops slots 0 ≡ true
count_holds loops slots few count =
    and_both _ _ (and_both _ _ (and_both _ _ (le_holds loops 8 few) (le_holds 1 slots count.0)) (le_holds slots 512 count.1)) refl

budget_holds : (budget : ℕ) → IsBudget budget → is_budget budget ≡ true
budget_holds budget is = and_both _ _ (le_holds 1 budget is.0) (le_holds budget 65536 is.1)

loop_holds : (slots : ℕ) (l : Loop) → IsLoop slots l → is_loop slots l ≡ true
loop_holds slots l is =
    let back = and_both _ _ (lt_holds l.head l.back is.ordered) (lt_holds l.back slots is.within) in
    let bound = and_both _ _ (and_both _ _ back (le_holds 1 l.bound is.low)) (le_holds l.bound 4096 is.high) in
    and_both _ _ bound (le_holds l.register 9 is.register)

loops_hold : (slots least : ℕ) (ls : List Loop) → AreLoops slots least ls → are_loops slots least ls ≡ true
loops_hold slots least [] loops = refl
loops_hold slots least (l ∷ ls) loops =
    and_both _ _ (and_both _ _ (le_holds least l.head loops.0) (loop_holds slots l loops.1)) (loops_hold slots (l.head + 1) ls loops.2)

no_fault : (slots budget : ℕ) (loops : List Loop) → IsSlotCount slots → length loops ≤ 8 → IsBudget budget → AreLoops slots 0 loops → parts_fault slots loops budget ≡ None
unfolding parts_fault
no_fault slots budget loops count few within are =
    if_true (is_count (length loops) slots 0) _ _ (count_holds (length loops) slots few count)
    ∙ if_true (is_budget budget) _ _ (budget_holds budget within)
    ∙ if_true (are_loops slots 0 loops) _ _ (loops_hold slots 0 loops are)

is_made : (p : Program) (slots : List (Option Insn)) → p.slots ≡ slots → program p.version p.budget p.loops slots ≡ p
is_made p slots same = ap (λ (s : List (Option Insn)). program p.version p.budget p.loops s) (sym same)

same_version : (declared : List Version) (m n : Version) → IsVersionOf declared m → IsVersionOf declared n → m ≡ n
same_version [] m n first second = first ∙ sym second
same_version (v ∷ []) m n first second = first ∙ sym second
same_version (v ∷ w ∷ more) m n first second = absurd first

-- a program is the image of its parts
pub program_made : (p : Program) (insns : List Insn) → IsProgram p → p.slots ≡ flat_map placed_slots insns → parts_reading p.version insns p.loops p.budget ≡ Ok p
program_made p insns is code =
    let slots = flat_map placed_slots insns in
    let fault : parts_fault (length slots) p.loops p.budget ≡ None =
    ap (λ (s : List (Option Insn)). parts_fault (length s) p.loops p.budget) (sym code) ∙ no_fault (length p.slots) p.budget p.loops is.slots is.few_loops is.budget is.loops in
    ap (λ (f : Option ImageFault). unless f (program p.version p.budget p.loops slots)) fault ∙ ap (λ (q : Program). Ok q) (is_made p slots code)

-- if parts have an image, nothing is wrong with them after their loops are sorted
pub image_reading : (parts : PartialImage) (sorted : List Loop) (version : Version) (budget : ℕ) (p : Program) → IsVersionOf (option_to_list parts.version) version → parts.budget ≡ Some budget → IsPermutation parts.loops.items sorted → IsNonDecreasingBy (λ l. l.head) sorted → IsImageOf parts p
    → parts_reading version parts.insns.items sorted budget ≡ Ok p
image_reading parts sorted version budget p says declared moved heads image =
    let loops = sorted_loops (length p.slots) parts.loops.items sorted p.loops moved heads image.loops image.program.loops in
    let same : budget ≡ p.budget = same_Some budget p.budget (sym declared ∙ image.budget) in
    let same_one : version ≡ p.version = same_version (option_to_list parts.version) version p.version says image.version in
    ap (λ (ls : List Loop). parts_reading version parts.insns.items ls budget) loops
    ∙ ap (λ (n : ℕ). parts_reading version parts.insns.items p.loops n) same
    ∙ ap (λ (v : Version). parts_reading v parts.insns.items p.loops p.budget) same_one
    ∙ program_made p parts.insns.items image.program image.code

only_memory : (fault : ImageFault) (p : Program) → FailsReading fault (Ok p) → fault ≡ faults.Memory
only_memory faults.Memory p fails = refl
only_memory faults.Magic p fails = cc
only_memory faults.Version p fails = cc
only_memory faults.Length p fails = cc
only_memory faults.Count p fails = cc
only_memory faults.Budget p fails = cc
only_memory faults.Loop p fails = cc
only_memory (faults.Insn slot fault) p fails = cc

-- and then only memory can be refused
pub refused : (r : Result Program AsmFault) (fault : ImageFault) (p : Program) (read : Result Program ImageFault) → read ≡ Ok p → FailsReading fault read → IsErrAnd r (λ given. given ≡ text_fault (image_code fault)) → Makes p r
refused (Ok image) fault p read same fails gives = absurd gives
refused (Err given) fault p read same fails gives =
    let P : Result Program ImageFault → Type 0 = FailsReading fault in
    gives ∙ ap (λ (f : ImageFault). text_fault (image_code f)) (only_memory fault p (subst P same fails))
