-- A whole image is read as the program that it spells.
use Rattle.std.proofs.Common.{◌≡◌, ℕ, ◌+◌, ◌*◌, ◌/◌, ◌%◌, ◌≤◌, ◌<◌, Bool, true, false, List, [], ◌++◌, Option, Some, Ok, refl, sym, ap, ◌∙◌, append_assoc, arith, length, take, nat_lt, nat_le, if◌then◌else◌, length-append}
use Rattle.std.proofs.lemmas.Bool.Decides.{nat_tests}
use Rattle.std.proofs.lemmas.Nat.{from_le_bytes-to_le_bytes_4}
use Rattle.std.specs.List.{flat_map}
use Rattle.bpf_insn.specs.declared.insn.Insn.{Insn}
use Rattle.bpf.specs.declared.header.ImageHeader.{ImageHeader}
use Rattle.bpf.specs.declared.loops.Loop.{Loop}
use Rattle.bpf.specs.declared.version.Version.{Version}
use Rattle.bpf.specs.declared.version.Version.TheVariants.{One, Two}
use Rattle.bpf.specs.Version.{version_number, version_of}
use Rattle.bpf.specs.Program.{Program, program, IsProgram, IsSlotCount, IsBudget, header_bytes, loop_bytes, slot_bytes, image_bytes}
use Rattle.bpf.specs.Reading.{is_count, is_budget, header_reading, known_version, version_reading, counts_reading, image_reading}
use Rattle.bpf.proofs.Whole.{Cut, is_read}
use Rattle.bpf.proofs.Again.{IsRead, slots_again, slots_length, loops_again, loops_length, half_again, drop_front, take_front}

word_again : (n : ℕ) → n < 4294967296 → n % 256 + n / 256 % 256 * 256 + n / 65536 % 256 * 65536 + n / 16777216 % 256 * 16777216 ≡ n
word_again n h = from_le_bytes-to_le_bytes_4 n h

if_true : {X : Type 0} (b : Bool) (x y : X) → b ≡ true → (if b then x else y) ≡ x
if_true true x y h = refl
if_true false x y h = cc

if_false : {X : Type 0} (b : Bool) (x y : X) → b ≡ false → (if b then x else y) ≡ y
if_false true x y h = cc
if_false false x y h = refl

number_again : (version : Version) → version_of (version_number version) ≡ Some version
number_again One = refl
number_again Two = refl

count_again : (loops slots : ℕ) → loops ≤ 8 → IsSlotCount slots → is_count loops slots 0 ≡ true
count_again loops slots few many =
    let a : nat_le loops 8 ≡ true = grind (arith, nat_tests) in
    let b : nat_le 1 slots ≡ true = grind (arith, nat_tests, many.0) in
    let c : nat_le slots 512 ≡ true = grind (arith, nat_tests, many.1) in
    rw (a, b, c) refl

budget_again : (budget : ℕ) → IsBudget budget → is_budget budget ≡ true
budget_again budget h =
    let a : nat_le 1 budget ≡ true = grind (arith, nat_tests, h.0) in
    let b : nat_le budget 65536 ≡ true = grind (arith, nat_tests, h.1) in
    rw (a, b) refl

counts_again : (version : Version) (loops slots budget : ℕ) (rest : List ℕ) → loops ≤ 8 → IsSlotCount slots → IsBudget budget → counts_reading version (header_bytes version loops slots budget ++ rest) ≡ Ok (record { version = version; loops = loops; slots = slots; budget = budget })
unfolding counts_reading
counts_again version loops slots budget rest few many limit =
    let s = half_again slots (omega (arith, many.1)) in
    let b = word_again budget (omega (arith, limit.1)) in
    rw (s, b) (if_true _ _ _ (count_again loops slots few many) ∙ if_true _ _ _ (budget_again budget limit))

version_again : (version : Version) (loops slots budget : ℕ) (rest : List ℕ) → version_reading (header_bytes version loops slots budget ++ rest) ≡ Ok version
unfolding version_reading
version_again version loops slots budget rest =
    let size : length (header_bytes version loops slots budget ++ rest) ≡ 16 + length rest = length-append (header_bytes version loops slots budget) rest in
    let long : nat_lt (length (header_bytes version loops slots budget ++ rest)) 5 ≡ false = grind (arith, nat_tests) in
    if_false _ _ _ long ∙ ap known_version (number_again version)

header_again : (version : Version) (loops slots budget : ℕ) (rest : List ℕ) → loops ≤ 8 → IsSlotCount slots → IsBudget budget → header_reading (header_bytes version loops slots budget ++ rest) ≡ Ok (record { version = version; loops = loops; slots = slots; budget = budget })
unfolding header_reading
header_again version loops slots budget rest few many limit =
    let size : length (header_bytes version loops slots budget ++ rest) ≡ 16 + length rest = length-append (header_bytes version loops slots budget) rest in
    let b : nat_lt (length (header_bytes version loops slots budget ++ rest)) 16 ≡ false = grind (arith, nat_tests) in
    rw (version_again version loops slots budget rest) (rw b (counts_again version loops slots budget rest few many limit))

cut_again : (version : Version) (budget : ℕ) (loops : List Loop) (slots : List (Option Insn)) → IsProgram (program version budget loops slots) → Cut (image_bytes (program version budget loops slots)) (record { version = version; loops = length loops; slots = length slots; budget = budget }) (header_bytes version (length loops) (length slots) budget ++ flat_map loop_bytes loops) (flat_map loop_bytes loops) (flat_map slot_bytes slots) (16 + 8 * length loops)
unfolding image_bytes
cut_again version budget loops slots is =
    let head = header_bytes version (length loops) (length slots) budget in
    let size : length (head ++ flat_map loop_bytes loops) ≡ 16 + 8 * length loops = length-append head (flat_map loop_bytes loops) ∙ ap (λ (n : ℕ). 16 + n) (loops_length loops) in
    let code : length (flat_map slot_bytes slots) ≡ 8 * length slots = slots_length slots false [] refl is.code in
    record {
      header = sym (ap header_reading (append_assoc head (flat_map loop_bytes loops) (flat_map slot_bytes slots)) ∙ header_again version (length loops) (length slots) budget (flat_map loop_bytes loops ++ flat_map slot_bytes slots) is.few_loops is.slots is.budget);
      len = omega (arith, length-append (head ++ flat_map loop_bytes loops) (flat_map slot_bytes slots), size, code);
      at_code = refl;
      is_front = sym (take_front (head ++ flat_map loop_bytes loops) (flat_map slot_bytes slots) (16 + 8 * length loops) size);
      is_middle = sym (drop_front head (flat_map loop_bytes loops) 16 refl);
      is_tail = sym (drop_front (head ++ flat_map loop_bytes loops) (flat_map slot_bytes slots) (16 + 8 * length loops) size);
    }

program_again : IsRead → (version : Version) (budget : ℕ) (loops : List Loop) (slots : List (Option Insn)) → IsProgram (program version budget loops slots) → image_reading (image_bytes (program version budget loops slots)) ≡ Ok (program version budget loops slots)
program_again law version budget loops slots is =
    is_read _ _ _ _ _ _ loops slots (cut_again version budget loops slots is)
    (loops_again (length slots) loops is.loops is.slots.1)
    (slots_again law slots 0 false [] refl is.code)

pub image_again : IsRead → (p : Program) → IsProgram p → image_reading (image_bytes p) ≡ Ok p
image_again law p is = program_again law p.version p.budget p.loops p.slots is

-- ---- no bytes are two images', and no image's bytes begin another's

pub one_program : IsRead → (p q : Program) → IsProgram p → IsProgram q → image_bytes p ≡ image_bytes q → p ≡ q
one_program law p q is_p is_q same =
    let both : Ok p ≡ Ok q = sym (image_again law p is_p) ∙ ap image_reading same ∙ image_again law q is_q in
    cc

-- the header before those bytes
abbrev made : Program → ImageHeader
made p = record { version = p.version; loops = length p.loops; slots = length p.slots; budget = p.budget }

header_seen : (version : Version) (budget : ℕ) (loops : List Loop) (slots : List (Option Insn)) (after : List ℕ) → IsProgram (program version budget loops slots) → header_reading (image_bytes (program version budget loops slots) ++ after) ≡ Ok (made (program version budget loops slots))
unfolding image_bytes
header_seen version budget loops slots after is =
    header_again version (length loops) (length slots) budget ((flat_map loop_bytes loops ++ flat_map slot_bytes slots) ++ after) is.few_loops is.slots is.budget

header_in : (p : Program) (after : List ℕ) → IsProgram p → header_reading (image_bytes p ++ after) ≡ Ok (made p)
header_in p after is = header_seen p.version p.budget p.loops p.slots after is

image_length : (p : Program) → IsProgram p → length (image_bytes p) ≡ 16 + 8 * length p.loops + 8 * length p.slots
image_length p is =
    let cut = cut_again p.version p.budget p.loops p.slots is in
    cut.len

pub apart : IsRead → (p q : Program) (after more : List ℕ) → IsProgram p → IsProgram q → image_bytes p ++ after ≡ image_bytes q ++ more → p ≡ q
apart law p q after more is_p is_q e =
    let heads : Ok (made p) ≡ Ok (made q) = sym (header_in p after is_p) ∙ ap header_reading e ∙ header_in q more is_q in
    let head : made p ≡ made q = cc in
    let few : length p.loops ≡ length q.loops = ap (λ (h : ImageHeader). h.loops) head in
    let many : length p.slots ≡ length q.slots = ap (λ (h : ImageHeader). h.slots) head in
    let long : length (image_bytes q) ≡ length (image_bytes p) = omega (arith, image_length p is_p, image_length q is_q, few, many) in
    let same : image_bytes p ≡ image_bytes q =
    sym (take_front (image_bytes p) after (length (image_bytes p)) refl)
    ∙ ap (take (length (image_bytes p))) e
    ∙ take_front (image_bytes q) more (length (image_bytes p)) long in
    one_program law p q is_p is_q same
