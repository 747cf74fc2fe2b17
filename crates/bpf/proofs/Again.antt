-- An image is read as the program that it spells.
use Rattle.std.proofs.Common.{◌≡◌, ℕ, ◌+◌, ◌*◌, ◌/◌, ◌%◌, ◌≤◌, ◌<◌, ℤ, Bool, true, false, List, [], ◌∷◌, ◌++◌, Option, Some, None, Result, Ok, refl, sym, ap, arith, take, drop, length, is_some, nat_lt, nat_le, unwrap_or, IfSome, subst, if◌then◌else◌, length-append}
use Rattle.std.proofs.Math.Seq.{drop-append_seam, take-append_seam}
use Rattle.std.proofs.lemmas.Bool.Decides.{nat_tests}
use Rattle.std.specs.List.{flat_map}
use Rattle.std.specs.Option.{option_map}
use Rattle.bpf_insn.specs.declared.insn.Insn.{Insn}
use Rattle.bpf_insn.specs.Spelling.{second_immediate, second_fields, slot_bytes_of, spelling, first_bytes, second_bytes, Spells}
use Rattle.bpf_insn.specs.Reading.{insn_reading}
use Rattle.bpf.specs.declared.loops.Loop.{Loop}
use Rattle.bpf.specs.declared.fault.ImageFault.{ImageFault}
use Rattle.bpf.specs.Program.{AreSlots, AreLoops, IsLoop, slot_bytes, loop_bytes}
use Rattle.bpf.specs.Reading.{slot_in, slot_reading, slots_reading, are_loops, is_loop, loop_in, loops_in, loops_reading}

-- the law of `bpf_insn` that the proofs use: bytes that spell an instruction are read as it
abbrev pub IsRead : Type 0
IsRead = (bytes : List ℕ) (next : Option (List ℕ)) (insn : Insn) → Spells bytes next insn → insn_reading bytes next ≡ Ok insn

pub drop_front : (front rest : List ℕ) (k : ℕ) → length front ≡ k → drop k (front ++ rest) ≡ rest
drop_front front rest k h = subst (λ (n : ℕ). drop n (front ++ rest) ≡ rest) h (drop-append_seam front rest)

pub take_front : (front rest : List ℕ) (k : ℕ) → length front ≡ k → take k (front ++ rest) ≡ front
take_front front rest k h = subst (λ (n : ℕ). take n (front ++ rest) ≡ front) h (take-append_seam front rest)

slot_in_front : (front rest : List ℕ) → length front ≡ 8 → slot_in (front ++ rest) ≡ Some front
slot_in_front front rest h =
    let long : 8 ≤ length (front ++ rest) = omega (arith, length-append front rest, h) in
    let test : nat_lt (length (front ++ rest)) 8 ≡ false = grind (arith, nat_tests) in
    rw test (ap (λ (x : List ℕ). Some x) (take_front front rest 8 h))

first_part : (i : Insn) (rest : List ℕ) → take 8 (spelling i ++ rest) ≡ first_bytes i
unfolding slot_bytes_of
first_part i rest = refl

rest_part : (i : Insn) (rest : List ℕ) → drop 8 (spelling i ++ rest) ≡ unwrap_or (second_bytes i) [] ++ rest
unfolding slot_bytes_of
rest_part i rest = refl

second_length : (z : Option ℤ) → length (unwrap_or (option_map slot_bytes_of (second_fields z)) []) ≡ (if is_some z then 8 else 0)
unfolding slot_bytes_of
second_length None = refl
second_length (Some z) = refl

second_in : (z : Option ℤ) (rest : List ℕ) → IfSome (option_map slot_bytes_of (second_fields z)) (λ s. slot_in (unwrap_or (option_map slot_bytes_of (second_fields z)) [] ++ rest) ≡ Some s)
second_in None rest = tt
second_in (Some z) rest = slot_in_front _ rest (second_length (Some z))

insn_again : IsRead → (i : Insn) (rest : List ℕ) (xs : List (Option Insn)) → AreSlots false (Some i ∷ xs) → insn_reading (take 8 (spelling i ++ rest)) (slot_in (drop 8 (spelling i ++ rest))) ≡ Ok i
insn_again law i rest xs are =
    law _ _ i (record {
      is_insn = are.0;
      first = first_part i rest;
      second = subst (λ (b : List ℕ). IfSome (second_bytes i) (λ s. slot_in b ≡ Some s)) (sym (rest_part i rest)) (second_in (second_immediate i) rest);
    })

pub slots_again : IsRead → (xs : List (Option Insn)) (k : ℕ) (second : Bool) (pending : List ℕ) → length pending ≡ (if second then 8 else 0) → AreSlots second xs → slots_reading (length xs) k second (pending ++ flat_map slot_bytes xs) ≡ Ok xs
unfolding slots_reading slot_reading
slots_again law [] k second pending h are = refl
slots_again law (None ∷ xs) k true pending h are =
    let rest : drop 8 (pending ++ flat_map slot_bytes xs) ≡ flat_map slot_bytes xs = drop_front pending (flat_map slot_bytes xs) 8 h in
    let again = slots_again law xs (k + 1) false [] refl are in
    rw rest (rw again refl)
slots_again law (None ∷ xs) k false pending h are = absurd are
slots_again law (Some i ∷ xs) k true pending h are = absurd are
slots_again law (Some i ∷ xs) k false (p ∷ pending) h are = absurd (omega (arith, h))
slots_again law (Some i ∷ xs) k false [] h are =
    let read = insn_again law i (flat_map slot_bytes xs) xs are in
    let again = slots_again law xs (k + 1) (is_some (second_immediate i)) (unwrap_or (second_bytes i) []) (second_length (second_immediate i)) are.1 in
    rw read (rw (rest_part i (flat_map slot_bytes xs)) (rw again refl))

pub slots_length : (xs : List (Option Insn)) (second : Bool) (pending : List ℕ) → length pending ≡ (if second then 8 else 0) → AreSlots second xs → length (pending ++ flat_map slot_bytes xs) ≡ 8 * length xs
unfolding slot_bytes_of
slots_length [] true pending h are = cc
slots_length [] false pending h are = simp length-append (omega (arith, h))
slots_length (None ∷ xs) true pending h are =
    let rest = slots_length xs false [] refl are in
    omega (arith, length-append pending (flat_map slot_bytes xs), h, rest)
slots_length (None ∷ xs) false pending h are = absurd are
slots_length (Some i ∷ xs) true pending h are = absurd are
slots_length (Some i ∷ xs) false (p ∷ pending) h are = absurd (omega (arith, h))
slots_length (Some i ∷ xs) false [] h are =
    let rest = slots_length xs (is_some (second_immediate i)) (unwrap_or (second_bytes i) []) (second_length (second_immediate i)) are.1 in
    omega (arith, rest)

-- ---- loops

pub half_again : (n : ℕ) → n < 65536 → n % 256 + n / 256 % 256 * 256 ≡ n
half_again n h = omega arith

pub test_again : (slots : ℕ) (l : Loop) → IsLoop slots l → is_loop slots l ≡ true
test_again slots l is =
    let b : nat_lt l.head l.back ≡ true = grind (arith, nat_tests, is.ordered) in
    let c : nat_lt l.back slots ≡ true = grind (arith, nat_tests, is.within) in
    let d : nat_le 1 l.bound ≡ true = grind (arith, nat_tests, is.low) in
    let e : nat_le l.bound 4096 ≡ true = grind (arith, nat_tests, is.high) in
    let f : nat_le l.register 9 ≡ true = grind (arith, nat_tests, is.register) in
    rw (b, c, d, e, f) refl

tests_again : (slots least : ℕ) (ls : List Loop) → AreLoops slots least ls → are_loops slots least ls ≡ true
tests_again slots least [] are = refl
tests_again slots least (l ∷ ls) are =
    let first : nat_le least l.head ≡ true = grind (arith, nat_tests, are.0) in
    rw (first, test_again slots l are.1) (tests_again slots (l.head + 1) ls are.2)

if_true : {X : Type 0} (b : Bool) (x y : Result X ImageFault) → b ≡ true → (if b then x else y) ≡ x
if_true true x y h = refl
if_true false x y h = cc

loop_again : (slots : ℕ) (l : Loop) (rest : List ℕ) → IsLoop slots l → slots ≤ 512 → loop_in (loop_bytes l ++ rest) ≡ Ok l
unfolding loop_in
loop_again slots l rest is few =
    let head = half_again l.head (omega (arith, is.ordered, is.within)) in
    let back = half_again l.back (omega (arith, is.within)) in
    let bound = half_again l.bound (omega (arith, is.high)) in
    let register : nat_le l.register 10 ≡ true = grind (arith, nat_tests, is.register) in
    rw (head, back, bound, register) refl

found_again : (slots least : ℕ) (ls : List Loop) → AreLoops slots least ls → slots ≤ 512 → loops_in (length ls) (flat_map loop_bytes ls) ≡ Ok ls
unfolding loops_in
found_again slots least [] are few = refl
found_again slots least (l ∷ ls) are few =
    let one = loop_again slots l (flat_map loop_bytes ls) are.1 few in
    let again = found_again slots (l.head + 1) ls are.2 few in
    rw one (rw again refl)

pub loops_again : (slots : ℕ) (ls : List Loop) → AreLoops slots 0 ls → slots ≤ 512 → loops_reading slots (length ls) (flat_map loop_bytes ls) ≡ Ok ls
unfolding loops_reading
loops_again slots ls are few =
    rw (found_again slots 0 ls are few) (if_true (are_loops slots 0 ls) _ _ (tests_again slots 0 ls are))

pub loops_length : (ls : List Loop) → length (flat_map loop_bytes ls) ≡ 8 * length ls
loops_length [] = refl
loops_length (l ∷ ls) = omega (arith, loops_length ls)
