-- The parts of an image, one after the other.
use Rattle.std.proofs.Common.{◌≡◌, ◌≢◌, ℕ, zero, suc, ◌+◌, ◌*◌, ◌≤◌, Bool, true, false, List, [], ◌∷◌, ◌++◌, Option, Result, Ok, Err, refl, sym, ap, ◌∙◌, arith, take, drop, length, nat_eq, if◌then◌else◌}
use Rattle.std.proofs.lemmas.List.{take-append-drop}
use Rattle.std.proofs.lemmas.Bool.Decides.{nat_tests}
use Rattle.std.specs.List.{flat_map}
use Rattle.bpf_insn.specs.declared.insn.Insn.{Insn}
use Rattle.bpf.specs.declared.header.ImageHeader.{ImageHeader}
use Rattle.bpf.specs.declared.loops.Loop.{Loop}
use Rattle.bpf.specs.declared.fault.ImageFault.{ImageFault}
use Rattle.bpf.specs.declared.fault.ImageFault.TheVariants as faults
use Rattle.bpf.specs.Program.{Program, program, header_bytes, loop_bytes, slot_bytes, image_bytes}
use Rattle.bpf.specs.Reading.{◌>>=◌, FailsReading, header_reading, loops_reading, slots_reading, image_reading}
use Rattle.bpf.proofs.Front.{fails_first, fails_all, is_failure}

pub header_fails : (bytes : List ℕ) (e : ImageFault) → Err e ≡ header_reading bytes → FailsReading e (image_reading bytes)
unfolding image_reading
header_fails bytes e h = is_failure e (image_reading bytes) (rw (← h) refl)

-- the reading of the loops and slots of this header
abbrev pub rest_reading : List ℕ → ImageHeader → Result Program ImageFault
rest_reading bytes h =
    loops_reading h.slots h.loops (drop 16 (take (16 + 8 * h.loops) bytes)) >>= (λ loops.
    slots_reading h.slots 0 false (drop (16 + 8 * h.loops) bytes) >>= (λ slots.
    Ok (program h.version h.budget loops slots)))

by_length : (b : Bool) (r : Result Program ImageFault) → b ≡ true → (if b then r else Err faults.Length) ≡ r
by_length true r h = refl
by_length false r h = cc

by_other_length : (b : Bool) (r : Result Program ImageFault) → b ≡ false → (if b then r else Err faults.Length) ≡ Err faults.Length
by_other_length true r h = cc
by_other_length false r h = refl

pub whole : (bytes : List ℕ) (h : ImageHeader) → Ok h ≡ header_reading bytes → length bytes ≡ 16 + 8 * h.loops + 8 * h.slots → image_reading bytes ≡ rest_reading bytes h
unfolding image_reading
whole bytes h header len =
    let test : nat_eq (length bytes) (16 + 8 * h.loops + 8 * h.slots) ≡ true = grind (arith, nat_tests) in
    rw (← header) (by_length _ (rest_reading bytes h) test)

pub other_length : (bytes : List ℕ) (h : ImageHeader) → Ok h ≡ header_reading bytes → length bytes ≢ 16 + 8 * h.loops + 8 * h.slots → image_reading bytes ≡ Err faults.Length
unfolding image_reading
other_length bytes h header len =
    let test : nat_eq (length bytes) (16 + 8 * h.loops + 8 * h.slots) ≡ false = grind (arith, nat_tests) in
    rw (← header) (by_other_length _ (rest_reading bytes h) test)

-- the bytes are cut as the header says
pub record Cut (bytes : List ℕ) (h : ImageHeader) (front middle tail : List ℕ) (code : ℕ) : Type 0 where
  pub header : Ok h ≡ header_reading bytes
  pub len : length bytes ≡ 16 + 8 * h.loops + 8 * h.slots
  pub at_code : code ≡ 16 + 8 * h.loops
  pub is_front : front ≡ take code bytes
  pub is_middle : middle ≡ drop 16 front
  pub is_tail : tail ≡ drop code bytes

middle_is : (bytes : List ℕ) (h : ImageHeader) (front middle tail : List ℕ) (code : ℕ) → Cut bytes h front middle tail code → middle ≡ drop 16 (take (16 + 8 * h.loops) bytes)
middle_is bytes h front middle tail code cut = cut.is_middle ∙ ap (drop 16) (cut.is_front ∙ ap (λ (k : ℕ). take k bytes) cut.at_code)

tail_is : (bytes : List ℕ) (h : ImageHeader) (front middle tail : List ℕ) (code : ℕ) → Cut bytes h front middle tail code → tail ≡ drop (16 + 8 * h.loops) bytes
tail_is bytes h front middle tail code cut = cut.is_tail ∙ ap (λ (k : ℕ). drop k bytes) cut.at_code

parts_reading : (bytes : List ℕ) (h : ImageHeader) (front middle tail : List ℕ) (code : ℕ) → Cut bytes h front middle tail code → image_reading bytes ≡ (loops_reading h.slots h.loops middle >>= (λ loops. slots_reading h.slots 0 false tail >>= (λ slots. Ok (program h.version h.budget loops slots))))
parts_reading bytes h front middle tail code cut =
    whole bytes h cut.header cut.len
    ∙ ap (λ (m : List ℕ). loops_reading h.slots h.loops m >>= (λ loops. slots_reading h.slots 0 false (drop (16 + 8 * h.loops) bytes) >>= (λ slots. Ok (program h.version h.budget loops slots)))) (sym (middle_is bytes h front middle tail code cut))
    ∙ ap (λ (t : List ℕ). loops_reading h.slots h.loops middle >>= (λ loops. slots_reading h.slots 0 false t >>= (λ slots. Ok (program h.version h.budget loops slots)))) (sym (tail_is bytes h front middle tail code cut))

pub loops_fail : (bytes : List ℕ) (h : ImageHeader) (front middle tail : List ℕ) (code : ℕ) (e : ImageFault) → Cut bytes h front middle tail code → FailsReading e (loops_reading h.slots h.loops middle) → FailsReading e (image_reading bytes)
loops_fail bytes h front middle tail code e cut fails =
    fails_all e _ (image_reading bytes) (fails_first e (loops_reading h.slots h.loops middle) (λ loops. slots_reading h.slots 0 false tail >>= (λ slots. Ok (program h.version h.budget loops slots))) fails) (sym (parts_reading bytes h front middle tail code cut))

pub slots_fail : (bytes : List ℕ) (h : ImageHeader) (front middle tail : List ℕ) (code : ℕ) (e : ImageFault) (loops : List Loop) → Cut bytes h front middle tail code → loops_reading h.slots h.loops middle ≡ Ok loops → FailsReading e (slots_reading h.slots 0 false tail) → FailsReading e (image_reading bytes)
slots_fail bytes h front middle tail code e loops cut read fails =
    let one : image_reading bytes ≡ (slots_reading h.slots 0 false tail >>= (λ slots. Ok (program h.version h.budget loops slots))) = parts_reading bytes h front middle tail code cut ∙ rw read refl in
    fails_all e _ (image_reading bytes) (fails_first e (slots_reading h.slots 0 false tail) (λ slots. Ok (program h.version h.budget loops slots)) fails) (sym one)

pub is_read : (bytes : List ℕ) (h : ImageHeader) (front middle tail : List ℕ) (code : ℕ) (loops : List Loop) (slots : List (Option Insn)) → Cut bytes h front middle tail code → loops_reading h.slots h.loops middle ≡ Ok loops → slots_reading h.slots 0 false tail ≡ Ok slots → image_reading bytes ≡ Ok (program h.version h.budget loops slots)
is_read bytes h front middle tail code loops slots cut read code_read =
    parts_reading bytes h front middle tail code cut ∙ rw (read, code_read) refl

take_take : (n k : ℕ) (xs : List ℕ) → n ≤ k → take n (take k xs) ≡ take n xs
take_take zero k xs h = refl
take_take (suc n) zero xs h = absurd (omega arith)
take_take (suc n) (suc k) [] h = refl
take_take (suc n) (suc k) (x ∷ xs) h = ap (λ (ys : List ℕ). x ∷ ys) (take_take n k xs (omega arith))

take_front : (k : ℕ) (bytes : List ℕ) → 16 ≤ k → take 16 (take k bytes) ≡ take 16 bytes
take_front k bytes h = take_take 16 k bytes h

-- the bytes are the parts'
pub is_spelled : (bytes : List ℕ) (h : ImageHeader) (front middle tail : List ℕ) (code : ℕ) (loops : List Loop) (slots : List (Option Insn)) → Cut bytes h front middle tail code → take 16 bytes ≡ header_bytes h.version h.loops h.slots h.budget → length loops ≡ h.loops → length slots ≡ h.slots → middle ≡ flat_map loop_bytes loops → tail ≡ flat_map slot_bytes slots → bytes ≡ image_bytes (program h.version h.budget loops slots)
unfolding image_bytes
is_spelled bytes h front middle tail code loops slots cut header few many l s =
    let all : bytes ≡ front ++ tail = rw (cut.is_front, cut.is_tail) (sym (take-append-drop code bytes)) in
    let first : front ≡ take 16 front ++ middle = rw cut.is_middle (sym (take-append-drop 16 front)) in
    let start : take 16 front ≡ header_bytes h.version h.loops h.slots h.budget =
    ap (take 16) cut.is_front ∙ take_front code bytes (omega (arith, cut.at_code)) ∙ header in
    all ∙ ap (λ (x : List ℕ). x ++ tail) first ∙ rw (start, l, s, few, many) refl
