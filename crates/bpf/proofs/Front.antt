-- Reading loops and slots one after the other, as a `for` does.
use Rattle.std.proofs.Common.{◌≡◌, ℕ, suc, ◌-◌, ◌+◌, ◌≤◌, ◌<◌, Bool, if◌then◌else◌, List, [], ◌∷◌, ◌++◌, Result, Ok, Err, Option, refl, sym, ap, ◌∙◌, append_assoc, arith, drop}
use Rattle.std.proofs.lemmas.List.{append-nil}
use Rattle.bpf_insn.specs.declared.insn.Insn.{Insn}
use Rattle.bpf.specs.declared.loops.Loop.{Loop}
use Rattle.bpf.specs.declared.fault.ImageFault.{ImageFault}
use Rattle.bpf.specs.declared.fault.ImageFault.TheVariants as faults
use Rattle.bpf.specs.Reading.{◌>>=◌, FailsReading, are_loops, loop_in, loops_in, loops_reading, slot_reading, slots_reading, begins_two}

-- what was read before, and what is still read
abbrev pub with_front : {X : Type 0} → List X → Result (List X) ImageFault → Result (List X) ImageFault
with_front front read = read >>= (λ xs. Ok (front ++ xs))

regroup : {X : Type 0} (front : List X) (x : X) (read : Result (List X) ImageFault) → with_front front (read >>= (λ xs. Ok (x ∷ xs))) ≡ with_front (front ++ x ∷ []) read
regroup {X} front x (Ok xs) = ap (λ (ys : List X). Ok ys) (simp append_assoc)
regroup front x (Err e) = refl

-- a fault of what is read next is the fault of all
pub fails_all : {X : Type 0} (e : ImageFault) (part total : Result X ImageFault) → FailsReading e part → part ≡ total → FailsReading e total
fails_all faults.Memory part total h same = tt
fails_all faults.Magic part total h same = sym same ∙ h
fails_all faults.Version part total h same = sym same ∙ h
fails_all faults.Length part total h same = sym same ∙ h
fails_all faults.Count part total h same = sym same ∙ h
fails_all faults.Budget part total h same = sym same ∙ h
fails_all faults.Loop part total h same = sym same ∙ h
fails_all (faults.Insn slot fault) part total h same = sym same ∙ h

pub fails_first : {X Y : Type 0} (e : ImageFault) (first : Result X ImageFault) (k : X → Result Y ImageFault) → FailsReading e first → FailsReading e (first >>= k)
fails_first faults.Memory first k h = tt
fails_first faults.Magic first k h = rw h refl
fails_first faults.Version first k h = rw h refl
fails_first faults.Length first k h = rw h refl
fails_first faults.Count first k h = rw h refl
fails_first faults.Budget first k h = rw h refl
fails_first faults.Loop first k h = rw h refl
fails_first (faults.Insn slot fault) first k h = rw h refl

-- ---- loops

pub loop_read : (front : List Loop) (count i : ℕ) (bytes : List ℕ) (l : Loop) (total : Result (List Loop) ImageFault) → i < count → Ok l ≡ loop_in bytes
    → with_front front (loops_in (count - i) bytes) ≡ total → with_front (front ++ l ∷ []) (loops_in (count - (i + 1)) (drop 8 bytes)) ≡ total
unfolding loops_in
loop_read front count i bytes l total lt h so_far =
    let k : count - i ≡ suc (count - (i + 1)) = omega arith in
    let one : with_front front (loops_in (count - i) bytes) ≡ with_front (front ++ l ∷ []) (loops_in (count - (i + 1)) (drop 8 bytes)) =
    rw (k, ← h) (regroup front l (loops_in (count - (i + 1)) (drop 8 bytes))) in
    sym one ∙ so_far

pub loop_fails : (e : ImageFault) (front : List Loop) (count i : ℕ) (bytes : List ℕ) (total : Result (List Loop) ImageFault) → i < count → Err e ≡ loop_in bytes
    → with_front front (loops_in (count - i) bytes) ≡ total → total ≡ Err e
unfolding loops_in
loop_fails e front count i bytes total lt h so_far =
    let k : count - i ≡ suc (count - (i + 1)) = omega arith in
    let one : with_front front (loops_in (count - i) bytes) ≡ Err e = rw (k, ← h) refl in
    sym so_far ∙ one

pub loops_done : (front : List Loop) (count i : ℕ) (bytes : List ℕ) (total : Result (List Loop) ImageFault) → count ≤ i → with_front front (loops_in (count - i) bytes) ≡ total → total ≡ Ok front
unfolding loops_in
loops_done front count i bytes total le so_far =
    let k : count - i ≡ 0 = omega arith in
    let one : with_front front (loops_in (count - i) bytes) ≡ Ok front = rw k (ap (λ (ls : List Loop). Ok ls) (append-nil front)) in
    sym so_far ∙ one

-- the loops that were found are those of the image, or there is a fault
pub loops_tested : (slots count : ℕ) (bytes : List ℕ) (loops : List Loop) → loops_in count bytes ≡ Ok loops → loops_reading slots count bytes ≡ (if are_loops slots 0 loops then Ok loops else Err faults.Loop)
unfolding loops_reading
loops_tested slots count bytes loops found = rw found refl

pub loops_tested_fail : (slots count : ℕ) (bytes : List ℕ) (e : ImageFault) → FailsReading e (loops_in count bytes) → FailsReading e (loops_reading slots count bytes)
unfolding loops_reading
loops_tested_fail slots count bytes e fails = fails_first e (loops_in count bytes) _ fails

-- an error is by itself never a fault of memory
pub is_failure : {X : Type 0} (e : ImageFault) (total : Result X ImageFault) → total ≡ Err e → FailsReading e total
is_failure faults.Memory total h = tt
is_failure faults.Magic total h = h
is_failure faults.Version total h = h
is_failure faults.Length total h = h
is_failure faults.Count total h = h
is_failure faults.Budget total h = h
is_failure faults.Loop total h = h
is_failure (faults.Insn slot fault) total h = h

-- ---- slots

pub slot_read : (front : List (Option Insn)) (count i : ℕ) (second : Bool) (bytes : List ℕ) (x : Option Insn) (total : Result (List (Option Insn)) ImageFault) → i < count → slot_reading i second bytes ≡ Ok x
    → with_front front (slots_reading (count - i) i second bytes) ≡ total → with_front (front ++ x ∷ []) (slots_reading (count - (i + 1)) (i + 1) (begins_two x) (drop 8 bytes)) ≡ total
unfolding slots_reading
slot_read front count i second bytes x total lt h so_far =
    let k : count - i ≡ suc (count - (i + 1)) = omega arith in
    let one : with_front front (slots_reading (count - i) i second bytes) ≡ with_front (front ++ x ∷ []) (slots_reading (count - (i + 1)) (i + 1) (begins_two x) (drop 8 bytes)) =
    rw (k, h) (regroup front x (slots_reading (count - (i + 1)) (i + 1) (begins_two x) (drop 8 bytes))) in
    sym one ∙ so_far

pub slot_fails : (e : ImageFault) (front : List (Option Insn)) (count i : ℕ) (second : Bool) (bytes : List ℕ) (total : Result (List (Option Insn)) ImageFault) → i < count → FailsReading e (slot_reading i second bytes)
    → with_front front (slots_reading (count - i) i second bytes) ≡ total → FailsReading e total
unfolding slots_reading
slot_fails e front count i second bytes total lt h so_far =
    let k : count - i ≡ suc (count - (i + 1)) = omega arith in
    let fails : FailsReading e (with_front front (slots_reading (suc (count - (i + 1))) i second bytes)) = fails_first e _ _ (fails_first e (slot_reading i second bytes) _ h) in
    fails_all e _ total fails (rw k at so_far)

pub slots_done : (front : List (Option Insn)) (count i : ℕ) (second : Bool) (bytes : List ℕ) (total : Result (List (Option Insn)) ImageFault) → count ≤ i → with_front front (slots_reading (count - i) i second bytes) ≡ total → total ≡ Ok front
unfolding slots_reading
slots_done front count i second bytes total le so_far =
    let k : count - i ≡ 0 = omega arith in
    let one : with_front front (slots_reading (count - i) i second bytes) ≡ Ok front = rw k (ap (λ (xs : List (Option Insn)). Ok xs) (append-nil front)) in
    sym so_far ∙ one
