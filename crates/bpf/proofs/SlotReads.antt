-- The slot that bytes are read as.
use Rattle.std.proofs.Common.{◌≡◌, ℕ, zero, suc, ◌≤◌, ◌<◌, Bool, true, false, List, [], ◌∷◌, Option, Some, None, Ok, Err, refl, ap, arith, take, drop, length, slice_index, nat_lt, IfSome, if◌then◌else◌, lit<}
use Rattle.std.proofs.lemmas.Bool.Decides.{nat_tests}
use Rattle.std.proofs.lemmas.List.{length-take-le}
use Rattle.bpf_insn.specs.declared.insn.Insn.{Insn}
use Rattle.bpf_insn.specs.declared.decoder.BadInsn.{BadInsn}
use Rattle.bpf_insn.specs.Faults.{IsFault}
use Rattle.bpf_insn.specs.Reading.{insn_reading}
use Rattle.bpf_insn.specs.Spelling.{AreSlotBytes, Spells}
use Rattle.bpf.specs.declared.fault.ImageFault.TheVariants as faults
use Rattle.bpf.specs.Reading.{slot_result, slot_in, slot_reading}
use Rattle.bpf.proofs.Again.{IsRead}

-- the law of `bpf_insn` that the proofs use: a fault that is in slots is the one that is read
abbrev pub IsNamed : Type 0
IsNamed = (bytes : List ℕ) (next : Option (List ℕ)) (e : BadInsn) → AreSlotBytes bytes → IfSome next AreSlotBytes → IsFault bytes next e → insn_reading bytes next ≡ Err e

below_take : (k : ℕ) (xs : List ℕ) → ((i : ℕ) → slice_index xs i < 256) → (i : ℕ) → slice_index (take k xs) i < 256
below_take zero xs h i = lit< tt
below_take (suc k) [] h i = lit< tt
below_take (suc k) (x ∷ xs) h zero = h 0
below_take (suc k) (x ∷ xs) h (suc i) = below_take k xs (λ j. h (suc j)) i

below_drop : (k : ℕ) (xs : List ℕ) → ((i : ℕ) → slice_index xs i < 256) → (i : ℕ) → slice_index (drop k xs) i < 256
below_drop zero xs h i = h i
below_drop (suc k) [] h i = lit< tt
below_drop (suc k) (x ∷ xs) h i = below_drop k xs (λ j. h (suc j)) i

-- the first eight bytes, if there are as many
are_first : (bytes : List ℕ) → 8 ≤ length bytes → ((i : ℕ) → slice_index bytes i < 256) → AreSlotBytes (take 8 bytes)
are_first bytes long below = (length-take-le 8 bytes long, below_take 8 bytes below)

are_next : (bytes : List ℕ) → ((i : ℕ) → slice_index bytes i < 256) → IfSome (slot_in bytes) AreSlotBytes
are_next bytes below = by_test (nat_lt (length bytes) 8) refl
  where
    by_test : (b : Bool) → nat_lt (length bytes) 8 ≡ b → IfSome (let o : Option (List ℕ) = if b then None else Some (take 8 bytes) in o) AreSlotBytes
    by_test true e = tt
    by_test false e = are_first bytes (grind (arith, nat_tests)) below

pub insn_read : IsRead → (slot : ℕ) (bytes : List ℕ) (insn : Insn) → Spells (take 8 bytes) (slot_in (drop 8 bytes)) insn → slot_reading slot false bytes ≡ Ok (Some insn)
unfolding slot_reading
insn_read law slot bytes insn spells = ap (slot_result slot) (law _ _ insn spells)

pub fault_read : IsNamed → (slot : ℕ) (bytes : List ℕ) (fault : BadInsn) → 8 ≤ length bytes → ((i : ℕ) → slice_index bytes i < 256) → IsFault (take 8 bytes) (slot_in (drop 8 bytes)) fault → slot_reading slot false bytes ≡ Err (faults.Insn slot fault)
unfolding slot_reading
fault_read law slot bytes fault long below stands =
    ap (slot_result slot) (law _ _ fault (are_first bytes long below) (are_next (drop 8 bytes) (below_drop 8 bytes below)) stands)
