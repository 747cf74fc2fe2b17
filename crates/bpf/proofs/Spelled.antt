-- What was read so far, and its bytes.
use Rattle.std.proofs.Common.{◌≡◌, ℕ, ◌≤◌, ℤ, Bool, true, false, List, [], ◌∷◌, ◌++◌, Option, Some, None, refl, sym, ap, ◌∙◌, append_assoc, arith, take, drop, length, is_some, nat_lt, unwrap_or, IfSome, subst, if◌then◌else◌}
use Rattle.std.proofs.lemmas.List.{append-nil, take-append-drop}
use Rattle.std.proofs.lemmas.Bool.Decides.{nat_tests}
use Rattle.std.specs.List.{flat_map}
use Rattle.std.specs.Option.{option_map}
use Rattle.std.proofs.lemmas.List.Concat.{flat_map-append}
use Rattle.bpf_insn.specs.declared.insn.Insn.{Insn}
use Rattle.bpf_insn.specs.Spelling.{second_immediate, second_fields, slot_bytes_of, first_bytes}
use Rattle.bpf.specs.Program.{AreSlots, slot_bytes}
use Rattle.bpf.specs.Reading.{IsSlot, begins_two, slot_in}

pub spelled_more : {X : Type 0} (f : X → List ℕ) (bytes : List ℕ) (xs : List X) (x : X) (rest after : List ℕ) → bytes ≡ flat_map f xs ++ rest → rest ≡ f x ++ after → bytes ≡ flat_map f (xs ++ x ∷ []) ++ after
spelled_more f bytes xs x rest after so_far next =
    let one : flat_map f (xs ++ x ∷ []) ≡ flat_map f xs ++ (f x ++ []) = flat_map-append f xs (x ∷ []) in
    so_far ∙ ap (λ (r : List ℕ). flat_map f xs ++ r) next ∙ sym (rw (one, append-nil (f x)) (append_assoc (flat_map f xs) (f x) after))

-- the first eight bytes, and the others
pub front_and_rest : (rest front after : List ℕ) → take 8 rest ≡ front → after ≡ drop 8 rest → rest ≡ front ++ after
front_and_rest rest front after h k = rw (← h, k) (sym (take-append-drop 8 rest))

-- what is left after the slot whose first bytes are in an instruction
abbrev pub skip : Bool → List ℕ → List ℕ
skip true rest = drop 8 rest
skip false rest = rest

in_slot : (bytes s : List ℕ) → slot_in bytes ≡ Some s → (take 8 bytes ≡ s) × (8 ≤ length bytes)
in_slot bytes s h = by_test (nat_lt (length bytes) 8) refl h
  where
    by_test : (b : Bool) → nat_lt (length bytes) 8 ≡ b → (if b then None else Some (take 8 bytes)) ≡ Some s → (take 8 bytes ≡ s) × (8 ≤ length bytes)
    by_test true e h = cc
    by_test false e h = (cc, grind (arith, nat_tests))

-- an instruction's bytes, by whether it has a second slot
two_parts : (z : Option ℤ) (rest first : List ℕ) → take 8 rest ≡ first → IfSome (option_map slot_bytes_of (second_fields z)) (λ s. slot_in (drop 8 rest) ≡ Some s) → rest ≡ (first ++ unwrap_or (option_map slot_bytes_of (second_fields z)) []) ++ skip (is_some z) (drop 8 rest)
two_parts None rest first h k = rw (append-nil first) (front_and_rest rest first (drop 8 rest) h refl)
two_parts (Some z) rest first h k =
    let second = (in_slot (drop 8 rest) _ k).0 in
    let tail = front_and_rest (drop 8 rest) _ (drop 8 (drop 8 rest)) second refl in
    front_and_rest rest first (drop 8 rest) h refl ∙ ap (λ (r : List ℕ). first ++ r) tail ∙ sym (append_assoc first _ (drop 8 (drop 8 rest)))

slot_part : (second two : Bool) (rest : List ℕ) (x : Option Insn) → IsSlot second rest x → two ≡ begins_two x → skip second rest ≡ slot_bytes x ++ skip two (drop 8 rest)
slot_part true two rest None slot h = rw h refl
slot_part true two rest (Some i) slot h = absurd slot
slot_part false two rest None slot h = absurd slot
slot_part false two rest (Some i) slot h = rw h (two_parts (second_immediate i) rest (first_bytes i) slot.first slot.second)

pub slot_spelled : (bytes : List ℕ) (xs : List (Option Insn)) (second two : Bool) (rest : List ℕ) (x : Option Insn) → IsSlot second rest x → two ≡ begins_two x → bytes ≡ flat_map slot_bytes xs ++ skip second rest → bytes ≡ flat_map slot_bytes (xs ++ x ∷ []) ++ skip two (drop 8 rest)
slot_spelled bytes xs second two rest x slot h so_far =
    spelled_more slot_bytes bytes xs x (skip second rest) (skip two (drop 8 rest)) so_far (slot_part second two rest x slot h)

one_more : (second two : Bool) (rest : List ℕ) (x : Option Insn) (ys : List (Option Insn)) → IsSlot second rest x → two ≡ begins_two x → AreSlots two ys → AreSlots second (x ∷ ys)
one_more true two rest None ys slot h are = subst (λ (b : Bool). AreSlots b ys) h are
one_more true two rest (Some i) ys slot h are = absurd slot
one_more false two rest None ys slot h are = absurd slot
one_more false two rest (Some i) ys slot h are = (slot.is_insn, subst (λ (b : Bool). AreSlots b ys) h are)

pub slot_extends : (xs : List (Option Insn)) (second two : Bool) (rest : List ℕ) (x : Option Insn) → IsSlot second rest x → two ≡ begins_two x → ((ys : List (Option Insn)) → AreSlots second ys → AreSlots false (xs ++ ys)) → (ys : List (Option Insn)) → AreSlots two ys → AreSlots false ((xs ++ x ∷ []) ++ ys)
slot_extends xs second two rest x slot h before ys are =
    rw (append_assoc xs (x ∷ []) ys) (before (x ∷ ys) (one_more second two rest x ys slot h are))

second_there : (z : Option ℤ) (rest : List ℕ) → IfSome (option_map slot_bytes_of (second_fields z)) (λ s. slot_in (drop 8 rest) ≡ Some s) → is_some z ≡ true → 8 ≤ length (drop 8 rest)
second_there None rest k h = cc
second_there (Some z) rest k h = (in_slot (drop 8 rest) _ k).1

pub slot_held : (second two : Bool) (rest : List ℕ) (x : Option Insn) → IsSlot second rest x → two ≡ begins_two x → two ≡ true → 8 ≤ length (drop 8 rest)
slot_held true two rest None slot h t = let never : false ≡ true = sym h ∙ t in cc
slot_held true two rest (Some i) slot h t = absurd slot
slot_held false two rest None slot h t = absurd slot
slot_held false two rest (Some i) slot h t = second_there (second_immediate i) rest slot.second (sym h ∙ t)

-- at the end nothing is left, and no second slot is missing
pub slots_ended : (bytes : List ℕ) (xs : List (Option Insn)) (second : Bool) (rest : List ℕ) → length rest ≡ 0 → (second ≡ true → 8 ≤ length rest) → ((ys : List (Option Insn)) → AreSlots second ys → AreSlots false (xs ++ ys)) → bytes ≡ flat_map slot_bytes xs ++ skip second rest → AreSlots false xs × (bytes ≡ flat_map slot_bytes xs)
slots_ended bytes xs true rest e held before so_far = absurd (omega (arith, held refl))
slots_ended bytes xs false [] e held before so_far =
    (subst (λ (zs : List (Option Insn)). AreSlots false zs) (append-nil xs) (before [] refl), so_far ∙ append-nil (flat_map slot_bytes xs))
slots_ended bytes xs false (r ∷ rest) e held before so_far = absurd (omega (arith, e))

pub loops_ended : {X : Type 0} (f : X → List ℕ) (bytes : List ℕ) (xs : List X) (rest : List ℕ) → length rest ≡ 0 → bytes ≡ flat_map f xs ++ rest → bytes ≡ flat_map f xs
loops_ended f bytes xs [] e so_far = so_far ∙ append-nil (flat_map f xs)
loops_ended f bytes xs (r ∷ rest) e so_far = absurd (omega (arith, e))
