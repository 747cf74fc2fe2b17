-- The fault of an instruction that a reading gives is in the bytes.
use Rattle.std.proofs.Common.{◌≡◌, ℕ, zero, suc, ◌+◌, ◌*◌, ◌<◌, Bool, true, false, List, [], ◌∷◌, Option, Some, None, Result, Ok, Err, ◌⊎◌, inl, inr, refl, sym, ap, ◌∙◌, subst, arith, take, drop, slice_index, nat_eq, nat_lt, length, IfErr, if◌then◌else◌, lit<}
use Rattle.std.specs.List.{starts_with}
use Rattle.std.proofs.lemmas.List.{drop-drop}
use Rattle.bpf_insn.specs.declared.insn.Insn.{Insn}
use Rattle.bpf_insn.specs.declared.decoder.BadInsn.{BadInsn}
use Rattle.bpf_insn.specs.Faults.{IsFault}
use Rattle.bpf_insn.specs.Reading.{insn_reading}
use Rattle.bpf.specs.declared.header.ImageHeader.{ImageHeader}
use Rattle.bpf.specs.declared.loops.Loop.{Loop}
use Rattle.bpf.specs.declared.version.Version.{Version}
use Rattle.bpf.specs.Version.{version_of}
use Rattle.bpf.specs.declared.fault.ImageFault.{ImageFault}
use Rattle.bpf.specs.declared.fault.ImageFault.TheVariants as faults
use Rattle.bpf.specs.Program.{Program, program}
use Rattle.bpf.specs.Reading.{◌>>=◌, Gives, IsFaultAt, begins_two, bytes_at, counts_reading, slot_result, half_at, is_budget, is_count, known_version, magic, word_at, header_reading, version_reading, image_reading, are_loops, loop_in, loops_in, loops_reading, slot_in, slot_reading, slots_reading}

-- the law of `bpf_insn` that the proofs use: a fault that is read is in the bytes
abbrev pub IsExplained : Type 0
IsExplained = (bytes : List ℕ) (next : Option (List ℕ)) (e : BadInsn) → slice_index bytes 0 < 256 → insn_reading bytes next ≡ Err e → IsFault bytes next e

-- ---- a chain that fails

came_from : {A B : Type 0} (r : Result A ImageFault) (k : A → Result B ImageFault) (e : ImageFault) → (r >>= k) ≡ Err e → (r ≡ Err e) ⊎ ((x : A) × (r ≡ Ok x) × (k x ≡ Err e))
came_from (Ok x) k e h = inr (x, refl, h)
came_from (Err f) k e h =
    let same : f ≡ e = cc in
    inl (ap (λ (x : ImageFault). Err x) same)

-- ---- the header

-- whether the counts in the bytes are those of an image
abbrev is_counted : List ℕ → Bool
is_counted bytes = is_count (slice_index bytes 5) (half_at 6 bytes) (word_at 12 bytes)

-- the header in the bytes
abbrev header_at : Version → List ℕ → ImageHeader
header_at version bytes = record { version = version; loops = slice_index bytes 5; slots = half_at 6 bytes; budget = word_at 8 bytes }

declared_no_slot : (a b : Bool) (h : ImageHeader) (slot : ℕ) (fault : BadInsn) → (if a then (if b then Ok h else Err faults.Budget) else Err faults.Count) ≡ Err (faults.Insn slot fault) → ⊥
declared_no_slot true true h slot fault e = cc
declared_no_slot true false h slot fault e = cc
declared_no_slot false b h slot fault e = cc

header_no_slot : (bytes : List ℕ) (slot : ℕ) (fault : BadInsn) → header_reading bytes ≡ Err (faults.Insn slot fault) → ⊥
unfolding header_reading counts_reading version_reading
header_no_slot bytes slot fault e =
    by_tests (starts_with nat_eq bytes magic) (nat_lt (length bytes) 5) (version_of (slice_index bytes 4)) (nat_lt (length bytes) 16) (λ version. counts_reading version bytes)
    (λ version. declared_no_slot (is_counted bytes) (is_budget (word_at 8 bytes)) (header_at version bytes) slot fault) e
  where
    by_tests : (a b : Bool) (found : Option Version) (c : Bool) (r : Version → Result ImageHeader ImageFault) → ((version : Version) → r version ≡ Err (faults.Insn slot fault) → ⊥) → (if a then ((if b then Err faults.Version else known_version found) >>= (λ version. if c then Err faults.Length else r version)) else Err faults.Magic) ≡ Err (faults.Insn slot fault) → ⊥
    by_tests true true found c r never e = cc
    by_tests true false None c r never e = cc
    by_tests true false (Some version) true r never e = cc
    by_tests true false (Some version) false r never e = never version e
    by_tests false b found c r never e = cc

declared_loops : (a b : Bool) (g h : ImageHeader) → (if a then (if b then Ok g else Err faults.Budget) else Err faults.Count) ≡ Ok h → g.loops ≡ h.loops
declared_loops true true g h e =
    let same : g ≡ h = cc in
    ap (λ (x : ImageHeader). x.loops) same
declared_loops true false g h e = cc
declared_loops false b g h e = cc

-- the loops that a header counts
header_loops : (bytes : List ℕ) (h : ImageHeader) → header_reading bytes ≡ Ok h → slice_index bytes 5 ≡ h.loops
unfolding header_reading counts_reading version_reading
header_loops bytes h e =
    by_tests (starts_with nat_eq bytes magic) (nat_lt (length bytes) 5) (version_of (slice_index bytes 4)) (nat_lt (length bytes) 16) (λ version. counts_reading version bytes)
    (λ version. declared_loops (is_counted bytes) (is_budget (word_at 8 bytes)) (header_at version bytes) h) e
  where
    by_tests : (a b : Bool) (found : Option Version) (c : Bool) (r : Version → Result ImageHeader ImageFault) → ((version : Version) → r version ≡ Ok h → slice_index bytes 5 ≡ h.loops) → (if a then ((if b then Err faults.Version else known_version found) >>= (λ version. if c then Err faults.Length else r version)) else Err faults.Magic) ≡ Ok h → slice_index bytes 5 ≡ h.loops
    by_tests true true found c r is e = cc
    by_tests true false None c r is e = cc
    by_tests true false (Some version) true r is e = cc
    by_tests true false (Some version) false r is e = is version e
    by_tests false b found c r is e = cc

-- ---- loops

loop_no_slot : (bytes : List ℕ) (slot : ℕ) (fault : BadInsn) → loop_in bytes ≡ Err (faults.Insn slot fault) → ⊥
unfolding loop_in
loop_no_slot bytes slot fault e = by_test _ _ e
  where
    by_test : (b : Bool) (l : Loop) → (if b then Ok l else Err faults.Loop) ≡ Err (faults.Insn slot fault) → ⊥
    by_test true l e = cc
    by_test false l e = cc

found_no_slot : (count : ℕ) (bytes : List ℕ) (slot : ℕ) (fault : BadInsn) → loops_in count bytes ≡ Err (faults.Insn slot fault) → ⊥
unfolding loops_in
found_no_slot zero bytes slot fault e = cc
found_no_slot (suc n) bytes slot fault e =
    by_first (found_no_slot n (drop 8 bytes) slot fault) (came_from (loop_in bytes) _ (faults.Insn slot fault) e)
  where
    by_rest : (l : Loop) → (loops_in n (drop 8 bytes) ≡ Err (faults.Insn slot fault) → ⊥) → (loops_in n (drop 8 bytes) ≡ Err (faults.Insn slot fault)) ⊎ ((ls : List Loop) × (loops_in n (drop 8 bytes) ≡ Ok ls) × ((let r : Result (List Loop) ImageFault = Ok (l ∷ ls) in r) ≡ Err (faults.Insn slot fault))) → ⊥
    by_rest l later (inl e) = later e
    by_rest l later (inr p) = let never = p.2 in cc

    by_first : (loops_in n (drop 8 bytes) ≡ Err (faults.Insn slot fault) → ⊥) → (loop_in bytes ≡ Err (faults.Insn slot fault)) ⊎ ((l : Loop) × (loop_in bytes ≡ Ok l) × ((loops_in n (drop 8 bytes) >>= (λ ls. Ok (l ∷ ls))) ≡ Err (faults.Insn slot fault))) → ⊥
    by_first later (inl e) = loop_no_slot bytes slot fault e
    by_first later (inr p) = by_rest p.0 later (came_from (loops_in n (drop 8 bytes)) _ (faults.Insn slot fault) p.2)

loops_no_slot : (slots count : ℕ) (bytes : List ℕ) (slot : ℕ) (fault : BadInsn) → loops_reading slots count bytes ≡ Err (faults.Insn slot fault) → ⊥
unfolding loops_reading
loops_no_slot slots count bytes slot fault e = by_found (came_from (loops_in count bytes) _ (faults.Insn slot fault) e)
  where
    by_test : (b : Bool) (ls : List Loop) → (if b then Ok ls else Err faults.Loop) ≡ Err (faults.Insn slot fault) → ⊥
    by_test true ls e = cc
    by_test false ls e = cc

    by_found : (loops_in count bytes ≡ Err (faults.Insn slot fault)) ⊎ ((ls : List Loop) × (loops_in count bytes ≡ Ok ls) × ((if are_loops slots 0 ls then Ok ls else Err faults.Loop) ≡ Err (faults.Insn slot fault))) → ⊥
    by_found (inl e) = found_no_slot count bytes slot fault e
    by_found (inr p) = by_test (are_loops slots 0 p.0) p.0 p.2

-- ---- slots

-- the fault is found some slots further on
abbrev pub IsRead : (slot : ℕ) → List ℕ → (named : ℕ) → BadInsn → Type 0
IsRead slot bytes named fault =
    (j : ℕ) × (named ≡ slot + j) × (insn_reading (take 8 (drop (8 * j) bytes)) (slot_in (drop 8 (drop (8 * j) bytes))) ≡ Err fault)

read_later : (slot : ℕ) (bytes : List ℕ) (named : ℕ) (fault : BadInsn) → IsRead (slot + 1) (drop 8 bytes) named fault → IsRead slot bytes named fault
read_later slot bytes named fault p =
    let further : 8 + 8 * p.0 ≡ 8 * suc p.0 = omega arith in
    let at : drop (8 * p.0) (drop 8 bytes) ≡ drop (8 * suc p.0) bytes = drop-drop (8 * p.0) 8 bytes ∙ ap (λ (n : ℕ). drop n bytes) further in
    (suc p.0, omega (arith, p.1), subst (λ (b : List ℕ). insn_reading (take 8 b) (slot_in (drop 8 b)) ≡ Err fault) at p.2)

found_fault : (slot : ℕ) (r : Result Insn BadInsn) (named : ℕ) (fault : BadInsn) → slot_result slot r ≡ Err (faults.Insn named fault) → (named ≡ slot) × (r ≡ Err fault)
found_fault slot (Ok insn) named fault e = cc
found_fault slot (Err f) named fault e =
    let same : faults.Insn slot f ≡ faults.Insn named fault = cc in
    let here : slot ≡ named = cc in
    let what : f ≡ fault = cc in
    (sym here, ap (λ (x : BadInsn). Err x) what)

slots_fault : (count slot : ℕ) (second : Bool) (bytes : List ℕ) (named : ℕ) (fault : BadInsn) → slots_reading count slot second bytes ≡ Err (faults.Insn named fault) → IsRead slot bytes named fault
unfolding slots_reading slot_reading
slots_fault zero slot second bytes named fault e = cc
slots_fault (suc n) slot second bytes named fault e =
    by_first second (λ x. slots_fault n (slot + 1) (begins_two x) (drop 8 bytes) named fault) (came_from (slot_reading slot second bytes) _ (faults.Insn named fault) e)
  where
    by_rest : (x : Option Insn) → (slots_reading n (slot + 1) (begins_two x) (drop 8 bytes) ≡ Err (faults.Insn named fault) → IsRead (slot + 1) (drop 8 bytes) named fault) → (slots_reading n (slot + 1) (begins_two x) (drop 8 bytes) ≡ Err (faults.Insn named fault)) ⊎ ((xs : List (Option Insn)) × (slots_reading n (slot + 1) (begins_two x) (drop 8 bytes) ≡ Ok xs) × ((let r : Result (List (Option Insn)) ImageFault = Ok (x ∷ xs) in r) ≡ Err (faults.Insn named fault))) → IsRead slot bytes named fault
    by_rest x later (inl e) = read_later slot bytes named fault (later e)
    by_rest x later (inr p) = let never = p.2 in cc

    by_first : (second : Bool) → ((x : Option Insn) → slots_reading n (slot + 1) (begins_two x) (drop 8 bytes) ≡ Err (faults.Insn named fault) → IsRead (slot + 1) (drop 8 bytes) named fault) → (slot_reading slot second bytes ≡ Err (faults.Insn named fault)) ⊎ ((x : Option Insn) × (slot_reading slot second bytes ≡ Ok x) × ((slots_reading n (slot + 1) (begins_two x) (drop 8 bytes) >>= (λ xs. Ok (x ∷ xs))) ≡ Err (faults.Insn named fault))) → IsRead slot bytes named fault
    by_first true later (inl e) = cc
    by_first false later (inl e) =
        let found = found_fault slot (insn_reading (take 8 bytes) (slot_in (drop 8 bytes))) named fault e in
        (0, omega (arith, found.0), found.1)
    by_first second later (inr p) = by_rest p.0 (later p.0) (came_from (slots_reading n (slot + 1) (begins_two p.0) (drop 8 bytes)) _ (faults.Insn named fault) p.2)

-- ---- the image

first_below : (k : ℕ) (bytes : List ℕ) → ((i : ℕ) → slice_index bytes i < 256) → slice_index (take 8 (drop k bytes)) 0 < 256
first_below zero [] h = lit< tt
first_below zero (b ∷ bytes) h = h 0
first_below (suc k) [] h = lit< tt
first_below (suc k) (b ∷ bytes) h = first_below k bytes (λ i. h (suc i))

named_at : IsExplained → (bytes : List ℕ) (h : ImageHeader) (named : ℕ) (fault : BadInsn) → ((i : ℕ) → slice_index bytes i < 256) → slice_index bytes 5 ≡ h.loops → IsRead 0 (drop (16 + 8 * h.loops) bytes) named fault → IsFaultAt bytes (faults.Insn named fault)
named_at law bytes h named fault bounds loops p =
    let here : p.0 ≡ named = omega (arith, p.1) in
    let start : drop (16 + 8 * h.loops) bytes ≡ drop (16 + 8 * slice_index bytes 5) bytes = ap (λ (n : ℕ). drop (16 + 8 * n) bytes) (sym loops) in
    let at : drop (8 * p.0) (drop (16 + 8 * h.loops) bytes) ≡ bytes_at bytes named = ap (λ (b : List ℕ). drop (8 * p.0) b) start ∙ ap (λ (n : ℕ). drop (8 * n) (drop (16 + 8 * slice_index bytes 5) bytes)) here in
    let read = subst (λ (b : List ℕ). insn_reading (take 8 b) (slot_in (drop 8 b)) ≡ Err fault) at p.2 in
    let joined : drop (8 * named) (drop (16 + 8 * slice_index bytes 5) bytes) ≡ drop (16 + 8 * slice_index bytes 5 + 8 * named) bytes = drop-drop (8 * named) (16 + 8 * slice_index bytes 5) bytes in
    let below = subst (λ (b : List ℕ). slice_index (take 8 b) 0 < 256) (sym joined) (first_below (16 + 8 * slice_index bytes 5 + 8 * named) bytes bounds) in
    law _ _ fault below read

-- what is read after the header
abbrev pub rest_of : List ℕ → ImageHeader → Result Program ImageFault
rest_of bytes h =
    if nat_eq (length bytes) (16 + 8 * h.loops + 8 * h.slots)
    then (loops_reading h.slots h.loops (drop 16 (take (16 + 8 * h.loops) bytes)) >>= (λ loops.
    slots_reading h.slots 0 false (drop (16 + 8 * h.loops) bytes) >>= (λ slots.
    Ok (program h.version h.budget loops slots))))
    else Err faults.Length

pub fault_named : IsExplained → (bytes : List ℕ) (named : ℕ) (fault : BadInsn) → ((i : ℕ) → slice_index bytes i < 256) → image_reading bytes ≡ Err (faults.Insn named fault) → IsFaultAt bytes (faults.Insn named fault)
unfolding image_reading
fault_named law bytes named fault bounds e = by_header (came_from (header_reading bytes) (rest_of bytes) (faults.Insn named fault) e)
  where
    by_slots : (h : ImageHeader) (loops : List Loop) → slice_index bytes 5 ≡ h.loops → (slots_reading h.slots 0 false (drop (16 + 8 * h.loops) bytes) ≡ Err (faults.Insn named fault)) ⊎ ((slots : List (Option Insn)) × (slots_reading h.slots 0 false (drop (16 + 8 * h.loops) bytes) ≡ Ok slots) × ((let r : Result Program ImageFault = Ok (program h.version h.budget loops slots) in r) ≡ Err (faults.Insn named fault))) → IsFaultAt bytes (faults.Insn named fault)
    by_slots h loops count (inl e) = named_at law bytes h named fault bounds count (slots_fault h.slots 0 false _ named fault e)
    by_slots h loops count (inr p) = let never = p.2 in cc

    by_loops : (h : ImageHeader) → slice_index bytes 5 ≡ h.loops → (loops_reading h.slots h.loops (drop 16 (take (16 + 8 * h.loops) bytes)) ≡ Err (faults.Insn named fault)) ⊎ ((loops : List Loop) × (loops_reading h.slots h.loops (drop 16 (take (16 + 8 * h.loops) bytes)) ≡ Ok loops) × ((slots_reading h.slots 0 false (drop (16 + 8 * h.loops) bytes) >>= (λ slots. Ok (program h.version h.budget loops slots))) ≡ Err (faults.Insn named fault))) → IsFaultAt bytes (faults.Insn named fault)
    by_loops h count (inl e) = absurd (loops_no_slot _ _ _ named fault e)
    by_loops h count (inr p) = by_slots h p.0 count (came_from (slots_reading h.slots 0 false (drop (16 + 8 * h.loops) bytes)) _ (faults.Insn named fault) p.2)

    by_length : (h : ImageHeader) (b : Bool) (r : Result Program ImageFault) → (r ≡ Err (faults.Insn named fault) → IsFaultAt bytes (faults.Insn named fault)) → (if b then r else Err faults.Length) ≡ Err (faults.Insn named fault) → IsFaultAt bytes (faults.Insn named fault)
    by_length h true r k e = k e
    by_length h false r k e = cc

    by_header : (header_reading bytes ≡ Err (faults.Insn named fault)) ⊎ ((h : ImageHeader) × (header_reading bytes ≡ Ok h) × (rest_of bytes h ≡ Err (faults.Insn named fault))) → IsFaultAt bytes (faults.Insn named fault)
    by_header (inl e) = absurd (header_no_slot bytes named fault e)
    by_header (inr p) = by_length p.0 _ _ (λ e. by_loops p.0 (header_loops bytes p.0 p.1) (came_from (loops_reading p.0.slots p.0.loops (drop 16 (take (16 + 8 * p.0.loops) bytes))) _ (faults.Insn named fault) e)) p.2

-- ---- what `Image::read` says

pub is_fault_at : (bytes : List ℕ) → ((slot : ℕ) (fault : BadInsn) → image_reading bytes ≡ Err (faults.Insn slot fault) → IsFaultAt bytes (faults.Insn slot fault)) → (r : Result Program ImageFault) → Gives (λ image. image) r (image_reading bytes) → IfErr r (IsFaultAt bytes)
is_fault_at bytes named (Ok p) h = tt
is_fault_at bytes named (Err faults.Memory) h = tt
is_fault_at bytes named (Err faults.Magic) h = tt
is_fault_at bytes named (Err faults.Version) h = tt
is_fault_at bytes named (Err faults.Length) h = tt
is_fault_at bytes named (Err faults.Count) h = tt
is_fault_at bytes named (Err faults.Budget) h = tt
is_fault_at bytes named (Err faults.Loop) h = tt
is_fault_at bytes named (Err (faults.Insn slot fault)) h = named slot fault h

pub is_only : (bytes : List ℕ) (r : Result Program ImageFault) (p : Program) → Gives (λ image. image) r (image_reading bytes) → image_reading bytes ≡ Ok p → Gives (λ image. image) r (Ok p)
is_only bytes r p gives read = subst (λ (x : Result Program ImageFault). Gives (λ image. image) r x) read gives
