-- A reader of the boot window's records reads what was written.
use Rattle.std.proofs.Common.{◌≡◌, ◌<◌, ◌/◌, ◌%◌, ◌*◌, ◌+◌, ◌++◌, ◌∷◌, [], ℕ, List, Option, Some, get_or, length, refl, sym, ap, ap₂, subst, ◌∙◌, arith}
use Rattle.std.specs.Prelude.{All, drop}
use Rattle.byteorder.specs.Endian.{big_bytes, big_number}
use Rattle.rmap.proofs.Fields.{IsByte, of_four, two, four}
use Rattle.rmap.specs.declared.boot_records.ControlData.{ControlData}
use Rattle.rmap.specs.declared.boot_records.LoadResult.{LoadResult}
use Rattle.rmap.specs.BootRecords.{AreReadAs, control_bytes, control_of, load_result_bytes, load_result_of}

-- the two bytes of a length are read as that length
control_back : (control : ControlData) → control.length < 65536 → AreReadAs control (control_bytes control)
control_back control few following =
    let count : control.length / 256 % 256 * 256 + control.length % 256 ≡ control.length = omega (arith, few) in
    let made : ℕ → ControlData = λ l. record { slot = control.slot; zero = control.zero; length = l } in
    ap made count

-- bytes that are equal to those are read so too
pub control_is_read : (control : ControlData) (bytes : List ℕ) → control.length < 65536 → bytes ≡ control_bytes control → AreReadAs control bytes
control_is_read control bytes few is = subst (λ (l : List ℕ). AreReadAs control l) (sym is) (control_back control few)

result_back : (r : LoadResult) → r.place < 65536 → r.generation < 4294967296 → load_result_of (load_result_bytes r) ≡ Some r
result_back r near few =
    let place : r.place / 256 % 256 * 256 + (r.place % 256 * 1 + 0) ≡ r.place = omega (arith, near) in
    let generation : r.generation / 16777216 % 256 * 16777216 + (r.generation / 65536 % 256 * 65536 + (r.generation / 256 % 256 * 256 + (r.generation % 256 * 1 + 0))) ≡ r.generation = omega (arith, few) in
    let made : ℕ → ℕ → Option LoadResult = λ p g. Some (record { code = r.code; place = p; generation = g }) in
    ap₂ made place generation

-- the eight bytes of a load result are read as that load result
pub result_is_read : (r : LoadResult) (bytes : List ℕ) → r.place < 65536 → r.generation < 4294967296 → bytes ≡ load_result_bytes r → load_result_of bytes ≡ Some r
result_is_read r bytes near few is = ap load_result_of is ∙ result_back r near few

four_again : (a b c d : ℕ) → c < 256 → d < 256 → control_bytes (control_of (a ∷ b ∷ c ∷ d ∷ [])) ≡ a ∷ b ∷ c ∷ d ∷ []
four_again a b c d lc ld =
    let high : (c * 256 + d) / 256 % 256 ≡ c = omega arith in
    let low : (c * 256 + d) % 256 ≡ d = omega arith in
    rw (high, low) refl

-- writing what was read of four bytes gives the four bytes
pub control_again : (bytes : List ℕ) (result : ControlData) → All IsByte bytes → result ≡ control_of bytes → length bytes ≡ 4 → control_bytes result ≡ bytes
control_again bytes result bound is count =
    ap control_bytes is ∙ subst (λ (l : List ℕ). control_bytes (control_of l) ≡ l) (sym (of_four bytes count))
    (four_again (get_or bytes 0 0) (get_or bytes 1 0) (get_or bytes 2 0) (get_or bytes 3 0) (bound 2 0 (omega (arith, count))) (bound 3 0 (omega (arith, count))))

joined : {a a' b b' : List ℕ} (x y : ℕ) → y ≡ 0 → a ≡ a' → b ≡ b' → (x ∷ 0 ∷ []) ++ a ++ b ≡ (x ∷ y ∷ []) ++ a' ++ b'
joined x y z e f = rw (z, e, f) refl

eight_again : (xs : List ℕ) → length xs ≡ 8 → All IsByte xs → get_or xs 1 0 ≡ 0 → (get_or xs 0 0 ∷ 0 ∷ []) ++ big_bytes 2 (big_number 2 (drop 2 xs)) ++ big_bytes 4 (big_number 4 (drop 4 xs)) ≡ xs
eight_again (x0 ∷ x1 ∷ x2 ∷ x3 ∷ x4 ∷ x5 ∷ x6 ∷ x7 ∷ []) h b z =
    joined x0 x1 z (two x2 x3 (x4 ∷ x5 ∷ x6 ∷ x7 ∷ []) (b 2 0 (omega arith)) (b 3 0 (omega arith))) (four x4 x5 x6 x7 [] (b 4 0 (omega arith)) (b 5 0 (omega arith)) (b 6 0 (omega arith)) (b 7 0 (omega arith)))
eight_again (x0 ∷ x1 ∷ x2 ∷ x3 ∷ x4 ∷ x5 ∷ x6 ∷ x7 ∷ x8 ∷ xs) h b z = let no : ⊥ = omega arith in absurd no
eight_again [] h b z = let no : ⊥ = omega arith in absurd no
eight_again (x0 ∷ []) h b z = let no : ⊥ = omega arith in absurd no
eight_again (x0 ∷ x1 ∷ []) h b z = let no : ⊥ = omega arith in absurd no
eight_again (x0 ∷ x1 ∷ x2 ∷ []) h b z = let no : ⊥ = omega arith in absurd no
eight_again (x0 ∷ x1 ∷ x2 ∷ x3 ∷ []) h b z = let no : ⊥ = omega arith in absurd no
eight_again (x0 ∷ x1 ∷ x2 ∷ x3 ∷ x4 ∷ []) h b z = let no : ⊥ = omega arith in absurd no
eight_again (x0 ∷ x1 ∷ x2 ∷ x3 ∷ x4 ∷ x5 ∷ []) h b z = let no : ⊥ = omega arith in absurd no
eight_again (x0 ∷ x1 ∷ x2 ∷ x3 ∷ x4 ∷ x5 ∷ x6 ∷ []) h b z = let no : ⊥ = omega arith in absurd no

-- writing what was read of eight bytes, the second of them zero, gives the eight bytes
pub result_again : (bytes : List ℕ) (code place generation : ℕ) → All IsByte bytes → length bytes ≡ 8 → get_or bytes 1 0 ≡ 0 → code ≡ get_or bytes 0 0 → place ≡ big_number 2 (drop 2 bytes) → generation ≡ big_number 4 (drop 4 bytes)
    → load_result_bytes (record { code = code; place = place; generation = generation }) ≡ bytes
result_again bytes code place generation bound count zero c p g = rw (c, p, g) (eight_again bytes count bound zero)
