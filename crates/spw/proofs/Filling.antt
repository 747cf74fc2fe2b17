-- As many bytes as there is room for, after what is held.
use Rattle.std.proofs.Common.{◌≡◌, ℕ, ◌+◌, ◌-◌, ◌≤◌, ◌<◌, ◌++◌, List, Bool, true, false, ltb, length, take, refl, sym, ap, ◌∙◌, arith}
use Rattle.std.specs.Prelude.{min}
use Rattle.std.proofs.lemmas.List.{take_all}
use Rattle.std.proofs.lemmas.Bool.Decides.{nat_tests}
use Rattle.std.proofs.Math.Seq.{take-append-add}

take_by : (n : ℕ) (bytes : List ℕ) (b : Bool) → ltb n (length bytes) ≡ b → take (min n (length bytes)) bytes ≡ take n bytes
take_by n bytes true is =
    let below : n < length bytes = grind (arith, nat_tests) in
    let count : min n (length bytes) ≡ n = omega (arith, below) in
    ap (λ k. take k bytes) count
take_by n bytes false is =
    let all : length bytes ≤ n = grind (arith, nat_tests) in
    let count : min n (length bytes) ≡ length bytes = omega (arith, all) in
    rw count (take_all (length bytes) bytes (omega arith) ∙ sym (take_all n bytes all))

pub filled : (room : ℕ) (held bytes : List ℕ) → length held ≤ room → held ++ take (min (room - length held) (length bytes)) bytes ≡ take room (held ++ bytes)
filled room held bytes short =
    let left = room - length held in
    let count : room ≡ length held + left = omega (arith, short) in
    ap (λ l. held ++ l) (take_by left bytes (ltb left (length bytes)) refl) ∙ sym (take-append-add held bytes left) ∙ ap (λ n. take n (held ++ bytes)) (sym count)
