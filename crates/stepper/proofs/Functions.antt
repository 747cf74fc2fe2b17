-- Registers and bytes as functions, and the lists that hold them.
use Rattle.std.proofs.Common.{◌≡◌, ℕ, zero, suc, ◌+◌, ◌-◌, ◌/◌, ◌%◌, ◌^◌, ◌<◌, ◌≤◌, refl, arith, length-set, cond, eqb, List, length, replicate, set, get_or, get_or-set_same, get_or-set_other, Option, Some, None}
use Rattle.std.proofs.Math.Nat.{pow-suc, div-div-eq-div-mul}
use Rattle.std.proofs.lemmas.Bool.Decides.{nat_tests}
use Rattle.machine.specs.declared.values.Value.{Value}
use Rattle.machine.specs.declared.values.Value.TheVariants.{Unset, Num}
use Rattle.stepper.specs.Bytes.{bytes_in}
use Rattle.stepper.specs.Deeds.{registers_in}
use Rattle.machine.specs.State.{register_after, register_after_call}
use Rattle.machine.specs.Memory.{byte_after}

pub same_function : {A B : Type 0} (f g : A → B) → ((x : A) → f x ≡ g x) → f ≡ g
same_function f g h = λ i. λ x. h x i

write_at : (registers : List Value) (r k : ℕ) (v : Value) → r < length registers → get_or (set registers r v) k Unset ≡ cond (eqb k r) v (get_or registers k Unset)
write_at registers r k v h = grind (arith, get_or-set_same, get_or-set_other, nat_tests)

pub registers_in-set : (registers : List Value) (r : ℕ) (v : Value) → r < length registers → registers_in (set registers r v) ≡ register_after (registers_in registers) r v
registers_in-set registers r v h = same_function _ _ (λ k. write_at registers r k v h)

-- one more byte was written
pub byte_after-more : (stack now : List (Option ℕ)) (start k n : ℕ) → ((j : ℕ) → get_or now j None ≡ byte_after (bytes_in stack) (k - start) start n j) → start ≤ k → k < length now → (j : ℕ) → get_or (set now k (Some (n / 256 ^ (k - start) % 256))) j None ≡ byte_after (bytes_in stack) (k + 1 - start) start n j
byte_after-more stack now start k n so_far above within j =
    let now_at = so_far j in
    grind (arith, get_or-set_same, get_or-set_other, nat_tests, now_at)

-- no byte was written
pub byte_after-none : (stack : List (Option ℕ)) (start n j : ℕ) → get_or stack j None ≡ byte_after (bytes_in stack) (start - start) start n j
byte_after-none stack start n j = grind (arith, nat_tests)

pub bytes_in-all : (stack now : List (Option ℕ)) (start bytes n : ℕ) → ((j : ℕ) → get_or now j None ≡ byte_after (bytes_in stack) (start + bytes - start) start n j) → bytes_in now ≡ byte_after (bytes_in stack) bytes start n
bytes_in-all stack now start bytes n h =
    let e : start + bytes - start ≡ bytes = omega arith in
    same_function _ _ (rw e at h)

-- the bytes above one more
pub rest_more : (n start k : ℕ) → start ≤ k → n / 256 ^ (k - start) / 256 ≡ n / 256 ^ (k + 1 - start)
rest_more n start k h =
    let e : k + 1 - start ≡ suc (k - start) = omega arith in
    rw (e, pow-suc 256 (k - start)) (div-div-eq-div-mul n (256 ^ (k - start)) 256)

unset_at : (n k : ℕ) → get_or {A = Option ℕ} (replicate n None) k None ≡ None
unset_at zero k = refl
unset_at (suc n) zero = refl
unset_at (suc n) (suc k) = unset_at n k

pub bytes_in-unset : (n : ℕ) → bytes_in (replicate n None) ≡ (λ place. None)
bytes_in-unset n = same_function _ _ (unset_at n)

-- the registers after a call, the last one written first
pub after_call_is : (registers : List Value) (answer : ℕ) → length registers ≡ 11 → registers_in (set (set (set (set (set (set registers 5 Unset) 4 Unset) 3 Unset) 2 Unset) 1 Unset) 0 (Num answer)) ≡ register_after_call (registers_in registers) answer
after_call_is registers answer size =
    let r5 = set registers 5 Unset in
    let r4 = set r5 4 Unset in
    let r3 = set r4 3 Unset in
    let r2 = set r3 2 Unset in
    let r1 = set r2 1 Unset in
    let h5 : 5 < length registers = omega arith in
    let h4 : 4 < length r5 = simp length-set (omega arith) in
    let h3 : 3 < length r4 = simp length-set (omega arith) in
    let h2 : 2 < length r3 = simp length-set (omega arith) in
    let h1 : 1 < length r2 = simp length-set (omega arith) in
    let h0 : 0 < length r1 = simp length-set (omega arith) in
    rw (registers_in-set r1 0 (Num answer) h0, registers_in-set r2 1 Unset h1, registers_in-set r3 2 Unset h2, registers_in-set r4 3 Unset h3, registers_in-set r5 4 Unset h4, registers_in-set registers 5 Unset h5) refl
