-- What a write that passes leaves of bytes, and what a read reads of them.
use Rattle.std.proofs.Common.{◌≡◌, ◌<◌, ◌≤◌, ◌+◌, ◌-◌, ℕ, List, true, false, leb, ltb, length, get_or, None, refl, sym, ap, ◌∙◌, arith}
use Rattle.std.specs.Prelude.{map, Option, if◌then◌else◌}
use Rattle.std.specs.List.{range_with_len}
use Rattle.std.proofs.lemmas.List.{ext_get_or}
use Rattle.std.proofs.lemmas.List.FromFn.{get_or-map-range_with_len, length-map-range_with_len}
use Rattle.std.proofs.lemmas.Bool.Decides.{nat_tests}
use Rattle.rmap.specs.declared.kind.Kind.{Kind}
use Rattle.rmap.specs.declared.kind.Kind.TheVariants.{Read, Write}
use Rattle.rmap.specs.declared.status.Status.{Status}
use Rattle.rmap.specs.declared.status.Status.TheVariants.{Success}
use Rattle.rmap.specs.Command.{CommandValue, address_of, command_kind, increments, length_of}
use Rattle.rmap.specs.Checks.{body_line, data_of}
use Rattle.rmap.specs.Reply.{reply_of}
use Rattle.rmap.specs.Verdict.{verdict_of}
use Rattle.bank.specs.Answer.{Answer, answer, answer_at, first_line, status_with, verdict_line}
use Rattle.bank.specs.Effect.{Memory, after_write, byte_after_data, byte_at, bytes_read, command_effect_of, memory_at}

-- a command with verdict 0 and a right body is executed if there is room
pub executed : (m : Memory) (c : CommandValue) (v : ℕ) → v ≡ 0 → body_line c ≡ None → answer m true c v ≡ answer_at Success m c
executed m c v pass right =
    ap (λ (n : ℕ). answer m true c n) pass
    ∙ ap (λ (line : Option Status). answer_at (status_with true (first_line (verdict_line (verdict_of 0)) line)) m c) right

-- a write puts its new bytes into memory
pub written : (m : Memory) (c : CommandValue) (v : ℕ) → v ≡ 0 → body_line c ≡ None → command_kind c ≡ Write → (answer m true c v).memory ≡ after_write m c (data_of c)
written m c v pass right kind = ap (λ (a : Answer). a.memory) (executed m c v pass right) ∙ ap (λ (k : Kind). (command_effect_of k m c).memory) kind

-- a read is answered with what it reads
pub answered : (m : Memory) (c : CommandValue) (v : ℕ) → v ≡ 0 → body_line c ≡ None → command_kind c ≡ Read → (answer m true c v).reply ≡ reply_of c Success (bytes_read m c (length_of c))
answered m c v pass right kind = ap (λ (a : Answer). a.reply) (executed m c v pass right) ∙ ap (λ (k : Kind). reply_of c Success (command_effect_of k m c).reply) kind

-- as many bytes stay
pub length_stays : (bytes : List ℕ) (c : CommandValue) (new : List ℕ) → length (after_write (memory_at 0 bytes) c new).bytes ≡ length bytes
length_stays bytes c new = length-map-range_with_len (λ k. byte_after_data (memory_at 0 bytes) c new (0 + k)) 0 (length bytes)

-- the byte at a place
byte_there : (bytes : List ℕ) (c : CommandValue) (new : List ℕ) (k : ℕ) → k < length bytes → get_or (after_write (memory_at 0 bytes) c new).bytes k 0 ≡ byte_after_data (memory_at 0 bytes) c new k
byte_there bytes c new k below =
    let place : 0 + k ≡ k = omega arith in
    get_or-map-range_with_len (λ i. byte_after_data (memory_at 0 bytes) c new (0 + i)) 0 (length bytes) k k 0 below place
    ∙ ap (λ i. byte_after_data (memory_at 0 bytes) c new i) place

-- it is that of the new bytes if they are written with increment
pub byte_written : (bytes : List ℕ) (c : CommandValue) (new : List ℕ) (address k : ℕ) → k < length bytes → increments c ≡ true → address_of c ≡ address → address ≤ k → k < address + length new → get_or (after_write (memory_at 0 bytes) c new).bytes k 0 ≡ get_or new (k - address) 0
byte_written bytes c new address k below next field above inside =
    let is_above : leb address k ≡ true = grind (arith, nat_tests) in
    let is_inside : ltb k (address + length new) ≡ true = grind (arith, nat_tests) in
    byte_there bytes c new k below ∙ rw (next, field, is_above, is_inside) refl

-- and before them it is the old one
pub byte_before : (bytes : List ℕ) (c : CommandValue) (new : List ℕ) (address k : ℕ) → k < length bytes → increments c ≡ true → address_of c ≡ address → k < address → get_or (after_write (memory_at 0 bytes) c new).bytes k 0 ≡ get_or bytes k 0
byte_before bytes c new address k below next field before =
    let is_before : leb address k ≡ false = grind (arith, nat_tests) in
    let place : k - 0 ≡ k = omega arith in
    byte_there bytes c new k below ∙ rw (next, field, is_before) (ap (λ i. get_or bytes i 0) place)

-- eight bytes at the load register are read whole
pub all_read : (c : CommandValue) (bytes : List ℕ) → length bytes ≡ 8 → increments c ≡ true → address_of c ≡ 65536 → length_of c ≡ 8 → bytes_read (memory_at 65536 bytes) c (length_of c) ≡ bytes
all_read c bytes eight next field count =
    let m : Memory = memory_at 65536 bytes in
    let f : ℕ → ℕ = λ i. byte_at m (if increments c then address_of c + i else address_of c) in
    let long : length (map f (range_with_len 0 8)) ≡ 8 = length-map-range_with_len f 0 8 in
    ap (λ n. bytes_read m c n) count
    ∙ ext_get_or 0 (map f (range_with_len 0 8)) bytes (long ∙ sym eight) (λ i below.
    let few : i < 8 = omega (arith, long, below) in
    let place : 0 + i ≡ i = omega arith in
    let index : 65536 + i - 65536 ≡ i = omega arith in
    get_or-map-range_with_len f 0 8 i i 0 few place ∙ rw (next, field) (ap (λ k. get_or bytes k 0) index))
