-- The numbers that a program finds in a header, and what it makes of them.
use Rattle.std.proofs.Common.{◌≡◌, ◌<◌, ◌≤◌, ◌^◌, ◌+◌, ◌*◌, ◌-◌, ◌/◌, ℕ, suc, List, length, drop, Option, Some, refl, ap, ◌∙◌, arith, inl, inr}
use Rattle.std.specs.Prelude.{ℤ, pos, not, ◌+ℤ◌, ◌==◌, nat_lt, nat_le, bit_and, slice_get, slice_index}
use Rattle.std.specs.Int.{w32, cast_signed}
use mir.Facts.{to_z_pos, to_z-neg}
use Rattle.std.proofs.lemmas.Bool.{agree_below_at, cases_lt}
use Rattle.std.proofs.lemmas.Bool.Decides.{nat_tests}
use Rattle.std.proofs.lemmas.List.{get_or-drop}
use Rattle.std.proofs.lemmas.List.Elements.{All-get_or}
use Rattle.std.proofs.lemmas.Option.{slice_get-get_or}
use Rattle.byteorder.specs.Endian.{big_number}
use Rattle.bpf_parts.specs.declared.memory.LoadSize.TheVariants.{LoadByte, LoadWord}
use Rattle.bpf_parts.specs.declared.operation.AluOp.TheVariants.{Mov}
use Rattle.bpf_parts.specs.declared.operation.Swap.TheVariants.{ToBig}
use Rattle.bpf_parts.specs.declared.operation.SwapBits.TheVariants.{Swap32}
use Rattle.bpf_parts.specs.declared.operation.Width.{Width}
use Rattle.bpf_parts.specs.declared.operation.Width.TheVariants.{Bits32, Bits64}
use Rattle.machine.specs.declared.regions.Region.{Region}
use Rattle.machine.specs.declared.regions.Region.TheVariants.{Front, Tail}
use Rattle.machine.specs.declared.values.Value.{Value}
use Rattle.machine.specs.declared.values.Value.TheVariants.{Unset, Num, Ptr, Map}
use Rattle.machine.specs.Memory.{Header, IsProgramHeader, byte_below, byte_of, little_endian, region_place_of}
use Rattle.machine.specs.State.{State}
use Rattle.machine.specs.Step.{alu, region_bytes_at, load_value, loads}
use Rattle.machine.specs.Words.{low_part, swapped_bytes, word}
use Rattle.rmap.specs.Instruction.{has_increment_bit, kind_of}
use Rattle.policy_table.specs.Meaning.{agrees_with_kind}
use Rattle.policy_table.specs.declared.rules.RuleKind.TheVariants.{Read, Write, Rmw}

-- ---- bytes

pub front_byte : (header : Header) → IsProgramHeader header → (k : ℕ) → k < 4 → slice_index header.front k < 256
front_byte header h k within =
    let len : length header.front ≡ 4 = h.front in
    All-get_or (λ (b : ℕ). b < 256) header.front k 0 (omega (arith, len)) h.front_bytes

pub tail_byte : (header : Header) → IsProgramHeader header → (k : ℕ) → k < 12 → slice_index header.tail k < 256
tail_byte header h k within =
    let len : length header.tail ≡ 12 = h.tail in
    All-get_or (λ (b : ℕ). b < 256) header.tail k 0 (omega (arith, len)) h.tail_bytes

byte_loaded : (header : Header) (s : State) (region : Region) (offset : ℤ) (place n : ℕ) → region_place_of region 1 (pos 0 +ℤ offset) ≡ Some place
    → byte_of header s.stack region place ≡ Some n → loads header s LoadByte (Ptr region (pos 0)) offset ≡ Some (Num n)
unfolding little_endian
byte_loaded header s region offset place n there byte =
    let one : n + 256 * 0 ≡ n = omega arith in
    ap (λ (o : Option ℕ). load_value LoadByte (region_bytes_at header s.stack region 1 o)) there
    ∙ ap (λ (o : Option ℕ). load_value LoadByte (byte_below o (Some 0))) byte
    ∙ ap (λ (k : ℕ). Some (Num k)) one

-- a byte of the front, by its place
pub front_loaded : (header : Header) → IsProgramHeader header → (k : ℕ) → k < 4 → region_place_of Front 1 (pos 0 +ℤ pos k) ≡ Some k
    → (s : State) → loads header s LoadByte (Ptr Front (pos 0)) (pos k) ≡ Some (Num (slice_index header.front k))
front_loaded header h k within there s =
    let len : length header.front ≡ 4 = h.front in
    byte_loaded header s Front (pos k) k (slice_index header.front k) there (slice_get-get_or header.front k 0 (omega (arith, len)))

-- a byte of the tail
pub tail_loaded : (header : Header) → IsProgramHeader header → (k : ℕ) → k < 12 → region_place_of Tail 1 (pos 0 +ℤ pos k) ≡ Some k
    → (s : State) → loads header s LoadByte (Ptr Tail (pos 0)) (pos k) ≡ Some (Num (slice_index header.tail k))
tail_loaded header h k within there s =
    let len : length header.tail ≡ 12 = h.tail in
    byte_loaded header s Tail (pos k) k (slice_index header.tail k) there (slice_get-get_or header.tail k 0 (omega (arith, len)))

-- ---- words

-- the number of four bytes, the lowest first
abbrev pub low_first : (a b c d : ℕ) → ℕ
low_first a b c d = a + 256 * (b + 256 * (c + 256 * (d + 256 * 0)))

-- the highest first
abbrev pub high_first : (a b c d : ℕ) → ℕ
high_first a b c d = a * 16777216 + b * 65536 + c * 256 + d

abbrev four_below : (a b c d : Option ℕ) → Option ℕ
four_below a b c d = byte_below a (byte_below b (byte_below c (byte_below d (Some 0))))

-- four bytes of the tail from a place
pub word_loaded : (header : Header) → IsProgramHeader header → (k : ℕ) → k ≤ 8 → region_place_of Tail 4 (pos 0 +ℤ pos k) ≡ Some k
    → (s : State) → loads header s LoadWord (Ptr Tail (pos 0)) (pos k)
    ≡ Some (Num (low_first (slice_index header.tail k) (slice_index header.tail (suc k)) (slice_index header.tail (suc (suc k))) (slice_index header.tail (suc (suc (suc k))))))
unfolding little_endian
word_loaded header h k within there s =
    let tail : List ℕ = header.tail in
    let len : length tail ≡ 12 = h.tail in
    let first : slice_get tail k ≡ Some (slice_index tail k) = slice_get-get_or tail k 0 (omega (arith, len)) in
    let second : slice_get tail (suc k) ≡ Some (slice_index tail (suc k)) = slice_get-get_or tail (suc k) 0 (omega (arith, len)) in
    let third : slice_get tail (suc (suc k)) ≡ Some (slice_index tail (suc (suc k))) = slice_get-get_or tail (suc (suc k)) 0 (omega (arith, len)) in
    let fourth : slice_get tail (suc (suc (suc k))) ≡ Some (slice_index tail (suc (suc (suc k)))) = slice_get-get_or tail (suc (suc (suc k))) 0 (omega (arith, len)) in
    let bytes : four_below (slice_get tail k) (slice_get tail (suc k)) (slice_get tail (suc (suc k))) (slice_get tail (suc (suc (suc k))))
    ≡ four_below (Some (slice_index tail k)) (Some (slice_index tail (suc k))) (Some (slice_index tail (suc (suc k)))) (Some (slice_index tail (suc (suc (suc k))))) =
    ap (λ (o : Option ℕ). four_below o (slice_get tail (suc k)) (slice_get tail (suc (suc k))) (slice_get tail (suc (suc (suc k))))) first
    ∙ ap (λ (o : Option ℕ). four_below (Some (slice_index tail k)) o (slice_get tail (suc (suc k))) (slice_get tail (suc (suc (suc k))))) second
    ∙ ap (λ (o : Option ℕ). four_below (Some (slice_index tail k)) (Some (slice_index tail (suc k))) o (slice_get tail (suc (suc (suc k))))) third
    ∙ ap (λ (o : Option ℕ). four_below (Some (slice_index tail k)) (Some (slice_index tail (suc k))) (Some (slice_index tail (suc (suc k)))) o) fourth in
    ap (λ (o : Option ℕ). load_value LoadWord (region_bytes_at header s.stack Tail 4 o)) there
    ∙ ap (λ (o : Option ℕ). load_value LoadWord o) bytes

-- the bytes in the other order
pub word_swapped : (a b c d : ℕ) → a < 256 → b < 256 → c < 256 → d < 256
    → swapped_bytes ToBig Swap32 (low_first a b c d) ≡ high_first a b c d
word_swapped a b c d ha hb hc hd = omega arith

pub big_word : (xs : List ℕ) → big_number 4 (drop 4 xs) ≡ high_first (slice_index xs 4) (slice_index xs 5) (slice_index xs 6) (slice_index xs 7)
big_word xs =
    omega (arith, get_or-drop 4 xs 0 0, get_or-drop 4 xs 1 0, get_or-drop 4 xs 2 0, get_or-drop 4 xs 3 0)

-- the first three of four bytes are the number of four over 256
pub big_three : (xs : List ℕ) → slice_index xs 11 < 256
    → high_first (slice_index xs 8) (slice_index xs 9) (slice_index xs 10) (slice_index xs 11) / 256 ≡ big_number 3 (drop 8 xs)
big_three xs small =
    omega (arith, get_or-drop 8 xs 0 0, get_or-drop 8 xs 1 0, get_or-drop 8 xs 2 0)

-- ---- the instruction byte

pub is_read : (byte : ℕ) → byte < 256 → (bit_and byte 248 == 72) ≡ agrees_with_kind Read (kind_of byte)
is_read byte below = agree_below_at (λ b. bit_and b 248 == 72) (λ b. agrees_with_kind Read (kind_of b)) 256 byte refl below

pub is_write : (byte : ℕ) → byte < 256 → (bit_and byte 224 == 96) ≡ agrees_with_kind Write (kind_of byte)
is_write byte below = agree_below_at (λ b. bit_and b 224 == 96) (λ b. agrees_with_kind Write (kind_of b)) 256 byte refl below

pub is_rmw : (byte : ℕ) → byte < 256 → (bit_and byte 252 == 92) ≡ agrees_with_kind Rmw (kind_of byte)
is_rmw byte below = agree_below_at (λ b. bit_and b 252 == 92) (λ b. agrees_with_kind Rmw (kind_of b)) 256 byte refl below

pub is_increment : (byte : ℕ) → byte < 256 → (bit_and byte 4 == 0) ≡ not (has_increment_bit byte)
is_increment byte below = agree_below_at (λ b. bit_and b 4 == 0) (λ b. not (has_increment_bit b)) 256 byte refl below

-- ---- registers that are set

-- a number is itself as an immediate
pub same_word : (n : ℕ) → n < 2 ^ 64 → word (pos n) ≡ n
same_word n below = omega arith

-- the low bits of an immediate that has them are the number
pub same_bits : (n : ℕ) → n < 2 ^ 32 → low_part Bits32 (word (cast_signed w32 n)) ≡ n
same_bits n below =
    elim (cases_lt n (2 ^ 31)) [
      | inl low ↦ ap (λ (z : ℤ). low_part Bits32 (word z)) (to_z_pos w32 low) ∙ omega arith
      | inr high ↦
          let k : ℕ = 2 ^ 32 - 1 - n in
          let small : k < 2 ^ 31 = omega arith in
          let same : n ≡ 2 ^ 32 - suc k = omega arith in
          ap (λ (i : ℕ). low_part Bits32 (word (cast_signed w32 i))) same ∙ ap (λ (z : ℤ). low_part Bits32 (word z)) (to_z-neg w32 k small) ∙ omega arith
    ]

moved : (width : Width) (v : Value) (n : ℕ) → alu Mov width v (Num n) ≡ Some (Num (low_part width n))
moved width Unset n = refl
moved width (Num m) n = refl
moved Bits32 (Ptr region offset) n = refl
moved Bits64 (Ptr region offset) n = refl
moved width (Map index) n = refl

pub word_moved : (v : Value) (n : ℕ) → n < 2 ^ 64 → alu Mov Bits64 v (Num (word (pos n))) ≡ Some (Num n)
word_moved v n below = moved Bits64 v (word (pos n)) ∙ ap (λ (k : ℕ). Some (Num k)) (same_word n below)

pub bits_moved : (v : Value) (n : ℕ) → n < 2 ^ 32 → alu Mov Bits32 v (Num (word (cast_signed w32 n))) ≡ Some (Num n)
bits_moved v n below = moved Bits32 v (word (cast_signed w32 n)) ∙ ap (λ (k : ℕ). Some (Num k)) (same_bits n below)

-- ---- reversed tests

pub below_fails : (a b : ℕ) → nat_lt a b ≡ not (nat_le b a)
below_fails a b = grind (arith, nat_tests)

pub reach_fails : (a b : ℕ) → nat_le a b ≡ not (nat_lt b a)
reach_fails a b = grind (arith, nat_tests)
