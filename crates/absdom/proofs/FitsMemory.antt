-- What loads give and stores leave fits what is known of it.
use Rattle.std.proofs.Common.{◌≡◌, ℕ, zero, suc, ◌+◌, ◌-◌, ◌*◌, ◌/◌, ◌%◌, ◌^◌, ◌<◌, ◌≤◌, ℤ, pos, negsuc, ◌+ℤ◌, ◌≤ℤ◌, Bool, true, false, nat_le, if◌then◌else◌, refl, sym, ◌∙◌, ap, subst, arith, Option, Some, None, Ok, Err, List, length, slice_get, All}
use Rattle.std.proofs.lemmas.Int.{ints}
use Rattle.std.proofs.Common.{[], ◌∷◌, lit<}
use Rattle.std.proofs.Math.Nat.{pow-succ'}
use Rattle.std.proofs.lemmas.Bool.{leb-true, leb-false}
use Rattle.std.specs.Int.{w8, w16, w32, cast_signed}
use Rattle.bpf_parts.specs.declared.memory.LoadSize.{LoadSize}
use Rattle.bpf_parts.specs.declared.memory.LoadSize.TheVariants.{LoadByte, LoadHalf, LoadWord, LoadDouble, SignedByte, SignedHalf, SignedWord}
use Rattle.machine.specs.declared.regions.Region.{Region}
use Rattle.machine.specs.declared.regions.Region.TheVariants.{Front, Tail, Stack}
use Rattle.machine.specs.declared.values.Value.{Value}
use Rattle.machine.specs.declared.values.Value.TheVariants.{Unset as Nothing, Num as Number, Ptr as Pointer, Map as MapOf}
use Rattle.machine.specs.Words.{word}
use Rattle.bpf_parts.specs.Sizes.{load_bytes}
use Rattle.machine.specs.Memory.{Header, IsProgramHeader, region_size, place_within, region_place_of, byte_of, byte_below, little_endian, loaded_value}
use Rattle.machine.specs.Laws.{SameBytes}
use Rattle.machine.specs.State.{State}
use Rattle.machine.specs.Step.{load_value, region_bytes_at, loads}
use Rattle.absdom_num.specs.Ranges.{IsIn}
use Rattle.absdom.specs.declared.cause.Cause.TheVariants.{UnsetStack}
use Rattle.absdom.specs.declared.kinds.AbsKind.{AbsKind}
use Rattle.absdom.specs.declared.kinds.AbsKind.TheVariants.{Unset, Num, Ptr, Map}
use Rattle.absdom_num.specs.declared.ranges.Range.{Range}
use Rattle.absdom.specs.State.{StateValue, range_at}
use Rattle.absdom_stack.specs.Marks.{mark_at, all_marked}
use Rattle.absdom_stack.specs.StackWords.{is_stack_word}
use Rattle.absdom_stack.specs.declared.spill.Spill.{Spill}
use Rattle.absdom_stack.specs.declared.spill.Spill.TheVariants.{Forgets, Keeps}
use Rattle.absdom.specs.Effect.{both_places, access_places, is_set, loaded_range, read_range, read_kind, load_kind}
use Rattle.absdom.specs.Fits.{IsAmong, FitsKind, IsByte, IsReadIn, Fits}
use Rattle.absdom.proofs.FitsAlu.{FitsResult}
use Rattle.absdom_stack.proofs.MarkSteps.{marked_bytes}
use Rattle.absdom_stack.proofs.WordSteps.{word_test}

-- a place between two others, with room for its bytes
pub record IsBetween (size bytes first last place : ℕ) : Type 0 where
  pub above : first ≤ place
  pub below : place ≤ last
  pub room : place + bytes ≤ size

-- if both ends have a place, what is between has one between them
abbrev pub HasPlace : (size bytes : ℕ) → Option (ℕ × ℕ) → Option ℕ → Type 0
HasPlace size bytes None place = Unit {0}
HasPlace size bytes (Some places) None = ⊥
HasPlace size bytes (Some places) (Some place) = IsBetween size bytes places.0 places.1 place

by_tests : (size bytes i j k : ℕ) → i ≤ k → k ≤ j → (s t u : Bool) → nat_le (i + bytes) size ≡ s → nat_le (j + bytes) size ≡ t → nat_le (k + bytes) size ≡ u → HasPlace size bytes (both_places (if s then Some i else None) (if t then Some j else None)) (if u then Some k else None)
by_tests size bytes i j k g h false t u e f d = tt
by_tests size bytes i j k g h true false u e f d = tt
by_tests size bytes i j k g h true true true e f d =
    record { above = g; below = h; room = leb-true (k + bytes) size d }
by_tests size bytes i j k g h true true false e f d =
    let fits : j + bytes ≤ size = leb-true (j + bytes) size f in
    let over : size < k + bytes = leb-false (k + bytes) size d in
    absurd (omega arith)

pub within_between : (size bytes : ℕ) (x y z : ℤ) → x ≤ℤ z → z ≤ℤ y → HasPlace size bytes (both_places (place_within size bytes x) (place_within size bytes y)) (place_within size bytes z)
within_between size bytes (negsuc i) y z g h = tt
within_between size bytes (pos i) (negsuc j) (pos k) g h = absurd (omega (arith, ints))
within_between size bytes (pos i) (negsuc j) (negsuc k) g h = absurd (omega (arith, ints))
within_between size bytes (pos i) (pos j) (negsuc k) g h = absurd (omega (arith, ints))
within_between size bytes (pos i) (pos j) (pos k) g h =
    by_tests size bytes i j k (omega (arith, ints)) (omega (arith, ints)) (nat_le (i + bytes) size) (nat_le (j + bytes) size) (nat_le (k + bytes) size) refl refl refl

pub place_between : (region : Region) (bytes : ℕ) (o : ℤ × ℤ) (offset z : ℤ) → IsAmong z o → HasPlace (region_size region) bytes (access_places region bytes o offset) (region_place_of region bytes (z +ℤ offset))
place_between Front bytes o offset z h =
    within_between 4 bytes (o.0 +ℤ offset) (o.1 +ℤ offset) (z +ℤ offset) (omega (arith, ints, h.above)) (omega (arith, ints, h.below))
place_between Tail bytes o offset z h =
    within_between 12 bytes (o.0 +ℤ offset) (o.1 +ℤ offset) (z +ℤ offset) (omega (arith, ints, h.above)) (omega (arith, ints, h.below))
place_between Stack bytes o offset z h =
    within_between 512 bytes ((o.0 +ℤ offset) +ℤ pos 512) ((o.1 +ℤ offset) +ℤ pos 512) ((z +ℤ offset) +ℤ pos 512) (omega (arith, ints, h.above)) (omega (arith, ints, h.below))

-- ---- bytes

-- a number of as many bytes
abbrev pub IsNumber : (limit : ℕ) → Option ℕ → Type 0
IsNumber limit None = ⊥
IsNumber limit (Some n) = n < limit

below_fits : (n : ℕ) (byte rest : Option ℕ) → IsByte byte → IsNumber (256 ^ n) rest → IsNumber (256 ^ (suc n)) (byte_below byte rest)
below_fits n None rest g h = absurd g
below_fits n (Some b) None g h = absurd h
below_fits n (Some b) (Some r) g h = let e : 256 ^ (suc n) ≡ 256 * 256 ^ n = pow-succ' 256 n in rw e (omega arith)

pub little_fits : (byte : ℕ → Option ℕ) (n place : ℕ) → ((k : ℕ) → k < n → IsByte (byte (place + k))) → IsNumber (256 ^ n) (little_endian byte n place)
unfolding little_endian
little_fits byte zero place h = lit< tt
little_fits byte (suc n) place h =
    below_fits n (byte place) (little_endian byte n (suc place))
    (let P : ℕ → Type 0 = λ p. IsByte (byte p) in subst P (omega arith) (h 0 (omega arith)))
    (little_fits byte n (suc place) (λ k l. let P : ℕ → Type 0 = λ p. IsByte (byte p) in let e : place + suc k ≡ suc place + k = omega arith in subst P e (h (suc k) (omega arith))))

-- a byte of a list of bytes
pub byte_in : (bytes : List ℕ) (place : ℕ) → All (λ b. b < 256) bytes → place < length bytes → IsByte (slice_get bytes place)
byte_in [] place all h = absurd (omega arith)
byte_in (b ∷ bytes) zero all h = all 0 0 (omega arith)
byte_in (b ∷ bytes) (suc place) all h = byte_in bytes place (λ k d l. all (suc k) d (omega arith)) (omega arith)

-- ---- loads

-- a word is below 2^64
pub word_below : (z : ℤ) → word z < 2 ^ 64
word_below (pos n) = omega arith
word_below (negsuc n) = omega arith

-- what the bytes of a load give is in its range
pub loaded_fits : (size : LoadSize) (n : ℕ) → n < 256 ^ (load_bytes size) → IsIn (loaded_value size n) (loaded_range size)
loaded_fits LoadByte n h = record { above = omega arith; below = omega arith; word = omega arith }
loaded_fits LoadHalf n h = record { above = omega arith; below = omega arith; word = omega arith }
loaded_fits LoadWord n h = record { above = omega arith; below = omega arith; word = omega arith }
loaded_fits LoadDouble n h = record { above = omega arith; below = omega arith; word = omega arith }
loaded_fits SignedByte n h =
    let b : word (cast_signed w8 n) < 2 ^ 64 = word_below (cast_signed w8 n) in
    record { above = omega arith; below = omega arith; word = b }
loaded_fits SignedHalf n h =
    let b : word (cast_signed w16 n) < 2 ^ 64 = word_below (cast_signed w16 n) in
    record { above = omega arith; below = omega arith; word = b }
loaded_fits SignedWord n h =
    let b : word (cast_signed w32 n) < 2 ^ 64 = word_below (cast_signed w32 n) in
    record { above = omega arith; below = omega arith; word = b }

pub value_fits : (size : LoadSize) (o : Option ℕ) → IsNumber (256 ^ (load_bytes size)) o → FitsResult (load_value size o) (Ok (Num (loaded_range size)))
value_fits size None h = absurd h
value_fits size (Some n) h = loaded_fits size n h

-- the bytes that a load reads are set: those of the header always, those of the stack if they are marked
pub bytes_set : (header : Header) (s : State) (a : StateValue) (region : Region) (bytes first last place : ℕ) → IsProgramHeader header → Fits s a → is_set region a.marks bytes (first, last) ≡ true → IsBetween (region_size region) bytes first last place → (k : ℕ) → k < bytes → IsByte (byte_of header s.stack region (place + k))
bytes_set header s a Front bytes first last place known fits e between k h =
    byte_in header.front (place + k) known.front_bytes (omega (arith, known.front, between.room))
bytes_set header s a Tail bytes first last place known fits e between k h =
    byte_in header.tail (place + k) known.tail_bytes (omega (arith, known.tail, between.room))
bytes_set header s a Stack bytes first last place known fits e between k h =
    let d : first + (place + k - first) ≡ place + k = omega (arith, between.above) in
    let m : mark_at a.marks (first + (place + k - first)) ≡ true
    = marked_bytes a.marks first (last + bytes - first) e (place + k - first) (omega (arith, between.above, between.below)) in
    let P : ℕ → Type 0 = λ p. IsByte (s.stack p) in
    subst P d (fits.bytes (first + (place + k - first)) m)

-- the number of eight bytes is the word itself
whole_word : (o : Option ℕ) (range : Range) → IsReadIn o range → FitsResult (load_value LoadDouble o) (Ok (Num range))
whole_word None range h = absurd h
whole_word (Some n) range h = h

-- a load of one place gives a number in the place's range
place_read : SameBytes → (header : Header) (s : State) (a : StateValue) (size : LoadSize) (first last place : ℕ) → Fits s a → IsBetween 512 (load_bytes size) first last place → is_set Stack a.marks (load_bytes size) (first, last) ≡ true → (load_bytes size ≡ 8) × (first ≡ last) × (first % 8 ≡ 0) → FitsResult (load_value size (little_endian (byte_of header s.stack Stack) (load_bytes size) place)) (Ok (Num (range_at a (first / 8))))
place_read own header s a LoadByte first last place fits between e is = absurd (omega (arith, is.0))
place_read own header s a LoadHalf first last place fits between e is = absurd (omega (arith, is.0))
place_read own header s a LoadWord first last place fits between e is = absurd (omega (arith, is.0))
place_read own header s a SignedByte first last place fits between e is = absurd (omega (arith, is.0))
place_read own header s a SignedHalf first last place fits between e is = absurd (omega (arith, is.0))
place_read own header s a SignedWord first last place fits between e is = absurd (omega (arith, is.0))
place_read own header s a LoadDouble first last place fits between e is =
    let one : first ≡ last = is.1 in
    let even : first % 8 ≡ 0 = is.2 in
    let count : last + 8 - first ≡ 8 = omega arith in
    let start : first ≡ 8 * (first / 8) = omega arith in
    let there : place ≡ 8 * (first / 8) = omega (arith, between.above, between.below) in
    let marked : all_marked a.marks (8 * (first / 8)) 8 ≡ true = sym (ap (λ p. all_marked a.marks p 8) start) ∙ sym (ap (all_marked a.marks first) count) ∙ e in
    let same : little_endian (byte_of header s.stack Stack) 8 place ≡ little_endian s.stack 8 (8 * (first / 8)) =
    own (byte_of header s.stack Stack) s.stack 8 place (λ k l. refl) ∙ ap (little_endian s.stack 8) there
    in
    let P : Option ℕ → Type 0 = λ o. FitsResult (load_value LoadDouble o) (Ok (Num (range_at a (first / 8)))) in
    subst P (sym same) (whole_word (little_endian s.stack 8 (8 * (first / 8))) (range_at a (first / 8)) (fits.words (first / 8) marked))

-- a load of bytes that are set gives a number in the range of its size
table_read : (header : Header) (s : State) (a : StateValue) (size : LoadSize) (region : Region) (first last place : ℕ) → IsProgramHeader header → Fits s a → IsBetween (region_size region) (load_bytes size) first last place → is_set region a.marks (load_bytes size) (first, last) ≡ true → FitsResult (load_value size (little_endian (byte_of header s.stack region) (load_bytes size) place)) (Ok (Num (loaded_range size)))
table_read header s a size region first last place known fits between e =
    value_fits size (little_endian (byte_of header s.stack region) (load_bytes size) place)
    (little_fits (byte_of header s.stack region) (load_bytes size) place (bytes_set header s a region (load_bytes size) first last place known fits e between))

kept_read : SameBytes → (header : Header) (s : State) (a : StateValue) (size : LoadSize) (first last place : ℕ) → IsProgramHeader header → Fits s a → IsBetween 512 (load_bytes size) first last place → is_set Stack a.marks (load_bytes size) (first, last) ≡ true → (t : Bool) → is_stack_word (load_bytes size) (first, last) ≡ t → FitsResult (load_value size (little_endian (byte_of header s.stack Stack) (load_bytes size) place)) (Ok (Num (if t then range_at a (first / 8) else loaded_range size)))
kept_read own header s a size first last place known fits between e true is =
    place_read own header s a size first last place fits between e (word_test (load_bytes size) (first, last) is)
kept_read own header s a size first last place known fits between e false is =
    table_read header s a size Stack first last place known fits between e

range_read : SameBytes → (spill : Spill) (header : Header) (s : State) (a : StateValue) (size : LoadSize) (region : Region) (first last place : ℕ) → IsProgramHeader header → Fits s a → IsBetween (region_size region) (load_bytes size) first last place → is_set region a.marks (load_bytes size) (first, last) ≡ true → FitsResult (load_value size (little_endian (byte_of header s.stack region) (load_bytes size) place)) (Ok (Num (read_range spill a size region (first, last))))
range_read own Forgets header s a size region first last place known fits between e =
    table_read header s a size region first last place known fits between e
range_read own Keeps header s a size Front first last place known fits between e =
    table_read header s a size Front first last place known fits between e
range_read own Keeps header s a size Tail first last place known fits between e =
    table_read header s a size Tail first last place known fits between e
range_read own Keeps header s a size Stack first last place known fits between e =
    kept_read own header s a size first last place known fits between e (is_stack_word (load_bytes size) (first, last)) refl

-- by whether all of them are set
read_by_test : SameBytes → (spill : Spill) (header : Header) (s : State) (a : StateValue) (size : LoadSize) (region : Region) (first last place : ℕ) → IsProgramHeader header → Fits s a → IsBetween (region_size region) (load_bytes size) first last place → (t : Bool) → is_set region a.marks (load_bytes size) (first, last) ≡ t → FitsResult (load_value size (little_endian (byte_of header s.stack region) (load_bytes size) place)) (if t then Ok (Num (read_range spill a size region (first, last))) else Err UnsetStack)
read_by_test own spill header s a size region first last place known fits between false e = tt
read_by_test own spill header s a size region first last place known fits between true e =
    range_read own spill header s a size region first last place known fits between e

read_fits : SameBytes → (spill : Spill) (header : Header) (s : State) (a : StateValue) (size : LoadSize) (region : Region) (places : Option (ℕ × ℕ)) (place : Option ℕ) → IsProgramHeader header → Fits s a → HasPlace (region_size region) (load_bytes size) places place → FitsResult (load_value size (region_bytes_at header s.stack region (load_bytes size) place)) (read_kind spill a size region places)
read_fits own spill header s a size region None place known fits h = tt
read_fits own spill header s a size region (Some places) None known fits h = absurd h
read_fits own spill header s a size region (Some places) (Some place) known fits h =
    read_by_test own spill header s a size region places.0 places.1 place known fits h (is_set region a.marks (load_bytes size) places) refl

-- a load through a pointer
pub load_fits : SameBytes → (spill : Spill) (header : Header) (s : State) (a : StateValue) (size : LoadSize) (u : Value) (p : AbsKind) (offset : ℤ) → IsProgramHeader header → Fits s a → FitsKind u p → FitsResult (loads header s size u offset) (load_kind spill a size p offset)
load_fits own spill header s a size u Unset offset known fits g = tt
load_fits own spill header s a size u (Num n) offset known fits g = tt
load_fits own spill header s a size u (Map i) offset known fits g = tt
load_fits own spill header s a size Nothing (Ptr t o) offset known fits g = absurd g
load_fits own spill header s a size (Number n) (Ptr t o) offset known fits g = absurd g
load_fits own spill header s a size (MapOf i) (Ptr t o) offset known fits g = absurd g
load_fits own spill header s a size (Pointer r z) (Ptr t o) offset known fits g =
    let P : Region → Type 0 = λ x. FitsResult (loads header s size (Pointer r z) offset) (load_kind spill a size (Ptr x o) offset) in
    subst P g.0
    (read_fits own spill header s a size r (access_places r (load_bytes size) o offset) (region_place_of r (load_bytes size) (z +ℤ offset)) known fits (place_between r (load_bytes size) o offset z g.1))
