-- A command that no check of its header stops may be judged.
use Rattle.std.proofs.Common.{◌⊎◌, inl, inr, ◌≡◌, ◌≤◌, ◌<◌, ◌+◌, ◌-◌, ◌^◌, ◌==◌, ℕ, Bool, true, false, not, ◌&&◌, ◌||◌, List, Option, Some, None, refl, sym, subst, arith}
use Rattle.std.specs.Prelude.{All, if◌then◌else◌, is_none, nat_le, nat_lt, option_map, slice_get}
use Rattle.std.proofs.lemmas.Bool.Decides.{nat_tests}
use Rattle.std.proofs.lemmas.Option.{get_or_from_slice_get, slice_get_within}
use Rattle.std.proofs.lemmas.Bool.{and_parts}
use Rattle.machine.specs.Memory.{header}
use Rattle.rmap.specs.declared.boot.TheConstants.{BOOT_WINDOW, CONTROL_SIZE, LOAD_REGISTER, LOAD_RESULT_SIZE, STAGING_SIZE}
use Rattle.rmap.specs.declared.checks.TheConstants.{MAX_DATA, VERIFY_BUFFER}
use Rattle.rmap.specs.declared.header_faults.HeaderFault.{HeaderFault}
use Rattle.rmap.specs.declared.kind.Kind.{Kind}
use Rattle.rmap.specs.declared.kind.Kind.TheVariants.{Read, Rmw, Unused, Write}
use Rattle.rmap.specs.declared.places.Place.{Place}
use Rattle.rmap.specs.Checks.{has_wrong_rmw_length, header_check, header_line, header_status, is_rmw_length}
use Rattle.regions.specs.Points.{IsSpan, is_distance, is_rmw_distance}
use Rattle.rmap.specs.Command.{CommandValue, IsHeader, address_of, command_kind, extended_of, increments, length_of, target_of, verifies}
use Rattle.rmap.specs.Instruction.{is_used}
use Rattle.rmap.specs.Windows.{WindowsValue, bank_place, boot_place, is_register, is_staged, lies_inside, place_of, load_register_of}
use Rattle.charts.specs.Same.{MayBeJudged}
use Rattle.charts.specs.Judged.{EndsInTime, HasBytesAlone, NodesDecideAlike}

negated : (t : Bool) → not t ≡ false → t ≡ true
negated true e = refl
negated false e = absurd (cc)

first_case : (t : Bool) (fault : HeaderFault) (rest : Option HeaderFault) → (if t then Some fault else rest) ≡ None → (t ≡ false) × (rest ≡ None)
first_case true fault rest e = absurd (cc)
first_case false fault rest e = (refl, e)

no_fault : (check : Option HeaderFault) → option_map header_status check ≡ None → check ≡ None
no_fault None e = refl
no_fault (Some fault) e = absurd (cc)

-- ---- places

-- the first address is one of 32 bits, and with increment the data end in time
abbrev LiesInTime : CommandValue → Type 0
LiesInTime c = (address_of c < 2 ^ 32) × (increments c ≡ true → address_of c + length_of c ≤ 2 ^ 32)

within_end : (t : Bool) (n end : ℕ) → (not t || nat_le n end) ≡ true → t ≡ true → n ≤ end
within_end true n end e h = grind (arith, nat_tests)
within_end false n end e h = absurd (cc)

inside : (base size : ℕ) (c : CommandValue) → base + size ≤ 2 ^ 32 → lies_inside base size c ≡ true → LiesInTime c
inside base size c ends e =
    let parts = and_parts (nat_le base (address_of c) && nat_lt (address_of c) (base + size)) (not (increments c) || nat_le (address_of c + length_of c) (base + size)) e in
    let below = and_parts (nat_le base (address_of c)) (nat_lt (address_of c) (base + size)) parts.0 in
    let lt : address_of c < base + size = less (address_of c) (base + size) below.1 in
    (omega arith, λ h. omega (arith, within_end (increments c) (address_of c + length_of c) (base + size) parts.1 h))
  where
    less : (a b : ℕ) → nat_lt a b ≡ true → a < b
    less a b t = grind (arith, nat_tests)

at_register : (size : ℕ) (c : CommandValue) → size ≤ 4096 → is_register size c ≡ true → LiesInTime c
at_register size c few e =
    let parts = and_parts (address_of c == LOAD_REGISTER && length_of c == size) (increments c) e in
    let fields = and_parts (address_of c == LOAD_REGISTER) (length_of c == size) parts.0 in
    let a : address_of c ≡ LOAD_REGISTER = equal (address_of c) LOAD_REGISTER fields.0 in
    let n : length_of c ≡ size = equal (length_of c) size fields.1 in
    (omega (arith, a), λ h. omega (arith, a, n))
  where
    equal : (x y : ℕ) → (x == y) ≡ true → x ≡ y
    equal x y t = grind (arith, nat_tests)

there_is : (t : Bool) (place : Place) → is_none (if t then Some place else None) ≡ false → t ≡ true
there_is true place e = refl
there_is false place e = absurd (cc)

in_register : (kind : Kind) (c : CommandValue) → is_none (load_register_of kind c) ≡ false → LiesInTime c
in_register Read c e = at_register LOAD_RESULT_SIZE c (omega arith) (there_is (is_register LOAD_RESULT_SIZE c) _ e)
in_register Write c e = at_register CONTROL_SIZE c (omega arith) (there_is (is_register CONTROL_SIZE c) _ e)
in_register Rmw c e = absurd (cc)
in_register Unused c e = absurd (cc)

in_boot : (t : Bool) (c : CommandValue) (place : Place) → is_staged c ≡ t → is_none (if t then Some place else load_register_of (command_kind c) c) ≡ false → LiesInTime c
in_boot true c place s e = inside 0 STAGING_SIZE c (omega arith) (and_parts (is_used (command_kind c)) (lies_inside 0 STAGING_SIZE c) s).1
in_boot false c place s e = in_register (command_kind c) c e

in_bank : (t : Bool) (base size : ℕ) (c : CommandValue) (place : Place) → base + size ≤ 2 ^ 32 → lies_inside base size c ≡ t → is_none (if t then Some place else None) ≡ false → LiesInTime c
in_bank true base size c place ends s e = inside base size c ends s
in_bank false base size c place ends s e = absurd (cc)

no_bank : (t : Bool) (c : CommandValue) → is_none (if t then boot_place c else None) ≡ false → LiesInTime c
no_bank true c e = in_boot (is_staged c) c _ refl e
no_bank false c e = absurd (cc)

placed : (bank : Option (ℕ × ℕ)) (c : CommandValue) → ((b : ℕ × ℕ) → bank ≡ Some b → EndsInTime b) → is_none (bank_place bank c) ≡ false → LiesInTime c
placed None c ends e = no_bank (extended_of c == BOOT_WINDOW) c e
placed (Some bank) c ends e = in_bank (lies_inside bank.0 bank.1 c) bank.0 bank.1 c _ (ends bank refl) refl e

-- ---- spans

or_case : (s t : Bool) → (s || t) ≡ true → (s ≡ true) ⊎ (t ≡ true)
or_case true t e = inl refl
or_case false t e = inr e

pub same_number : (a b : ℕ) → (a == b) ≡ true → a ≡ b
same_number a b e = grind (arith, nat_tests)

rmw_at : (d e : ℕ) → d ≡ e → is_rmw_distance e ≡ true → is_rmw_distance d ≡ true
rmw_at d e same h = subst (λ (n : ℕ). is_rmw_distance n ≡ true) (sym same) h

rmw_distance : (n d : ℕ) → d + 1 ≡ n → is_rmw_length n ≡ true → is_rmw_distance d ≡ true
rmw_distance n d e h = elim (or_case (n == 0) _ h) [
  | inl t ↦ absurd (omega (arith, same_number n 0 t))
  | inr h2 ↦ elim (or_case (n == 2) _ h2) [
    | inl t ↦ rmw_at d 1 (omega (arith, same_number n 2 t)) refl
    | inr h4 ↦ elim (or_case (n == 4) _ h4) [
      | inl t ↦ rmw_at d 3 (omega (arith, same_number n 4 t)) refl
      | inr h6 ↦ elim (or_case (n == 6) (n == 8) h6) [
        | inl t ↦ rmw_at d 5 (omega (arith, same_number n 6 t)) refl
        | inr t ↦ rmw_at d 7 (omega (arith, same_number n 8 t)) refl
      ]
    ]
  ]
]

-- the distance of a command whose length field no check stops
distance_is : (kind : Kind) (n d : ℕ) → is_used kind ≡ true → n ≤ 4096 → has_wrong_rmw_length kind n ≡ false → (d ≡ 0) ⊎ (d + 1 ≡ n) → is_distance kind d ≡ true
distance_is Read n d used few right (inl e) = grind (arith, nat_tests)
distance_is Read n d used few right (inr e) = grind (arith, nat_tests)
distance_is Write n d used few right (inl e) = grind (arith, nat_tests)
distance_is Write n d used few right (inr e) = grind (arith, nat_tests)
distance_is Rmw n d used few right (inl e) = rmw_at d 0 e refl
distance_is Rmw n d used few right (inr e) = rmw_distance n d e (negated (is_rmw_length n) right)
distance_is Unused n d used few right h = absurd (cc)

span_by : (kind : Kind) (t z : Bool) (a n : ℕ) → (n == 0) ≡ z → is_used kind ≡ true → has_wrong_rmw_length kind n ≡ false → a < 2 ^ 32 → n ≤ 4096 → (t ≡ true → a + n ≤ 2 ^ 32) → IsSpan kind a (if t && not z then a + n - 1 else a)
span_by kind true true a n e used right fits few ends = record { order = omega arith; fits = omega arith; distance = distance_is kind n (a - a) used few right (inl (omega arith)) }
span_by kind true false a n e used right fits few ends =
    let some : 0 < n = grind (arith, nat_tests) in
    let end : a + n ≤ 2 ^ 32 = ends refl in
    record { order = omega arith; fits = omega arith; distance = distance_is kind n (a + n - 1 - a) used few right (inr (omega arith)) }
span_by kind false z a n e used right fits few ends = record { order = omega arith; fits = omega arith; distance = distance_is kind n (a - a) used few right (inl (omega arith)) }

at_bank : (banks : List (ℕ × ℕ)) (k : ℕ) (b : ℕ × ℕ) → All EndsInTime banks → slice_get banks k ≡ Some b → EndsInTime b
at_bank banks k b all e = subst EndsInTime (get_or_from_slice_get banks k b b e) (all k b (slice_get_within banks k b e))

pub admitted : (c : CommandValue) (w : WindowsValue) → IsHeader c → HasBytesAlone c → All EndsInTime w.banks → header_line c w ≡ None → MayBeJudged (header c.front c.tail)
admitted c w is_header bytes ends none =
    let one = first_case (not (is_used (command_kind c))) _ _ (no_fault (header_check c w) none) in
    let two = first_case (not (target_of c == w.node_address)) _ _ one.1 in
    let three = first_case (has_wrong_rmw_length (command_kind c) (length_of c)) _ _ two.1 in
    let four = first_case (verifies c && nat_lt VERIFY_BUFFER (length_of c)) _ _ three.1 in
    let five = first_case (nat_lt MAX_DATA (length_of c)) _ _ four.1 in
    let six = first_case (is_none (place_of c w)) _ _ five.1 in
    let few : length_of c ≤ 4096 = not_more (length_of c) five.0 in
    let lies : LiesInTime c = placed (slice_get w.banks (extended_of c)) c (λ b is. at_bank w.banks (extended_of c) b ends is) six.0 in
    record {
      header = record { front = is_header.front; tail = is_header.tail; front_bytes = bytes.front; tail_bytes = bytes.tail };
      span = span_by (command_kind c) (increments c) (length_of c == 0) (address_of c) (length_of c) refl (negated (is_used (command_kind c)) one.0) three.0 lies.0 few lies.1;
    }
  where
    not_more : (n : ℕ) → nat_lt MAX_DATA n ≡ false → n ≤ 4096
    not_more n t = grind (arith, nat_tests)

pub decide_alike : NodesDecideAlike
decide_alike asked old new same c w is_header bytes ends none lies reported one = same (header c.front c.tail) (admitted c w is_header bytes ends none) lies reported one
