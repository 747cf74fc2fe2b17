-- Larger states give larger results.
use Rattle.std.proofs.Common.{◌≡◌, ℕ, ◌^◌, ◌<◌, ◌≤◌, ℤ, ◌+ℤ◌, ◌-ℤ◌, ◌≤ℤ◌, Bool, true, false, ◌&&◌, ◌||◌, nat_lt, nat_le, if◌then◌else◌, refl, sym, subst, arith, inl, inr, Some, None, Result, Ok, Err}
use Rattle.std.proofs.lemmas.Int.{ints}
use Rattle.std.proofs.lemmas.Bool.Decides.{nat_tests}
use Rattle.bpf_parts.specs.declared.operation.Width.{Width}
use Rattle.bpf_parts.specs.declared.operation.Width.TheVariants.{Bits32, Bits64}
use Rattle.bpf_parts.specs.declared.operation.AluOp.{AluOp}
use Rattle.bpf_parts.specs.declared.operation.AluOp.TheVariants.{Add, Sub, Mul, Div, SignedDiv, Or, And, Lsh, Rsh, Mod, SignedMod, Xor, Mov, Arsh}
use Rattle.machine.specs.declared.regions.Region.{Region}
use Rattle.machine.specs.Words.{signed_value}
use Rattle.absdom_num.specs.declared.ranges.Range.{Range}
use Rattle.absdom_num.specs.Ranges.{IsRange, IsWithin}
use Rattle.absdom_num.specs.Laws.{AluGrows}
use Rattle.absdom.specs.declared.cause.Cause.{Cause}
use Rattle.absdom.specs.declared.kinds.AbsKind.{AbsKind}
use Rattle.absdom.specs.declared.kinds.AbsKind.TheVariants.{Unset, Num, Ptr, Map}
use Rattle.absdom.specs.Offsets.{offsets_within, is_offset, AreAmong}
use Rattle.absdom.specs.Kinds.{same_region, number_of, IsKindBelow}
use Rattle.absdom.specs.Effect.{binary_kind, unary_kind, copied_kind, signed_ends, pointer_kind, offsets_up, offsets_down, sum_kind, difference_kind, alu_kind}
use Rattle.absdom.specs.State.{IsProper}
use Rattle.absdom.proofs.FitsAlu.{HasSign, sign_known, negatives_rise, sum_order, difference_order}

-- if the larger kind is not refused, neither is the smaller
abbrev pub IsKindGrown : (small large : Result AbsKind Cause) → Type 0
IsKindGrown small (Err cause) = Unit {0}
IsKindGrown (Err cause) (Ok large) = ⊥
IsKindGrown (Ok small) (Ok large) = IsKindBelow small large

pub computed_grows : AluGrows → (op : AluOp) (width : Width) (p q p' q' : AbsKind) → IsProper p → IsProper q → IsKindBelow p p' → IsKindBelow q q' → IsKindGrown (binary_kind op width (number_of p) (number_of q)) (binary_kind op width (number_of p') (number_of q'))
computed_grows grows op width p q Unset q' a b g h = tt
computed_grows grows op width p q (Ptr r o) q' a b g h = tt
computed_grows grows op width p q (Map i) q' a b g h = tt
computed_grows grows op width p q (Num c) Unset a b g h = tt
computed_grows grows op width p q (Num c) (Ptr r o) a b g h = tt
computed_grows grows op width p q (Num c) (Map i) a b g h = tt
computed_grows grows op width Unset q (Num c) (Num d) a b g h = absurd g
computed_grows grows op width (Ptr r o) q (Num c) (Num d) a b g h = absurd g
computed_grows grows op width (Map i) q (Num c) (Num d) a b g h = absurd g
computed_grows grows op width (Num x) Unset (Num c) (Num d) a b g h = absurd h
computed_grows grows op width (Num x) (Ptr r o) (Num c) (Num d) a b g h = absurd h
computed_grows grows op width (Num x) (Map i) (Num c) (Num d) a b g h = absurd h
computed_grows grows op width (Num x) (Num y) (Num c) (Num d) a b g h = grows op width x y c d a b g h

pub computed_alone_grows : (F : Range → Range) → ((a c : Range) → IsRange a → IsWithin a c → IsWithin (F a) (F c)) → (p p' : AbsKind) → IsProper p → IsKindBelow p p' → IsKindGrown (unary_kind F (number_of p)) (unary_kind F (number_of p'))
computed_alone_grows F grows p Unset a g = tt
computed_alone_grows F grows p (Ptr r o) a g = tt
computed_alone_grows F grows p (Map i) a g = tt
computed_alone_grows F grows Unset (Num c) a g = absurd g
computed_alone_grows F grows (Ptr r o) (Num c) a g = absurd g
computed_alone_grows F grows (Map i) (Num c) a g = absurd g
computed_alone_grows F grows (Num x) (Num c) a g = grows x c a g

copied_grows : AluGrows → (width : Width) (q q' : AbsKind) → IsProper q → IsKindBelow q q' → IsKindGrown (copied_kind width q) (copied_kind width q')
copied_grows grows width q Unset a g = tt
copied_grows grows width Unset (Num c) a g = absurd g
copied_grows grows width (Num x) (Num c) a g = grows Mov width x x c c a a g g
copied_grows grows width (Ptr r o) (Num c) a g = absurd g
copied_grows grows width (Map i) (Num c) a g = absurd g
copied_grows grows Bits32 q (Ptr s o) a g = tt
copied_grows grows Bits64 Unset (Ptr s o) a g = absurd g
copied_grows grows Bits64 (Num x) (Ptr s o) a g = absurd g
copied_grows grows Bits64 (Ptr r x) (Ptr s o) a g = g
copied_grows grows Bits64 (Map i) (Ptr s o) a g = absurd g
copied_grows grows Bits32 q (Map j) a g = tt
copied_grows grows Bits64 Unset (Map j) a g = absurd g
copied_grows grows Bits64 (Num x) (Map j) a g = absurd g
copied_grows grows Bits64 (Ptr r x) (Map j) a g = absurd g
copied_grows grows Bits64 (Map i) (Map j) a g = g

-- ---- pointers

-- an offset between two within the limits is within them
pub offset_between : (x y z : ℤ) → (is_offset x && is_offset y) ≡ true → x ≤ℤ z → z ≤ℤ y → is_offset z ≡ true
offset_between x y z e g h = grind (arith, ints)

-- moved within the limits
moved_grows : (r s : Region) (low high low' high' : ℤ) → same_region r s ≡ true → low ≤ℤ high → low' ≤ℤ low → high ≤ℤ high' → (t : Bool) → (is_offset low' && is_offset high') ≡ t → IsKindGrown (pointer_kind r (offsets_within low high)) (pointer_kind s (if t then Some (low', high') else None))
moved_grows r s low high low' high' e order above below false f = tt
moved_grows r s low high low' high' e order above below true f =
    let reach : low ≤ℤ high' = omega (arith, ints) in
    let start : low' ≤ℤ high = omega (arith, ints) in
    let first : is_offset low ≡ true = offset_between low' high' low f above reach in
    let last : is_offset high ≡ true = offset_between low' high' high f start below in
    rw (first, last) (e, record { above = above; below = below })

-- a number of the greater range between its ends, read as signed
rises : (a b : ℕ) (c : Range) → HasSign c → c.0 ≤ a → a ≤ b → b ≤ c.1 → signed_value Bits64 a ≤ℤ signed_value Bits64 b
rises a b c (inl s) g h k = omega (arith, ints)
rises a b c (inr s) g h k = negatives_rise a b h (omega arith)

sign_test : (b c : Range) → HasSign c → IsRange b → IsWithin b c → (nat_lt b.1 (2 ^ 63) || nat_le (2 ^ 63) b.0) ≡ true
sign_test b c (inl s) p w = let k : b.1 < 2 ^ 63 = omega (arith, w.below) in grind (arith, nat_tests)
sign_test b c (inr s) p w = let k : 2 ^ 63 ≤ b.0 = omega (arith, w.above) in grind (arith, nat_tests)

up_grows_by : (r s : Region) (o x : ℤ × ℤ) (b c : Range) → same_region r s ≡ true → AreAmong o x → o.0 ≤ℤ o.1 → IsRange b → IsWithin b c → (t : Bool) → (nat_lt c.1 (2 ^ 63) || nat_le (2 ^ 63) c.0) ≡ t → IsKindGrown (pointer_kind r (offsets_up o (signed_ends b))) (pointer_kind s (offsets_up x (if t then Some (signed_value Bits64 c.0, signed_value Bits64 c.1) else None)))
up_grows_by r s o x b c e g p q w false f = tt
up_grows_by r s o x b c e g p q w true f =
    let k : HasSign c = sign_known c f in
    let test : (nat_lt b.1 (2 ^ 63) || nat_le (2 ^ 63) b.0) ≡ true = sign_test b c k q w in
    let low : signed_value Bits64 c.0 ≤ℤ signed_value Bits64 b.0 = rises c.0 b.0 c k (omega arith) w.above (omega (arith, q.in_order, w.below)) in
    let mid : signed_value Bits64 b.0 ≤ℤ signed_value Bits64 b.1 = rises b.0 b.1 c k w.above q.in_order w.below in
    let high : signed_value Bits64 b.1 ≤ℤ signed_value Bits64 c.1 = rises b.1 c.1 c k (omega (arith, q.in_order, w.above)) w.below (omega arith) in
    let P : Bool → Type 0 = λ t. IsKindGrown (pointer_kind r (offsets_up o (if t then Some (signed_value Bits64 b.0, signed_value Bits64 b.1) else None))) (pointer_kind s (offsets_up x (Some (signed_value Bits64 c.0, signed_value Bits64 c.1)))) in
    subst P (sym test)
    (moved_grows r s (o.0 +ℤ signed_value Bits64 b.0) (o.1 +ℤ signed_value Bits64 b.1) (x.0 +ℤ signed_value Bits64 c.0) (x.1 +ℤ signed_value Bits64 c.1) e (sum_order o.0 o.1 _ _ p mid) (sum_order x.0 o.0 _ _ g.above low) (sum_order o.1 x.1 _ _ g.below high) (is_offset (x.0 +ℤ signed_value Bits64 c.0) && is_offset (x.1 +ℤ signed_value Bits64 c.1)) refl)

down_grows_by : (r s : Region) (o x : ℤ × ℤ) (b c : Range) → same_region r s ≡ true → AreAmong o x → o.0 ≤ℤ o.1 → IsRange b → IsWithin b c → (t : Bool) → (nat_lt c.1 (2 ^ 63) || nat_le (2 ^ 63) c.0) ≡ t → IsKindGrown (pointer_kind r (offsets_down o (signed_ends b))) (pointer_kind s (offsets_down x (if t then Some (signed_value Bits64 c.0, signed_value Bits64 c.1) else None)))
down_grows_by r s o x b c e g p q w false f = tt
down_grows_by r s o x b c e g p q w true f =
    let k : HasSign c = sign_known c f in
    let test : (nat_lt b.1 (2 ^ 63) || nat_le (2 ^ 63) b.0) ≡ true = sign_test b c k q w in
    let low : signed_value Bits64 c.0 ≤ℤ signed_value Bits64 b.0 = rises c.0 b.0 c k (omega arith) w.above (omega (arith, q.in_order, w.below)) in
    let mid : signed_value Bits64 b.0 ≤ℤ signed_value Bits64 b.1 = rises b.0 b.1 c k w.above q.in_order w.below in
    let high : signed_value Bits64 b.1 ≤ℤ signed_value Bits64 c.1 = rises b.1 c.1 c k (omega (arith, q.in_order, w.above)) w.below (omega arith) in
    let P : Bool → Type 0 = λ t. IsKindGrown (pointer_kind r (offsets_down o (if t then Some (signed_value Bits64 b.0, signed_value Bits64 b.1) else None))) (pointer_kind s (offsets_down x (Some (signed_value Bits64 c.0, signed_value Bits64 c.1)))) in
    subst P (sym test)
    (moved_grows r s (o.0 -ℤ signed_value Bits64 b.1) (o.1 -ℤ signed_value Bits64 b.0) (x.0 -ℤ signed_value Bits64 c.1) (x.1 -ℤ signed_value Bits64 c.0) e (difference_order o.0 o.1 _ _ p mid) (difference_order x.0 o.0 _ _ g.above high) (difference_order o.1 x.1 _ _ g.below low) (is_offset (x.0 -ℤ signed_value Bits64 c.1) && is_offset (x.1 -ℤ signed_value Bits64 c.0)) refl)

sum_grows : AluGrows → (width : Width) (p q p' q' : AbsKind) → IsProper p → IsProper q → IsKindBelow p p' → IsKindBelow q q' → IsKindGrown (sum_kind width p q) (sum_kind width p' q')
sum_grows grows Bits32 p q p' q' a b g h = computed_grows grows Add Bits32 p q p' q' a b g h
sum_grows grows Bits64 p q Unset q' a b g h = tt
sum_grows grows Bits64 Unset q (Num c) q' a b g h = absurd g
sum_grows grows Bits64 (Num x) q (Num c) q' a b g h = computed_grows grows Add Bits64 (Num x) q (Num c) q' a b g h
sum_grows grows Bits64 (Ptr r o) q (Num c) q' a b g h = absurd g
sum_grows grows Bits64 (Map i) q (Num c) q' a b g h = absurd g
sum_grows grows Bits64 p q (Map j) q' a b g h = tt
sum_grows grows Bits64 p q (Ptr s x) Unset a b g h = tt
sum_grows grows Bits64 p q (Ptr s x) (Ptr t y) a b g h = tt
sum_grows grows Bits64 p q (Ptr s x) (Map j) a b g h = tt
sum_grows grows Bits64 Unset q (Ptr s x) (Num d) a b g h = absurd g
sum_grows grows Bits64 (Num n) q (Ptr s x) (Num d) a b g h = absurd g
sum_grows grows Bits64 (Map i) q (Ptr s x) (Num d) a b g h = absurd g
sum_grows grows Bits64 (Ptr r o) Unset (Ptr s x) (Num d) a b g h = absurd h
sum_grows grows Bits64 (Ptr r o) (Ptr t y) (Ptr s x) (Num d) a b g h = absurd h
sum_grows grows Bits64 (Ptr r o) (Map i) (Ptr s x) (Num d) a b g h = absurd h
sum_grows grows Bits64 (Ptr r o) (Num n) (Ptr s x) (Num d) a b g h =
    up_grows_by r s o x n d g.0 g.1 a b h (nat_lt d.1 (2 ^ 63) || nat_le (2 ^ 63) d.0) refl

difference_grows : AluGrows → (width : Width) (p q p' q' : AbsKind) → IsProper p → IsProper q → IsKindBelow p p' → IsKindBelow q q' → IsKindGrown (difference_kind width p q) (difference_kind width p' q')
difference_grows grows Bits32 p q p' q' a b g h = computed_grows grows Sub Bits32 p q p' q' a b g h
difference_grows grows Bits64 p q Unset q' a b g h = tt
difference_grows grows Bits64 Unset q (Num c) q' a b g h = absurd g
difference_grows grows Bits64 (Num x) q (Num c) q' a b g h = computed_grows grows Sub Bits64 (Num x) q (Num c) q' a b g h
difference_grows grows Bits64 (Ptr r o) q (Num c) q' a b g h = absurd g
difference_grows grows Bits64 (Map i) q (Num c) q' a b g h = absurd g
difference_grows grows Bits64 p q (Map j) q' a b g h = tt
difference_grows grows Bits64 p q (Ptr s x) Unset a b g h = tt
difference_grows grows Bits64 p q (Ptr s x) (Ptr t y) a b g h = tt
difference_grows grows Bits64 p q (Ptr s x) (Map j) a b g h = tt
difference_grows grows Bits64 Unset q (Ptr s x) (Num d) a b g h = absurd g
difference_grows grows Bits64 (Num n) q (Ptr s x) (Num d) a b g h = absurd g
difference_grows grows Bits64 (Map i) q (Ptr s x) (Num d) a b g h = absurd g
difference_grows grows Bits64 (Ptr r o) Unset (Ptr s x) (Num d) a b g h = absurd h
difference_grows grows Bits64 (Ptr r o) (Ptr t y) (Ptr s x) (Num d) a b g h = absurd h
difference_grows grows Bits64 (Ptr r o) (Map i) (Ptr s x) (Num d) a b g h = absurd h
difference_grows grows Bits64 (Ptr r o) (Num n) (Ptr s x) (Num d) a b g h =
    down_grows_by r s o x n d g.0 g.1 a b h (nat_lt d.1 (2 ^ 63) || nat_le (2 ^ 63) d.0) refl

pub alu_grows : AluGrows → (op : AluOp) (width : Width) (p q p' q' : AbsKind) → IsProper p → IsProper q → IsKindBelow p p' → IsKindBelow q q' → IsKindGrown (alu_kind op width p q) (alu_kind op width p' q')
alu_grows grows Add width p q p' q' a b g h = sum_grows grows width p q p' q' a b g h
alu_grows grows Sub width p q p' q' a b g h = difference_grows grows width p q p' q' a b g h
alu_grows grows Mov width p q p' q' a b g h = copied_grows grows width q q' b h
alu_grows grows Mul width p q p' q' a b g h = computed_grows grows Mul width p q p' q' a b g h
alu_grows grows Div width p q p' q' a b g h = computed_grows grows Div width p q p' q' a b g h
alu_grows grows SignedDiv width p q p' q' a b g h = computed_grows grows SignedDiv width p q p' q' a b g h
alu_grows grows Or width p q p' q' a b g h = computed_grows grows Or width p q p' q' a b g h
alu_grows grows And width p q p' q' a b g h = computed_grows grows And width p q p' q' a b g h
alu_grows grows Lsh width p q p' q' a b g h = computed_grows grows Lsh width p q p' q' a b g h
alu_grows grows Rsh width p q p' q' a b g h = computed_grows grows Rsh width p q p' q' a b g h
alu_grows grows Mod width p q p' q' a b g h = computed_grows grows Mod width p q p' q' a b g h
alu_grows grows SignedMod width p q p' q' a b g h = computed_grows grows SignedMod width p q p' q' a b g h
alu_grows grows Xor width p q p' q' a b g h = computed_grows grows Xor width p q p' q' a b g h
alu_grows grows Arsh width p q p' q' a b g h = computed_grows grows Arsh width p q p' q' a b g h
