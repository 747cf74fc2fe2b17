-- What arithmetic gives fits what is known of it.
use Rattle.std.proofs.Common.{◌≡◌, ℕ, suc, ◌-◌, ◌^◌, ◌<◌, ◌≤◌, ℤ, negsuc, ◌+ℤ◌, ◌-ℤ◌, ◌≤ℤ◌, Bool, true, false, ◌&&◌, ◌||◌, nat_lt, nat_le, if◌then◌else◌, refl, sym, subst, arith, ◌⊎◌, inl, inr, Option, Some, None, Result, Ok, Err}
use Rattle.std.proofs.lemmas.Int.{ints}
use Rattle.std.proofs.lemmas.Bool.Decides.{nat_tests}
use Rattle.bpf_parts.specs.declared.operation.Width.{Width}
use Rattle.bpf_parts.specs.declared.operation.Width.TheVariants.{Bits32, Bits64}
use Rattle.bpf_parts.specs.declared.operation.AluOp.{AluOp}
use Rattle.bpf_parts.specs.declared.operation.AluOp.TheVariants.{Add, Sub, Mul, Div, SignedDiv, Or, And, Lsh, Rsh, Mod, SignedMod, Xor, Mov, Arsh}
use Rattle.machine.specs.declared.regions.Region.{Region}
use Rattle.machine.specs.declared.values.Value.{Value}
use Rattle.machine.specs.declared.values.Value.TheVariants.{Unset as Nothing, Num as Number, Ptr as Pointer, Map as MapOf}
use Rattle.machine.specs.Words.{signed_value}
use Rattle.machine.specs.Step.{alu, copied_value, number_result}
use Rattle.absdom_num.specs.declared.ranges.Range.{Range}
use Rattle.absdom_num.specs.Ranges.{IsIn}
use Rattle.absdom_num.specs.Laws.{AluFits}
use Rattle.absdom.specs.declared.cause.Cause.{Cause}
use Rattle.absdom.specs.declared.kinds.AbsKind.{AbsKind}
use Rattle.absdom.specs.declared.kinds.AbsKind.TheVariants.{Unset, Num, Ptr, Map}
use Rattle.absdom.specs.Offsets.{offsets_within, is_offset}
use Rattle.absdom.specs.Kinds.{number_of}
use Rattle.absdom.specs.Effect.{binary_kind, unary_kind, copied_kind, signed_ends, pointer_kind, offsets_up, offsets_down, sum_kind, difference_kind, alu_kind}
use Rattle.absdom.specs.Fits.{IsAmong, FitsKind}

-- if an operation is not refused, the machine gives a value that fits
abbrev pub FitsResult : Option Value → Result AbsKind Cause → Type 0
FitsResult value (Err cause) = Unit {0}
FitsResult None (Ok kind) = ⊥
FitsResult (Some value) (Ok kind) = FitsKind value kind

pub computed_fits : AluFits → (op : AluOp) (width : Width) (u v : Value) (p q : AbsKind) → FitsKind u p → FitsKind v q → FitsResult (alu op width u v) (binary_kind op width (number_of p) (number_of q))
computed_fits fits op width u v Unset q g h = tt
computed_fits fits op width u v (Ptr r o) q g h = tt
computed_fits fits op width u v (Map i) q g h = tt
computed_fits fits op width u v (Num a) Unset g h = tt
computed_fits fits op width u v (Num a) (Ptr r o) g h = tt
computed_fits fits op width u v (Num a) (Map i) g h = tt
computed_fits fits op width Nothing v (Num a) (Num b) g h = absurd g
computed_fits fits op width (Pointer r z) v (Num a) (Num b) g h = absurd g
computed_fits fits op width (MapOf i) v (Num a) (Num b) g h = absurd g
computed_fits fits op width (Number n) Nothing (Num a) (Num b) g h = absurd h
computed_fits fits op width (Number n) (Pointer r z) (Num a) (Num b) g h = absurd h
computed_fits fits op width (Number n) (MapOf i) (Num a) (Num b) g h = absurd h
computed_fits fits op width (Number n) (Number m) (Num a) (Num b) g h = fits op width a b n m g h

-- MOV does not read its destination
pub alu-Mov : (width : Width) (u v : Value) → alu Mov width u v ≡ copied_value width v
alu-Mov width Nothing v = refl
alu-Mov width (MapOf i) v = refl
alu-Mov width (Number n) Nothing = refl
alu-Mov width (Number n) (Number m) = refl
alu-Mov width (Number n) (Pointer r z) = refl
alu-Mov width (Number n) (MapOf i) = refl
alu-Mov Bits32 (Pointer s x) Nothing = refl
alu-Mov Bits32 (Pointer s x) (Number m) = refl
alu-Mov Bits32 (Pointer s x) (Pointer r z) = refl
alu-Mov Bits32 (Pointer s x) (MapOf i) = refl
alu-Mov Bits64 (Pointer s x) Nothing = refl
alu-Mov Bits64 (Pointer s x) (Number m) = refl
alu-Mov Bits64 (Pointer s x) (Pointer r z) = refl
alu-Mov Bits64 (Pointer s x) (MapOf i) = refl

pub copied_fits : AluFits → (width : Width) (v : Value) (q : AbsKind) → FitsKind v q → FitsResult (copied_value width v) (copied_kind width q)
copied_fits fits width v Unset h = tt
copied_fits fits width Nothing (Num a) h = absurd h
copied_fits fits width (Number n) (Num a) h = fits Mov width a a n n h h
copied_fits fits width (Pointer r z) (Num a) h = absurd h
copied_fits fits width (MapOf i) (Num a) h = absurd h
copied_fits fits Bits32 v (Ptr s o) h = tt
copied_fits fits Bits64 Nothing (Ptr s o) h = absurd h
copied_fits fits Bits64 (Number n) (Ptr s o) h = absurd h
copied_fits fits Bits64 (Pointer r z) (Ptr s o) h = h
copied_fits fits Bits64 (MapOf i) (Ptr s o) h = absurd h
copied_fits fits Bits32 v (Map j) h = tt
copied_fits fits Bits64 Nothing (Map j) h = absurd h
copied_fits fits Bits64 (Number n) (Map j) h = absurd h
copied_fits fits Bits64 (Pointer r z) (Map j) h = absurd h
copied_fits fits Bits64 (MapOf i) (Map j) h = h

-- the sign of all numbers in a range is known
abbrev pub HasSign : Range → Type 0
HasSign b = (b.1 < 2 ^ 63) ⊎ (2 ^ 63 ≤ b.0)

pub sign_known : (b : Range) → (nat_lt b.1 (2 ^ 63) || nat_le (2 ^ 63) b.0) ≡ true → HasSign b
sign_known b e = grind (arith, nat_tests)

-- a word with its highest bit set, read as signed
pub negative_is : (n : ℕ) → 2 ^ 63 ≤ n → signed_value Bits64 n ≡ negsuc (2 ^ 64 - suc n)
negative_is n h = let e : nat_lt n (2 ^ 63) ≡ false = grind (arith, nat_tests) in rw e refl

pub negatives_rise : (a b : ℕ) → a ≤ b → 2 ^ 63 ≤ a → signed_value Bits64 a ≤ℤ signed_value Bits64 b
negatives_rise a b h k =
    let m : 2 ^ 63 ≤ b = omega arith in
    rw (negative_is a k, negative_is b m) (omega (arith, ints))

pub signed_above : (b : Range) (m : ℕ) → HasSign b → IsIn m b → signed_value Bits64 b.0 ≤ℤ signed_value Bits64 m
signed_above b m (inl s) h = omega (arith, ints)
signed_above b m (inr s) h = negatives_rise b.0 m h.above s

pub signed_below : (b : Range) (m : ℕ) → HasSign b → IsIn m b → signed_value Bits64 m ≤ℤ signed_value Bits64 b.1
signed_below b m (inl s) h = omega (arith, ints)
signed_below b m (inr s) h = negatives_rise m b.1 h.below (omega (arith, h.above))

-- within the limits or not, the offset is among the new ones
pub moved_fits : (r s : Region) (z low high : ℤ) → r ≡ s → low ≤ℤ z → z ≤ℤ high → FitsResult (Some (Pointer r z)) (pointer_kind s (offsets_within low high))
moved_fits r s z low high e above below =
    elim (is_offset low && is_offset high) as (λ b. FitsResult (Some (Pointer r z)) (pointer_kind s (if b then Some (low, high) else None))) [
      | true ↦ (e, record { above = above; below = below })
      | false ↦ tt
    ]

pub sum_order : (a b c d : ℤ) → a ≤ℤ b → c ≤ℤ d → (a +ℤ c) ≤ℤ (b +ℤ d)
sum_order a b c d g h = omega (arith, ints)

pub difference_order : (a b c d : ℤ) → a ≤ℤ b → c ≤ℤ d → (a -ℤ d) ≤ℤ (b -ℤ c)
difference_order a b c d g h = omega (arith, ints)

-- a pointer that moves up by a number of known sign; if the sign is unknown, it is refused
up_by_test : (r s : Region) (z : ℤ) (o : ℤ × ℤ) (m : ℕ) (b : Range) → r ≡ s → IsAmong z o → IsIn m b → (t : Bool) → (nat_lt b.1 (2 ^ 63) || nat_le (2 ^ 63) b.0) ≡ t → FitsResult (Some (Pointer r (z +ℤ signed_value Bits64 m))) (pointer_kind s (offsets_up o (if t then Some (signed_value Bits64 b.0, signed_value Bits64 b.1) else None)))
up_by_test r s z o m b e h i false t = tt
up_by_test r s z o m b e h i true t =
    let k : HasSign b = sign_known b t in
    let above : signed_value Bits64 b.0 ≤ℤ signed_value Bits64 m = signed_above b m k i in
    let below : signed_value Bits64 m ≤ℤ signed_value Bits64 b.1 = signed_below b m k i in
    moved_fits r s (z +ℤ signed_value Bits64 m) (o.0 +ℤ signed_value Bits64 b.0) (o.1 +ℤ signed_value Bits64 b.1) e (sum_order o.0 z _ _ h.above above) (sum_order z o.1 _ _ h.below below)

pub up_fits : (r s : Region) (z : ℤ) (o : ℤ × ℤ) (m : ℕ) (b : Range) → r ≡ s → IsAmong z o → IsIn m b → FitsResult (Some (Pointer r (z +ℤ signed_value Bits64 m))) (pointer_kind s (offsets_up o (signed_ends b)))
up_fits r s z o m b e h i = up_by_test r s z o m b e h i (nat_lt b.1 (2 ^ 63) || nat_le (2 ^ 63) b.0) refl

-- and down
down_by_test : (r s : Region) (z : ℤ) (o : ℤ × ℤ) (m : ℕ) (b : Range) → r ≡ s → IsAmong z o → IsIn m b → (t : Bool) → (nat_lt b.1 (2 ^ 63) || nat_le (2 ^ 63) b.0) ≡ t → FitsResult (Some (Pointer r (z -ℤ signed_value Bits64 m))) (pointer_kind s (offsets_down o (if t then Some (signed_value Bits64 b.0, signed_value Bits64 b.1) else None)))
down_by_test r s z o m b e h i false t = tt
down_by_test r s z o m b e h i true t =
    let k : HasSign b = sign_known b t in
    let above : signed_value Bits64 b.0 ≤ℤ signed_value Bits64 m = signed_above b m k i in
    let below : signed_value Bits64 m ≤ℤ signed_value Bits64 b.1 = signed_below b m k i in
    moved_fits r s (z -ℤ signed_value Bits64 m) (o.0 -ℤ signed_value Bits64 b.1) (o.1 -ℤ signed_value Bits64 b.0) e (difference_order o.0 z _ _ h.above below) (difference_order z o.1 _ _ h.below above)

pub down_fits : (r s : Region) (z : ℤ) (o : ℤ × ℤ) (m : ℕ) (b : Range) → r ≡ s → IsAmong z o → IsIn m b → FitsResult (Some (Pointer r (z -ℤ signed_value Bits64 m))) (pointer_kind s (offsets_down o (signed_ends b)))
down_fits r s z o m b e h i = down_by_test r s z o m b e h i (nat_lt b.1 (2 ^ 63) || nat_le (2 ^ 63) b.0) refl

pub sum_fits : AluFits → (width : Width) (u v : Value) (p q : AbsKind) → FitsKind u p → FitsKind v q → FitsResult (alu Add width u v) (sum_kind width p q)
sum_fits fits Bits32 u v p q g h = computed_fits fits Add Bits32 u v p q g h
sum_fits fits Bits64 u v Unset q g h = tt
sum_fits fits Bits64 u v (Num a) q g h = computed_fits fits Add Bits64 u v (Num a) q g h
sum_fits fits Bits64 u v (Map i) q g h = tt
sum_fits fits Bits64 u v (Ptr s o) Unset g h = tt
sum_fits fits Bits64 u v (Ptr s o) (Ptr t x) g h = tt
sum_fits fits Bits64 u v (Ptr s o) (Map i) g h = tt
sum_fits fits Bits64 Nothing v (Ptr s o) (Num b) g h = absurd g
sum_fits fits Bits64 (Number n) v (Ptr s o) (Num b) g h = absurd g
sum_fits fits Bits64 (MapOf i) v (Ptr s o) (Num b) g h = absurd g
sum_fits fits Bits64 (Pointer r z) Nothing (Ptr s o) (Num b) g h = absurd h
sum_fits fits Bits64 (Pointer r z) (Pointer t x) (Ptr s o) (Num b) g h = absurd h
sum_fits fits Bits64 (Pointer r z) (MapOf i) (Ptr s o) (Num b) g h = absurd h
sum_fits fits Bits64 (Pointer r z) (Number m) (Ptr s o) (Num b) g h = up_fits r s z o m b g.0 g.1 h

pub difference_fits : AluFits → (width : Width) (u v : Value) (p q : AbsKind) → FitsKind u p → FitsKind v q → FitsResult (alu Sub width u v) (difference_kind width p q)
difference_fits fits Bits32 u v p q g h = computed_fits fits Sub Bits32 u v p q g h
difference_fits fits Bits64 u v Unset q g h = tt
difference_fits fits Bits64 u v (Num a) q g h = computed_fits fits Sub Bits64 u v (Num a) q g h
difference_fits fits Bits64 u v (Map i) q g h = tt
difference_fits fits Bits64 u v (Ptr s o) Unset g h = tt
difference_fits fits Bits64 u v (Ptr s o) (Ptr t x) g h = tt
difference_fits fits Bits64 u v (Ptr s o) (Map i) g h = tt
difference_fits fits Bits64 Nothing v (Ptr s o) (Num b) g h = absurd g
difference_fits fits Bits64 (Number n) v (Ptr s o) (Num b) g h = absurd g
difference_fits fits Bits64 (MapOf i) v (Ptr s o) (Num b) g h = absurd g
difference_fits fits Bits64 (Pointer r z) Nothing (Ptr s o) (Num b) g h = absurd h
difference_fits fits Bits64 (Pointer r z) (Pointer t x) (Ptr s o) (Num b) g h = absurd h
difference_fits fits Bits64 (Pointer r z) (MapOf i) (Ptr s o) (Num b) g h = absurd h
difference_fits fits Bits64 (Pointer r z) (Number m) (Ptr s o) (Num b) g h = down_fits r s z o m b g.0 g.1 h

pub alu_fits : AluFits → (op : AluOp) (width : Width) (u v : Value) (p q : AbsKind) → FitsKind u p → FitsKind v q → FitsResult (alu op width u v) (alu_kind op width p q)
alu_fits fits Add width u v p q g h = sum_fits fits width u v p q g h
alu_fits fits Sub width u v p q g h = difference_fits fits width u v p q g h
alu_fits fits Mul width u v p q g h = computed_fits fits Mul width u v p q g h
alu_fits fits Div width u v p q g h = computed_fits fits Div width u v p q g h
alu_fits fits SignedDiv width u v p q g h = computed_fits fits SignedDiv width u v p q g h
alu_fits fits Or width u v p q g h = computed_fits fits Or width u v p q g h
alu_fits fits And width u v p q g h = computed_fits fits And width u v p q g h
alu_fits fits Lsh width u v p q g h = computed_fits fits Lsh width u v p q g h
alu_fits fits Rsh width u v p q g h = computed_fits fits Rsh width u v p q g h
alu_fits fits Mod width u v p q g h = computed_fits fits Mod width u v p q g h
alu_fits fits SignedMod width u v p q g h = computed_fits fits SignedMod width u v p q g h
alu_fits fits Xor width u v p q g h = computed_fits fits Xor width u v p q g h
alu_fits fits Arsh width u v p q g h = computed_fits fits Arsh width u v p q g h
alu_fits fits Mov width u v p q g h =
    let P : Option Value → Type 0 = λ o. FitsResult o (copied_kind width q) in
    subst P (sym (alu-Mov width u v)) (copied_fits fits width v q h)

-- an operation on one number
pub computed_alone_fits : (f : ℕ → ℕ) (F : Range → Range) → ((a : Range) (n : ℕ) → IsIn n a → IsIn (f n) (F a)) → (u : Value) (p : AbsKind) → FitsKind u p → FitsResult (number_result f u) (unary_kind F (number_of p))
computed_alone_fits f F fits u Unset g = tt
computed_alone_fits f F fits u (Ptr r o) g = tt
computed_alone_fits f F fits u (Map i) g = tt
computed_alone_fits f F fits Nothing (Num a) g = absurd g
computed_alone_fits f F fits (Number n) (Num a) g = fits a n g
computed_alone_fits f F fits (Pointer r z) (Num a) g = absurd g
computed_alone_fits f F fits (MapOf i) (Num a) g = absurd g
