-- Kinds one register after another, and a stack of which nothing is known.
use Rattle.std.proofs.Common.{◌≡◌, ℕ, zero, suc, false, List, [], ◌∷◌, length, replicate, refl, arith}
use Rattle.std.proofs.lemmas.List.{length-replicate}
use Rattle.bpf_parts.specs.declared.operation.Width.TheVariants.{Bits64}
use Rattle.absdom_num.specs.declared.ranges.Range.{Range}
use Rattle.absdom_num.specs.Ranges.{IsWithin}
use Rattle.absdom_num.specs.Tables.{whole_range}
use Rattle.absdom_stack.specs.Marks.{mark_at}
use Rattle.absdom_stack.specs.StackWords.{AreAllWhole, all_whole, range_in}
use Rattle.absdom.specs.declared.kinds.AbsKind.{AbsKind}
use Rattle.absdom.specs.declared.kinds.AbsKind.TheVariants.{Num}
use Rattle.absdom.specs.Kinds.{IsKindBelow}
use Rattle.absdom.specs.State.{AreKindsBelow, IsProper, kind_in}

-- any number
abbrev pub number : AbsKind
number = Num (whole_range Bits64)

pub proper_number : IsProper number
proper_number = record { in_order = omega arith; words = omega arith }

abbrev pub AreEachProper : List AbsKind → Type 0
AreEachProper [] = Unit {0}
AreEachProper (k ∷ ks) = IsProper k × AreEachProper ks

pub each_proper : (ks : List AbsKind) → AreEachProper ks → (register : ℕ) → IsProper (kind_in ks register)
each_proper [] h register = tt
each_proper (k ∷ ks) h zero = h.0
each_proper (k ∷ ks) h (suc register) = each_proper ks h.1 register

abbrev pub AreEachBelow : List AbsKind → List AbsKind → Type 0
AreEachBelow [] [] = Unit {0}
AreEachBelow [] (k ∷ ks) = ⊥
AreEachBelow (j ∷ js) [] = ⊥
AreEachBelow (j ∷ js) (k ∷ ks) = IsKindBelow j k × AreEachBelow js ks

pub each_below : (js ks : List AbsKind) → AreEachBelow js ks → AreKindsBelow js ks
each_below [] [] h register = tt
each_below [] (k ∷ ks) h register = absurd h
each_below (j ∷ js) [] h register = absurd h
each_below (j ∷ js) (k ∷ ks) h zero = h.0
each_below (j ∷ js) (k ∷ ks) h (suc register) = each_below js ks h.1 register

pub same_range : (r : Range) → IsWithin r r
same_range r = record { above = omega arith; below = omega arith }

pub many_words : length all_whole ≡ 64
unfolding all_whole
many_words = length-replicate 64 (whole_range Bits64)

-- nothing is known of any word of the stack
pub whole_word : AreAllWhole all_whole
unfolding all_whole
whole_word word = same_everywhere 64 word
  where
    same_everywhere : (count k : ℕ) → range_in (replicate count (whole_range Bits64)) k ≡ whole_range Bits64
    same_everywhere zero k = refl
    same_everywhere (suc count) zero = refl
    same_everywhere (suc count) (suc k) = same_everywhere count k

pub unmarked : (count place : ℕ) → mark_at (replicate count false) place ≡ false
unmarked zero place = refl
unmarked (suc count) zero = refl
unmarked (suc count) (suc place) = unmarked count place
