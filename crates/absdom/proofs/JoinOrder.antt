-- A joint state is the least that is above both.
use Rattle.std.proofs.Common.{◌≡◌, ℕ, ℤ, Bool, true, false, ◌&&◌, ◌==◌, if◌then◌else◌, refl, sym, ◌∙◌, subst, arith}
use Rattle.std.proofs.lemmas.Int.{ints, clamps}
use Rattle.std.proofs.lemmas.Bool.Decides.{nat_tests}
use Rattle.machine.specs.declared.regions.Region.{Region}
use Rattle.absdom_num.specs.Ranges.{IsWithin, joined_ranges}
use Rattle.absdom.specs.declared.kinds.AbsKind.{AbsKind}
use Rattle.absdom.specs.declared.kinds.AbsKind.TheVariants.{Unset, Num, Ptr, Map}
use Rattle.absdom.specs.Offsets.{joined_offsets, AreAmong}
use Rattle.absdom.specs.Kinds.{same_region, joined_kinds, IsKindBelow}
use Rattle.absdom.specs.State.{IsStateBelow, kind_at, range_at}
use Rattle.absdom_stack.specs.Marks.{mark_at}
use Rattle.absdom.specs.Laws.{JoinIsAbove, JoinIsLeast, JoinGrows}
use Rattle.absdom.proofs.Order.{region_from_test, same_region-refl, below_is_transitive}

range_left : (a b : ℕ × ℕ) → IsWithin a (joined_ranges a b)
range_left a b = record { above = omega arith; below = omega arith }

range_right : (a b : ℕ × ℕ) → IsWithin b (joined_ranges a b)
range_right a b = record { above = omega arith; below = omega arith }

range_least : (a b c : ℕ × ℕ) → IsWithin a c → IsWithin b c → IsWithin (joined_ranges a b) c
range_least a b c g h = record { above = omega (arith, g.above, h.above); below = omega (arith, g.below, h.below) }

offsets_left : (a b : ℤ × ℤ) → AreAmong a (joined_offsets a b)
offsets_left a b = record { above = omega (arith, ints, clamps); below = omega (arith, ints, clamps) }

offsets_right : (a b : ℤ × ℤ) → AreAmong b (joined_offsets a b)
offsets_right a b = record { above = omega (arith, ints, clamps); below = omega (arith, ints, clamps) }

offsets_least : (a b c : ℤ × ℤ) → AreAmong a c → AreAmong b c → AreAmong (joined_offsets a b) c
offsets_least a b c g h =
    record { above = omega (arith, ints, clamps, g.above, h.above); below = omega (arith, ints, clamps, g.below, h.below) }

-- by whether the regions are one
pointer_left : (r s : Region) (a b : ℤ × ℤ) (t : Bool) → same_region r s ≡ t → IsKindBelow (Ptr r a) (if t then Ptr r (joined_offsets a b) else Unset)
pointer_left r s a b false e = tt
pointer_left r s a b true e = (same_region-refl r, offsets_left a b)

pointer_right : (r s : Region) (a b : ℤ × ℤ) (t : Bool) → same_region r s ≡ t → IsKindBelow (Ptr s b) (if t then Ptr r (joined_offsets a b) else Unset)
pointer_right r s a b false e = tt
pointer_right r s a b true e =
    let same : s ≡ r = sym (region_from_test r s e) in
    let P : Region → Type 0 = λ x. same_region s x ≡ true in
    (subst P same (same_region-refl s), offsets_right a b)

pointer_least : (r s t : Region) (a b c : ℤ × ℤ) → IsKindBelow (Ptr r a) (Ptr t c) → IsKindBelow (Ptr s b) (Ptr t c) → (u : Bool) → same_region r s ≡ u → IsKindBelow (if u then Ptr r (joined_offsets a b) else Unset) (Ptr t c)
pointer_least r s t a b c g h true e = (g.0, offsets_least a b c g.1 h.1)
pointer_least r s t a b c g h false e =
    let same : r ≡ s = region_from_test r t g.0 ∙ sym (region_from_test s t h.0) in
    let P : Region → Type 0 = λ x. same_region r x ≡ true in
    let yes : same_region r s ≡ true = subst P same (same_region-refl r) in
    let no : true ≡ false = sym yes ∙ e in
    absurd cc

map_left : (i j : ℕ) (t : Bool) → (i == j) ≡ t → IsKindBelow (Map i) (if t then Map i else Unset)
map_left i j false e = tt
map_left i j true e = refl

map_right : (i j : ℕ) (t : Bool) → (i == j) ≡ t → IsKindBelow (Map j) (if t then Map i else Unset)
map_right i j false e = tt
map_right i j true e = let same : j ≡ i = grind (arith, nat_tests) in same

map_least : (i j l : ℕ) → i ≡ l → j ≡ l → (t : Bool) → (i == j) ≡ t → IsKindBelow (if t then Map i else Unset) (Map l)
map_least i j l g h true e = g
map_least i j l g h false e = let ne : i ≡ j → ⊥ = grind (arith, nat_tests) in absurd (ne (g ∙ sym h))

pub kind_left : (p q : AbsKind) → IsKindBelow p (joined_kinds p q)
kind_left Unset q = tt
kind_left (Num a) Unset = tt
kind_left (Num a) (Num b) = range_left a b
kind_left (Num a) (Ptr s b) = tt
kind_left (Num a) (Map j) = tt
kind_left (Ptr r a) Unset = tt
kind_left (Ptr r a) (Num b) = tt
kind_left (Ptr r a) (Ptr s b) = pointer_left r s a b (same_region r s) refl
kind_left (Ptr r a) (Map j) = tt
kind_left (Map i) Unset = tt
kind_left (Map i) (Num b) = tt
kind_left (Map i) (Ptr s b) = tt
kind_left (Map i) (Map j) = map_left i j (i == j) refl

above_unset : (q : AbsKind) → IsKindBelow q Unset
above_unset Unset = tt
above_unset (Num b) = tt
above_unset (Ptr s b) = tt
above_unset (Map j) = tt

pub kind_right : (p q : AbsKind) → IsKindBelow q (joined_kinds p q)
kind_right Unset q = above_unset q
kind_right (Num a) Unset = tt
kind_right (Num a) (Num b) = range_right a b
kind_right (Num a) (Ptr s b) = tt
kind_right (Num a) (Map j) = tt
kind_right (Ptr r a) Unset = tt
kind_right (Ptr r a) (Num b) = tt
kind_right (Ptr r a) (Ptr s b) = pointer_right r s a b (same_region r s) refl
kind_right (Ptr r a) (Map j) = tt
kind_right (Map i) Unset = tt
kind_right (Map i) (Num b) = tt
kind_right (Map i) (Ptr s b) = tt
kind_right (Map i) (Map j) = map_right i j (i == j) refl

pub kind_least : (p q k : AbsKind) → IsKindBelow p k → IsKindBelow q k → IsKindBelow (joined_kinds p q) k
kind_least p q Unset g h = above_unset (joined_kinds p q)
kind_least Unset q (Num c) g h = absurd g
kind_least (Num a) Unset (Num c) g h = absurd h
kind_least (Num a) (Num b) (Num c) g h = range_least a b c g h
kind_least (Num a) (Ptr br b) (Num c) g h = absurd h
kind_least (Num a) (Map b) (Num c) g h = absurd h
kind_least (Ptr ar a) Unset (Num c) g h = absurd g
kind_least (Ptr ar a) (Num b) (Num c) g h = absurd g
kind_least (Ptr ar a) (Ptr br b) (Num c) g h = absurd g
kind_least (Ptr ar a) (Map b) (Num c) g h = absurd g
kind_least (Map a) Unset (Num c) g h = absurd g
kind_least (Map a) (Num b) (Num c) g h = absurd g
kind_least (Map a) (Ptr br b) (Num c) g h = absurd g
kind_least (Map a) (Map b) (Num c) g h = absurd g
kind_least Unset q (Ptr cr c) g h = absurd g
kind_least (Num a) Unset (Ptr cr c) g h = absurd g
kind_least (Num a) (Num b) (Ptr cr c) g h = absurd g
kind_least (Num a) (Ptr br b) (Ptr cr c) g h = absurd g
kind_least (Num a) (Map b) (Ptr cr c) g h = absurd g
kind_least (Ptr ar a) Unset (Ptr cr c) g h = absurd h
kind_least (Ptr ar a) (Num b) (Ptr cr c) g h = absurd h
kind_least (Ptr ar a) (Ptr br b) (Ptr cr c) g h = pointer_least ar br cr a b c g h (same_region ar br) refl
kind_least (Ptr ar a) (Map b) (Ptr cr c) g h = absurd h
kind_least (Map a) Unset (Ptr cr c) g h = absurd g
kind_least (Map a) (Num b) (Ptr cr c) g h = absurd g
kind_least (Map a) (Ptr br b) (Ptr cr c) g h = absurd g
kind_least (Map a) (Map b) (Ptr cr c) g h = absurd g
kind_least Unset q (Map c) g h = absurd g
kind_least (Num a) Unset (Map c) g h = absurd g
kind_least (Num a) (Num b) (Map c) g h = absurd g
kind_least (Num a) (Ptr br b) (Map c) g h = absurd g
kind_least (Num a) (Map b) (Map c) g h = absurd g
kind_least (Ptr ar a) Unset (Map c) g h = absurd g
kind_least (Ptr ar a) (Num b) (Map c) g h = absurd g
kind_least (Ptr ar a) (Ptr br b) (Map c) g h = absurd g
kind_least (Ptr ar a) (Map b) (Map c) g h = absurd g
kind_least (Map a) Unset (Map c) g h = absurd h
kind_least (Map a) (Num b) (Map c) g h = absurd h
kind_least (Map a) (Ptr br b) (Map c) g h = absurd h
kind_least (Map a) (Map b) (Map c) g h = map_least a b c g h (a == b) refl

mark_left : (x y z : Bool) → z ≡ (x && y) → z ≡ true → x ≡ true
mark_left true y z e f = refl
mark_left false y z e f = sym e ∙ f

mark_right : (x y z : Bool) → z ≡ (x && y) → z ≡ true → y ≡ true
mark_right true y z e f = sym e ∙ f
mark_right false y z e f = let no : false ≡ true = sym e ∙ f in absurd cc

mark_both : (x y z : Bool) → z ≡ (x && y) → x ≡ true → y ≡ true → z ≡ true
mark_both true y z e f g = e ∙ g
mark_both false y z e f g = e ∙ f

pub join_is_above : JoinIsAbove
join_is_above a b joint j = (
  record {
    kinds = λ k. let P : AbsKind → Type 0 = λ x. IsKindBelow (kind_at a k) x in subst P (sym (j.kinds k)) (kind_left (kind_at a k) (kind_at b k));
    marks = λ p m. mark_left (mark_at a.marks p) (mark_at b.marks p) (mark_at joint.marks p) (j.marks p) m;
    ranges = λ k. let P : ℕ × ℕ → Type 0 = λ x. IsWithin (range_at a k) x in subst P (sym (j.ranges k)) (range_left (range_at a k) (range_at b k));
  },
  record {
    kinds = λ k. let P : AbsKind → Type 0 = λ x. IsKindBelow (kind_at b k) x in subst P (sym (j.kinds k)) (kind_right (kind_at a k) (kind_at b k));
    marks = λ p m. mark_right (mark_at a.marks p) (mark_at b.marks p) (mark_at joint.marks p) (j.marks p) m;
    ranges = λ k. let P : ℕ × ℕ → Type 0 = λ x. IsWithin (range_at b k) x in subst P (sym (j.ranges k)) (range_right (range_at a k) (range_at b k));
  },
)

pub join_is_least : JoinIsLeast
join_is_least a b joint c j g h =
    record {
      kinds = λ k.
          let P : AbsKind → Type 0 = λ x. IsKindBelow x (kind_at c k) in
          subst P (sym (j.kinds k)) (kind_least (kind_at a k) (kind_at b k) (kind_at c k) (g.kinds k) (h.kinds k));
      marks = λ p m. mark_both (mark_at a.marks p) (mark_at b.marks p) (mark_at joint.marks p) (j.marks p) (g.marks p m) (h.marks p m);
      ranges = λ k.
          let P : ℕ × ℕ → Type 0 = λ x. IsWithin x (range_at c k) in
          subst P (sym (j.ranges k)) (range_least (range_at a k) (range_at b k) (range_at c k) (g.ranges k) (h.ranges k));
    }

pub join_grows : JoinGrows
join_grows a b c d first second j k g h =
    let above : IsStateBelow c second × IsStateBelow d second = join_is_above c d second k in
    join_is_least a b first second j (below_is_transitive a c second g above.0) (below_is_transitive b d second h above.1)
