-- Rules as regions, and the tests of two tables.
use Rattle.std.proofs.Common.{◌≡◌, ◌<◌, ◌+◌, ◌&&◌, ℕ, zero, suc, Bool, true, false, List, [], ◌∷◌, ◌++◌, length, get_or, refl, ap, sym, subst, ◌∙◌, arith}
use Rattle.std.specs.Prelude.{All, MatchOption, Option, Some, None, nat_le, nat_lt}
use Rattle.std.proofs.lemmas.Bool.Decides.{nat_tests}
use Rattle.std.proofs.lemmas.List.Elements.{All-cons, All-head, All-nil, All-tail}
use Rattle.policy_table.specs.Meaning.{agrees, agrees_with_kind}
use Rattle.policy_table.specs.declared.rules.Rule.{Rule}
use Rattle.regions.specs.ByteSets.{has_byte}
use Rattle.regions.specs.Points.{HasCommand}
use Rattle.regions.specs.Questions.{AreTestedAlike, IsSettledBy, IsShapeAt}
use Rattle.regions.specs.Regions.{is_one_of, lies_in}
use Rattle.regions.specs.declared.byte_sets.ByteSet.{ByteSet}
use Rattle.regions.specs.declared.points.Point.{Point}
use Rattle.regions.specs.declared.regions.Kinds.{Kinds}
use Rattle.regions.specs.declared.regions.PointRegion.{PointRegion}
use Rattle.charts.specs.Lines.{reported_tests}
use Rattle.charts.specs.Points.{DecideAlike, IsRuleAt, holds_at, tests_of}
use Rattle.charts.proofs.Sameness.{HoldsAlike, alike_there}

-- ---- a rule's conditions

in_turn : (k a b c d e f g h : Bool) → e ≡ true → f ≡ true → g ≡ h → (k && (a && (b && (c && (d && (e && (f && (g && true)))))))) ≡ (k && a && b && c && (d && h))
in_turn false a b c d e f g h et ft gh = refl
in_turn true false b c d e f g h et ft gh = refl
in_turn true true false c d e f g h et ft gh = refl
in_turn true true true false d e f g h et ft gh = refl
in_turn true true true true false e f g h et ft gh = refl
in_turn true true true true true e f g h et ft gh = rw (et, ft, gh) (and_true h)
  where
    and_true : (t : Bool) → (t && true) ≡ t
    and_true true = refl
    and_true false = refl

same_ends : (k a b c k' a' b' c' : Bool) (d h : Bool) → k ≡ k' → a ≡ a' → b ≡ b' → c ≡ c' → (k && a && b && c && (d && h)) ≡ (k' && a' && b' && c' && (d && h))
same_ends k a b c k' a' b' c' d h ke ae be ce = rw (ke, ae, be, ce) refl

pub region_is : (rule : Rule) (p : Point) (kinds : Kinds) (keys initiators extended : ByteSet) → HasCommand p → is_one_of kinds p.kind ≡ agrees_with_kind rule.kind p.kind
    → has_byte keys p.key ≡ agrees rule.key p.key → has_byte initiators p.initiator ≡ agrees rule.initiator p.initiator → has_byte extended p.extended ≡ agrees rule.extended p.extended
    → lies_in (record { kinds = kinds; keys = keys; initiators = initiators; extended = extended; first = record { start = rule.low; end = 4294967296 }; last = record { start = 0; end = rule.high + 1 } }) p ≡ holds_at rule p
region_is rule p kinds keys initiators extended has k a b c =
    in_turn (is_one_of kinds p.kind) (has_byte keys p.key) (has_byte initiators p.initiator) (has_byte extended p.extended) (nat_le rule.low p.first) (nat_lt p.first 4294967296) (nat_le 0 p.last)
    (nat_lt p.last (rule.high + 1)) (nat_le p.last rule.high) below above following
    ∙ same_ends (is_one_of kinds p.kind) (has_byte keys p.key) (has_byte initiators p.initiator) (has_byte extended p.extended)
    (agrees_with_kind rule.kind p.kind) (agrees rule.key p.key) (agrees rule.initiator p.initiator) (agrees rule.extended p.extended) (nat_le rule.low p.first) (nat_le p.last rule.high) k a b c
  where
    below : nat_lt p.first 4294967296 ≡ true
    below = let lt : p.first < 4294967296 = omega (arith, has.span.order, has.span.fits) in grind (arith, nat_tests)

    above : nat_le 0 p.last ≡ true
    above = grind (arith, nat_tests)

    following : nat_lt p.last (rule.high + 1) ≡ nat_le p.last rule.high
    following = grind (arith, nat_tests)

-- the same by the numbers that the code makes of the addresses
pub region_by : (rule : Rule) (p : Point) (kinds : Kinds) (keys initiators extended : ByteSet) (low high : ℕ) → low ≡ rule.low → high ≡ rule.high → HasCommand p
    → is_one_of kinds p.kind ≡ agrees_with_kind rule.kind p.kind → has_byte keys p.key ≡ agrees rule.key p.key → has_byte initiators p.initiator ≡ agrees rule.initiator p.initiator
    → has_byte extended p.extended ≡ agrees rule.extended p.extended
    → lies_in (record { kinds = kinds; keys = keys; initiators = initiators; extended = extended; first = record { start = low; end = 4294967296 }; last = record { start = 0; end = high + 1 } }) p ≡ holds_at rule p
region_by rule p kinds keys initiators extended low high l h has k a b c =
    subst (λ (n : ℕ). lies_in (record { kinds = kinds; keys = keys; initiators = initiators; extended = extended; first = record { start = n; end = 4294967296 }; last = record { start = 0; end = high + 1 } }) p ≡ holds_at rule p) (sym l)
    (subst (λ (n : ℕ). lies_in (record { kinds = kinds; keys = keys; initiators = initiators; extended = extended; first = record { start = rule.low; end = 4294967296 }; last = record { start = 0; end = n + 1 } }) p ≡ holds_at rule p) (sym h)
    (region_is rule p kinds keys initiators extended has k a b c))

-- ---- the tests of tables

pub length_tests : (rules : List Rule) → length (tests_of rules) ≡ length rules
length_tests [] = refl
length_tests (rule ∷ rules) = ap suc (length_tests rules)

pub tests_at : (rules : List Rule) (n : ℕ) (d : Rule) (t : Point → Bool) (p : Point) → n < length rules → get_or (tests_of rules) n t p ≡ holds_at (get_or rules n d) p
tests_at [] n d t p lt = absurd (omega arith)
tests_at (rule ∷ rules) zero d t p lt = refl
tests_at (rule ∷ rules) (suc n) d t p lt = tests_at rules n d t p (omega arith)

pub shape_at : (old new : List Rule) (number : ℕ) (rule : Rule) (region : PointRegion) → IsRuleAt old new number rule → ((p : Point) → HasCommand p → lies_in region p ≡ holds_at rule p) → IsShapeAt (tests_of (old ++ new)) number region
shape_at old new number rule region at is = record {
  there = omega (arith, at.there, length_tests (old ++ new));
  same = λ t p has. is p has ∙ ap (λ (r : Rule). holds_at r p) (sym (at.own rule)) ∙ sym (tests_at (old ++ new) number rule t p at.there);
}

pub alike_of : (rules : List Rule) (p q : Point) → All (AreTestedAlike p q) (tests_of rules) → All (HoldsAlike p q) rules
alike_of [] p q same = All-nil (HoldsAlike p q)
alike_of (rule ∷ rules) p q same =
    All-cons (HoldsAlike p q) rule rules (All-head (AreTestedAlike p q) (λ r. holds_at rule r) (tests_of rules) same)
    (alike_of rules p q (All-tail (AreTestedAlike p q) (λ r. holds_at rule r) (tests_of rules) same))

pub first_of_both : (old new : List Rule) (p q : Point) → All (AreTestedAlike p q) (tests_of (old ++ new)) → All (HoldsAlike p q) old
first_of_both [] new p q same = All-nil (HoldsAlike p q)
first_of_both (rule ∷ rules) new p q same =
    All-cons (HoldsAlike p q) rule rules (All-head (AreTestedAlike p q) (λ r. holds_at rule r) (tests_of (rules ++ new)) same)
    (first_of_both rules new p q (All-tail (AreTestedAlike p q) (λ r. holds_at rule r) (tests_of (rules ++ new)) same))

pub second_of_both : (old new : List Rule) (p q : Point) → All (AreTestedAlike p q) (tests_of (old ++ new)) → All (HoldsAlike p q) new
second_of_both [] new p q same = alike_of new p q same
second_of_both (rule ∷ rules) new p q same =
    second_of_both rules new p q (All-tail (AreTestedAlike p q) (λ r. holds_at rule r) (tests_of (rules ++ new)) same)

-- the test of a rule of one table
pub rule_shape_at : (rules : List Rule) (number : ℕ) (d : Rule) (region : PointRegion) → number < length rules → ((p : Point) → HasCommand p → lies_in region p ≡ holds_at (get_or rules number d) p) → IsShapeAt (tests_of rules) number region
rule_shape_at rules number d region there is = record {
  there = omega (arith, there, length_tests rules);
  same = λ t p has. is p has ∙ sym (tests_at rules number d t p there);
}

-- if all rules hold alike, the tables decide alike at both points
pub settled : (asked : PointRegion) (old new : List Rule) → IsSettledBy (reported_tests asked old new) (λ p. lies_in asked p ≡ true → DecideAlike old new p)
settled asked old new p q _ _ same alike = λ lies.
    let rules = All-tail (AreTestedAlike p q) (lies_in asked) (tests_of (old ++ new)) same in
    let there : lies_in asked q ≡ true = sym (All-head (AreTestedAlike p q) (lies_in asked) (tests_of (old ++ new)) same) ∙ lies in
    alike_there old new p q (first_of_both old new p q rules) (second_of_both old new p q rules) (alike there)

pub turned_of : (o : Option Point) (P R : Type 0) (Q S : Point → Type 0) → (P → R) → ((p : Point) → Q p → S p) → MatchOption o P Q → MatchOption o R S
turned_of None P R Q S f g h = f h
turned_of (Some p) P R Q S f g h = g p h
