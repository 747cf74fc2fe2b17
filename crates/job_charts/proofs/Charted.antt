-- Ports of which no chart is made: what holds of the first that no rule names holds of each such.
use Rattle.std.proofs.Common.{◌≡◌, inl, inr, ◌⊎◌, ◌<◌, ◌+◌, ℕ, zero, suc, Bool, true, false, List, refl, subst, arith}
use Rattle.std.specs.Prelude.{◌&&◌, ◌||◌, nat_lt}
use Rattle.std.proofs.lemmas.Bool.Decides.{nat_tests}
use Rattle.charts.specs.Same.{AreSame}
use Rattle.policy_table.specs.Policies.{PolicyValue}
use Rattle.policy_table.specs.PortTables.{AreAskedAlike, UnnamedPortsAreAlike, is_named}
use Rattle.policy_table.specs.Ports.{rules_at}
use Rattle.policy_table.specs.declared.rules.Rule.{Rule}
use Rattle.regions.specs.declared.regions.PointRegion.{PointRegion}
use Rattle.job_charts.specs.ComparedFile.{AreSameAt, AreSameAtAll, AreSameIfCharted}
use Rattle.chart_lines.specs.Ports.{are_named, is_named_by}

both : (s t : Bool) → s ≡ true → t ≡ true → (s && t) ≡ true
both true true e h = refl
both true false e h = absurd (cc)
both false t e h = absurd (cc)

left : (s t : Bool) → s ≡ true → (s || t) ≡ true
left true t e = refl
left false t e = absurd (cc)

right : (s t : Bool) → t ≡ true → (s || t) ≡ true
right true t e = refl
right false true e = refl
right false false e = absurd (cc)

first_no : (s t : Bool) → (s || t) ≡ false → s ≡ false
first_no true t e = absurd (cc)
first_no false t e = refl

second_no : (s t : Bool) → (s || t) ≡ false → t ≡ false
second_no true t e = absurd (cc)
second_no false t e = e

-- the first port that is not named
pub record IsFree (named : ℕ → Bool) (port : ℕ) (free : ℕ) : Type 0 where
  pub below : free < port
  pub own : named free ≡ false
  pub first : are_named named free ≡ true

-- each port below one is named, or the first that is not is there
abbrev pub FreeBelow : (named : ℕ → Bool) (port : ℕ) → Type 0
FreeBelow named port = (are_named named port ≡ true) ⊎ ((free : ℕ) × IsFree named port free)

free_next : (named : ℕ → Bool) (port : ℕ) (t : Bool) → named port ≡ t → FreeBelow named port → FreeBelow named (suc port)
free_next named port true is (inl all) = inl (both (are_named named port) (named port) all is)
free_next named port false is (inl all) = inr (port, record { below = omega arith; own = is; first = all })
free_next named port t is (inr (free, found)) =
    inr (free, record { below = omega (arith, found.below); own = found.own; first = found.first })

free_below : (named : ℕ → Bool) (port : ℕ) → FreeBelow named port
free_below named zero = inl refl
free_below named (suc port) = free_next named port (named port) refl (free_below named port)

module _ (asked : PointRegion) (law : UnnamedPortsAreAlike) (one other : PolicyValue) (same : (port : ℕ) → port < 32 → AreSameIfCharted asked one other port) where
  abbrev pub named : ℕ → Bool
  named port = is_named_by one other port

  -- two ports that neither table names
  moved : (port free : ℕ) → named port ≡ false → named free ≡ false → AreSameAt asked one other free → AreSameAt asked one other port
  moved port free is_free own are =
      let first : AreAskedAlike one.rules free port = law one.rules free port (first_no (is_named free one.rules) (is_named free other.rules) own) (first_no (is_named port one.rules) (is_named port other.rules) is_free) in
      let second : AreAskedAlike other.rules free port = law other.rules free port (second_no (is_named free one.rules) (is_named free other.rules) own) (second_no (is_named port one.rules) (is_named port other.rules) is_free) in
      subst (λ (rules : List Rule). AreSame asked rules (rules_at port other.rules)) first.same_rules
      (subst (λ (rules : List Rule). AreSame asked (rules_at free one.rules) rules) second.same_rules are)

  found : (port : ℕ) → port < 32 → named port ≡ false → FreeBelow named port → AreSameAt asked one other port
  found port within is (inl all) = same port within (right (named port) (are_named named port) all)
  found port within is (inr (free, at)) =
      moved port free is at.own (same free (omega (arith, at.below, within)) (right (named free) (are_named named free) at.first))

  at_port : (port : ℕ) (t : Bool) → port < 32 → named port ≡ t → AreSameAt asked one other port
  at_port port true within is = same port within (left (named port) (are_named named port) is)
  at_port port false within is = found port within is (free_below named port)

-- two tables that are the same at each port of which a chart is made are the same at each
pub same_at_all : (asked : PointRegion) → UnnamedPortsAreAlike → (one other : PolicyValue) → ((port : ℕ) → port < 32 → AreSameIfCharted asked one other port) → AreSameAtAll asked one other
same_at_all asked law one other same port within = at_port asked law one other same port (is_named_by one other port) within refl

-- a port more of which something holds
pub one_more : (P : ℕ → Type 0) (count port : ℕ) (t : Bool) → nat_lt port count ≡ t → ((own : ℕ) → own < count → P own) → P count → port < count + 1 → P port
one_more P count port true is below own within =
    let less : port < count = grind (arith, nat_tests) in below port less
one_more P count port false is below own within =
    let last : count ≡ port = grind (arith, nat_tests) in subst P last own

pub same_more : (asked : PointRegion) (one other : PolicyValue) (count : ℕ) → ((port : ℕ) → port < count → AreSameIfCharted asked one other port) → AreSameIfCharted asked one other count
    → (port : ℕ) → port < count + 1 → AreSameIfCharted asked one other port
same_more asked one other count below own port within =
    one_more (λ p. AreSameIfCharted asked one other p) count port (nat_lt port count) refl below own within
