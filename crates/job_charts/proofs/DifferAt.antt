-- Whether two tables differ at a port, by what each asks there.
use Rattle.std.proofs.Common.{◌≡◌, ◌<◌, MatchBool, ℕ, Bool, true, false, List, ap, subst}
use Rattle.charts.specs.Same.{AreSame}
use Rattle.policy_table.specs.Policies.{PolicyValue}
use Rattle.policy_table.specs.Ports.{rules_at}
use Rattle.policy_table.specs.declared.rules.Rule.{Rule}
use Rattle.regions.specs.declared.regions.PointRegion.{PointRegion}
use Rattle.chart_lines.specs.AskedTables.{AskedValue, asked_at}
use Rattle.job_charts.specs.ComparedFile.{AreSameAt, AreSameIfCharted, DifferAt, HaveDifference, HaveDifferenceAt}

module _ (asked : PointRegion) (one other : PolicyValue) (port : ℕ) where
  -- if they do not differ
  pub not_apart : (is : Bool) → is ≡ false → MatchBool is (DifferAt asked one other port) (AreSameIfCharted asked one other port)
      → AreSameIfCharted asked one other port
  not_apart true e known = absurd (cc)
  not_apart false e known = known

  -- at a port of which a chart is made
  pub charted : (is : Bool) → port < 32 → MatchBool is (HaveDifferenceAt asked one other port) (AreSameAt asked one other port)
      → MatchBool is (DifferAt asked one other port) (AreSameIfCharted asked one other port)
  charted true within known = record { is_port = within; differ = known }
  charted false within known = λ charted. known

  -- by what each asks
  pub by_asked : (old new : AskedValue) (is : Bool) → old ≡ asked_at one port → new ≡ asked_at other port
      → MatchBool is (HaveDifference asked old.rules new.rules) (AreSame asked old.rules new.rules)
      → MatchBool is (HaveDifferenceAt asked one other port) (AreSameAt asked one other port)
  by_asked old new is first second known =
      subst (λ (rules : List Rule). MatchBool is (HaveDifference asked (rules_at port one.rules) rules) (AreSame asked (rules_at port one.rules) rules)) (ap (λ (a : AskedValue). a.rules) second)
      (subst (λ (rules : List Rule). MatchBool is (HaveDifference asked rules new.rules) (AreSame asked rules new.rules)) (ap (λ (a : AskedValue). a.rules) first) known)
