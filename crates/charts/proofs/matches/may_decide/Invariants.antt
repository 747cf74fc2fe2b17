use Rattle.std.proofs.Common.{◌≡◌, ◌≤◌, ◌-◌, [], drop, take}
use Rattle.charts.specs.Alike.{held}
use Rattle.charts.specs.Deciders.{may_decide}
use Rattle.charts.proofs.matches.may_decide.Given as goal

abbrev pub invariant-loop-number : goal.invariant-loop-number
invariant-loop-number l =
    (l.number ≤ l.place) × (may_decide (held l.point (take l.number l.rules)) (l.place - l.number) (drop l.number l.rules) l.point ≡ may_decide [] l.place l.rules l.point)
