use Rattle.std.proofs.Common.{◌≡◌, ◌≤◌, ◌+◌, ◌^◌, drop}
use Rattle.charts.specs.Alike.{held}
use Rattle.charts.specs.Tickets.{least_from}
use Rattle.charts.proofs.leasts.least_ticket.Given as goal

abbrev pub invariant-loop-rule : goal.invariant-loop-rule
invariant-loop-rule l =
    (least_from l.least (held l.point (drop l.rule-index l.rules)) l.quota.map l.quota.cell ≡ least_from 0 (held l.point l.rules) l.quota.map l.quota.cell)
    × (l.least ≤ 2 ^ 32 + l.rule-index)
