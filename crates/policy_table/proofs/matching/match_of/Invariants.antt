use Rattle.std.proofs.Common.{◌≡◌, ◌+◌, ◌-◌, ◌≤◌, length, vec_len}
use Rattle.std.specs.Vec.{vec_capacity}
use Rattle.machine.specs.Memory.{header}
use Rattle.policy_table.proofs.Walks.{IsOnWay}
use Rattle.policy_table.proofs.matching.match_of.Given as goal

abbrev pub invariant-loop-rule : goal.invariant-loop-rule
invariant-loop-rule g l = (l.number ≡ l.rule-index)
    × (vec_len l.calls + (length l.rules - l.rule-index) ≤ vec_capacity l.calls)
    × IsOnWay g.T.Tickets.next g.T.Tickets.after l.rules (header l.front l.tail) l.fn.calls.items l.fn.tickets l.rule-index l.calls.items l.tickets
