use Rattle.absdom.proofs.StateSteps.{below_by_ranges, not_below_by_kinds, not_below_by_marks}
use Rattle.absdom.proofs.state.State.leq.Goals as goal

pub returns-then-not-are_below : goal.returns-then-not-are_below
returns-then-not-are_below c =
    rw (← c.self.view_is, ← c.other.view_is) (not_below_by_kinds _ _ _ c.if-not-are_below.true c.are_below.ensures)

pub returns-then-not-leq : goal.returns-then-not-leq
returns-then-not-leq c =
    rw (← c.self.view_is, ← c.other.view_is) (not_below_by_marks _ _ _ c.if-not-leq.true c.leq.ensures)

pub returns : goal.returns
returns c =
    rw (← c.self.view_is, ← c.other.view_is)
    (below_by_ranges _ _ _ (c.are_below.ensures.0 c.if-not-are_below.false) (c.leq.ensures.0 c.if-not-leq.false) c.are_within.ensures)
