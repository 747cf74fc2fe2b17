use Rattle.commands.proofs.ShownLines.{IsGoingOn}
use Rattle.commands.proofs.shows.show_all.Given as goal

abbrev pub invariant-loop-number : goal.invariant-loop-number
invariant-loop-number g l = IsGoingOn g.T.Talk.received g.T.Talk.sent l.number l.fn.talk l.talk
