use Rattle.std.proofs.Common.{◌≡◌, ◌<◌, ◌+◌}
use Rattle.annals.proofs.chains.EmptyHistory.skip.Given as goal

-- that many chains are still to be left out
abbrev pub invariant-loop-left : goal.invariant-loop-left
invariant-loop-left l = record {
  some : l.left < l.self-inside.pens.left;
  left : l.self-inside.pens.left + l.count ≡ l.initial.self-inside.pens.left + l.left;
  row : l.self-inside.pens.next + l.self-inside.pens.left ≡ 43;
  book : l.self-inside.pens.book ≡ l.self-inside.seen.book;
  same : l.self-inside.seen ≡ l.initial.self-inside.seen;
}

-- each round leaves one out
abbrev pub decreases-loop-left : goal.decreases-loop-left
decreases-loop-left l = l.left
