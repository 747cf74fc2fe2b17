use Rattle.std.proofs.Common.{◌≤◌}
use mathlib.Core.List.{IsPrefix}
use Rattle.annals.specs.Shown.{shown_in}
use Rattle.annals.proofs.published_count.PublishedCount.settle.Given as goal

-- that many programs are shown, after all that was known and all that the table has
abbrev pub invariant-loop-shown : goal.invariant-loop-shown
invariant-loop-shown g l = IsPrefix l.fn.front l.front × IsPrefix l.table l.front × (l.shown ≤ shown_in l.front)
