use Rattle.std.proofs.Common.{◌≡◌, [], drop, take}
use Rattle.differences.specs.Gains.{gains_after}
use Rattle.differences.specs.Steps.{rules_of}
use Rattle.differences.proofs.signs.gains.Given as goal

abbrev pub invariant-loop-number : goal.invariant-loop-number
invariant-loop-number l =
    gains_after (rules_of (take l.number l.old)) (rules_of (drop l.number l.old)) (rules_of l.new) ≡ gains_after [] (rules_of l.old) (rules_of l.new)
