use Rattle.std.proofs.Common.{◌≡◌, [], drop, take}
use Rattle.differences.specs.Gains.{may_pass}
use Rattle.differences.specs.Steps.{rules_of}
use Rattle.differences.proofs.signs.may_pass.Given as goal

abbrev pub invariant-loop-number : goal.invariant-loop-number
invariant-loop-number l =
    may_pass (rules_of l.olds) l.stop (rules_of (take l.number l.new)) (rules_of (drop l.number l.new)) ≡ may_pass (rules_of l.olds) l.stop [] (rules_of l.new)
