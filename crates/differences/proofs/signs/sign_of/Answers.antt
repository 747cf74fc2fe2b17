use Rattle.std.proofs.Common.{arith, subst, sym}
use Rattle.differences.specs.Gains.{IsSign}
use Rattle.differences.specs.Steps.{rules_of}
use Rattle.differences.specs.declared.signs.Sign.{Sign}
use Rattle.differences.proofs.Gaining.{sign_is}
use Rattle.differences.proofs.Stepping.{limited_rules}
use Rattle.differences.proofs.signs.sign_of.Goals as goal

pub returns : goal.returns
returns c =
    subst (λ (s : Sign). IsSign s (rules_of c.args.old.now) (rules_of c.args.new.now)) (sym c.sign_with.ensures)
    (sign_is (rules_of c.args.old.now) (rules_of c.args.new.now) c.gains-more.result c.gains-fewer.result
    (limited_rules c.args.old.now c.requires.old_limits (omega arith)) (limited_rules c.args.new.now c.requires.new_limits (omega arith))
    (sym c.gains-more.ensures) (sym c.gains-fewer.ensures))
