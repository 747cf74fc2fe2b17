use Rattle.std.proofs.Common.{◌≡◌, ◌≤◌, true, length, ap, sym, ◌∙◌, arith, rules}
use Rattle.std.proofs.lemmas.Bool.Decides.{nat_tests}
use Rattle.publish.specs.Reached.{Reached}
use Rattle.publish.proofs.Families.{looks}
use Rattle.publish.proofs.Fronts.{taken_since}
use Rattle.publish.proofs.reader.Reader.enter.Goals as goal

pub enter_as-requires : goal.enter_as-requires
enter_as-requires g c x = looks _ _ _ x

pub returns-clause-moment : goal.returns-clause-moment
returns-clause-moment g c = λ _.
    let is : c.settle-is_taken.result ≡ true = search rules in
    taken_since c.args.front.now c.count-least.new.front c.settle-is_taken.new.front _ c.advance.new.self.programs c.count-least.ensures.seen
    (search rules) (c.settle-is_taken.ensures.taken is)
