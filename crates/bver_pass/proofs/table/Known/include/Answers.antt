use Rattle.std.proofs.Common.{rules, ◌≡◌, Some}
use Rattle.bver_pass.proofs.table.Known.include.Goals as goal

pub returns-then-self-clause-known : goal.returns-then-self-clause-known
returns-then-self-clause-known c =
    let known : c.args.self.now ≡ Some c.self.inside.state = search rules in
    rw (known, c.if-self.true) (c.join_is_least.ensures.above c.self.inside.state c.args.state.now c.join.new.self c.join.ensures.joint).0

pub returns-then-self-clause-least : goal.returns-then-self-clause-least
returns-then-self-clause-least c =
    let known : c.args.self.now ≡ Some c.self.inside.state = search rules in
    rw (known, c.if-self.true) (λ above. c.join_is_least.ensures.least c.self.inside.state c.args.state.now c.join.new.self above c.join.ensures.joint)
