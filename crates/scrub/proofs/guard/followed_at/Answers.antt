use Rattle.std.proofs.Common.{rules}
use Rattle.scrub.proofs.Serving.{follow_other, follow_same}
use Rattle.scrub.proofs.guard.followed_at.Goals as goal

pub returns-then-generation : goal.returns-then-generation
returns-then-generation c = λ before was.
    follow_same before c.args.node.now.programs c.args.slot c.args.generation c.generation.result c.args.kept was c.generation.ensures (search rules)

pub returns : goal.returns
returns c = λ before was.
    follow_other before c.args.node.now.programs c.args.slot c.args.generation c.generation.result c.args.kept c.fresh_at.result was c.generation.ensures (search rules) c.fresh_at.ensures
