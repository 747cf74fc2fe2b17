use Rattle.std.proofs.Common.{subst}
use Rattle.node_parts.specs.Loaded.{IsLoadEnd}
use Rattle.node_parts.specs.Passes.{PassValue, pass_of}
use Rattle.single_node.proofs.port.SinglePort.load.Goals as goal

pub returns : goal.returns
returns c =
    let b = c.self.inside.context in
    let shares = c.self.inside.shares.items in
    let after = pass_of b c.load.new.reader shares c.load.new.staging in
    subst (λ (h : PassValue). IsLoadEnd h after c.args.programs.now c.load.new.store c.args.judged c.load.result c.load.new.reply) c.self.view_is (c.load.ensures.ended b shares)
