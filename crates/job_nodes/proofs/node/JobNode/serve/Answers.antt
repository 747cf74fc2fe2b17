use Rattle.std.proofs.Common.{refl, rules, subst}
use Rattle.single_node.specs.Serving.{ServesPacketAt as ServesAlone}
use Rattle.job_nodes.specs.JobNode.{JobNodeValue, alone, job_node}
use Rattle.job_nodes.proofs.Banks.{served_stays}
use Rattle.job_nodes.proofs.node.JobNode.serve.Goals as goal

pub invariant_of-self : goal.invariant_of-self
invariant_of-self c =
    let own = c.self.inside in
    let before = job_node own.node.banks own.node.words own.node.programs own.node.passes own.feeds own.reply in
    let node = c.serve.new.self in
    let after = job_node node.banks node.words node.programs node.passes own.feeds c.serve.new.reply in
    served_stays c.serve.result c.args.port c.args.packet before after c.serve.ensures.serves refl c.self.invariant

pub returns : goal.returns
returns c =
    let node = c.serve.new.self in
    record {
      served_alone = subst (λ (s : JobNodeValue). ServesAlone c.serve.result c.args.port c.args.packet (alone s) node c.serve.new.reply) c.self.view_is c.serve.ensures.serves;
      held = search rules;
    }
