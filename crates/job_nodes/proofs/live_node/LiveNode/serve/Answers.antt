use Rattle.std.proofs.Common.{refl, rules, subst, take}
use Rattle.scrub.specs.Guarded.{ServesGuarded}
use Rattle.job_nodes.specs.JobNode.{IsJobNode}
use Rattle.job_nodes.specs.LiveNodes.{LiveNodeValue, guarded, live_node}
use Rattle.job_nodes.proofs.Guarding.{guarded_stays}
use Rattle.job_nodes.proofs.live_node.LiveNode.serve.Goals as goal

pub invariant_of-self : goal.invariant_of-self
invariant_of-self c =
    let own = c.self.inside in
    let answer = c.serve-answer in
    let node : IsJobNode (live_node answer.new.self own.feeds (take answer.result.size answer.new.room)).node
    = guarded_stays answer.result c.args.port c.args.packet own.guarded answer.new.self own.room answer.new.room own.feeds _ (take answer.result.size answer.new.room) answer.ensures.serves c.self.invariant.0 in
    (node, answer.ensures.few)

pub returns : goal.returns
returns c =
    let own = c.self.inside in
    let answer = c.serve-answer in
    record {
      room = own.room;
      left = answer.new.room;
      serves = subst (λ (s : LiveNodeValue). ServesGuarded answer.result c.args.port c.args.packet (guarded s) answer.new.self own.room answer.new.room) c.self.view_is answer.ensures.serves;
      reply = refl;
      held = search rules;
    }
