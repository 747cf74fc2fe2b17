use Rattle.std.proofs.Common.{◌≤◌, ℕ, refl, sym, subst, take, rules}
use Rattle.single_node.specs.Nodes.{RotatesTo}
use Rattle.job_nodes.specs.JobNode.{alone}
use Rattle.job_nodes.specs.LiveNodes.{live_node}
use Rattle.job_nodes.proofs.Banks.{some_room, turned, turned_stays}
use Rattle.job_nodes.proofs.live_node.LiveNode.turn.Goals as goal

pub turn-requires-clause-some : goal.turn-requires-clause-some
turn-requires-clause-some c =
    let own = c.self.inside in
    subst (λ (n : ℕ). 1 ≤ n) (sym c.room-room.ensures) (some_room own.guarded.node.banks c.args.bank c.self.invariant.0.rooms (search rules))

pub invariant_of-self : goal.invariant_of-self
invariant_of-self c =
    let own = c.self.inside in
    let reply = take own.size own.room in
    let before = (live_node own.guarded own.feeds reply).node in
    let after = (live_node (record { node = c.turn.new.self; guard = own.guarded.guard }) own.feeds reply).node in
    let turn = subst (λ (n : ℕ). RotatesTo c.args.bank n (alone before) (alone after)) c.room-room.ensures c.turn.ensures in
    (turned_stays c.args.bank before after _ (turned c.args.bank before after turn (record { held = refl; reply = refl })) c.self.invariant.0, c.self.invariant.1)
