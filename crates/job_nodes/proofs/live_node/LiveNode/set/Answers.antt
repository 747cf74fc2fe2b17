use Rattle.std.proofs.Common.{◌≤◌, ℕ, length, refl, sym, subst, take, rules}
use Rattle.single_node.specs.Nodes.{SetsBytes as SetsAlone}
use Rattle.job_nodes.specs.JobNode.{alone}
use Rattle.job_nodes.specs.LiveNodes.{live_node}
use Rattle.job_nodes.proofs.Banks.{covered_bank, set_stays, set_turned, some_room}
use Rattle.job_nodes.proofs.live_node.LiveNode.set.Goals as goal

pub turn_and_set-requires-clause-some : goal.turn_and_set-requires-clause-some
turn_and_set-requires-clause-some c =
    let own = c.self.inside in
    let low = covered_bank own.guarded.node.banks c.args.bank c.args.address (length c.args.bytes.now) (search rules) in
    subst (λ (n : ℕ). 1 ≤ n) (sym c.room-room.ensures) (some_room own.guarded.node.banks c.args.bank c.self.invariant.0.rooms low)

pub invariant_of-self : goal.invariant_of-self
invariant_of-self c =
    let own = c.self.inside in
    let reply = take own.size own.room in
    let before = (live_node own.guarded own.feeds reply).node in
    let after = (live_node (record { node = c.turn_and_set.new.self; guard = own.guarded.guard }) own.feeds reply).node in
    let bytes = c.args.bytes.now in
    let set = subst (λ (n : ℕ). SetsAlone c.args.bank c.args.address bytes n (alone before) (alone after)) c.room-room.ensures c.turn_and_set.ensures in
    (set_stays c.args.bank c.args.address bytes before after _ (set_turned c.args.bank c.args.address bytes before after set (record { held = refl; reply = refl })) c.self.invariant.0, c.self.invariant.1)
