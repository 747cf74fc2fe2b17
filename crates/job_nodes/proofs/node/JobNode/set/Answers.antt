use Rattle.std.proofs.Common.{◌≤◌, ℕ, length, refl, sym, subst, rules}
use Rattle.single_node.specs.Nodes.{SetsBytes as SetsAlone}
use Rattle.job_nodes.specs.JobNode.{alone, job_node}
use Rattle.job_nodes.proofs.Banks.{covered_bank, set_stays, set_turned, some_room}
use Rattle.job_nodes.proofs.node.JobNode.set.Goals as goal

pub turn_and_set-requires-clause-some : goal.turn_and_set-requires-clause-some
turn_and_set-requires-clause-some c =
    let own = c.self.inside in
    let low = covered_bank own.node.banks c.args.bank c.args.address (length c.args.bytes.now) (search rules) in
    subst (λ (n : ℕ). 1 ≤ n) (sym c.room-room.ensures) (some_room own.node.banks c.args.bank c.self.invariant.rooms low)

pub invariant_of-self : goal.invariant_of-self
invariant_of-self c =
    let own = c.self.inside in
    let before = job_node own.node.banks own.node.words own.node.programs own.node.passes own.feeds own.reply in
    let node = c.turn_and_set.new.self in
    let after = job_node node.banks node.words node.programs node.passes own.feeds own.reply in
    let bytes = c.args.bytes.now in
    let set = subst (λ (n : ℕ). SetsAlone c.args.bank c.args.address bytes n (alone before) (alone after)) c.room-room.ensures c.turn_and_set.ensures in
    set_stays c.args.bank c.args.address bytes before after _ (set_turned c.args.bank c.args.address bytes before after set (record { held = refl; reply = refl })) c.self.invariant
