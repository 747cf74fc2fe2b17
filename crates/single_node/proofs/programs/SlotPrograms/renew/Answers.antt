use Rattle.single_node.proofs.Placing.{same_placed, some_inside}
use Rattle.single_node.proofs.programs.SlotPrograms.renew.Goals as goal

pub own_place-place-requires-clause-some : goal.own_place-place-requires-clause-some
own_place-place-requires-clause-some c =
    some_inside c.self.inside.list c.self.inside.programs.items c.self.inside.slots c.self.inside.count c.self.inside.sizes c.self.invariant

pub invariant_of-self : goal.invariant_of-self
invariant_of-self c =
    same_placed c.self.inside.list c.self.inside.programs.items c.renew_own.new.programs.items c.self.inside.slots c.self.inside.count c.self.inside.sizes c.self.invariant (λ k s at. c.renew_own.ensures s)
