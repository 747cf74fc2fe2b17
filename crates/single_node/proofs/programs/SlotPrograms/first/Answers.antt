use Rattle.std.proofs.Common.{[], ◌∷◌, subst, sym}
use Rattle.machine.specs.Sizes.{Maps}
use Rattle.node_parts.specs.Nodes.{first_programs}
use Rattle.single_node.specs.Slots.{ArePlaced, first_slots}
use Rattle.single_node.proofs.Placing.{first_are}
use Rattle.single_node.proofs.programs.SlotPrograms.first.Goals as goal

pub invariant_of-result : goal.invariant_of-result
invariant_of-result c =
    rw (c.first-list.ensures, c.in_ok-push.ensures.items, c.in_ok-programs.ensures.items, c.first_slots.ensures)
    (subst (λ (sizes : Maps). ArePlaced (first_programs c.args.factory) (record { slot = 0; program = c.args.factory } ∷ []) first_slots 0 sizes)
    (sym c.sizes-sizes.ensures.value) (first_are (record { slot = 0; program = c.args.factory })))
