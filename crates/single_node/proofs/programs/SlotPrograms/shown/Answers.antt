use Rattle.std.proofs.Common.{◌≡◌, ℕ, Some, subst}
use Rattle.std.specs.Prelude.{slice_get}
use Rattle.single_node.specs.Slots.{placed_at}
use Rattle.single_node.proofs.Placing.{inside, placed_shows, placed_sizes, some_inside}
use Rattle.single_node.proofs.programs.SlotPrograms.shown.Goals as goal

pub own_place-place-requires-clause-some : goal.own_place-place-requires-clause-some
own_place-place-requires-clause-some c =
    some_inside c.self.inside.list c.self.inside.programs.items c.self.inside.slots c.self.inside.count c.self.inside.sizes c.self.invariant

pub returns-clause-value : goal.returns-clause-value
returns-clause-value c =
    let xs = c.self.inside.programs.items in
    let slots = c.self.inside.slots in
    let own = c.own_program-own.result.now in
    let is = c.own_place-place.ensures.own (inside c.self.inside.list xs slots c.self.inside.count c.self.inside.sizes c.args.slot c.requires c.self.invariant) in
    let there : slice_get xs (placed_at slots c.args.slot).place ≡ Some own = subst (λ (n : ℕ). slice_get xs n ≡ Some own) is c.own_program-own.ensures in
    rw (← c.self.view_is, c.placed_at-generation.ensures) (placed_shows c.self.inside.list xs slots c.self.inside.count c.self.inside.sizes c.args.slot own c.requires c.self.invariant there)

pub returns-clause-sizes : goal.returns-clause-sizes
returns-clause-sizes c =
    let xs = c.self.inside.programs.items in
    let slots = c.self.inside.slots in
    let own = c.own_program-own.result.now in
    let is = c.own_place-place.ensures.own (inside c.self.inside.list xs slots c.self.inside.count c.self.inside.sizes c.args.slot c.requires c.self.invariant) in
    let there : slice_get xs (placed_at slots c.args.slot).place ≡ Some own = subst (λ (n : ℕ). slice_get xs n ≡ Some own) is c.own_program-own.ensures in
    rw (← c.self.view_is) (placed_sizes c.self.inside.list xs slots c.self.inside.count c.self.inside.sizes c.args.slot own c.requires c.self.invariant there)
