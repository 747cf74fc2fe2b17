use Rattle.std.proofs.Common.{◌≡◌, ℕ, Some, refl, subst}
use Rattle.std.specs.Prelude.{slice_get}
use Rattle.single_node.specs.Slots.{placed_at}
use Rattle.single_node.proofs.Placing.{again_placed, inside, named_there, own_judges, same_placed, some_inside}
use Rattle.single_node.proofs.programs.SlotPrograms.publish_again.Goals as goal

pub own_place-place-requires-clause-some : goal.own_place-place-requires-clause-some
own_place-place-requires-clause-some c =
    some_inside c.self.inside.list c.self.inside.programs.items c.self.inside.slots c.self.inside.count c.self.inside.sizes c.self.invariant

pub own_program-requires : goal.own_program-requires
own_program-requires c = rw (c.name_slot.ensures.count) c.own_place-place.ensures.below

pub invariant_of-self : goal.invariant_of-self
invariant_of-self c =
    let h = c.self.inside.list in
    let xs = c.self.inside.programs.items in
    let ys = c.name_slot.new.programs.items in
    let slots = c.self.inside.slots in
    let own = c.own_program.result.now in
    let is = c.own_place-place.ensures.own (inside h xs slots c.self.inside.count c.self.inside.sizes c.args.slot c.requires c.self.invariant) in
    let there : slice_get ys (placed_at slots c.args.slot).place ≡ Some own = subst (λ (n : ℕ). slice_get ys n ≡ Some own) is c.own_program.ensures in
    let named = named_there ys c.own_place-place.result own c.args.slot c.own_program.ensures c.name_slot.ensures.named in
    let are = same_placed h xs ys slots c.self.inside.count c.self.inside.sizes c.self.invariant (λ k s at. c.name_slot.ensures.shown s) in
    rw (c.with-list.ensures, c.set_place.ensures, named) (again_placed c.published_programs.ensures.next h ys slots c.self.inside.count c.self.inside.sizes c.args.slot c.own_place-place.result own c.requires are there is)

pub returns-clause-published : goal.returns-clause-published
returns-clause-published c = λ program judges.
    let h = c.self.inside.list in
    let xs = c.self.inside.programs.items in
    let ys = c.name_slot.new.programs.items in
    let slots = c.self.inside.slots in
    let own = c.own_program.result.now in
    let is = c.own_place-place.ensures.own (inside h xs slots c.self.inside.count c.self.inside.sizes c.args.slot c.requires c.self.invariant) in
    let there : slice_get ys (placed_at slots c.args.slot).place ≡ Some own = subst (λ (n : ℕ). slice_get ys n ≡ Some own) is c.own_program.ensures in
    let named = named_there ys c.own_place-place.result own c.args.slot c.own_program.ensures c.name_slot.ensures.named in
    let are = same_placed h xs ys slots c.self.inside.count c.self.inside.sizes c.self.invariant (λ k s at. c.name_slot.ensures.shown s) in
    let judged = own_judges h ys slots c.self.inside.count c.self.inside.sizes c.args.slot own program c.requires are there (rw (c.self.view_is) judges) in
    rw (← c.self.view_is, c.with-list.ensures, named, judged) refl
