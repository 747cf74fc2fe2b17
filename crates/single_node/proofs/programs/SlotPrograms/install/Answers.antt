use Rattle.std.proofs.Common.{◌≡◌, ◌≢◌, ◌<◌, ◌∙◌, ℕ, ap, arith, sym}
use Rattle.std.specs.Prelude.{slice_get}
use Rattle.node_programs.specs.Published.{sizes_of}
use Rattle.single_node.specs.Slots.{placed_at}
use Rattle.single_node.proofs.Placing.{inside, longer_placed}
use Rattle.single_node.proofs.programs.SlotPrograms.install.Goals as goal

pub free_place-place-requires : goal.free_place-place-requires
free_place-place-requires c = λ k few.
    inside c.self.inside.list c.self.inside.programs.items c.self.inside.slots c.self.inside.count c.self.inside.sizes k few c.self.invariant

pub invariant_of-self-2 : goal.invariant_of-self-2
invariant_of-self-2 c =
    let h = c.self.inside.list in
    let xs = c.self.inside.programs.items in
    let ys = c.hold.new.programs.items in
    let slots = c.self.inside.slots in
    let few : c.args.slot < 4 = omega (arith, c.requires.slot) in
    let for : c.args.program.sizes ≡ sizes_of h = c.requires.sizes ∙ ap sizes_of (sym c.self.view_is) in
    let same : (k : ℕ) → k < 4 → k ≢ c.args.slot → slice_get ys (placed_at slots k).place ≡ slice_get xs (placed_at slots k).place
    = λ k low other. c.in_ok-hold.ensures.others (placed_at slots k).place (c.free_place-place.ensures.free k low other) (inside h xs slots c.self.inside.count c.self.inside.sizes k low c.self.invariant) in
    rw (c.with-list.ensures, c.set_place.ensures) (longer_placed c.published_programs.ensures.next h xs ys slots c.self.inside.count c.self.inside.sizes c.args.slot c.free_place-place.result
    (record { slot = c.args.slot; program = c.args.program }) few c.self.invariant for same c.in_ok-hold.ensures.there)
