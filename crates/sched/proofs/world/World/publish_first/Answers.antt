use Rattle.std.proofs.Common.{ℕ, sym, subst}
use Rattle.bver.specs.Justified.{AcceptedValue}
use Rattle.sched.specs.Firsts.{AddsFirst, IsFirstOfWorld}
use Rattle.sched.specs.Worlds.{IsWorld, WorldValue}
use Rattle.sched.specs.contracts.world.World.{the_view}
use Rattle.sched.proofs.Firsts.{adds_first, first_fits, first_world}
use Rattle.sched.proofs.world.World.publish_first.Goals as goal

pub invariant_of-self : goal.invariant_of-self
invariant_of-self c =
    let w = the_view c.self.inside in
    let first = subst (λ (v : WorldValue). IsFirstOfWorld v.sizes (c.args.slot, c.args.program)) (sym c.self.view_is) c.requires.first in
    subst (λ (a : AcceptedValue). IsWorld (first_world w c.from.result a)) (sym c.in_ok-new.ensures.ok)
    (subst (λ (k : ℕ). IsWorld (first_world w k c.args.program)) (sym c.from.ensures)
    (first_fits w c.args.slot c.args.program first c.self.invariant))

pub returns : goal.returns
returns c =
    let w = the_view c.self.inside in
    let first = subst (λ (v : WorldValue). IsFirstOfWorld v.sizes (c.args.slot, c.args.program)) (sym c.self.view_is) c.requires.first in
    rw (← c.self.view_is) (subst (λ (a : AcceptedValue). AddsFirst (c.args.slot, c.args.program) w (first_world w c.from.result a)) (sym c.in_ok-new.ensures.ok)
    (subst (λ (k : ℕ). AddsFirst (c.args.slot, c.args.program) w (first_world w k c.args.program)) (sym c.from.ensures)
    (adds_first w c.args.slot c.args.program first c.image-justified.ensures.justified)))
