use Rattle.std.proofs.Common.{sym, ap, ◌∙◌, subst}
use Rattle.atomic_table.specs.Seated.{table_id_coded}
use Rattle.machine.specs.Sizes.{Maps}
use Rattle.cells.specs.Seats.{AreOf}
use Rattle.cells.proofs.Places.{joins_at, placed_joined}
use Rattle.cells.proofs.cells.Cells.take_back.Goals as goal

pub join_seat-requires : goal.join_seat-requires
join_seat-requires c =
    let home = table_id_coded.inj c.seat.inside.place.table_id c.self.inside.rest.table_id (ap (λ s. s.home) c.seat.view_is ∙ c.requires.home ∙ sym (ap (λ s. s.home) c.self.view_is)) in
    rw c.deref.ensures (joins_at _ _ _ c.self.inside.rest c.self.invariant c.seat.inside.place (home ∙ c.self.invariant.home) c.seat.invariant.0.slots)

pub invariant_of-self : goal.invariant_of-self
invariant_of-self c =
    let sizes = ap (λ s. s.sizes) c.seat.view_is ∙ c.requires.sizes ∙ sym (ap (λ s. s.sizes) c.self.view_is) in
    let answers = c.seat.inside.place.me.0.answers in
    let me = c.join_seat.ensures.2 in
    placed_joined _ _ _ c.self.inside.rest c.self.invariant c.join_seat.new.seat answers c.join_seat.ensures.0 (ap (λ m. m.1) me) (ap (λ m. m.0.maps) me) (ap (λ m. m.0.answers) me)
    (subst (λ (n : Maps). AreOf n answers) sizes c.seat.invariant.0.answers)
