use Rattle.std.proofs.Common.{◌≡◌, ◌∙◌, subst, sym, arith}
use Rattle.atomic_table.specs.Seated.{table_id_coded}
use Rattle.machine.specs.Sizes.{IsInside, kind_of_map}
use Rattle.machine.specs.declared.kinds.MapKind.TheVariants.{Counter}
use Rattle.machine.specs.declared.helpers.Helper.TheVariants as helpers
use Rattle.cells.specs.Seats.{CellSeatValue, Asks, seat}
use Rattle.cells.proofs.Places.{asks_after, draws_one_at, placed_after}
use Rattle.cells.proofs.seats.CellSeat.fetch_add.Goals as goal

pub fetch_add-requires : goal.fetch_add-requires
fetch_add-requires c =
    let inside = subst (λ (v : CellSeatValue). IsInside v.sizes c.args.map c.args.key) (sym c.self.view_is) c.requires.inside in
    let kind = subst (λ (v : CellSeatValue). kind_of_map v.sizes c.args.map ≡ Counter) (sym c.self.view_is) c.requires.kind in
    rw c.deref.ensures
    (draws_one_at _ _ _ c.self.inside.place c.self.invariant.0 c.args.map c.args.key c.word_at-word.result inside c.word_at-word.ensures.word kind (let part = c.self.invariant.1 in omega arith) c.word_at-word.ensures.inside)

pub invariant_of-self : goal.invariant_of-self
invariant_of-self c =
    let answers = c.fetch_add.ensures.2 in
    (placed_after _ _ _ c.self.inside.place c.self.invariant.0 helpers.Ticket 0 c.fetch_add.result _ c.fetch_add.new.seat c.word_at-word.ensures.inside c.fetch_add.ensures.0 answers, answers.parts ∙ c.self.invariant.1)

pub returns : goal.returns
returns c =
    let after : CellSeatValue = seat c.self.inside.sizes (table_id_coded.code c.fetch_add.new.seat.table_id) c.fetch_add.new.seat.me.0.answers in
    let inside = subst (λ (v : CellSeatValue). IsInside v.sizes c.args.map c.args.key) (sym c.self.view_is) c.requires.inside in
    record {
      asks = subst (λ (v : CellSeatValue). Asks helpers.Ticket c.args.map c.args.key 0 v c.fetch_add.result after) c.self.view_is
          (asks_after _ _ _ c.self.inside.place c.self.invariant.0 c.args.map c.args.key helpers.Ticket 0 c.fetch_add.result _ c.fetch_add.new.seat inside c.word_at-word.ensures.word c.fetch_add.ensures.0 c.fetch_add.ensures.2);
    }
