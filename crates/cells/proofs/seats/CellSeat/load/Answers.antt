use Rattle.std.proofs.Common.{◌∙◌, subst, sym, arith}
use Rattle.atomic_table.specs.Seated.{table_id_coded}
use Rattle.machine.specs.Sizes.{IsInside}
use Rattle.machine.specs.declared.helpers.Helper.TheVariants as helpers
use Rattle.cells.specs.Seats.{CellSeatValue, Asks, seat}
use Rattle.cells.proofs.Places.{asks_after, counts_at, placed_after}
use Rattle.cells.proofs.seats.CellSeat.load.Goals as goal

pub load-requires : goal.load-requires
load-requires c =
    rw c.deref.ensures
    (counts_at _ _ _ c.self.inside.place c.self.invariant.0 c.word_at-word.result (let part = c.self.invariant.1 in omega arith) c.word_at-word.ensures.inside)

pub invariant_of-self : goal.invariant_of-self
invariant_of-self c =
    let answers = c.load.ensures.2 in
    (placed_after _ _ _ c.self.inside.place c.self.invariant.0 helpers.Count 0 c.load.result _ c.load.new.seat c.word_at-word.ensures.inside c.load.ensures.0 answers, answers.parts ∙ c.self.invariant.1)

pub returns : goal.returns
returns c =
    let after : CellSeatValue = seat c.self.inside.sizes (table_id_coded.code c.load.new.seat.table_id) c.load.new.seat.me.0.answers in
    let inside = subst (λ (v : CellSeatValue). IsInside v.sizes c.args.map c.args.key) (sym c.self.view_is) c.requires in
    record {
      asks = subst (λ (v : CellSeatValue). Asks helpers.Count c.args.map c.args.key 0 v c.load.result after) c.self.view_is
          (asks_after _ _ _ c.self.inside.place c.self.invariant.0 c.args.map c.args.key helpers.Count 0 c.load.result _ c.load.new.seat inside c.word_at-word.ensures.word c.load.ensures.0 c.load.ensures.2);
    }
