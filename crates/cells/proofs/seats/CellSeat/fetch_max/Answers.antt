use Rattle.std.proofs.Common.{◌≡◌, ◌∙◌, max, subst, sym, arith}
use Rattle.atomic_table.specs.Seated.{table_id_coded}
use Rattle.machine.specs.Sizes.{IsInside, kind_of_map}
use Rattle.machine.specs.declared.kinds.MapKind.TheVariants.{Peak}
use Rattle.machine.specs.declared.helpers.Helper.TheVariants as helpers
use Rattle.cells.specs.Seats.{CellSeatValue, Asks, seat}
use Rattle.cells.proofs.Places.{asks_after, raises_at, placed_after}
use Rattle.cells.proofs.seats.CellSeat.fetch_max.Goals as goal

pub fetch_max-requires : goal.fetch_max-requires
fetch_max-requires c =
    let inside = subst (λ (v : CellSeatValue). IsInside v.sizes c.args.map c.args.key) (sym c.self.view_is) c.requires.inside in
    let kind = subst (λ (v : CellSeatValue). kind_of_map v.sizes c.args.map ≡ Peak) (sym c.self.view_is) c.requires.kind in
    rw c.deref.ensures
    (raises_at _ _ _ c.self.inside.place c.self.invariant.0 c.args.map c.args.key c.word_at-word.result c.args.value inside c.word_at-word.ensures.word kind (let part = c.self.invariant.1 in omega arith) c.word_at-word.ensures.inside)

pub invariant_of-self : goal.invariant_of-self
invariant_of-self c =
    let answers = c.fetch_max.ensures.2 in
    (placed_after _ _ _ c.self.inside.place c.self.invariant.0 helpers.Peak c.args.value (max c.fetch_max.result c.args.value) _ c.fetch_max.new.seat c.word_at-word.ensures.inside c.fetch_max.ensures.0 answers, answers.parts ∙ c.self.invariant.1)

pub returns : goal.returns
returns c =
    let after : CellSeatValue = seat c.self.inside.sizes (table_id_coded.code c.fetch_max.new.seat.table_id) c.fetch_max.new.seat.me.0.answers in
    let inside = subst (λ (v : CellSeatValue). IsInside v.sizes c.args.map c.args.key) (sym c.self.view_is) c.requires.inside in
    record {
      asks = subst (λ (v : CellSeatValue). Asks helpers.Peak c.args.map c.args.key c.args.value v (max c.fetch_max.result c.args.value) after) c.self.view_is
          (asks_after _ _ _ c.self.inside.place c.self.invariant.0 c.args.map c.args.key helpers.Peak c.args.value (max c.fetch_max.result c.args.value) _ c.fetch_max.new.seat inside c.word_at-word.ensures.word c.fetch_max.ensures.0 c.fetch_max.ensures.2);
    }
