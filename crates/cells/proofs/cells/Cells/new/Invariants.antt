use Rattle.std.proofs.Common.{◌≡◌, ◌-◌, [], replicate}
use Rattle.std.specs.Arc.{arc_value}
use Rattle.atomic_table.specs.Seated.{table_id_coded}
use Rattle.cells.specs.Counting.{seat_log}
use Rattle.cells.specs.Seats.{IsSeatPlaced, seat}
use Rattle.cells.proofs.cells.Cells.new.Given as goal

abbrev pub invariant-loop-seat : goal.invariant-loop-seat
invariant-loop-seat l = record {
  placed : IsSeatPlaced l.sizes (arc_value l.words).shared.key (arc_value l.words).shared.table_id l.rest;
  rest : l.rest.me.0 ≡ seat_log l.sizes (256 - l._seat) [];
  places : l.places.items ≡ replicate l._seat (seat l.sizes (table_id_coded.code l.rest.table_id) []);
}
