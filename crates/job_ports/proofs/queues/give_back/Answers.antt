use Rattle.std.proofs.Common.{List, ap, ◌∙◌, ◌++◌}
use Rattle.cells.specs.Seats.{CellsValue, calls_back}
use Rattle.machine.specs.declared.calls.Call.{Call}
use Rattle.node_parts.specs.Passes.{SeatValue}
use Rattle.job_ports.proofs.queues.give_back.Goals as goal

pub take_back-requires : goal.take_back-requires
take_back-requires g c = record {
  sizes = ap (λ (s : SeatValue). s.sizes) c.into_seat.ensures ∙ c.requires.sizes;
  home = ap (λ (s : SeatValue). s.home) c.into_seat.ensures ∙ c.requires.home;
}

pub returns : goal.returns
returns g c = let made = c.take_back.ensures.cells in record {
  sizes = ap (λ (it : CellsValue). it.sizes) made;
  home = ap (λ (it : CellsValue). it.home) made;
  parts = ap (λ (it : CellsValue). it.parts) made;
  calls = c.take_back.ensures.calls ∙ ap (λ (l : List Call). calls_back c.args.cells.now ++ l) (ap (λ (s : SeatValue). s.asked) c.into_seat.ensures);
}
