use Rattle.std.proofs.Common.{◌≡◌, ◌<◌, ℕ}
use Rattle.cells.specs.Seats.{AreSeatsBack}
use Rattle.job_ports.specs.Quotas.{AreNumberedIn}
use Rattle.job_ports.proofs.queues.print_tickets.Given as goal

abbrev pub invariant-loop-map : goal.invariant-loop-map
invariant-loop-map l = (l.cells ≡ l.fn.cells) × (AreSeatsBack l.fn.cells → (map : ℕ) → map < l.map → AreNumberedIn l.fn.cells map)
