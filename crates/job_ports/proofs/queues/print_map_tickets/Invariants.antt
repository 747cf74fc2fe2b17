use Rattle.std.proofs.Common.{◌≡◌, ◌<◌, ℕ}
use Rattle.cells.specs.Seats.{AreSeatsBack}
use Rattle.job_ports.specs.Quotas.{IsNumberedAt}
use Rattle.job_ports.proofs.queues.print_map_tickets.Given as goal

abbrev pub invariant-loop-key : goal.invariant-loop-key
invariant-loop-key l = (l.cells ≡ l.fn.cells) × (AreSeatsBack l.fn.cells → (key : ℕ) → key < l.key → IsNumberedAt l.fn.cells l.map key)
