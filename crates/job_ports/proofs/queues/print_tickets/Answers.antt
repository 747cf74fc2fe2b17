use Rattle.std.proofs.Common.{◌∙◌, subst, sym}
use Rattle.cells.specs.Seats.{CellsValue, AreSeatsBack}
use Rattle.job_ports.specs.Quotas.{AreNumberedIn}
use Rattle.job_ports.proofs.Numbering.{one_more}
use Rattle.job_ports.proofs.queues.print_tickets.Goals as goal

pub loop-map-preserved : goal.loop-map-preserved
loop-map-preserved c =
    let cells = c.args.cells.now in let map = c.loop-map.map in let was = c.loop-map.invariant in (
      c.print_map_tickets.ensures.same ∙ was.0,
      λ whole. one_more (λ m. AreNumberedIn cells m) map (was.1 whole)
          (subst (λ (it : CellsValue). AreNumberedIn it map) was.0 (c.print_map_tickets.ensures.numbered (subst (λ (it : CellsValue). AreSeatsBack it) (sym was.0) whole))),
    )
