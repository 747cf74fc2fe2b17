use Rattle.std.proofs.Common.{◌≡◌, ◌∙◌, ap, subst, sym, arith}
use Rattle.std.specs.Prelude.{Some, slice_get}
use Rattle.cells.specs.Seats.{CellsValue, AreSeatsBack}
use Rattle.machine.specs.Sizes.{Maps}
use Rattle.job_ports.specs.Quotas.{IsNumberedAt}
use Rattle.job_ports.proofs.Numbering.{inside_map, one_more}
use Rattle.job_ports.proofs.queues.print_map_tickets.Goals as goal

pub loop-key-preserved : goal.loop-key-preserved
loop-key-preserved c =
    let cells = c.args.cells.now in let key = c.loop-key.key in let was = c.loop-key.invariant in (
      c.print_cell_tickets.ensures.same ∙ was.0,
      λ whole. one_more (λ k. IsNumberedAt cells c.args.map k) key (was.1 whole)
          (subst (λ (it : CellsValue). IsNumberedAt it c.args.map key) was.0 (c.print_cell_tickets.ensures.numbered (subst (λ (it : CellsValue). AreSeatsBack it) (sym was.0) whole))),
    )

pub returns-clause-numbered : goal.returns-clause-numbered
returns-clause-numbered c =
    let some : slice_get c.args.cells.now.sizes.cells c.args.map ≡ Some c.in-Some.count
    = ap (λ (maps : Maps). slice_get maps.cells c.args.map) (sym c.requires) ∙ (sym c.cells.ensures.cells ∙ c.in-Some.is) in
    λ whole. inside_map c.args.cells.now c.args.map c.in-Some.count some (λ key low. c.loop-key.invariant.1 whole key (omega (arith, low, c.loop-key-test.false)))
