use Rattle.absdom.proofs.FitsState as states
use Rattle.absdom.proofs.laws.apply_fits.Goals as goal

pub returns : goal.returns
returns c =
    states.apply_fits c.stored_bytes_are_read.ensures c.same_bytes.ensures c.results_fit.ensures.alu c.results_fit.ensures.negate c.results_fit.ensures.move_signed c.results_fit.ensures.byte_swap
