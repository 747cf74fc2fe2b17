use Rattle.absdom.proofs.GrowState as states
use Rattle.absdom.proofs.laws.apply_grows.Goals as goal

pub returns : goal.returns
returns c =
    states.apply_grows c.results_grow.ensures.alu c.results_grow.ensures.negate c.results_grow.ensures.move_signed c.results_grow.ensures.byte_swap
