use Rattle.std.proofs.Common.{ap, sym, ◌∙◌}
use Rattle.job_nodes.specs.JobNode.{first_address_of}
use Rattle.job_nodes.proofs.journals.first.Goals as goal

pub returns : goal.returns
returns c = c.range.ensures.first ∙ ap first_address_of (sym c.bank.ensures)
