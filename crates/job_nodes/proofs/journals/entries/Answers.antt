use Rattle.std.proofs.Common.{ap, sym, ◌∙◌}
use Rattle.job_nodes.specs.JobNode.{journal_of}
use Rattle.job_nodes.proofs.journals.entries.Goals as goal

pub returns : goal.returns
returns c = c.entries.ensures ∙ ap (λ b. (journal_of b).entries) (sym c.bank.ensures)
