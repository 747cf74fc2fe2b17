use Rattle.plain_cells.proofs.Tickets as tickets
use Rattle.plain_cells.proofs.Zeros.{zero_cells, zeros}
use Rattle.plain_cells.proofs.laws.tickets_are_counted.Goals as goal

pub returns-clause-counted : goal.returns-clause-counted
returns-clause-counted c = tickets.tickets_are_counted

pub returns-clause-cells : goal.returns-clause-cells
returns-clause-cells c = tickets.calls_keep_cells

pub returns-clause-zeros : goal.returns-clause-zeros
returns-clause-zeros c = λ sizes. (zero_cells sizes, zeros sizes)
