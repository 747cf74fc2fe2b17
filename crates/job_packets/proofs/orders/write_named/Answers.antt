use Rattle.std.proofs.lemmas.Result.{err_from_is_err_and}
use Rattle.job_packets.proofs.NoOrders.{write_fault}
use Rattle.job_packets.proofs.orders.write_named.Goals as goal

pub returns-in_err-source-clause-err : goal.returns-in_err-source-clause-err
returns-in_err-source-clause-err c =
    let from = c.from_residual-in_err-source in
    let gone = err_from_is_err_and from.result from.ensures.1 in
    rw (gone.1, gone.2) (write_fault _ _ c.in_err-source.ensures.err)
