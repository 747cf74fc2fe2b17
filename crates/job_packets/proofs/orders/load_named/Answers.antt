use Rattle.std.proofs.lemmas.Result.{err_from_is_err_and}
use Rattle.job_packets.proofs.NoOrders.{load_fault}
use Rattle.job_packets.proofs.orders.load_named.Goals as goal

pub returns-in_err-slots-clause-err : goal.returns-in_err-slots-clause-err
returns-in_err-slots-clause-err c =
    let from = c.from_residual-in_err-slots in
    let gone = err_from_is_err_and from.result from.ensures.1 in
    rw (gone.1, gone.2) (load_fault _ _ c.in_err-slots.ensures.err)
