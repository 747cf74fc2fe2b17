use Rattle.std.proofs.lemmas.Result.{err_from_is_err_and}
use Rattle.job_packets.proofs.NoOrders.{header_fault}
use Rattle.job_packets.proofs.packet.packet_words.Goals as goal

pub returns-in_err-header-clause-err : goal.returns-in_err-header-clause-err
returns-in_err-header-clause-err c =
    let gone = err_from_is_err_and c.from_residual.result c.from_residual.ensures.1 in
    rw (gone.1, gone.2) (header_fault _ _ c.in_err-header.ensures.err)
