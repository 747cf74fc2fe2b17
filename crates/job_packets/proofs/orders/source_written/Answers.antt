use Rattle.std.proofs.Common.{None, lit<}
use Rattle.std.proofs.lemmas.Result.{err_from_is_err_and}
use Rattle.std.proofs.lemmas.Str.Pattern.{strip_prefix_char}
use Rattle.job_packets.proofs.NoOrders.{source_fault}
use Rattle.job_packets.proofs.orders.source_written.Goals as goal

pub returns-in_err-bytes_written-in-None-clause-err : goal.returns-in_err-bytes_written-in-None-clause-err
returns-in_err-bytes_written-in-None-clause-err c =
    let other = strip_prefix_char 64 c.args.word.now None c.in-None.ensures.cases (lit< tt) in
    let from = c.from_residual-in_err-bytes_written-in-None in
    let gone = err_from_is_err_and from.result from.ensures.1 in
    rw (gone.1, gone.2) (source_fault c.args.word.now _ other c.in_err-bytes_written-in-None.ensures.err)
