use Rattle.std.proofs.Common.{◌≡◌, Some, codes, rules}
use Rattle.std.proofs.lemmas.Result.{err_from_is_err_and}
use Rattle.clap.specs.Walk.{first_of, rows_of}
use Rattle.clap.specs.Matches.{found_of}
use Rattle.job_packets.proofs.NoOrders.{loads_fault, order_fault}
use Rattle.job_packets.proofs.orders.order_of.Goals as goal

pub returns-in_err-code-in-Some-write-clause-err : goal.returns-in_err-code-in-Some-write-clause-err
returns-in_err-code-in-Some-write-clause-err c =
    let from = c.from_residual-in_err-code-in-Some-write in
    let kind : first_of (codes "kind") (rows_of (found_of c.args.found.now)) ≡ Some (codes "write") = search rules in
    let gone = err_from_is_err_and from.result from.ensures.1 in
    rw (gone.1, gone.2) (order_fault _ _ kind c.in_err-code-in-Some-write.ensures.err)

pub returns-in_err-image-in-Some-load-clause-err : goal.returns-in_err-image-in-Some-load-clause-err
returns-in_err-image-in-Some-load-clause-err c =
    let from = c.from_residual-in_err-image-in-Some-load in
    let kind : first_of (codes "kind") (rows_of (found_of c.args.found.now)) ≡ Some (codes "load") = search rules in
    let gone = err_from_is_err_and from.result from.ensures.1 in
    rw (gone.1, gone.2) (loads_fault _ _ kind c.in_err-image-in-Some-load.ensures.err)
