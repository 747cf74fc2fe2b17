use Rattle.std.proofs.Common.{◌≢◌, codes, rules}
use Rattle.job_packets.proofs.HexDigits.{bytes_fault}
use Rattle.job_packets.proofs.hex_words.bytes_written.Goals as goal

pub returns-in-Err-clause-err : goal.returns-in-Err-clause-err
returns-in-Err-clause-err c =
    let other : c.args.text.now ≢ codes "-" = search rules in
    rw c.fault_of.ensures (bytes_fault c.args.text.now c.args.word c.in-Err.refused other c.in-Err.ensures.err)
