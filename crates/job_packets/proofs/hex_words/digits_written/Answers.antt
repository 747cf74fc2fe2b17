use Rattle.std.proofs.Common.{◌≢◌, ◌≤◌, get_or, length, rules}
use Rattle.job_packets.proofs.HexDigits.{digits_low, reads_digits}
use Rattle.job_packets.proofs.hex_words.digits_written.Goals as goal

pub returns-clause-writes : goal.returns-clause-writes
returns-clause-writes c =
    let front : get_or c.args.digits.now 0 0 ≢ 43 = search rules in
    let short : length c.args.digits.now ≤ c.args.most = search rules in
    rw c.ok.ensures.value (reads_digits c.args.most c.args.digits.now c.from_str_radix.result c.requires short front c.from_str_radix.ensures.value)

pub returns-clause-low : goal.returns-clause-low
returns-clause-low c =
    let front : get_or c.args.digits.now 0 0 ≢ 43 = search rules in
    let short : length c.args.digits.now ≤ c.args.most = search rules in
    rw c.ok.ensures.value (digits_low c.args.most c.args.digits.now c.from_str_radix.result short front c.from_str_radix.ensures.value)
