use Rattle.std.proofs.Common.{◌≤◌, length, rules, sym}
use Rattle.std.proofs.lemmas.List.{take_all}
use Rattle.initiator.proofs.loads.first_bytes.Goals as goal

pub returns-else-bytes-most-clause-bytes : goal.returns-else-bytes-most-clause-bytes
returns-else-bytes-most-clause-bytes c =
    let short : length c.args.bytes.now ≤ c.args.most = search rules in
    sym (take_all c.args.most c.args.bytes.now short)
