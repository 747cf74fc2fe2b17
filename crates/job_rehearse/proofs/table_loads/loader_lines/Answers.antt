use Rattle.std.proofs.Common.{Some, None, string_bytes, rules}
use Rattle.std.proofs.lemmas.Result.{IfOk-weaker}
use Rattle.job_rehearse.specs.TableLoads.{AsksTable}
use Rattle.job_rehearse.proofs.Reporting.{loaders_some, loaders_none}
use Rattle.job_rehearse.proofs.table_loads.loader_lines.Goals as goal

pub returns-in-Some : goal.returns-in-Some
returns-in-Some c =
    let asks : AsksTable c.args.sizes.now c.args.table.now (Some c.in-Some.asked) = search rules in
    IfOk-weaker c.lines_of_both.result _ _ (λ text reports. loaders_some c.args.sizes.now c.args.table.now c.args.ports c.in-Some.asked (string_bytes text) asks reports) c.lines_of_both.ensures

pub returns-in-None : goal.returns-in-None
returns-in-None c =
    let asks : AsksTable c.args.sizes.now c.args.table.now None = search rules in
    loaders_none c.args.sizes.now c.args.table.now c.args.ports (string_bytes c.new.result) asks c.new.ensures.bytes
