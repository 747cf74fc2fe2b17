use Rattle.std.proofs.Common.{string_bytes}
use Rattle.std.proofs.lemmas.Result.{IfOk-weaker}
use Rattle.job_rehearse.proofs.Reporting.{at_node}
use Rattle.job_rehearse.proofs.table_loads.lines_of.Goals as goal

pub returns : goal.returns
returns c =
    IfOk-weaker c.loaders.result _ _
    (λ text reports. at_node c.args.asked.now.judge c.args.image.now c.args.lead.now c.rehearsed_node_of.result _ c.as_slice-askers.result.now _ (string_bytes text) c.rehearsed_node_of.ensures.node c.as_slice-askers.ensures.value reports)
    c.loaders.ensures
