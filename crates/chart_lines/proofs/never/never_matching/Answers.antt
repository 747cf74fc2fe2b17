use Rattle.std.proofs.lemmas.Result.{IfOk-weaker}
use Rattle.chart_lines.proofs.Somewhere.{noted}
use Rattle.chart_lines.proofs.never.never_matching.Goals as goal

pub returns : goal.returns
returns c =
    IfOk-weaker c.notes_of.result _ _ (λ notes is. noted c.args.policy.now c.in_ok-tables.tables.items c.as_slice.result.now c.rules.result.now notes.items c.in_ok-tables.ensures c.as_slice.ensures.value c.rules.ensures.rules is) c.notes_of.ensures
