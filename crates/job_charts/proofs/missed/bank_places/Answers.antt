use Rattle.std.proofs.Common.{[]}
use Rattle.job_charts.specs.Missed.{AddsBank}
use Rattle.job_charts.proofs.Reporting.{reports_more}
use Rattle.job_charts.proofs.missed.bank_places.Goals as goal

pub loop-number-preserved : goal.loop-number-preserved
loop-number-preserved c =
    reports_more (AddsBank c.args.windows.now) c.loop-number.number [] c.loop-number.places.items c.push_bank.new.places.items
    c.loop-number.invariant c.in_ok-push_bank.ensures
