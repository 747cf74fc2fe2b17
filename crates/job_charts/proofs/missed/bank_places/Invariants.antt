use Rattle.std.proofs.Common.{[]}
use Rattle.job_charts.specs.Missed.{AddsBank}
use Rattle.chart_lines.specs.Reporting.{PrintsFirst}
use Rattle.job_charts.proofs.missed.bank_places.Given as goal

abbrev pub invariant-loop-number : goal.invariant-loop-number
invariant-loop-number l = PrintsFirst (AddsBank l.windows) l.number [] l.places.items
