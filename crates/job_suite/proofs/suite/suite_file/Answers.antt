use Rattle.std.proofs.Common.{refl}
use Rattle.std.proofs.lemmas.Result.{err_from_is_err_and}
use Rattle.job_suite.proofs.SuiteEnds.{no_chart, printed}
use Rattle.job_suite.proofs.suite.suite_file.Goals as goal

pub returns-in_err-chart-clause-stops : goal.returns-in_err-chart-clause-stops
returns-in_err-chart-clause-stops g c =
    let gone = err_from_is_err_and c.from_residual-in_err-chart.result c.from_residual-in_err-chart.ensures.1 in
    rw (gone.1) (no_chart g.F.Files.reads c.args.words.now _ _ _ _ _ _ _ _ c.table_name.ensures c.in_ok-table.ensures.text c.in_ok-node.ensures.held c.in_ok-bench.ensures _ _ gone.2 c.in_err-chart.ensures.err)

pub returns-clause-done : goal.returns-clause-done
returns-clause-done g c =
    (refl, printed g.F.Files.reads c.args.words.now _ _ _ _ _ _ _ _ c.table_name.ensures c.in_ok-table.ensures.text c.in_ok-node.ensures.held c.in_ok-bench.ensures _ _ _ _ c.in_ok-chart.ensures.ok c.in_ok-text.ensures c.as_str.ensures.value c.in_ok-print_text.ensures)
