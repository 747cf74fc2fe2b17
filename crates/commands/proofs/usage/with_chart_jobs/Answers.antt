use Rattle.std.proofs.Common.{ap, ap₂, ◌∙◌}
use Rattle.std.proofs.lemmas.Result.{IfOk-weaker}
use Rattle.clap.specs.Simple.{App, app_of, with_subcommand}
use Rattle.commands.specs.OnNodes.{with_node_option}
use Rattle.commands.proofs.usage.with_chart_jobs.Goals as goal

pub returns : goal.returns
returns c =
    let compare = c.in_ok-compare.ensures.shape ∙ ap with_node_option c.in_ok-compare_command.ensures.shape in
    let with_compare = c.in_ok-subcommand.ensures.shape c.in_ok-compare.ensures.local
    ∙ ap (with_subcommand (app_of c.args.rmapctl)) (ap (λ (a : App). a.top) compare) in
    let chart = c.in_ok-map.ensures.shape ∙ ap with_node_option c.in_ok-map_command.ensures.shape in
    let with_map = c.in_ok-subcommand-2.ensures.shape c.in_ok-map.ensures.local
    ∙ ap₂ with_subcommand with_compare (ap (λ (a : App). a.top) chart) in
    let with_rehearse = c.in_ok-subcommand-3.ensures.shape c.in_ok-rehearse.ensures.local
    ∙ ap₂ with_subcommand with_map (ap (λ (a : App). a.top) c.in_ok-rehearse.ensures.shape) in
    IfOk-weaker c.subcommand-4.result _ _ (λ m h. h.shape c.in_ok-suite.ensures.local
    ∙ ap₂ with_subcommand with_rehearse (ap (λ (a : App). a.top) c.in_ok-suite.ensures.shape)) c.subcommand-4.ensures
