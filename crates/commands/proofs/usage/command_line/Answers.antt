use Rattle.std.proofs.Common.{ap, ap₂, codes, true, ◌≡◌, ◌∙◌}
use Rattle.std.proofs.lemmas.Result.{IfOk-weaker}
use Rattle.clap.specs.Simple.{App, Shape, app_of, app_of_fields, new_app, on_top, with_subcommand}
use Rattle.commands.specs.CommandLine.{rmapctl_app, with_chart_jobs, with_first_jobs, with_packet_jobs}
use Rattle.commands.specs.OnNodes.{with_node_option}
use Rattle.commands.proofs.usage.command_line.Goals as goal

abbrev versioned : Shape → Shape
versioned s = record s { has_version = true }

abbrev bare : Shape → Shape
bare s = record s { no_binary_name = true }

abbrev helpless : Shape → Shape
helpless s = record s { disable_help_subcommand = true }

abbrev wanting : Shape → Shape
wanting s = record s { subcommand_required = true }

pub returns : goal.returns
unfolding rmapctl_app
returns c =
    let about : app_of c.about.result ≡ new_app (codes "rmapctl") =
    ap app_of_fields c.about.ensures ∙ ap app_of_fields c.in_ok-rmapctl.ensures.0 ∙ c.new.ensures.app in
    let reported : app_of c.version.result ≡ on_top versioned (app_of c.about.result) = ap app_of_fields c.version.ensures in
    let first : app_of c.no_binary_name.result ≡ on_top bare (app_of c.version.result) = ap app_of_fields c.no_binary_name.ensures in
    let second : app_of c.disable_help_subcommand.result ≡ on_top helpless (app_of c.no_binary_name.result) =
    ap app_of_fields c.disable_help_subcommand.ensures in
    let third : app_of c.subcommand_required-top.result ≡ on_top wanting (app_of c.disable_help_subcommand.result) =
    ap app_of_fields c.subcommand_required-top.ensures in
    let top = third ∙ ap (on_top wanting) (second ∙ ap (on_top helpless) (first ∙ ap (on_top bare) (reported ∙ ap (on_top versioned) about))) in
    let with_first = c.in_ok-with_first_jobs.ensures ∙ ap with_first_jobs top in
    let with_serve = c.in_ok-subcommand.ensures.shape c.in_ok-serve.ensures.local
    ∙ ap₂ with_subcommand with_first (ap (λ (a : App). a.top) c.in_ok-serve.ensures.shape) in
    let with_sim = c.in_ok-subcommand-2.ensures.shape c.in_ok-sim.ensures.local
    ∙ ap₂ with_subcommand with_serve (ap (λ (a : App). a.top) c.in_ok-sim.ensures.shape) in
    let with_live = c.in_ok-subcommand-3.ensures.shape c.in_ok-live.ensures.local
    ∙ ap₂ with_subcommand with_sim (ap (λ (a : App). a.top) c.in_ok-live.ensures.shape) in
    let with_explain = c.in_ok-subcommand-4.ensures.shape c.in_ok-explain.ensures.local
    ∙ ap₂ with_subcommand with_live (ap (λ (a : App). a.top) c.in_ok-explain.ensures.shape) in
    let why = c.in_ok-why.ensures.shape ∙ ap with_node_option c.in_ok-why_command.ensures.shape in
    let with_why = c.in_ok-subcommand-5.ensures.shape c.in_ok-why.ensures.local
    ∙ ap₂ with_subcommand with_explain (ap (λ (a : App). a.top) why) in
    let weigh = c.in_ok-weigh.ensures.shape ∙ ap with_node_option c.in_ok-weigh_command.ensures.shape in
    let with_weigh = c.in_ok-subcommand-6.ensures.shape c.in_ok-weigh.ensures.local
    ∙ ap₂ with_subcommand with_why (ap (λ (a : App). a.top) weigh) in
    let with_all = c.in_ok-all.ensures.shape c.in_ok-node.ensures.local
    ∙ ap₂ with_subcommand with_weigh (ap (λ (a : App). a.top) c.in_ok-node.ensures.shape) in
    let with_reported = c.in_ok-reported.ensures ∙ ap with_packet_jobs with_all in
    IfOk-weaker c.with_chart_jobs.result _ _ (λ m h. h ∙ ap with_chart_jobs with_reported) c.with_chart_jobs.ensures
