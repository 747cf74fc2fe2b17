use Rattle.std.proofs.Common.{ap, ap₂, ◌∙◌}
use Rattle.std.proofs.lemmas.Result.{IfOk-weaker}
use Rattle.clap.specs.Simple.{App, app_of, with_subcommand}
use Rattle.commands.specs.OnNodes.{with_node_option}
use Rattle.commands.proofs.usage.with_packet_jobs.Goals as goal

pub returns : goal.returns
returns c =
    let packet = c.in_ok-packet.ensures.shape ∙ ap with_node_option c.in_ok-packet_command.ensures.shape in
    let with_packet = c.in_ok-subcommand.ensures.shape c.in_ok-packet.ensures.local
    ∙ ap (with_subcommand (app_of c.args.rmapctl)) (ap (λ (a : App). a.top) packet) in
    let with_show = c.in_ok-subcommand-2.ensures.shape c.in_ok-show.ensures.local
    ∙ ap₂ with_subcommand with_packet (ap (λ (a : App). a.top) c.in_ok-show.ensures.shape) in
    let decide = c.in_ok-decide.ensures.shape ∙ ap with_node_option c.in_ok-decide_command.ensures.shape in
    let with_decide = c.in_ok-subcommand-3.ensures.shape c.in_ok-decide.ensures.local
    ∙ ap₂ with_subcommand with_show (ap (λ (a : App). a.top) decide) in
    IfOk-weaker c.subcommand-4.result _ _ (λ m h. h.shape c.in_ok-trace.ensures.local
    ∙ ap₂ with_subcommand with_decide (ap (λ (a : App). a.top) c.in_ok-trace.ensures.shape)) c.subcommand-4.ensures
