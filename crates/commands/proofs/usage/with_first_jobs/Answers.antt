use Rattle.std.proofs.Common.{ap, ap₂, ◌∙◌}
use Rattle.std.proofs.lemmas.Result.{IfOk-weaker}
use Rattle.clap.specs.Simple.{App, app_of, with_subcommand}
use Rattle.commands.specs.OnNodes.{with_node_option}
use Rattle.commands.proofs.usage.with_first_jobs.Goals as goal

pub returns : goal.returns
returns c =
    let with_asm = c.in_ok-subcommand.ensures.shape c.in_ok-asm.ensures.local
    ∙ ap (with_subcommand (app_of c.args.rmapctl)) (ap (λ (a : App). a.top) c.in_ok-asm.ensures.shape) in
    let with_dis = c.in_ok-subcommand-2.ensures.shape c.in_ok-dis.ensures.local
    ∙ ap₂ with_subcommand with_asm (ap (λ (a : App). a.top) c.in_ok-dis.ensures.shape) in
    let verify = c.in_ok-verify.ensures.shape ∙ ap with_node_option c.in_ok-verify_command.ensures.shape in
    let with_verify = c.in_ok-subcommand-3.ensures.shape c.in_ok-verify.ensures.local
    ∙ ap₂ with_subcommand with_dis (ap (λ (a : App). a.top) verify) in
    let with_judge = c.in_ok-subcommand-4.ensures.shape c.in_ok-judge.ensures.local
    ∙ ap₂ with_subcommand with_verify (ap (λ (a : App). a.top) c.in_ok-judge.ensures.shape) in
    let policy = c.in_ok-policy.ensures.shape ∙ ap with_node_option c.in_ok-policy_command.ensures.shape in
    IfOk-weaker c.subcommand-5.result _ _ (λ m h. h.shape c.in_ok-policy.ensures.local
    ∙ ap₂ with_subcommand with_judge (ap (λ (a : App). a.top) policy)) c.subcommand-5.ensures
