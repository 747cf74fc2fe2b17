use Rattle.std.proofs.Common.{rules, subst}
use Rattle.rmap.specs.Command.{CommandValue}
use Rattle.brun.specs.Runs.{header, RunsWithin}
use Rattle.node_parts.proofs.step.judge_by.Goals as goal

pub returns : goal.returns
returns g c =
    let run = c.verdict-verdict.ensures in
    let program = c.args.program.now.program in
    let P : CommandValue → Type 0 = λ x. RunsWithin program (header x.front x.tail) c.args.context.now.port run.calls c.verdict-verdict.result in
    record {
      calls = run.calls;
      asked = run.asked;
      judged = record { judged = search rules; verdict = rw (c.of.ensures) (subst P c.command.ensures.command run.run) };
    }
