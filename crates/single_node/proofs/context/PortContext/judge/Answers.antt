use Rattle.std.proofs.Common.{rules, subst}
use Rattle.brun.specs.Runs.{header, RunsWithin}
use Rattle.rmap.specs.Command.{CommandValue}
use Rattle.single_node.proofs.context.PortContext.judge.Goals as goal

pub returns : goal.returns
returns c =
    let on = c.verdict-verdict.ensures in
    let run = on.ran in
    let program = c.args.program.now.program in
    let P : CommandValue → Type 0 = λ x. RunsWithin program (header x.front x.tail) c.args.self.now.port run.calls c.verdict-verdict.result in
    record {
      once = record {
        calls = run.calls;
        asked = run.asked;
        judged = record { judged = search rules; verdict = rw (c.of.ensures) (subst P c.command.ensures.command run.run) };
      };
      cells = on.cells;
    }
