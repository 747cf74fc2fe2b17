use Rattle.std.proofs.Common.{◌∙◌, ℕ, List, ap, subst}
use Rattle.spw.specs.declared.packets.End.TheVariants.{Eop}
use Rattle.rmap.specs.Command.{CommandValue, command_of}
use Rattle.job_rehearse.specs.Judging.{HasAnswered}
use Rattle.job_rehearse.specs.Starts.{asked_so_far}
use Rattle.job_rehearse.proofs.judging.answer_to.Goals as goal

pub returns-clause-answer : goal.returns-clause-answer
returns-clause-answer c =
    let same = c.of_bytes-command.ensures
    ∙ ap (λ (bytes : List ℕ). command_of (record { bytes = bytes; end = Eop })) (c.as_slice.ensures.value ∙ c.in_ok-bytes.ensures.bytes) in
    record {
      header = c.header_of-header.result;
      is_header = c.header_of-header.ensures.given;
      answered = subst (λ (k : CommandValue). HasAnswered c.args.judge.now c.args.loader.port k c.verdict_on.result (asked_so_far c.args.cells.now) (asked_so_far c.verdict_on.new.cells)) same c.verdict_on.ensures.verdict;
    }
