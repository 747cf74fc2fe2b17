use Rattle.job_trace.specs.Judged.{AnswersHelpers}
use Rattle.job_trace.proofs.judged.answer_helpers.Given as goal

abbrev pub invariant-loop-question : goal.invariant-loop-question
invariant-loop-question l = AnswersHelpers l.port l.answers.items l.fn.world l.world
