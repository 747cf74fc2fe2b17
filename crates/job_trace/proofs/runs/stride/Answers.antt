use Rattle.std.proofs.Common.{rules}
use Rattle.job_trace.proofs.Striding.{strides_ask}
use Rattle.stepper.proofs.Walking.{still_asks}
use Rattle.job_trace.proofs.runs.stride.Goals as goal

pub answer-requires : goal.answer-requires
answer-requires c = still_asks c.args.machine.now c.step.new.self _ c.in-Ask.ensures.outcome c.in-Ask.ensures.run

pub returns-in_ok-answer-in-Ask-clause-stride : goal.returns-in_ok-answer-in-Ask-clause-stride
returns-in_ok-answer-in-Ask-clause-stride c =
    strides_ask c.questions_go_on.ensures.steps c.args.machine.now c.step.new.self c.answer.new.self _ _ _ _ _ _ c.args.insn.now c.in-Ask.ensures.outcome (search rules) c.answer.ensures.state
