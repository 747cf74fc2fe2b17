use Rattle.std.proofs.Common.{rules}
use Rattle.target.proofs.Judgements.{judged_by_taken}
use Rattle.target.proofs.step.judge_taken.Goals as goal

pub returns-in-Some-clause-judged : goal.returns-in-Some-clause-judged
returns-in-Some-clause-judged g c =
    judged_by_taken _ _ c.in-Some.taken.reader.now.programs _ _ _ _ c.accepted-accepted.result.now c.generation.result c.in-Some.taken.slot
    (search rules) (search rules) (search rules) (search rules) c.generation.ensures c.accepted-accepted.ensures.justified c.judge_by.ensures
