use Rattle.std.proofs.Common.{rules, subst}
use Rattle.node_parts.specs.Passes.{pass_of}
use Rattle.node_parts.specs.Steps.{IsAdmission, IsJudgement}
use Rattle.target.specs.Passes.{PortPass}
use Rattle.target.specs.Steps.{IsJudgedByTaken}
use Rattle.target.proofs.Judgements.{judgement_of, taken_since}
use Rattle.target.proofs.step.judge.Goals as goal

pub returns-clause-step : goal.returns-clause-step
returns-clause-step g c =
    let b = c.pass.inside.context in
    let admitted = c.in-Ok.admitted in
    let judged = c.in-Ok-judge_taken.judged in
    let left = pass_of c.judge_taken.new.context c.judge_taken.new.reader.programs c.pass.inside.shares.items c.pass.inside.staging in
    let admission : IsAdmission admitted c.args.packet b.windows = search rules in
    let by : IsJudgedByTaken c.pass.inside.loader.reader.programs c.judge_taken.new.reader.programs b c.judge_taken.new.context admitted judged = search rules in
    let judgement = judgement_of b c.judge_taken.new.context c.pass.inside.loader.reader.programs c.judge_taken.new.reader.programs c.pass.inside.shares.items c.pass.inside.staging admitted c.args.packet judged admission by in
    (subst (λ (h : PortPass). IsJudgement h.pass left c.args.packet judged) c.pass.view_is judgement, search rules)

pub returns-clause-moment : goal.returns-clause-moment
returns-clause-moment g c =
    taken_since c.args.front.now c.announce.new.front c.judge_taken.new.front c.judge_taken.new.reader.programs c.announce.ensures.known c.in-Ok-judge_taken.ensures.moment
