use Rattle.std.proofs.Common.{map}
use Rattle.basm.specs.Labels.{IsSurvey}
use Rattle.basm.proofs.survey.Survey.of.Given as goal

abbrev pub invariant-loop-line : goal.invariant-loop-line
invariant-loop-line l = IsSurvey (map (λ line. line.now) l.yielded) l.survey
