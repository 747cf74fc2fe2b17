use Rattle.std.proofs.Common.{◌∙◌, ap, rules}
use Rattle.node_parts.specs.Passes.{RunContextValue, context_after}
use Rattle.node_parts.proofs.Askings.{seat_asked}
use Rattle.node_parts.proofs.step.verdict.Goals as goal

pub returns : goal.returns
returns g c =
    let run = c.run.ensures.run in
    let asked = seat_asked c.context.inside.port c.context.inside.windows _ _ _ _ _ _ run.0 c.run.ensures.sizes c.run.ensures.home run.1 in
    let ran = run.2 in
    record {
      calls = run.0;
      asked = asked ∙ ap (λ (b : RunContextValue). context_after b run.0) c.context.view_is;
      run = search rules;
    }
