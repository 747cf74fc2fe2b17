use Rattle.std.proofs.Common.{◌∙◌, ap}
use Rattle.machine.specs.Sizes.{Maps, kind_of_map}
use Rattle.machine.specs.declared.kinds.MapKind.{MapKind}
use Rattle.job_rehearse.specs.Starts.{raised_answer}
use Rattle.job_rehearse.proofs.Starting.{one_more_call}
use Rattle.job_rehearse.proofs.starts.LoadCells.answer.Goals as goal

pub returns-clause-asked : goal.returns-clause-asked
returns-clause-asked c =
    let start = c.args.self.now.start in
    let kind = c.kind_of-kind.ensures ∙ ap (λ (s : Maps). kind_of_map s c.args.asked.map) c.sizes.ensures.sizes in
    one_more_call start c.args.self.now.cells c.ask-own.new.cells c.args.asked c.ask-own.result c.raised_answer.result
    c.ask-own.ensures.sizes c.ask-own.ensures.asked
    (c.raised_answer.ensures ∙ ap (λ (k : MapKind). raised_answer start k c.ask-own.result) kind)
