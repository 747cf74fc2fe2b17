use Rattle.std.proofs.Common.{rules, ap, ◌∙◌, ◌++◌, ◌∷◌, []}
use Rattle.ports.specs.Queue.{taken_of}
use Rattle.ports.proofs.Serving.{none_yet, one_more}
use Rattle.ports.proofs.works.work.Goals as goal

pub loop-init : goal.loop-init
loop-init g c = (search rules, search rules, search rules, none_yet _ _ _)

pub loop-preserved : goal.loop-preserved
loop-preserved g c =
    let taken = c.take.ensures.taken ∙ ap (λ x. taken_of c.loop.worker.serve_pass ++ x ∷ []) c.in-Data.is in (
      search rules,
      search rules,
      search rules,
      one_more _ _ _ _ _ _ _ _ _ c.loop.invariant.3 taken c.one_more-one.ensures.served c.plus-report.ensures,
    )
