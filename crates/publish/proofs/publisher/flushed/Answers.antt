use Rattle.std.proofs.Common.{◌≡◌, ◌∙◌, ap, sym, subst, fold, drop}
use mathlib.Core.List.{IsPrefix}
use Rattle.publish.specs.Reached.{Reached}
use Rattle.publish.proofs.Families.{shows}
use Rattle.publish.proofs.publisher.flushed.Goals as goal

pub publish_as-next-requires : goal.publish_as-next-requires
publish_as-next-requires g c next is =
    let now = c.loop.writer.desk.shown.value in
    let here : next ≡ fold (λ _ t. t) c.args.writer.desk.shown.value (drop c.args.writer.behind c.args.writer.log.items)
    = rw (← c.loop.invariant.0, ← c.loop.invariant.1) is in
    let longer : IsPrefix now.programs (fold (λ _ t. t) c.args.writer.desk.shown.value (drop c.args.writer.behind c.args.writer.log.items)).programs
    = rw c.loop.invariant.0 c.requires.longer in
    shows _ _ _ _ next (ap (λ (t : Reached). t.family) here ∙ c.requires.family) (subst (λ (t : Reached). IsPrefix now.programs t.programs) (sym here) longer)
