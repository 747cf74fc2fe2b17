-- What judges after a port's own load.
use Rattle.std.proofs.Common.{◌≡◌, ℕ, List, ◌++◌, Some, ap, sym, ◌∙◌, subst, append_assoc}
use mathlib.Core.List.{IsPrefix}
use Rattle.node_programs.specs.declared.publishes.Publish.{Publish}
use Rattle.node_programs.specs.Histories.{longer_history}
use Rattle.node_programs.specs.Published.{judging_program}
use Rattle.node_programs.specs.Laws.{IsKeptOrLater, IsThatOrLater}
use Rattle.node_parts.specs.Laws.{LoadsAreTaken}

prefix_trans : (xs ys zs : List Publish) → IsPrefix xs ys → IsPrefix ys zs → IsPrefix xs zs
prefix_trans xs ys zs p q = (p.0 ++ q.0, sym (append_assoc xs p.0 q.0) ∙ (ap (λ w. w ++ q.0) p.1 ∙ q.1))

pub loads_are_taken : IsKeptOrLater → LoadsAreTaken
loads_are_taken later holder left between after old new j next result p loaded known judgement slot =
    let published_there = loaded.published in
    let seen = judgement.seen in
    let reported : IsPrefix (longer_history old published_there.slot published_there.program) left.programs = subst (λ (l : List Publish). IsPrefix l left.programs) published_there.extends published_there.reported in
    let longer = prefix_trans _ left.programs seen reported (prefix_trans left.programs between.programs seen known judgement.taken.longer) in
    let shown : judging_program seen published_there.slot ≡ Some (judgement.program, next.generation) = subst (λ (k : ℕ). judging_program seen k ≡ Some (judgement.program, next.generation)) slot judgement.taken.shown in
    subst (λ (n : ℕ). IsThatOrLater published_there.program n (judgement.program, next.generation)) (sym published_there.place)
    (later old seen published_there.slot published_there.program judgement.program next.generation longer shown)
