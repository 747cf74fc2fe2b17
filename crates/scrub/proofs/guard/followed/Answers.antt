use Rattle.std.proofs.Common.{ℕ, List, [], ◌∷◌, ◌∙◌, arith}
use Rattle.std.specs.Prelude.{slice_get}
use Rattle.scrub.specs.declared.kept.SlotSums.{SlotSums}
use Rattle.scrub.specs.Kept.{FollowAt}
use Rattle.scrub.proofs.Four.{four}
use Rattle.scrub.proofs.Serving.{follow_found}
use Rattle.scrub.proofs.guard.followed.Goals as goal

pub returns : goal.returns
returns c =
    let all : List SlotSums = c.followed_at.result ∷ c.followed_at-2.result ∷ c.followed_at-3.result ∷ c.followed_at-4.result ∷ [] in
    let after = c.args.node.now.programs in
    let sums = c.args.sums.now in
    λ programs are slot low. four (λ (s : ℕ). FollowAt programs after s (slice_get sums s) (slice_get all s))
    (follow_found programs after 0 (slice_get sums 0) c.sums_at.result c.followed_at.result c.sums_at.ensures (c.followed_at.ensures programs (are 0 (omega arith) ∙ c.generation_of.ensures)))
    (follow_found programs after 1 (slice_get sums 1) c.sums_at-2.result c.followed_at-2.result c.sums_at-2.ensures (c.followed_at-2.ensures programs (are 1 (omega arith) ∙ c.generation_of-2.ensures)))
    (follow_found programs after 2 (slice_get sums 2) c.sums_at-3.result c.followed_at-3.result c.sums_at-3.ensures (c.followed_at-3.ensures programs (are 2 (omega arith) ∙ c.generation_of-3.ensures)))
    (follow_found programs after 3 (slice_get sums 3) c.sums_at-4.result c.followed_at-4.result c.sums_at-4.ensures (c.followed_at-4.ensures programs (are 3 (omega arith) ∙ c.generation_of-4.ensures)))
    slot low
