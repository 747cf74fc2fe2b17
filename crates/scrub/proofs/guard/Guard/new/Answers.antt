use Rattle.std.proofs.Common.{ℕ, List, [], ◌∷◌, refl}
use Rattle.std.specs.Prelude.{slice_get}
use Rattle.scrub.specs.declared.kept.SlotSums.{SlotSums}
use Rattle.scrub.specs.Kept.{AreFresh}
use Rattle.scrub.proofs.Four.{four}
use Rattle.scrub.proofs.guard.Guard.new.Goals as goal

pub returns : goal.returns
returns c =
    let all : List SlotSums = c.fresh_at.result ∷ c.fresh_at-2.result ∷ c.fresh_at-3.result ∷ c.fresh_at-4.result ∷ [] in
    record {
      sizes_are = c.sizes_sum.ensures;
      counting_is = c.of.ensures;
      fresh = λ slot low. four (λ (s : ℕ). AreFresh c.args.node.now.programs s (slice_get all s)) c.fresh_at.ensures c.fresh_at-2.ensures c.fresh_at-3.ensures c.fresh_at-4.ensures slot low;
    }
