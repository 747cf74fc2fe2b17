use Rattle.std.proofs.Common.{◌∙◌, ℕ, List, subst}
use Rattle.job_rehearse.specs.TableLoads.{Mends}
use Rattle.job_rehearse.proofs.table_loads.can_be_mended.Goals as goal

pub returns : goal.returns
returns c =
    let sizes = c.args.sizes.now in
    record {
      front = c.in_ok-front.front;
      second = c.in_ok-second.second;
      front_is = subst (λ (t : List ℕ). Mends sizes t c.in_ok-front.front) (c.as_str.ensures.value ∙ c.in_ok-one.ensures) c.in_ok-front.ensures;
      second_is = subst (λ (t : List ℕ). Mends sizes t c.in_ok-second.second) (c.as_str-2.ensures.value ∙ c.in_ok-other.ensures) c.in_ok-second.ensures;
      either = c.is_either.ensures;
    }
