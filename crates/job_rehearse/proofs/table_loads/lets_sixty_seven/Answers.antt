use Rattle.std.proofs.Common.{ℕ, List, subst}
use Rattle.job_rehearse.specs.Judging.{IsPassing}
use Rattle.job_rehearse.specs.TableLoads.{sixty_seven}
use Rattle.job_rehearse.proofs.table_loads.lets_sixty_seven.Goals as goal

pub returns : goal.returns
returns c = record {
  plain = c.in_ok-plain.plain;
  own = c.in_ok-own.own;
  plain_is = c.in_ok-plain.ensures;
  own_is = subst (λ (i : List ℕ). IsPassing c.args.asked.now.judge sixty_seven i c.in_ok-own.own) c.as_slice.ensures.value c.in_ok-own.ensures;
  is_both = c.are_always.ensures;
}
