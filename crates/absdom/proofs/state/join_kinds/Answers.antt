use Rattle.std.proofs.Common.{◌≢◌, ◌<◌, ◌∙◌, length, arith, length-set, get_or-set_other, get_or-set_same, below_more, rules}
use Rattle.absdom.proofs.state.join_kinds.Goals as goal

pub loop-register-preserved : goal.loop-register-preserved
loop-register-preserved c = record {
  size = length-set _ _ _ ∙ c.loop-register.invariant.size;
  kinds = below_more _ _
      (λ k h. let ne : k ≢ c.loop-register.register = omega arith in rw get_or-set_other (c.loop-register.invariant.kinds k h))
      (let lt : c.loop-register.register < length c.loop-register.a = omega (arith, c.loop-register.invariant.size) in rw get_or-set_same (search rules));
  ahead = λ k h. let ne : k ≢ c.loop-register.register = omega arith in rw get_or-set_other (c.loop-register.invariant.ahead k (omega arith));
}
