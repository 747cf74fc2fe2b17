use Rattle.std.proofs.Common.{◌≡◌, ◌∙◌, ap, arith}
use Rattle.job_rehearse.specs.Askers.{values_below, values_of}
use Rattle.job_rehearse.proofs.askers.values_of.Goals as goal

pub returns : goal.returns
unfolding values_of
returns c =
    let all : c.loop-byte.byte ≡ 256 = omega (arith, c.loop-byte.auto.byte-end, c.loop-byte-test.false) in
    c.loop-byte.invariant.0 ∙ ap (λ count. values_below c.args.rules.now c.args.field count) all
