use Rattle.std.proofs.Common.{◌≡◌, ◌∙◌, ap, arith}
use Rattle.job_rehearse.specs.Askers.{each_below, each_value}
use Rattle.job_rehearse.proofs.askers.each_value.Goals as goal

pub returns : goal.returns
unfolding each_value
returns c =
    let all : c.loop-byte.byte ≡ 256 = omega (arith, c.loop-byte.auto.byte-end, c.loop-byte-test.false) in
    c.loop-byte.invariant ∙ ap each_below all
