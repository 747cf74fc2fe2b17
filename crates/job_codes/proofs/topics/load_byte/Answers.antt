use Rattle.std.proofs.Common.{rules, ℕ, arith, below_more}
use Rattle.job_codes.specs.Topics.{WritesByte}
use Rattle.job_codes.proofs.topics.load_byte.Goals as goal

pub loop-byte-preserved : goal.loop-byte-preserved
loop-byte-preserved c =
    let none : ¬ WritesByte c.loop-byte.byte c.args.text.now = search rules in
    below_more (λ (k : ℕ). ¬ WritesByte k c.args.text.now) c.loop-byte.byte c.loop-byte.invariant none

pub returns : goal.returns
returns c = λ has. c.loop-byte.invariant has.0 (omega (arith, has.1, c.loop-byte-test.false, c.loop-byte.auto.byte-end)) has.2
