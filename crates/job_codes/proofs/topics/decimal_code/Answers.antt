use Rattle.std.proofs.Common.{rules, ℕ, subst, arith, below_more}
use Rattle.job_codes.specs.Topics.{HasNumber, topic_kind_at}
use Rattle.job_codes.specs.declared.topics.CodeKind.{CodeKind}
use Rattle.job_codes.proofs.CodeLetters.{no_code}
use Rattle.job_codes.proofs.topics.decimal_code.Goals as goal

pub loop-place-preserved : goal.loop-place-preserved
loop-place-preserved c =
    let none : ¬ HasNumber c.at-kind.result c.args.text.now = search rules in
    let last = subst (λ (kind : CodeKind). ¬ HasNumber kind c.args.text.now) c.at-kind.ensures none in
    below_more (λ (k : ℕ). ¬ HasNumber (topic_kind_at k) c.args.text.now) c.loop-place.place c.loop-place.invariant last

pub returns : goal.returns
returns c = no_code c.args.text.now (λ k inside. c.loop-place.invariant k (omega (arith, inside, c.loop-place-test.false, c.loop-place.auto.place-end)))
