use Rattle.std.proofs.Common.{rules, sym, ◌∙◌}
use Rattle.spw.proofs.WordCuts.{last_is, last_is_none, word_alone}
use Rattle.spw.proofs.words.last_word.Goals as goal

pub returns-then-not-is_empty : goal.returns-then-not-is_empty
returns-then-not-is_empty c =
    let cut = c.in-Some.ensures in
    c.loop-before.invariant.1 ∙ last_is c.loop-before.rest.now c.in-Some.before.now c.in-Some.word.now cut.0 cut.1 (sym c.is_empty.ensures ∙ c.if-not-is_empty.true)

pub loop-before-preserved : goal.loop-before-preserved
loop-before-preserved c =
    let cut = c.in-Some.ensures in
    (search rules, c.loop-before.invariant.1 ∙ last_is_none c.loop-before.rest.now c.in-Some.before.now c.in-Some.word.now cut.0 (sym c.is_empty.ensures ∙ c.if-not-is_empty.false))

pub returns-else-is_empty : goal.returns-else-is_empty
returns-else-is_empty c =
    c.loop-before.invariant.1 ∙ word_alone c.loop-before.rest.now c.in_default.ensures (sym c.is_empty-2.ensures ∙ c.if-is_empty.false)
