use Rattle.std.proofs.Common.{sym, ◌∙◌}
use Rattle.spw.proofs.WordCuts.{first_is, word_alone}
use Rattle.spw.proofs.words.first_word.Goals as goal

pub returns-then-not-is_empty : goal.returns-then-not-is_empty
returns-then-not-is_empty c =
    let cut = c.in-Some.ensures in
    c.loop-word.invariant.1 ∙ first_is c.loop-word.rest.now c.in-Some.word.now c.in-Some.following.now cut.0 cut.1 (sym c.is_empty.ensures ∙ c.if-not-is_empty.true)

pub returns-else-is_empty : goal.returns-else-is_empty
returns-else-is_empty c =
    c.loop-word.invariant.1 ∙ word_alone c.loop-word.rest.now c.in_default.ensures (sym c.is_empty-2.ensures ∙ c.if-is_empty.false)
