use Rattle.std.proofs.Common.{◌≡◌, lit<, All, List, ℕ, sym, subst, true}
use Rattle.std.proofs.lemmas.Iterator.Consumers.{YieldsList-at, YieldsList-end, YieldsList-turn}
use Rattle.std.proofs.lemmas.Iterator.Splits.{YieldsList-from_str_split}
use Rattle.std.proofs.lemmas.List.{map_push}
use Rattle.job_parts.specs.Options.{list_parts}
use Rattle.job_suite.specs.Rows.{is_beginning}
use Rattle.job_suite.proofs.Beginnings.{no_beginnings, one_more_beginning}
use Rattle.job_suite.proofs.words.are_beginnings.Goals as goal

pub returns-then-not-is_beginning : goal.returns-then-not-is_beginning
returns-then-not-is_beginning c =
    let parts = c.split-part-items.ensures in
    let road = YieldsList-at c.into_iter-part-iterator.ensures.into_iter_gives
    (YieldsList-from_str_split 44 c.args.list.now (lit< tt) parts.text parts.has_more parts.pattern) in
    let turn = YieldsList-turn road c.loop-part.yielded _ c.loop-part.yielded_by _ _ c.in-Some.part c.in-Some.is c.next.ensures.steps in
    no_beginnings (list_parts c.args.list.now) _ c.in-Some.part.now turn.0 turn.1 (rw (sym c.is_beginning.ensures) c.if-not-is_beginning.true)

pub loop-part-preserved : goal.loop-part-preserved
loop-part-preserved c =
    subst (λ (parts : List (List ℕ)). All (λ p. is_beginning p ≡ true) parts) (sym (map_push (λ part. part.now) c.loop-part.yielded c.in-Some.part))
    (one_more_beginning _ c.in-Some.part.now c.loop-part.invariant (rw (sym c.is_beginning.ensures) c.if-not-is_beginning.false))

pub returns : goal.returns
returns c =
    let parts = c.split-part-items.ensures in
    let road = YieldsList-at c.into_iter-part-iterator.ensures.into_iter_gives
    (YieldsList-from_str_split 44 c.args.list.now (lit< tt) parts.text parts.has_more parts.pattern) in
    let all = YieldsList-end road c.loop-part.yielded _ c.loop-part.yielded_by _ _ c.in-None.is c.next.ensures.steps in
    subst (λ (parts : List (List ℕ)). All (λ p. is_beginning p ≡ true) parts) all.0 c.loop-part.invariant
