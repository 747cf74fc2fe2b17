use Rattle.std.proofs.Common.{lit<, ◌++◌, ◌∷◌, [], List, ℕ, inr, map, refl, sym, subst}
use Rattle.std.proofs.lemmas.Iterator.Consumers.{YieldsList-at, YieldsList-end, YieldsList-turn}
use Rattle.std.proofs.lemmas.Iterator.Splits.{YieldsList-from_str_split}
use Rattle.std.proofs.lemmas.List.{map_push}
use Rattle.job_parts.specs.Options.{list_parts}
use Rattle.job_suite.specs.Ranges.{WriteRanges}
use Rattle.job_suite.specs.declared.ranges.MemoryRange.{MemoryRange}
use Rattle.job_suite.proofs.RangeLists.{no_list, one_more_range}
use Rattle.job_suite.proofs.ranges.ranges_written.Goals as goal

pub returns-in_default-clause-err : goal.returns-in_default-clause-err
returns-in_default-clause-err c =
    let parts = c.split-part-items.ensures in
    let road = YieldsList-at c.into_iter-part-iterator.ensures.into_iter_gives
    (YieldsList-from_str_split 44 c.args.text.now (lit< tt) parts.text parts.has_more parts.pattern) in
    let turn = YieldsList-turn road c.loop-part.yielded _ c.loop-part.yielded_by _ _ c.in-Some.part c.in-Some.is c.next.ensures.steps in
    inr (refl, no_list (list_parts c.args.text.now) _ c.in-Some.part.now turn.0 turn.1 c.in_default.ensures)

pub loop-part-preserved : goal.loop-part-preserved
loop-part-preserved c =
    subst (λ (parts : List (List ℕ)). WriteRanges parts c.push.new.self.items) (sym (map_push (λ part. part.now) c.loop-part.yielded c.in-Some.part))
    (subst (λ (ranges : List MemoryRange). WriteRanges (map (λ part. part.now) c.loop-part.yielded ++ c.in-Some.part.now ∷ []) ranges) (sym c.in_ok-push.ensures.items)
    (one_more_range (map (λ part. part.now) c.loop-part.yielded) c.in-Some.part.now c.loop-part.ranges.items _ c.loop-part.invariant c.in-Some-range_written.ensures))

pub returns-clause-ok : goal.returns-clause-ok
returns-clause-ok c =
    let parts = c.split-part-items.ensures in
    let road = YieldsList-at c.into_iter-part-iterator.ensures.into_iter_gives
    (YieldsList-from_str_split 44 c.args.text.now (lit< tt) parts.text parts.has_more parts.pattern) in
    let all = YieldsList-end road c.loop-part.yielded _ c.loop-part.yielded_by _ _ c.in-None.is c.next.ensures.steps in
    subst (λ (parts : List (List ℕ)). WriteRanges parts c.loop-part.ranges.items) all.0 c.loop-part.invariant
