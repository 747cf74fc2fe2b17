use Rattle.std.proofs.Common.{rules, sym}
use Rattle.scrub.proofs.FirstBroken.{more_whole, some_broken}
use Rattle.scrub.proofs.damage.broken_place.Goals as goal

pub returns-then-not-is_whole : goal.returns-then-not-is_whole
returns-then-not-is_whole c =
    sym (some_broken c.args.entries.now c.loop-place.place c.index-entries-place.result (search rules) c.loop-place.invariant (search rules))

pub loop-place-preserved : goal.loop-place-preserved
loop-place-preserved c =
    more_whole c.args.entries.now c.loop-place.place c.index-entries-place.result (search rules) c.loop-place.invariant (search rules)
