use Rattle.std.proofs.Common.{rules}
use Rattle.differences.specs.Joined.{IsShorter}
use Rattle.differences.proofs.Saying.{say_the_same}
use Rattle.differences.proofs.joining.joined.Goals as goal

pub returns-then-is_shorter-clause-same : goal.returns-then-is_shorter-clause-same
returns-then-is_shorter-clause-same c =
    let found : IsShorter c.args.asked.now c.args.old.now c.args.new.now c.args.lines.items c.in_ok-made.made.items = search rules in
    say_the_same c.args.asked.now c.args.old.now c.args.new.now c.args.lines.items c.in_ok-made.made.items c.requires found.is_comparison

pub returns-clause-same : goal.returns-clause-same
returns-clause-same c =
    say_the_same c.args.asked.now c.args.old.now c.args.new.now c.args.lines.items c.args.lines.items c.requires c.requires
