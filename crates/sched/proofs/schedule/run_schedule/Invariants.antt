use Rattle.std.proofs.Common.{◌≡◌, length}
use Rattle.sched.specs.Headline.{AreJudgedOnce, HasBytes}
use Rattle.sched.specs.History.{Start, history_from}
use Rattle.sched.specs.Worlds.{IsLawfulWorld, node_of}
use Rattle.sched.proofs.schedule.run_schedule.Given as goal

abbrev pub invariant-loop-event : goal.invariant-loop-event
invariant-loop-event l = record {
  count : length l.yielded ≡ length l.outcomes.items;
  bytes : HasBytes (history_from Start l.yielded l.outcomes.items);
  judged : AreJudgedOnce (node_of l.config l.factory) (history_from Start l.yielded l.outcomes.items);
  world : IsLawfulWorld (node_of l.config l.factory) (history_from Start l.yielded l.outcomes.items) l.world;
}
