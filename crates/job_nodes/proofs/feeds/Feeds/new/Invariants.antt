use Rattle.std.proofs.Common.{◌≡◌, [], replicate}
use Rattle.job_nodes.proofs.feeds.Feeds.new.Given as goal

abbrev pub invariant-loop-port : goal.invariant-loop-port
invariant-loop-port l = l.feeds.items ≡ replicate l._port []
