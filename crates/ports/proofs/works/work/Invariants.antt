use Rattle.std.proofs.Common.{◌≡◌, length}
use Rattle.ports.specs.Queue.{IsServePassOf, IsServePassAfter}
use Rattle.ports.proofs.Serving.{IsUnderWay}
use Rattle.ports.proofs.works.work.Given as goal

abbrev pub invariant-loop : goal.invariant-loop
invariant-loop g l = IsServePassOf l.port l.worker.serve_pass × IsServePassAfter l.initial.worker.serve_pass l.worker.serve_pass
    × (length l.worker.pass.pass.shares ≡ l.node) × IsUnderWay g.S.Sink.sent g.S.Sink.failed l.initial.worker l.worker l.report
