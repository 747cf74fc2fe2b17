use Rattle.std.proofs.Common.{◌≡◌}
use Rattle.ports.specs.Queue.{IsServePassOf, IsServePassAfter, taken_of}
use Rattle.ports.proofs.port.Port.take.Given as goal

abbrev pub invariant-loop : goal.invariant-loop
invariant-loop g l = IsServePassOf l.self l.pass × IsServePassAfter l.initial.pass l.pass × (taken_of l.pass ≡ taken_of l.initial.pass)
