use Rattle.std.proofs.Common.{◌≡◌, ◌+◌, length, map}
use Rattle.std.specs.Prelude.{vec_len}
use Rattle.std.specs.Vec.Iter.{into_iter_len}
use Rattle.ports.specs.Queue.{IsPutPassOf, put_of}
use Rattle.ports.specs.declared.item.Item.TheVariants.{Data}
use Rattle.job_ports.proofs.queues.filled.Given as goal

abbrev pub invariant-loop-packet : goal.invariant-loop-packet
invariant-loop-packet g l = IsPutPassOf l.port l.put_pass × (put_of l.put_pass ≡ map Data l.yielded)
    × (length l.yielded + into_iter_len l.packet-iterator ≡ vec_len l.fn.packets)
