use Rattle.sched.proofs.laws.arrays_are_headers.Goals as goal

pub returns : goal.returns
returns c = record { front = c.told-front; tail = c.told-tail; front_bytes = c.bytes_are_small.ensures; tail_bytes = c.bytes_are_small-2.ensures }
