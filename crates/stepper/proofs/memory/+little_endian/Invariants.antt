use Rattle.stepper.proofs.memory.+little_endian.Given as goal

abbrev pub decreases-little_endian : goal.decreases-little_endian
decreases-little_endian l = l.bytes
