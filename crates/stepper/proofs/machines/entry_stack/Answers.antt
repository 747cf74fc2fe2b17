use Rattle.stepper.proofs.Functions.{bytes_in-unset}
use Rattle.stepper.proofs.machines.entry_stack.Goals as goal

pub returns : goal.returns
returns c = bytes_in-unset 512
