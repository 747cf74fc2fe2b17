use Rattle.stepper.proofs.Functions.{after_call_is}
use Rattle.stepper.proofs.machines.after_call.Goals as goal

pub returns : goal.returns
returns c = after_call_is c.args.registers.now c.args.answer c.told-registers
