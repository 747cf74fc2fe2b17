use Rattle.machine.specs.Memory.{Header}
use Rattle.stepper.proofs.Nearness.{step_near}
use Rattle.stepper.proofs.machines.Machine.step.Goals as goal

pub invariant_of-self-2 : goal.invariant_of-self-2
invariant_of-self-2 c =
    let inside = c.self.inside in
    let header : Header = record { front = inside.front.now; tail = inside.tail.now } in
    step_near inside.steps inside.slot c.apply.new.slot inside.registers c.apply.new.registers inside.stack c.apply.new.stack inside.sizes.now header c.in-Some.insn c.perform-deed.result c.apply.result c.self.invariant c.perform-deed.ensures.outcome c.apply.ensures
