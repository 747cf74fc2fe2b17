use Rattle.std.proofs.Common.{◌≡◌, ℕ}
use Rattle.machine.specs.State.{entry_state}
use Rattle.stepper.specs.Machine.{state_of}
use Rattle.stepper.proofs.Walking.{IsAt}
use Rattle.stepper.proofs.endings.walk.Given as goal

abbrev pub invariant-loop-step : goal.invariant-loop-step
invariant-loop-step l =
    let start = l.initial.machine in
    record {
      steps : l.machine.steps ≡ l._step;
      at : (port : ℕ) → state_of start ≡ entry_state port → IsAt start.program start.header start.sizes port l.answers l._step l.machine l.left;
    }
