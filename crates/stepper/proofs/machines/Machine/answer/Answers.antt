use Rattle.std.proofs.Common.{◌≡◌, ◌*◌, ◌^◌, refl}
use Rattle.stepper.specs.Deeds.{registers_in}
use Rattle.stepper.proofs.Nearness.{after_call_near, near_along}
use Rattle.stepper.proofs.machines.Machine.answer.Goals as goal
use Rattle.stepper.proofs.machines.Machine.answer.Goals.{in-Some, in_default}

pub invariant_of-self : goal.invariant_of-self
invariant_of-self c =
    let limit = 2 ^ 63 * c.self.inside.steps in
    let before = c.self.inside.registers in
    let steps : c.match-fetch.self-inside.steps ≡ c.self.inside.steps = elim c.match-fetch.branch [ in-Some w ↦ rw w.self-inside-is refl | in_default w ↦ rw w.self-inside-is refl ] in
    let registers : c.match-fetch.self-inside.registers ≡ before = elim c.match-fetch.branch [ in-Some w ↦ rw w.self-inside-is refl | in_default w ↦ rw w.self-inside-is refl ] in
    let after = rw registers at c.after_call.ensures in
    let near = after_call_near limit (registers_in before) c.args.answer c.self.invariant in
    rw steps (near_along limit _ _ after near)
