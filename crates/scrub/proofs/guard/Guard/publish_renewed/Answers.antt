use Rattle.std.proofs.Common.{ap, ap₂, ◌∙◌}
use Rattle.scrub.specs.Guarded.{beside, with_sums}
use Rattle.scrub.proofs.guard.Guard.publish_renewed.Goals as goal

pub returns-in-Ok : goal.returns-in-Ok
returns-in-Ok c =
    let program = c.program-program.result.now in
    record {
      program = program;
      shown = c.program-program.ensures.value;
      after_is = ap₂ beside (c.keep.ensures ∙ ap (with_sums c.args.self.now c.args.slot) c.of.ensures)
          (c.in-Ok.ensures.published program c.program-program.ensures.value);
    }
