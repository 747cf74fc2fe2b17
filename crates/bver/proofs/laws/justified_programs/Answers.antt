use Rattle.bver.proofs.Standing.{Laws}
use Rattle.bver.proofs.Safety.{is_safe, is_safe_for_costs}
use Rattle.bver.proofs.Regions.{is_resolved}
use Rattle.bver.proofs.laws.justified_programs.Goals as goal

pub returns : goal.returns
returns c =
    let laws : Laws = record { below = c.order_of_states.ensures.fits; entry = c.entry_fits.ensures; apply = c.apply_fits.ensures; call = c.after_call_fits.ensures; refine = c.refine_fits.ensures; performs = c.steps_perform.ensures; leaves = c.steps_leave.ensures.instructions; begins = c.loops_are_counted.ensures.begins; takes = c.loops_are_counted.ensures.steps; left = c.loops_are_counted.ensures.left; ones = c.loops_are_counted.ensures.ones; entered = c.loops_are_counted.ensures.entered } in
    record { safe = is_safe laws; costs = is_safe_for_costs laws; resolved = is_resolved laws }
