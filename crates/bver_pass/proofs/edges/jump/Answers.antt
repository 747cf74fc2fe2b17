use Rattle.std.proofs.Common.{rules, ◌≡◌, ◌+◌, ◌≤◌, Some}
use Rattle.bver_form.specs.Jumps.{first_slot, target}
use Rattle.bver_pass.proofs.Landing.{least_landing}
use Rattle.bver_pass.proofs.Extending.{changed_at}
use Rattle.bver_pass.proofs.edges.jump.Goals as goal

pub returns-then-landing-slot-clause-extended : goal.returns-then-landing-slot-clause-extended
returns-then-landing-slot-clause-extended c =
    let v = c.args.visit.now in
    let landing = c.in-Some.landing in
    let after : v.slot + 1 ≤ landing = search rules in
    changed_at (v.slot + 1) landing c.args.table.now c.follow.new.self after c.follow.ensures.program c.follow.ensures.grown c.follow.ensures.others c.follow.ensures.all_whole

pub returns-then-landing-slot-clause-least : goal.returns-then-landing-slot-clause-least
returns-then-landing-slot-clause-least c =
    let v = c.args.visit.now in
    let landing = c.in-Some.landing in
    let lands : first_slot v.program (target v.slot c.args.distance) ≡ Some landing = search rules in
    least_landing v.program (target v.slot c.args.distance) landing c.args.table.now c.follow.new.self c.args.state.now lands c.follow.ensures.least c.follow.ensures.others
