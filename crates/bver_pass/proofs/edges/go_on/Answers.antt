use Rattle.std.proofs.Common.{rules, ◌+◌}
use Rattle.bver_pass.proofs.Landing.{least_next}
use Rattle.bver_pass.proofs.Extending.{changed_at}
use Rattle.bver_pass.proofs.edges.go_on.Goals as goal

pub returns-clause-extended : goal.returns-clause-extended
returns-clause-extended c =
    let v = c.args.visit.now in
    changed_at (v.slot + 1) (c.slot.result + c.args.slots) c.args.table.now c.go_on.new.self (search rules) c.go_on.ensures.program c.go_on.ensures.grown c.go_on.ensures.others c.go_on.ensures.all_whole

pub returns-clause-least : goal.returns-clause-least
returns-clause-least c =
    rw c.slot.ensures.slot at (least_next c.args.table.now c.go_on.new.self c.go_on.result (c.slot.result + c.args.slots) c.args.state.now
    c.go_on.ensures.least c.go_on.ensures.same c.go_on.ensures.others)
