use Rattle.std.proofs.Common.{◌≤◌, rules}
use Rattle.weights.specs.Classes.{costs}
use Rattle.weights.proofs.Bounded.{small_cost}
use Rattle.weights.proofs.costs.are_small.Goals as goal

pub returns : goal.returns
returns c =
    let division : c.args.division ≤ 4294967295 = search rules in
    let call : c.args.call ≤ 4294967295 = search rules in
    let jump : c.args.jump ≤ 4294967295 = search rules in
    let rest : c.args.rest ≤ 4294967295 = search rules in
    small_cost (costs c.args.division c.args.call c.args.jump c.args.rest) 4294967295 division call jump rest
