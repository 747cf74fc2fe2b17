use Rattle.std.proofs.Common.{◌≡◌, rules, Ok}
use Rattle.absdom.specs.Kinds.{number_of}
use Rattle.absdom.specs.State.{kind_at}
use Rattle.absdom.specs.Edges.{compared_range}
use Rattle.absdom.proofs.Narrowing.{edges_by_ranges}
use Rattle.absdom.proofs.edges.refine.Goals as goal

pub returns-clause-edges : goal.returns-clause-edges
returns-clause-edges c =
    let left : number_of (kind_at c.args.state.now c.args.dst) ≡ Ok c.in_ok-left.left = search rules in
    let right : compared_range c.args.width c.args.state.now c.args.src.now ≡ Ok c.in_ok-right.right = search rules in
    rw c.edges_between.ensures (edges_by_ranges c.args.condition c.args.width c.args.state.now c.args.dst c.args.src.now c.in_ok-left.left c.in_ok-right.right left right)
