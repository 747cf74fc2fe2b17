use Rattle.std.proofs.Common.{◌≡◌, ℕ, replicate, ap, ◌∙◌, arith}
use Rattle.policy_table.proofs.counts.Counts.new.Goals as goal

pub returns : goal.returns
returns c =
    let all : c.loop-cell._cell ≡ 2048 = omega (arith, c.loop-cell-test.false, c.loop-cell.auto._cell-end) in
    c.loop-cell.invariant ∙ ap (λ (n : ℕ). replicate n 0) all
