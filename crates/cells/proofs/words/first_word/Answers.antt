use Rattle.std.proofs.Common.{ℕ, arith}
use Rattle.std.proofs.lemmas.List.Sums.{sum_by-take-le}
use Rattle.cells.proofs.words.first_word.Goals as goal

pub returns-clause-few : goal.returns-clause-few
returns-clause-few c =
    let sizes = c.args.sizes.now.cells in
    omega (arith, c.loop-before.invariant, c.stand_limited.ensures.total, sum_by-take-le (λ (x : ℕ). x) sizes c.loop-before.before)
