use Rattle.std.proofs.Common.{rules, ◌≡◌, ◌+◌, ◌*◌, ◌<◌, ◌≤◌, false, length, slice_index_or, true, arith, ◌∙◌}
use Rattle.std.proofs.Math.ListN.{length-set}
use Rattle.bver_form.proofs.Counts.{count_below, count_more}
use Rattle.bver_form.proofs.lowered.Lowered.lower.Goals as goal

pub overflow_add-self : goal.overflow_add-self
overflow_add-self c =
    let below = count_below c.self.inside.lowered in
    let few : c.self.inside.count ≤ 80 = omega (arith, c.self.invariant.0, c.self.invariant.1, below) in
    search rules

pub invariant_of-self : goal.invariant_of-self
invariant_of-self c =
    let place = 10 * c.args.place + c.from.result in
    let inside : place < length c.self.inside.lowered = search rules in
    let none : slice_index_or c.self.inside.lowered place false ≡ false = search rules in
    (length-set c.self.inside.lowered place true ∙ c.self.invariant.0, omega (arith, c.self.invariant.1, count_more c.self.inside.lowered place inside none))

pub returns-then-not-self-place-clause-more : goal.returns-then-not-self-place-clause-more
returns-then-not-self-place-clause-more c =
    let place = 10 * c.args.place + c.from.result in
    let inside : place < length c.self.inside.lowered = search rules in
    let none : slice_index_or c.self.inside.lowered place false ≡ false = search rules in
    let same : c.args.self.now ≡ c.self.inside.lowered = search rules in
    rw same (omega (arith, count_more c.self.inside.lowered place inside none))

pub returns-then-not-self-place-clause-settled : goal.returns-then-not-self-place-clause-settled
returns-then-not-self-place-clause-settled c =
    let place = 10 * c.args.place + c.from.result in
    let inside : place < length c.self.inside.lowered = search rules in
    let none : slice_index_or c.self.inside.lowered place false ≡ false = search rules in
    let same : c.args.self.now ≡ c.self.inside.lowered = search rules in
    rw same (λ settled. absurd (omega (arith, settled, count_more c.self.inside.lowered place inside none)))
