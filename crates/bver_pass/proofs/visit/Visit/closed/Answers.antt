use Rattle.std.proofs.Common.{rules, ◌≡◌, ◌≤◌, length, ap, arith, List}
use Rattle.bpf.specs.declared.loops.Loop.{Loop}
use Rattle.bver_pass.proofs.Widening.{none_closes}
use Rattle.bver_pass.proofs.visit.Visit.closed.Goals as goal

pub returns-clause-none : goal.returns-clause-none
returns-clause-none c =
    let v = c.args.self.now in
    let same : v.program ≡ c.self.inside.image.now = search rules in
    let size : length c.loops-place-end.result.now ≡ length v.program.loops = rw same (ap (λ (xs : List Loop). length xs) c.loops-place-end.ensures.value) in
    let all : length v.program.loops ≤ c.loop-place.place = omega (arith, size) in
    λ none. none_closes v.program v.slot c.args.head c.loop-place.place all c.loop-place.invariant
