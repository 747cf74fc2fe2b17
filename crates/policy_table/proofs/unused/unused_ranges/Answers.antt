use Rattle.std.proofs.Common.{◌≡◌, ◌+◌, ◌∷◌, List, ℕ, length, ap, arith, add-one}
use Rattle.spw.specs.Line.{lines_of}
use Rattle.policy_table.proofs.UnusedLines.{more_unused}
use Rattle.policy_table.proofs.unused.unused_ranges.Goals as goal

pub loop-line-preserved : goal.loop-line-preserved
loop-line-preserved c =
    let all : List (List ℕ) = lines_of c.args.text.now in
    let line : List ℕ = c.in-Some.line.now in
    let next : c.loop-line.line-iterator ≡ line ∷ c.next.new.self = c.in-Some.ensures.steps in
    let (count, found) = c.loop-line.invariant in (
      omega (arith, count, ap (λ (lines : List (List ℕ)). length lines) next),
      more_unused all c.loop-line.line-iterator line c.next.new.self c.loop-line.number (c.loop-line.number + 1) c.loop-line.unused.items c.push_if.new.numbers.items _ next (add-one c.loop-line.number)
          (cc (c.in_ok-push_if.ensures, c.is_unused.ensures all c.in_ok-used.ensures)) found,
    )
