use Rattle.std.proofs.Common.{◌≡◌, ◌≤◌, ◌<◌, ◌^◌, drop}
use Rattle.differences.specs.Gains.{draws_from, draws_of, least_word_from, least_word}
use Rattle.differences.specs.Steps.{rules_of}
use Rattle.differences.proofs.signs.past_of.Given as goal

abbrev pub invariant-loop-step : goal.invariant-loop-step
invariant-loop-step l =
    (draws_from l.past.draws (rules_of (drop l.step-index l.steps)) l.quota.map l.quota.cell ≡ draws_of (rules_of l.steps) l.quota.map l.quota.cell)
    × (least_word_from l.past.draws l.past.least (rules_of (drop l.step-index l.steps)) l.quota.map l.quota.cell ≡ least_word (rules_of l.steps) l.quota.map l.quota.cell)
    × (l.past.draws ≤ l.step-index) × (l.past.least < 2 ^ 32)
