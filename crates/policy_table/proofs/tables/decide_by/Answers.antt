use Rattle.std.proofs.Common.{◌++◌, ℕ, List, ap, ◌∙◌}
use Rattle.machine.specs.declared.calls.Call.{Call}
use Rattle.machine.specs.Memory.{header}
use Rattle.rmap.specs.Verdict.{verdict_number}
use Rattle.policy_table.specs.declared.matching.Match.{Match}
use Rattle.policy_table.specs.Walked.{reported}
use Rattle.policy_table.specs.Tickets.{next_answer, answers_after}
use Rattle.policy_table.proofs.Answering.{answered}
use Rattle.policy_table.proofs.tables.decide_by.Goals as goal

pub returns-clause-draws : goal.returns-clause-draws
returns-clause-draws c =
    let drawn = c.match_of-found.ensures.calls_are in
    (rw (c.new-answers.ensures) at drawn) ∙ ap (λ (d : List Call × ℕ). c.args.calls.now.items ++ d.0) (answered c.args.rules.now (header c.args.front.now c.args.tail.now) c.args.answers.now)

pub returns-clause-verdict : goal.returns-clause-verdict
returns-clause-verdict c =
    let found_is = c.match_of-found.ensures.found_is in
    c.from.ensures ∙ c.number.ensures.value
    ∙ ap (λ (found : Match). verdict_number found.verdict) (rw (c.new-answers.ensures) at found_is)
    ∙ c.first_rule_matches.ensures.verdict c.args.rules.now (header c.args.front.now c.args.tail.now) (reported next_answer answers_after c.args.rules.now (header c.args.front.now c.args.tail.now) c.args.answers.now)
    ∙ ap (λ (d : List Call × ℕ). d.1) (answered c.args.rules.now (header c.args.front.now c.args.tail.now) c.args.answers.now)
