-- A table that draws of answers in order is given those answers.
use Rattle.std.specs.Prelude.{if◌then◌else◌}
use Rattle.std.proofs.Common.{◌≡◌, ℕ, suc, Bool, true, false, List, [], ◌∷◌, drop, get_or, Option, Some, None, refl, ap, ◌∙◌, arith}
use Rattle.std.proofs.lemmas.Grind.{get_or_after_one}
use Rattle.machine.specs.declared.calls.Call.{Call}
use Rattle.machine.specs.Memory.{Header}
use Rattle.rmap.specs.Verdict.{verdict_number}
use Rattle.policy_table.specs.Meaning.{decision, holds, ruled, answers_in_turn}
use Rattle.policy_table.specs.Tickets.{answers_after, next_answer, ticket_before, tickets_given}
use Rattle.policy_table.specs.Walked.{reported}
use Rattle.policy_table.specs.declared.rules.Quota.{Quota}
use Rattle.policy_table.specs.declared.rules.Rule.{Rule}
use Rattle.policy_table.proofs.Outcomes.{decision_same}

-- the answers that rules are given that draw of answers in order
abbrev given : List Rule → Header → List ℕ → ℕ → ℕ
given rules header answers = reported next_answer answers_after rules header answers

-- the same of the rest of them, after a rule whose conditions hold
abbrev given_held : Option Quota → List Rule → Header → List ℕ → ℕ → ℕ
given_held quota rules header answers =
    answers_in_turn (ticket_before next_answer answers_after quota answers (λ left. tickets_given next_answer answers_after rules header left))

held_answered : (quota : Option Quota) (code : ℕ) (rules : List Rule) (header : Header) (answers : List ℕ)
    → ((left : List ℕ) → decision rules header (given rules header left) ≡ decision rules header (answers_in_turn left))
    → ruled quota code (given_held quota rules header answers) (decision rules header (λ k. given_held quota rules header answers (suc k)))
    ≡ ruled quota code (answers_in_turn answers) (decision rules header (λ k. answers_in_turn answers (suc k)))
held_answered None code rules header answers all = refl
held_answered (Some quota) code rules header answers all =
    let later : decision rules header (given rules header (drop 1 answers)) ≡ decision rules header (λ k. answers_in_turn answers (suc k)) =
    all (drop 1 answers) ∙ decision_same rules header (answers_in_turn (drop 1 answers)) (λ k. answers_in_turn answers (suc k)) (λ k. get_or_after_one answers k 0 ∙ ap (λ (i : ℕ). get_or answers i 0) (omega arith)) in
    ap (λ (d : List Call × ℕ). ruled (Some quota) code (answers_in_turn answers) d) later

abbrev given_if : Bool → Rule → List Rule → Header → List ℕ → ℕ → ℕ
given_if t rule rules header answers =
    answers_in_turn (if t then ticket_before next_answer answers_after rule.quota answers (λ left. tickets_given next_answer answers_after rules header left) else tickets_given next_answer answers_after rules header answers)

answered_if : (t : Bool) (rule : Rule) (rules : List Rule) (header : Header) (answers : List ℕ)
    → ((left : List ℕ) → decision rules header (given rules header left) ≡ decision rules header (answers_in_turn left))
    → (if t then ruled rule.quota (verdict_number rule.verdict) (given_if t rule rules header answers) (decision rules header (λ k. given_if t rule rules header answers (suc k))) else decision rules header (given_if t rule rules header answers))
    ≡ (if t then ruled rule.quota (verdict_number rule.verdict) (answers_in_turn answers) (decision rules header (λ k. answers_in_turn answers (suc k))) else decision rules header (answers_in_turn answers))
answered_if true rule rules header answers all = held_answered rule.quota (verdict_number rule.verdict) rules header answers all
answered_if false rule rules header answers all = all answers

pub answered : (rules : List Rule) (header : Header) (answers : List ℕ) → decision rules header (given rules header answers) ≡ decision rules header (answers_in_turn answers)
answered [] header answers = refl
answered (rule ∷ rules) header answers =
    answered_if (holds rule header) rule rules header answers (λ left. answered rules header left)
