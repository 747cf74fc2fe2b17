-- What an event comes to, with what cells answer. A history that goes on so is lawful.
use Rattle.std.proofs.Common.{◌≡◌, ◌<◌, ◌≤◌, ◌^◌, ℕ, Option, Some, None, subst}
use Rattle.machine.specs.declared.helpers.Helper.{Helper}
use Rattle.machine.specs.declared.helpers.Helper.TheVariants as helpers
use Rattle.brun.specs.declared.turns.Turn.{Turn}
use Rattle.sched.specs.declared.event.Event.{Event}
use Rattle.sched.specs.declared.event.Event.TheVariants.{Take, Count, Ticket, Peak, Effect, Publish}
use Rattle.sched.specs.declared.event.Outcome.{Outcome}
use Rattle.sched.specs.declared.event.Outcome.TheVariants.{Refused, Discarded, Answered, Taken, Told, Done}
use Rattle.sched.specs.History.{History, Then, port_of, opened}
use Rattle.sched.specs.Lawful.{IsLawful, IsOutcomeAtExceptAnswer, IsPublishOutcome, IsSomeAnswer, IsAnsweredBy, IsAnswerOf, effect_outcome, take_outcome, answer_of_cell}
use Rattle.sched.specs.Looking.{Node, argument_asked, cell_asked, turn_at}

-- what the event of a helper comes to, if a program asks it for that cell
abbrev pub answered_on : Node → History → Helper → (argument : ℕ) → Option (ℕ × ℕ) → Outcome
answered_on n h helper argument None = Refused
answered_on n h helper argument (Some cell) = Told (answer_of_cell n h helper cell.0 cell.1 argument)

-- the same at a port, by where its program is
abbrev pub helper_outcome : Node → History → Helper → Option Turn → Outcome
helper_outcome n h helper turn = answered_on n h helper (argument_asked turn) (cell_asked helper turn)

-- what an event comes to at a port of the node
abbrev pub IsOutcomeAt : Node → History → Event → Outcome → Type 0
IsOutcomeAt n h (Take port p) outcome = outcome ≡ take_outcome n h p (opened h port)
IsOutcomeAt n h (Count port) outcome = outcome ≡ helper_outcome n h helpers.Count (turn_at n h port)
IsOutcomeAt n h (Ticket port) outcome = outcome ≡ helper_outcome n h helpers.Ticket (turn_at n h port)
IsOutcomeAt n h (Peak port) outcome = outcome ≡ helper_outcome n h helpers.Peak (turn_at n h port)
IsOutcomeAt n h (Effect port) outcome = outcome ≡ effect_outcome n h port (opened h port)
IsOutcomeAt n h (Publish port) outcome = IsPublishOutcome n h port (opened h port) outcome

-- What an event comes to. At a port that the node does not have, it is refused.
pub record IsOutcome (n : Node) (h : History) (event : Event) (outcome : Outcome) : Type 0 where
  pub here : port_of event < n.ports → IsOutcomeAt n h event outcome
  pub nowhere : n.ports ≤ port_of event → outcome ≡ Refused

-- what an outcome answers is a word
abbrev pub AnswersWord : Outcome → Type 0
AnswersWord Refused = Unit {0}
AnswersWord (Discarded discard) = Unit {0}
AnswersWord (Answered status reply) = Unit {0}
AnswersWord (Taken generation) = Unit {0}
AnswersWord (Told reported) = reported < 2 ^ 64
AnswersWord (Done status reply loaded) = Unit {0}

-- ---- a word that is the answer is some word, and the one that looking back gives

answered_parted : (n : Node) (h : History) (helper : Helper) (argument : ℕ) (cell : Option (ℕ × ℕ)) (outcome : Outcome) → outcome ≡ answered_on n h helper argument cell → AnswersWord outcome
    → IsSomeAnswer cell outcome × IsAnswerOf n h helper argument cell outcome
answered_parted n h helper argument None outcome is word = (is, tt)
answered_parted n h helper argument (Some cell) outcome is word =
    ((answer_of_cell n h helper cell.0 cell.1 argument, subst AnswersWord is word, is), is)

at_parted : (n : Node) (h : History) (event : Event) (outcome : Outcome) → IsOutcomeAt n h event outcome → AnswersWord outcome → IsOutcomeAtExceptAnswer n h event outcome × IsAnsweredBy n h event outcome
at_parted n h (Take port p) outcome is word = (is, tt)
at_parted n h (Count port) outcome is word = answered_parted n h helpers.Count (argument_asked (turn_at n h port)) (cell_asked helpers.Count (turn_at n h port)) outcome is word
at_parted n h (Ticket port) outcome is word = answered_parted n h helpers.Ticket (argument_asked (turn_at n h port)) (cell_asked helpers.Ticket (turn_at n h port)) outcome is word
at_parted n h (Peak port) outcome is word = answered_parted n h helpers.Peak (argument_asked (turn_at n h port)) (cell_asked helpers.Peak (turn_at n h port)) outcome is word
at_parted n h (Effect port) outcome is word = (is, tt)
at_parted n h (Publish port) outcome is word = (is, tt)

-- a lawful history goes on lawfully
pub then_lawful : (n : Node) (h : History) (event : Event) (outcome : Outcome) → IsLawful n h → IsOutcome n h event outcome → AnswersWord outcome → IsLawful n (Then h event outcome)
then_lawful n h event outcome lawful is word = record {
  except_answers = (lawful.except_answers, record { here = λ below. (at_parted n h event outcome (is.here below) word).0; nowhere = is.nowhere });
  reported = (lawful.reported, λ below. (at_parted n h event outcome (is.here below) word).1);
}
