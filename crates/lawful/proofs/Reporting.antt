-- The helper calls of a run, answered one after the other, are lawful, apart from what cells answered.
use Rattle.std.proofs.Common.{◌≡◌, ◌<◌, ◌^◌, ℕ, Bool, List, [], ◌∷◌, ◌++◌, Option, Some, None, refl, sym, ap, subst, ◌∙◌, append_assoc, arith}
use Rattle.std.specs.Prelude.{if◌then◌else◌}
use Rattle.std.proofs.lemmas.List.{append-nil, map-append}
use Rattle.spw.specs.Cargo.{Cargo}
use Rattle.brun.specs.declared.turns.Turn.TheVariants as turns
use Rattle.machine.specs.declared.calls.Call.{Call}
use Rattle.machine.specs.declared.calls.Question.{Question}
use Rattle.machine.specs.declared.helpers.Helper.{Helper}
use Rattle.machine.specs.declared.helpers.Helper.TheVariants as helpers
use Rattle.machine.specs.Helpers.{helper_number}
use Rattle.sched.specs.Answers.{answering}
use Rattle.sched.specs.declared.event.Event.{Event}
use Rattle.sched.specs.declared.event.Outcome.{Outcome}
use Rattle.sched.specs.declared.event.Outcome.TheVariants.{Told}
use Rattle.sched.specs.History.{History, Then, Open, open_after_answer, opened, port_of}
use Rattle.sched.specs.Looking.{Node, cell_asked, seen_header_in, program_of, turn_at, turn_by, turn_of}
use Rattle.sched.specs.Turns.{answers_of_calls}
use Rattle.sched.specs.Lawful.{IsLawfulExceptAnswers, IsOutcomeAtExceptAnswer, IsOutcomeExceptAnswer, IsSomeAnswer}
use Rattle.lawful.specs.Happenings.{Happening, happened_at, answered_call, answered_calls}
use Rattle.lawful.proofs.Keeping.{Keeps, happened_here, itself, keeps_on, keeps_same, one_elsewhere, opened_here, staging_here}
use Rattle.lawful.proofs.Turning.{AreSmall, StandsAlong}

-- a command that was taken after that history, with that generation, whose helpers answered that
abbrev pub asking : Cargo → (generation : ℕ) → History → List ℕ → Open
asking p g first answers = record { packet = p; generation = g; before = first; answers = answers }

-- a history with the answers to those calls
abbrev pub answered_history : (port : ℕ) → List Call → History → History
answered_history port [] h = h
answered_history port (c ∷ cs) h = answered_history port cs (Then h (answering c.question.helper port) (Told c.answer))

-- an event at a port of the node comes to what it comes to there
pub outcome_here : (n : Node) (h : History) (e : Event) (o : Outcome) (port : ℕ) → port_of e ≡ port → port < n.ports → IsOutcomeAtExceptAnswer n h e o → IsOutcomeExceptAnswer n h e o
outcome_here n h e o port own there is = record {
  here = λ below. is;
  nowhere = λ past. absurd (omega (arith, own, there, past));
}

answering_port : (helper : Helper) (port : ℕ) → port_of (answering helper port) ≡ port
answering_port helpers.Count port = refl
answering_port helpers.Ticket port = refl
answering_port helpers.Peak port = refl

helper_answered : (n : Node) (h : History) (helper : Helper) (port : ℕ) (o : Outcome) → IsSomeAnswer (cell_asked helper (turn_at n h port)) o → IsOutcomeAtExceptAnswer n h (answering helper port) o
helper_answered n h helpers.Count port o is = is
helper_answered n h helpers.Ticket port o is = is
helper_answered n h helpers.Peak port o is = is

cell_there : (question : Question) → cell_asked question.helper (Some (turns.Ask question)) ≡ Some (question.map, question.key)
cell_there question =
    ap (λ (b : Bool). if b then Some (question.map, question.key) else None) (itself (helper_number question.helper))

-- one answer
one_keeps : (n : Node) (h : History) (helper : Helper) (port a : ℕ) → Keeps n port h (Then h (answering helper port) (Told a))
one_keeps n h helper port a = record {
  programs = λ slot. refl;
  count = refl;
  banks = λ k. refl;
  own = staging_here n h (answering helper port) (Told a) port (answering_port helper port);
  elsewhere = one_elsewhere n h (answering helper port) (Told a) port (answering_port helper port);
}

one_lawful : (n : Node) (h : History) (port : ℕ) (o : Open) (c : Call) → port < n.ports → opened h port ≡ Some o → turn_of n port o ≡ Some (turns.Ask c.question) → c.answer < 2 ^ 64
    → IsOutcomeExceptAnswer n h (answering c.question.helper port) (Told c.answer)
one_lawful n h port o c there is stands small =
    let turn : turn_at n h port ≡ Some (turns.Ask c.question) = ap (turn_by n port) is ∙ stands in
    let cell : cell_asked c.question.helper (turn_at n h port) ≡ Some (c.question.map, c.question.key) = ap (cell_asked c.question.helper) turn ∙ cell_there c.question in
    let some : IsSomeAnswer (cell_asked c.question.helper (turn_at n h port)) (Told c.answer) =
    subst (λ (x : Option (ℕ × ℕ)). IsSomeAnswer x (Told c.answer)) (sym cell) (c.answer, small, refl) in
    outcome_here n h (answering c.question.helper port) (Told c.answer) port (answering_port c.question.helper port) there (helper_answered n h c.question.helper port (Told c.answer) some)

-- what some answers leave: the command is open, with those answers more
pub record HasGivenAnswers (n : Node) (port : ℕ) (h after : History) (o : Open) (calls : List Call) : Type 0 where
  pub lawful : IsLawfulExceptAnswers n after
  pub is_open : opened after port ≡ Some o
  pub keeps : Keeps n port h after
  pub happened : happened_at port after ≡ happened_at port h ++ answered_calls port calls

module _ (n : Node) (port : ℕ) (there : port < n.ports) (p : Cargo) (g : ℕ) (first : History) (calls : List Call) (verdict : ℕ)
    (along : StandsAlong (program_of n (asking p g first [])) (seen_header_in p) port calls verdict) where
  pub reported : (h : History) (before rest : List Call) → calls ≡ before ++ rest → AreSmall rest → IsLawfulExceptAnswers n h → opened h port ≡ Some (asking p g first (answers_of_calls before))
      → HasGivenAnswers n port h (answered_history port rest h) (asking p g first (answers_of_calls calls)) rest
  reported h before [] all small lawful is = record {
    lawful = lawful;
    is_open = is ∙ ap (λ (cs : List Call). Some (asking p g first (answers_of_calls cs))) (sym (all ∙ append-nil before));
    keeps = keeps_same n port h;
    happened = sym (append-nil (happened_at port h));
  }
  reported h before (c ∷ cs) all small lawful is =
      let e = answering c.question.helper port in
      let own = answering_port c.question.helper port in
      let next = Then h e (Told c.answer) in
      let here = one_lawful n h port (asking p g first (answers_of_calls before)) c there is (along before (c ∷ cs) all) small.0 in
      let more : answers_of_calls (before ++ c ∷ []) ≡ answers_of_calls before ++ c.answer ∷ [] = map-append (λ (d : Call). d.answer) before (c ∷ []) in
      let open_next : opened next port ≡ Some (asking p g first (answers_of_calls (before ++ c ∷ []))) =
      opened_here h e (Told c.answer) port own ∙ (ap (open_after_answer c.answer) is ∙ ap (λ (answers : List ℕ). Some (asking p g first answers)) (sym more)) in
      let rest = reported next (before ++ c ∷ []) cs (all ∙ sym (append_assoc before (c ∷ []) cs)) small.1 (lawful, here) open_next in
      record {
        lawful = rest.lawful;
        is_open = rest.is_open;
        keeps = keeps_on n port h next (answered_history port cs next) (one_keeps n h c.question.helper port c.answer) rest.keeps;
        happened = rest.happened ∙ (ap (λ (hs : List Happening). hs ++ answered_calls port cs) (happened_here h e (Told c.answer) port own) ∙ append_assoc (happened_at port h) (answered_call port c ∷ []) (answered_calls port cs));
      }
