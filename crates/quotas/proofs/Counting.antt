-- A command whose table decides by the match of a rule with a quota has matched: the last of its draws is that rule's.
use Rattle.std.specs.Prelude.{◌≡◌, ◌<◌, ◌≤◌, ◌^◌, ◌==◌, if◌then◌else◌, All}
use Rattle.std.proofs.Common.{◌⊎◌, ℕ, Bool, true, false, List, [], ◌∷◌, ◌++◌, Option, Some, None, refl, sym, ap, ◌∙◌, subst, arith, inl, inr}
use Rattle.std.proofs.lemmas.Bool.{and_from, cases_lt, eq-eqb, eqb-true}
use Rattle.bpf.specs.Program.{Program}
use Rattle.brun.specs.declared.turns.Turn.{Turn}
use Rattle.brun.specs.declared.turns.Turn.TheVariants as turns
use Rattle.machine.specs.declared.calls.Call.{Call}
use Rattle.machine.specs.declared.helpers.Helper.TheVariants as helpers
use Rattle.machine.specs.Memory.{Header, IsProgramHeader}
use Rattle.machine.specs.Runs.{AreAnswered, IsSafe, Path, entry, moves, answered, call}
use Rattle.machine.specs.State.{State}
use Rattle.machine.specs.declared.calls.Question.{Question}
use Rattle.machine.specs.Step.{question, Ask, step}
use Rattle.policy.specs.Compiled.{HasMeaning}
use Rattle.policy_table.specs.Matching.{matching_quota}
use Rattle.policy_table.specs.Meaning.{decision, draw, answers_in_turn}
use Rattle.policy_table.specs.declared.rules.Quota.{Quota}
use Rattle.policy_table.specs.declared.rules.Rule.{Rule}
use Rattle.sched.specs.declared.event.Event.{Event}
use Rattle.sched.specs.declared.event.Event.TheVariants.{Take, Count, Ticket, Peak, Effect, Publish}
use Rattle.sched.specs.declared.event.Outcome.{Outcome}
use Rattle.sched.specs.declared.event.Outcome.TheVariants.{Refused, Discarded, Answered, Taken, Told, Done}
use Rattle.sched.specs.Headline.{BeginsHistory, EveryScheduleJudgesOnce, IsTakenOnceDoneOnce, whole, longer}
use Rattle.sched.specs.History.{History, Start, Then, Open, open_after_answer, opened, opened_by, port_of, taken_by, with_answer}
use Rattle.sched.specs.Lawful.{IsLawful, IsOutcomeAtExceptAnswer, IsPublishOutcome, IsPublishedBy, IsSomeAnswer, effect_at_turn, effect_outcome, take_outcome}
use Rattle.sched.specs.Looking.{Node, cell_asked, draws, seen_header_in, is_cell_of_node, program_of, turn_at, turn_by, turn_of}
use Rattle.sched.specs.Turns.{AreWords, HasAsked, HasEnded, TurnsArePaths, answers_of_calls}
use Rattle.quotas.specs.MatchesInHistory.{IsMatched, MatchesAreCounted, from_take}
use Rattle.quotas.proofs.Beginnings.{lawful_before}
use Rattle.quotas.proofs.Deciding.{EndsInDraw, ends_in_draw}
use Rattle.quotas.proofs.Ends.{answers_after, are_answered, front_words, no_end, snoc_front, snoc_last, words_answered}

some-is : (p q : Open) → ◌≡◌ {A = Option Open} (Some p) (Some q) → p ≡ q
some-is p q e = cc

none-is : (p : Open) → ◌≡◌ {A = Option Open} None (Some p) → ⊥
none-is p e = cc

-- ---- where a command was told the last of its answers

-- the command before that
abbrev with_answers : Open → List ℕ → Open
with_answers o answers = record o { answers = answers }

record WasAnswered (h : History) (port : ℕ) (o : Open) (answers : List ℕ) (last : ℕ) : Type 0 where
  before : History
  event : Event
  within : BeginsHistory (Then before event (Told last)) h
  own : port_of event ≡ port
  is_open : opened before port ≡ Some (with_answers o answers)

later : (h : History) (port : ℕ) (o : Open) (answers : List ℕ) (last : ℕ) (event : Event) (outcome : Outcome) → WasAnswered h port o answers last → WasAnswered (Then h event outcome) port o answers last
later h port o answers last event outcome was =
    record { before = was.before; event = was.event; within = longer was.within; own = was.own; is_open = was.is_open }

-- a Take answers nothing
not_taken : (h : History) (generation : ℕ) (event : Event) (o : Open) (answers : List ℕ) (last : ℕ) → taken_by h generation event ≡ Some o → o.answers ≡ answers ++ last ∷ [] → ⊥
not_taken h generation (Take port packet) o answers last e is = no_end answers last (ap (λ (x : Open). x.answers) (some-is _ o e) ∙ is)
not_taken h generation (Count port) o answers last e is = none-is o e
not_taken h generation (Ticket port) o answers last e is = none-is o e
not_taken h generation (Peak port) o answers last e is = none-is o e
not_taken h generation (Effect port) o answers last e is = none-is o e
not_taken h generation (Publish port) o answers last e is = none-is o e

answered_here : (h : History) (port : ℕ) (event : Event) (reported : ℕ) (open_before : Option Open) (o : Open) (answers : List ℕ) (last : ℕ) → port_of event ≡ port → opened h port ≡ open_before
    → open_after_answer reported open_before ≡ Some o → o.answers ≡ answers ++ last ∷ [] → WasAnswered (Then h event (Told reported)) port o answers last
answered_here h port event reported None o answers last own there e is = absurd (none-is o e)
answered_here h port event reported (Some p) o answers last own there e is =
    let grown : with_answer reported p ≡ o = some-is _ o e in
    let both : p.answers ++ reported ∷ [] ≡ answers ++ last ∷ [] = ap (λ (x : Open). x.answers) grown ∙ is in
    let same : reported ≡ last = snoc_last p.answers answers reported last both in
    let before : p.answers ≡ answers = snoc_front p.answers answers reported last both in
    let command : p ≡ with_answers o answers = ap (λ (xs : List ℕ). with_answers p xs) before ∙ ap (λ (x : Open). with_answers x answers) grown in
    record {
      before = h;
      event = event;
      within = subst (λ (k : ℕ). BeginsHistory (Then h event (Told k)) (Then h event (Told reported))) same whole;
      own = own;
      is_open = there ∙ ap (λ (x : Open). Some x) command;
    }

own_event : (h : History) (port : ℕ) (event : Event) (outcome : Outcome) (o : Open) (answers : List ℕ) (last : ℕ) → port_of event ≡ port
    → (opened h port ≡ Some o → WasAnswered h port o answers last) → opened_by h (opened h port) event outcome ≡ Some o → o.answers ≡ answers ++ last ∷ []
    → WasAnswered (Then h event outcome) port o answers last
own_event h port event Refused o answers last own earlier e is = later h port o answers last event Refused (earlier e)
own_event h port event (Discarded discard) o answers last own earlier e is = later h port o answers last event (Discarded discard) (earlier e)
own_event h port event (Answered status reply) o answers last own earlier e is = later h port o answers last event (Answered status reply) (earlier e)
own_event h port event (Taken generation) o answers last own earlier e is = absurd (not_taken h generation event o answers last e is)
own_event h port event (Told reported) o answers last own earlier e is = answered_here h port event reported (opened h port) o answers last own refl e is
own_event h port event (Done status reply loaded) o answers last own earlier e is = absurd (none-is o e)

by_port : (h : History) (port : ℕ) (event : Event) (outcome : Outcome) (o : Open) (answers : List ℕ) (last : ℕ) (own : Bool) → (port_of event == port) ≡ own
    → (opened h port ≡ Some o → WasAnswered h port o answers last) → (if own then opened_by h (opened h port) event outcome else opened h port) ≡ Some o → o.answers ≡ answers ++ last ∷ []
    → WasAnswered (Then h event outcome) port o answers last
by_port h port event outcome o answers last true is earlier e ends = own_event h port event outcome o answers last (eqb-true _ _ is) earlier e ends
by_port h port event outcome o answers last false is earlier e ends = later h port o answers last event outcome (earlier e)

answered_last : (h : History) (port : ℕ) (o : Open) (answers : List ℕ) (last : ℕ) → opened h port ≡ Some o → o.answers ≡ answers ++ last ∷ [] → WasAnswered h port o answers last
answered_last Start port o answers last e is = absurd (none-is o e)
answered_last (Then h event outcome) port o answers last e is =
    by_port h port event outcome o answers last (port_of event == port) refl (λ open_there. answered_last h port o answers last open_there is) e is

-- ---- where its run asked for it

record AskedFor (program : Program) (header : Header) (port : ℕ) (calls : List Call) (c : Call) : Type 0 where
  steps : ℕ
  last : State
  asked : Question
  on : ℕ → State
  path : Path program header port calls steps last
  asks : step program header last ≡ Ask asked on
  is : call asked c.answer ≡ c

asked_for : (program : Program) (header : Header) (port : ℕ) (before : List Call) (c : Call) {calls : List Call} {n : ℕ} {s : State} → Path program header port calls n s → calls ≡ before ++ c ∷ []
    → AskedFor program header port before c
asked_for program header port before c entry e = absurd (no_end before c e)
asked_for program header port before c (moves path steps) e = asked_for program header port before c path e
asked_for program header port before c (answered {calls = calls} {n = n} {s = s} {question = asked} {on = on} answer path asks small) e =
    let same : call asked answer ≡ c = snoc_last calls before (call asked answer) c e in
    let front : calls ≡ before = snoc_front calls before (call asked answer) c e in
    record {
      steps = n;
      last = s;
      asked = asked;
      on = on;
      path = subst (λ (cs : List Call). Path program header port cs n s) front path;
      asks = asks;
      is = ap (λ (x : Call). call asked x.answer) (sym same) ∙ same;
    }

-- ---- the event that told it

-- an event that is answered when the program asks `ticket` for a cell draws a ticket of that
ticket_asked : (n : Node) (h : History) (event : Event) (reported map key : ℕ) (o : Open) → IsOutcomeAtExceptAnswer n h event (Told reported) → opened h (port_of event) ≡ Some o
    → turn_at n h (port_of event) ≡ Some (turns.Ask (question helpers.Ticket map key 0)) → draws (turn_at n h (port_of event)) event map key ≡ true
ticket_asked n h (Take port packet) reported map key o at is_open asks =
    let refused : take_outcome n h packet (opened h port) ≡ Refused = ap (λ (x : Option Open). take_outcome n h packet x) is_open in
    let no : Told reported ≡ Refused = at ∙ refused in cc
ticket_asked n h (Count port) reported map key o at is_open asks =
    let no : Told reported ≡ Refused = subst (λ (t : Option Turn). IsSomeAnswer (cell_asked helpers.Count t) (Told reported)) asks at in cc
ticket_asked n h (Peak port) reported map key o at is_open asks =
    let no : Told reported ≡ Refused = subst (λ (t : Option Turn). IsSomeAnswer (cell_asked helpers.Peak t) (Told reported)) asks at in cc
ticket_asked n h (Ticket port) reported map key o at is_open asks =
    ap (λ (t : Option Turn). is_cell_of_node (cell_asked helpers.Ticket t) map key) asks ∙ and_from (map == map) (key == key) (eq-eqb map map refl) (eq-eqb key key refl)
ticket_asked n h (Effect port) reported map key o at is_open asks =
    let stands : turn_of n port o ≡ Some (turns.Ask (question helpers.Ticket map key 0)) = sym (ap (λ (x : Option Open). turn_by n port x) is_open) ∙ asks in
    let refused : effect_outcome n h port (opened h port) ≡ Refused = ap (λ (x : Option Open). effect_outcome n h port x) is_open ∙ ap (λ (t : Option Turn). effect_at_turn n h port o t) stands in
    let no : Told reported ≡ Refused = at ∙ refused in cc
ticket_asked n h (Publish port) reported map key o at is_open asks =
    let stands : turn_of n port o ≡ Some (turns.Ask (question helpers.Ticket map key 0)) = sym (ap (λ (x : Option Open). turn_by n port x) is_open) ∙ asks in
    let by_open : IsPublishedBy n h port o (turn_of n port o) (Told reported) = subst (λ (x : Option Open). IsPublishOutcome n h port x (Told reported)) is_open at in
    let no : Told reported ≡ Refused = subst (λ (t : Option Turn). IsPublishedBy n h port o t (Told reported)) stands by_open in cc

-- something is answered only at a port of the node
answered_there : (n : Node) (h : History) (event : Event) (reported : ℕ) → IsLawful n (Then h event (Told reported)) → IsOutcomeAtExceptAnswer n h event (Told reported)
answered_there n h event reported lawful = by (cases_lt (port_of event) n.ports)
  where
    by : (port_of event < n.ports) ⊎ (n.ports ≤ port_of event) → IsOutcomeAtExceptAnswer n h event (Told reported)
    by (inl there) = lawful.except_answers.1.here there
    by (inr nowhere) = let no : Told reported ≡ Refused = lawful.except_answers.1.nowhere nowhere in cc

-- ---- the match

-- a run of the command's program on its answers
record HasRun (n : Node) (port : ℕ) (o : Open) : Type 0 where
  safe : IsSafe (program_of n o) n.sizes
  header : IsProgramHeader (seen_header_in o.packet)
  words : AreWords o.answers
  verdict : ℕ
  run : HasEnded (program_of n o) (seen_header_in o.packet) port o.answers verdict

run_of : (n : Node) (h : History) (event : Event) (outcome : Outcome) (o : Open) → IsTakenOnceDoneOnce n h event outcome → opened h (port_of event) ≡ Some o → HasRun n (port_of event) o
run_of n h event outcome o j is_open =
    let own : HasRun n (port_of event) j.taken = record { safe = j.safe; header = j.header; words = j.words; verdict = j.verdict; run = j.run } in
    subst (λ (x : Open). HasRun n (port_of event) x) (some-is _ o (sym j.is_open ∙ is_open)) own

module _ (paths : TurnsArePaths) (n : Node) (h : History) (port : ℕ) (o : Open) (rules : List Rule) (quota : Quota) (low : port < 32) (lawful : IsLawful n h) (is_open : opened h port ≡ Some o)
    (ran : HasRun n port o) (meaning : HasMeaning rules (program_of n o)) (matched : matching_quota rules (seen_header_in o.packet) (answers_in_turn o.answers) ≡ Some quota) where
  calls_are : ran.run.calls ≡ (decision rules (seen_header_in o.packet) (answers_in_turn o.answers)).0
  calls_are =
      let ended : HasEnded (program_of n o) (seen_header_in o.packet) port o.answers ran.verdict = ran.run in
      let by_own : AreAnswered (answers_in_turn o.answers) ended.calls = subst (λ (answers : List ℕ). AreAnswered (answers_in_turn answers) ended.calls) ended.answered (are_answered ended.calls) in
      (meaning.only (seen_header_in o.packet) port (answers_in_turn o.answers) ended.calls ended.run.0 ran.verdict ran.header low (words_answered o.answers ran.words) by_own ended.run.2).0

  matches : IsMatched n h quota.map quota.cell quota.limit (from_take port o)
  matches =
      let program : Program = program_of n o in
      let header : Header = seen_header_in o.packet in
      let ended : HasEnded program header port o.answers ran.verdict = ran.run in
      let last : EndsInDraw (decision rules header (answers_in_turn o.answers)).0 quota = ends_in_draw rules header (answers_in_turn o.answers) quota matched in
      let front : List ℕ = answers_of_calls last.before in
      let calls : ended.calls ≡ last.before ++ draw quota last.answer ∷ [] = calls_are ∙ last.is in
      let answers : o.answers ≡ front ++ last.answer ∷ [] = sym ended.answered ∙ ap answers_of_calls calls ∙ answers_after last.before (draw quota last.answer) in
      let was : WasAnswered h port o front last.answer = answered_last h port o front last.answer is_open answers in
      let command : Open = with_answers o front in
      let asked : AskedFor program header port last.before (draw quota last.answer) = asked_for program header port last.before (draw quota last.answer) ended.run.2.path calls in
      let words : AreWords front = front_words front last.answer (subst (λ (xs : List ℕ). All (λ answer. answer < 2 ^ 64) xs) answers ran.words) in
      let by_path : HasAsked program header port front asked.asked = record { calls = last.before; answered = refl; steps = asked.steps; last = asked.last; on = asked.on; path = asked.path; asks = asked.asks } in
      let stands : turn_of n port command ≡ Some (turns.Ask asked.asked) = ((paths program n.sizes header port front ran.safe ran.header low words).asks asked.asked).1 by_path in
      let same : turns.Ask asked.asked ≡ turns.Ask (question helpers.Ticket quota.map quota.cell 0) = ap (λ (c : Call). turns.Ask c.question) asked.is in
      let at_port : turn_at n was.before port ≡ Some (turns.Ask (question helpers.Ticket quota.map quota.cell 0)) = ap (λ (x : Option Open). turn_by n port x) was.is_open ∙ stands ∙ ap (λ (t : Turn). Some t) same in
      let there : turn_at n was.before (port_of was.event) ≡ Some (turns.Ask (question helpers.Ticket quota.map quota.cell 0)) = ap (λ (p : ℕ). turn_at n was.before p) was.own ∙ at_port in
      let open_there : opened was.before (port_of was.event) ≡ Some command = ap (λ (p : ℕ). opened was.before p) was.own ∙ was.is_open in
      let reported = answered_there n was.before was.event last.answer (lawful_before n was.within lawful) in
      record {
        before = was.before;
        event = was.event;
        outcome = Told last.answer;
        within = was.within;
        own_limit = quota.limit;
        small = omega arith;
        match = record {
          answer = last.answer;
          draw = record { asked = ticket_asked n was.before was.event last.answer quota.map quota.cell command reported open_there there; reported = refl };
          command = command;
          is_open = open_there;
          ends = record {
            rules = rules;
            meaning = meaning;
            calls = ended.calls;
            answered = ended.answered ∙ answers;
            match = record { reported = answers_in_turn o.answers; draws = calls_are; quota = quota; matched = matched; of_map = refl; of_cell = refl; of_limit = refl };
          };
        };
        taken = ap (λ (p : ℕ). from_take p o) was.own;
      }

pub quotas_are_counted : TurnsArePaths → EveryScheduleJudgesOnce → MatchesAreCounted
quotas_are_counted paths once n h event status reply loaded o rules quota node bytes lawful is_open meaning matched =
    let j = once n h event status reply loaded node bytes lawful in
    let there = j.there in
    let few = node.few_ports in
    let low : port_of event < 32 = omega (arith, there, few) in
    matches paths n h (port_of event) o rules quota low (record { except_answers = lawful.except_answers.0; reported = lawful.reported.0 }) is_open (run_of n h event (Done status reply loaded) o j is_open) meaning matched
