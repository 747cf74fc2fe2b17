-- Runs that are held, and go on.
use Rattle.std.proofs.Common.{◌≡◌, ◌<◌, ℕ, List, [], ◌∷◌, ◌++◌, map, Some, refl, ap, subst, ◌∙◌}
use Rattle.std.proofs.lemmas.List.{map-append}
use Rattle.spw.specs.Cargo.{Cargo}
use Rattle.bpf.specs.Program.{Program}
use Rattle.machine.specs.declared.calls.Call.{Call}
use Rattle.machine.specs.Memory.{Header, IsProgramHeader}
use Rattle.machine.specs.Runs.{IsSafe, call}
use Rattle.machine.specs.Sizes.{Maps}
use Rattle.machine.specs.declared.calls.Question.{Question}
use Rattle.rmap.specs.declared.places.Place.{Place}
use Rattle.bver.specs.Justified.{AcceptedValue}
use Rattle.bver.specs.Laws.{JustifiedIsSafe}
use Rattle.bank.specs.Admission.{IsPlacedBy}
use Rattle.brun.specs.declared.frame.Frame.{Frame}
use Rattle.brun.specs.declared.turns.Turn.{Turn}
use Rattle.brun.specs.declared.turns.Turn.TheVariants as turns
use Rattle.brun.specs.Pauses.{IsAsking, IsAt, IsAtQuestion, IsPaused, Turns}
use Rattle.sched.specs.History.{History, Open, taken, with_answer}
use Rattle.sched.specs.Looking.{Node, windows_in, seen_header_in, slot_of_packet, published, program_of}
use Rattle.sched.specs.Turns.{answers_of_calls, TurnsArePaths, turn_after}
use Rattle.sched.specs.Worlds.{RunValue, StandsThere, IsHelperQuestion, IsFor, IsRunOfOpen}
use Rattle.sched.proofs.Turns.{words_answered}

-- what an answer to a question leads to, whatever the run
abbrev pub Answers : (reported : ℕ) → (old new : Frame) → Type 0
Answers reported old new = (program : Program) (at : Header) (port : ℕ) (calls : List Call) (asked : Question) (stack : List ℕ)
    → IsAsking program at port calls asked old stack → IsAt program at port (calls ++ call asked reported ∷ []) new stack

-- how a run goes on from there, whatever its port and its calls
abbrev pub GoesOnFrom : Program → Header → (old : Frame) → (before : List ℕ) → Turn → (new : Frame) → (after : List ℕ) → Type 0
GoesOnFrom program header old before turn new after = (port : ℕ) (calls : List Call) → port < 32
    → IsAt program header port calls old before → Turns program header port calls turn new after

-- a run that asks is at a question
pub at_question : (program : Program) (header : Header) (turn : Turn) (frame : Frame) (stack : List ℕ) → IsHelperQuestion turn → StandsThere program header turn frame stack → IsAtQuestion frame
at_question program header (turns.Ask question) frame stack asks stands = record {
  program = program;
  header = header;
  port = stands.port;
  calls = stands.calls;
  asked = question;
  stack = stack;
  asks = stands.turns;
}
at_question program header (turns.Verdict v) frame stack asks stands = absurd asks

-- a run at a question can go on after it was answered
pub paused : (program : Program) (header : Header) (turn : Turn) (old new : Frame) (stack : List ℕ) (reported : ℕ) → IsHelperQuestion turn → StandsThere program header turn old stack
    → Answers reported old new → IsPaused program header new stack
paused program header (turns.Ask question) old new stack reported asks stands answered = record {
  port = stands.port;
  low = stands.low;
  calls = stands.calls ++ call question reported ∷ [];
  stands = answered program header stands.port stands.calls question stack stands.turns;
}
paused program header (turns.Verdict v) old new stack reported asks stands answered = absurd asks

-- after it goes on, a run of the program is there again
pub stands_again : (program : Program) (header : Header) (turn : Turn) (old new : Frame) (before after : List ℕ) → IsPaused program header old before
    → GoesOnFrom program header old before turn new after → StandsThere program header turn new after
stands_again program header turn old new before after ready on = record {
  port = ready.port;
  low = ready.low;
  calls = ready.calls;
  turns = on ready.port ready.calls ready.low ready.stands;
}

-- ---- where an open command stands

-- what a run that came there says of where its program is
stands_by : (program : Program) (sizes : Maps) (header : Header) (port : ℕ) (calls : List Call) (turn : Turn) (frame : Frame) (stack : List ℕ)
    → TurnsArePaths → IsSafe program sizes → IsProgramHeader header → port < 32 → Turns program header port calls turn frame stack
    → turn_after program header port (answers_of_calls calls) ≡ Some turn
stands_by program sizes header port calls (turns.Ask question) frame stack law safe is low asked =
    let words = words_answered program header port calls asked.steps asked.at asked.path in
    let by = law program sizes header port (answers_of_calls calls) safe is low words in
    (by.asks question).1 (record { calls = calls; answered = refl; steps = asked.steps; last = asked.at; on = asked.on; path = asked.path; asks = asked.asks })
stands_by program sizes header port calls (turns.Verdict v) frame stack law safe is low run =
    let words = words_answered program header port calls run.2.before run.2.last run.2.path in
    let by = law program sizes header port (answers_of_calls calls) safe is low words in
    (by.ends v).1 (record { calls = calls; answered = refl; run = run })

-- a run is that of an open command, if it came there with the answers since
run_of : (n : Node) (port : ℕ) (o : Open) (r : RunValue) (calls : List Call) → TurnsArePaths → JustifiedIsSafe → IsProgramHeader (seen_header_in o.packet) → port < 32
    → r.packet ≡ o.packet → r.generation ≡ o.generation → IsPlacedBy (windows_in n) o.packet r.place → r.program.program ≡ program_of n o → IsFor n r.program
    → answers_of_calls calls ≡ o.answers → Turns r.program.program (seen_header_in o.packet) port calls r.turn r.frame r.stack → IsRunOfOpen n port o r
run_of n port o r calls law safety is low packet generation placed program accepted answered stands =
    let there = stands_by r.program.program n.sizes (seen_header_in o.packet) port calls r.turn r.frame r.stack law (safety _ _ accepted.justified) is low stands in
    let named = subst (λ (p : Program). turn_after p (seen_header_in o.packet) port (answers_of_calls calls) ≡ Some r.turn) program there in
    record {
      packet = packet;
      generation = generation;
      placed = placed;
      program = program;
      accepted = accepted;
      turn = subst (λ (reported : List ℕ). turn_after (program_of n o) (seen_header_in o.packet) port reported ≡ Some r.turn) answered named;
      calls = calls;
      answered = answered;
      stands = stands;
    }

-- a run that has just begun is that of the command that was just taken
pub begun : (n : Node) (port : ℕ) (h : History) (packet : Cargo) (place : Place) (a : AcceptedValue) (generation : ℕ) (turn : Turn) (first frame : Frame) (before stack : List ℕ)
    → TurnsArePaths → JustifiedIsSafe → IsProgramHeader (seen_header_in packet) → port < 32 → IsPlacedBy (windows_in n) packet place → a.program ≡ (published n h (slot_of_packet n packet)).0 → IsFor n a
    → IsAt a.program (seen_header_in packet) port [] first before → GoesOnFrom a.program (seen_header_in packet) first before turn frame stack
    → IsRunOfOpen n port (taken packet generation h) (record { packet = packet; place = place; program = a; generation = generation; turn = turn; frame = frame; stack = stack })
begun n port h packet place a generation turn first frame before stack law safety is low placed program accepted starts on =
    run_of n port (taken packet generation h) (record { packet = packet; place = place; program = a; generation = generation; turn = turn; frame = frame; stack = stack }) [] law safety is low
    refl refl placed program accepted refl (on port [] low starts)

-- what was asked at a question is asked there still
asked_there : (program : Program) (header : Header) (port : ℕ) (calls : List Call) (turn : Turn) (old new : Frame) (stack : List ℕ) (reported : ℕ) → IsHelperQuestion turn
    → Turns program header port calls turn old stack → Answers reported old new
    → (more : List Call) × (answers_of_calls more ≡ answers_of_calls calls ++ reported ∷ []) × IsAt program header port more new stack
asked_there program header port calls (turns.Ask question) old new stack reported asks stands answered =
    (calls ++ call question reported ∷ [], map-append (λ (c : Call). c.answer) calls (call question reported ∷ []), answered program header port calls question stack stands)
asked_there program header port calls (turns.Verdict v) old new stack reported asks stands answered = absurd asks

-- a run that was answered and went on is that of its command with the answer
pub reported : (n : Node) (port : ℕ) (o : Open) (r : RunValue) (answer : ℕ) (turn : Turn) (between frame : Frame) (stack : List ℕ)
    → TurnsArePaths → JustifiedIsSafe → IsProgramHeader (seen_header_in r.packet) → port < 32 → IsHelperQuestion r.turn → Answers answer r.frame between
    → GoesOnFrom r.program.program (seen_header_in r.packet) between r.stack turn frame stack → IsRunOfOpen n port o r
    → IsRunOfOpen n port (with_answer answer o) (record r { turn = turn; frame = frame; stack = stack })
reported n port o r answer turn between frame stack law safety is low asks answered on run =
    let good = subst (λ (p : Cargo). IsProgramHeader (seen_header_in p)) run.packet is in
    let goes = subst (λ (p : Cargo). GoesOnFrom r.program.program (seen_header_in p) between r.stack turn frame stack) run.packet on in
    let further = asked_there r.program.program (seen_header_in o.packet) port run.calls r.turn r.frame between r.stack answer asks run.stands answered in
    run_of n port (with_answer answer o) (record r { turn = turn; frame = frame; stack = stack }) further.0 law safety good low
    run.packet run.generation run.placed run.program run.accepted (further.1 ∙ ap (λ (reported : List ℕ). reported ++ answer ∷ []) run.answered)
    (goes port further.0 low further.2)
