-- Commands after their events, and what was printed of them.
use Rattle.std.proofs.Common.{◌≡◌, ◌==◌, ℕ, true, List, [], ◌∷◌, ◌++◌, Option, Some, refl, sym, ap, subst, arith, ◌∙◌, inl, inr}
use Rattle.std.proofs.lemmas.Bool.Decides.{nat_tests}
use Rattle.std.specs.Io.KnownBytes.{Appends}
use Rattle.bpf.specs.Program.{Program}
use Rattle.machine.specs.Memory.{Header, header}
use Rattle.machine.specs.Sizes.{Maps}
use Rattle.machine.specs.State.{State, entry_state}
use Rattle.machine.specs.declared.helpers.Helper.{Helper}
use Rattle.machine.specs.declared.helpers.Helper.TheVariants as helpers
use Rattle.rmap.specs.declared.status.Status.{Status}
use Rattle.spw.specs.Cargo.{Cargo}
use Rattle.sched.specs.Answers.{answering}
use Rattle.sched.specs.History.{History, Then, Open, opened, taken, open_after_answer}
use Rattle.sched.specs.Standing.{IsLent, IsLentOf}
use Rattle.sched.specs.Looking.{Node, seen_header_in, program_of, slot_of_packet}
use Rattle.sched.specs.Worlds.{GoesOnLawfully, IsLawfulWorld, IsWorldOf, WorldValue}
use Rattle.sched.specs.declared.standing.Standing.{Standing}
use Rattle.sched.specs.declared.event.Event.{Event}
use Rattle.sched.specs.declared.event.Event.TheVariants.{Take}
use Rattle.sched.specs.declared.event.Outcome.{Outcome}
use Rattle.sched.specs.declared.event.Outcome.TheVariants.{Taken, Told, Done}
use Rattle.job_nodes.specs.Settled.{IsCommandEnd}
use Rattle.job_nodes.proofs.Simulating.{appends_both}
use Rattle.job_trace.specs.Runs.{lines_within}
use Rattle.job_trace.specs.TraceJob.{command_lines, taken_line}
use Rattle.job_trace.specs.Judged.{AnswersHelpers, EndsCommand, IsStopLine, PrintsRun, TracesCommand, TracesPacket, judged_command_with, more, none}
use Rattle.job_parts.specs.Replies.{reply_line}

-- ---- own events

-- the port of an event is its own
own : (port : ℕ) → (port == port) ≡ true
own port = grind (arith, nat_tests)

-- what is open after a Take at its port
pub opened_taken : (h : History) (port : ℕ) (packet : Cargo) (generation : ℕ) → opened (Then h (Take port packet) (Taken generation)) port ≡ Some (taken packet generation h)
opened_taken h port packet generation = rw (own port) refl

-- what is open after an answer at its port
opened_after_answer : (h : History) (port : ℕ) (helper : Helper) (reported : ℕ) → opened (Then h (answering helper port) (Told reported)) port ≡ open_after_answer reported (opened h port)
opened_after_answer h port helpers.Count reported = rw (own port) refl
opened_after_answer h port helpers.Ticket reported = rw (own port) refl
opened_after_answer h port helpers.Peak reported = rw (own port) refl

-- ---- answers

-- no answer yet
pub answers_none : (port : ℕ) (w : WorldValue) → AnswersHelpers port [] w w
answers_none port w n h packet generation first lawful is_open = (h, none, lawful, is_open)

-- one answer more
pub answers_more : (port : ℕ) (answers : List ℕ) (reported : ℕ) (event : Event) (outcome : Outcome) (a b c : WorldValue) → AnswersHelpers port answers a b
    → ((helper : Helper) × (event ≡ answering helper port)) → outcome ≡ Told reported → GoesOnLawfully event outcome b c → AnswersHelpers port (answers ++ reported ∷ []) a c
answers_more port answers reported event outcome a b c all asks is_reported goes n h packet generation first lawful is_open =
    let so_far = all n h packet generation first lawful is_open in
    let later = so_far.0 in
    let next : IsLawfulWorld n (Then later (answering asks.0 port) (Told reported)) c =
    subst (λ (e : Event). IsLawfulWorld n (Then later e (Told reported)) c) asks.1
    (subst (λ (o : Outcome). IsLawfulWorld n (Then later event o) c) is_reported (goes n later so_far.2)) in
    (Then later (answering asks.0 port) (Told reported), more asks.0 reported so_far.1, next, opened_after_answer later port asks.0 reported ∙ ap (open_after_answer reported) so_far.3)

-- ---- runs

lines_are : (program program' : Program) (head head' : Header) (sizes sizes' : Maps) (budget : ℕ) (s s' : State) (answers answers' : List ℕ)
    → program ≡ program' → head ≡ head' → sizes ≡ sizes' → budget ≡ program'.budget → s ≡ s' → answers ≡ answers'
    → lines_within program head sizes budget budget 0 s answers ≡ lines_within program' head' sizes' program'.budget program'.budget 0 s' answers'
lines_are program program' head head' sizes sizes' budget s s' answers answers' e f g b i j = rw (e, f, g, b, i, j) refl

-- what was printed of a command that is lent
pub prints_run : (port : ℕ) (answers : List ℕ) (w : WorldValue) (old mid new : Option (List ℕ)) (j : Standing) (program : Program) (head : Header) (sizes : Maps) (budget : ℕ) (s : State)
    → ((n : Node) (h : History) → IsWorldOf n h w → IsLent n port (opened h port) (Some j))
    → program ≡ j.program.now.program → head ≡ header j.front.now j.tail.now → sizes ≡ j.program.now.sizes → budget ≡ j.program.now.program.budget → s ≡ entry_state port
    → Appends old mid (taken_line port j.slot j.generation)
    → Appends mid new (lines_within program head sizes budget budget 0 s answers)
    → PrintsRun port answers w old new
prints_run port answers w old mid new j program head sizes budget s lent program_is head_is sizes_are budget_is s_is first rest n h o world is_open reported =
    let own : IsLentOf n port o j = subst (λ (last : Option Open). IsLent n port last (Some j)) is_open (lent n h world) in
    let lines = lines_are program (program_of n o) head (seen_header_in o.packet) sizes n.sizes budget s (entry_state port) answers o.answers
    (program_is ∙ own.program) (head_is ∙ own.header_is) (sizes_are ∙ own.sizes) (budget_is ∙ ap (λ (p : Program). p.budget) own.program) s_is (sym reported) in
    let line : taken_line port j.slot j.generation ≡ taken_line port (slot_of_packet n o.packet) o.generation = rw (own.slot, own.generation) refl in
    appends_both old mid new _ _ (subst (λ (text : List ℕ). Appends old mid text) line first) (subst (λ (text : List ℕ). Appends mid new text) lines rest)

-- ---- commands

-- a command whose helpers were answered, whose run was printed, and which was ended
pub traces_command : (port : ℕ) (answers : List ℕ) (a b c : WorldValue) (old mid new : Option (List ℕ))
    → AnswersHelpers port answers a b → PrintsRun port answers b old mid → EndsCommand port b c mid new → TracesCommand port a c old new
traces_command port answers a b c old mid new answered run ended n h packet generation lawful is_open =
    let so_far = answered n (Then h (Take port packet) (Taken generation)) packet generation h lawful is_open in
    let o = judged_command_with packet generation h answers in
    let lines = run n so_far.0 o so_far.2.world so_far.3 refl in
    let end = ended n so_far.0 so_far.2 in (
      Then so_far.0 end.event (Done end.status end.reply end.loaded),
      command_lines n port o ++ reply_line port end.reply,
      end.lawful,
      record {
        generation = generation;
        answers = answers;
        asked = so_far.0;
        helped = so_far.1;
        event = end.event;
        ends = end.ends;
        status = end.status;
        reply = end.reply;
        loaded = end.loaded;
        later_is = refl;
        text_is = refl;
      },
      appends_both old mid new _ _ lines end.printed,
    )

-- an end with a reply that was printed
pub ends_command : (port : ℕ) (event : Event) (outcome : Outcome) (status : Status) (reply : List ℕ) (loaded : Option (List ℕ)) (a b : WorldValue) (old new : Option (List ℕ))
    → IsCommandEnd port event → outcome ≡ Done status reply loaded → GoesOnLawfully event outcome a b → Appends old new (reply_line port reply) → EndsCommand port a b old new
ends_command port event outcome status reply loaded a b old new ends is goes printed n h lawful = record {
  event = event;
  ends = ends;
  status = status;
  reply = reply;
  loaded = loaded;
  lawful = subst (λ (o : Outcome). IsLawfulWorld n (Then h event o) b) is (goes n h lawful);
  printed = printed;
}

-- ---- packets

-- a packet that its header stops
pub traces_stopped : (port : ℕ) (packet : Cargo) (outcome : Outcome) (a b : WorldValue) (old new : Option (List ℕ)) (text : List ℕ)
    → IsStopLine port outcome text → GoesOnLawfully (Take port packet) outcome a b → Appends old new text → TracesPacket port packet a b old new
traces_stopped port packet outcome a b old new text line goes printed n h lawful =
    (Then h (Take port packet) outcome, goes n h lawful, (text, inl (record { outcome = outcome; later_is = refl; line = line }), printed))

-- a packet that a program judges
pub traces_judged : (port : ℕ) (packet : Cargo) (generation : ℕ) (outcome : Outcome) (a b c : WorldValue) (old new : Option (List ℕ))
    → outcome ≡ Taken generation → GoesOnLawfully (Take port packet) outcome a b → TracesCommand port b c old new → TracesPacket port packet a c old new
traces_judged port packet generation outcome a b c old new is goes judged n h lawful =
    let taken_so = subst (λ (o : Outcome). IsLawfulWorld n (Then h (Take port packet) o) b) is (goes n h lawful) in
    let all = judged n h packet generation taken_so (opened_taken h port packet generation) in
    (all.0, all.2, (all.1, inr all.3, all.4))
