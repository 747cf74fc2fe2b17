-- A command that is taken, and the helper calls of its run: it then has its verdict.
use Rattle.std.proofs.Common.{◌≡◌, ◌<◌, ◌+◌, ℕ, List, [], ◌∷◌, ◌++◌, Some, None, refl, sym, ap, subst, ◌∙◌, append_assoc}
use Rattle.std.specs.Prelude.{option_map}
use Rattle.std.proofs.lemmas.List.{append-nil}
use Rattle.spw.specs.Cargo.{Cargo}
use Rattle.rmap.specs.Checks.{header_line}
use Rattle.rmap.specs.Command.{command_kind, command_of}
use Rattle.rmap.specs.Windows.{place_of}
use Rattle.bpf.specs.Program.{Program}
use Rattle.bver.specs.Justified.{AcceptedValue}
use Rattle.brun.specs.declared.turns.Turn.TheVariants as turns
use Rattle.brun.specs.Runs.{RunsWithin}
use Rattle.machine.specs.declared.calls.Call.{Call}
use Rattle.machine.specs.Laws.{RunsFromTheFront}
use Rattle.node_programs.specs.declared.publishes.Publish.{Publish}
use Rattle.node_programs.specs.Published.{judging_program}
use Rattle.node_parts.specs.Passes.{PassValue}
use Rattle.node_parts.specs.Slots.{slot_of}
use Rattle.ports.specs.Due.{IsJudgedInRun, Judging, Standing}
use Rattle.sched.specs.Agreement.{program_and_generation}
use Rattle.sched.specs.declared.event.Event.TheVariants.{Take}
use Rattle.sched.specs.declared.event.Outcome.TheVariants.{Taken}
use Rattle.sched.specs.History.{History, Then, opened}
use Rattle.sched.specs.Lawful.{IsLawfulExceptAnswers, header_outcome, packet_outcome, take_outcome}
use Rattle.sched.specs.Looking.{Node, seen_header_in, place_in, program_of, published, slot_at, slot_of_packet, turn_of, windows_in}
use Rattle.sched.specs.Turns.{answers_of_calls}
use Rattle.lawful.specs.Happenings.{Happening, happened_at, happening, answered_calls}
use Rattle.lawful.proofs.Idling.{IsKnown}
use Rattle.lawful.proofs.Keeping.{Keeps, happened_here, keeps_on, one_elsewhere, opened_here, staging_here}
use Rattle.lawful.proofs.Reporting.{asking, outcome_here, answered_history, reported}
use Rattle.lawful.proofs.Turning.{StandsAlong, along_run, small_run}
use Rattle.lemmas.proofs.Options.{some_same}

-- The command of the packet was taken, and its program has its verdict. Nothing else changed.
pub record HasVerdict (n : Node) (port : ℕ) (h now : History) (p : Cargo) (j : Judging) : Type 0 where
  pub lawful : IsLawfulExceptAnswers n now
  pub is_open : opened now port ≡ Some (asking p j.judged.generation h (answers_of_calls j.calls))
  pub stands : turn_of n port (asking p j.judged.generation h (answers_of_calls j.calls)) ≡ Some (turns.Verdict j.judged.verdict)
  pub lies : place_in n p ≡ Some j.judged.place
  pub keeps : Keeps n port h now
  pub happened : happened_at port now ≡ happened_at port h ++ (happening (Take port p) (Taken j.judged.generation) ∷ answered_calls port j.calls)

-- the program that judges by what the port knows is the one that looking back finds
shown_by : (n : Node) (h : History) (programs : List Publish) (slot g : ℕ) (a : AcceptedValue) → option_map program_and_generation (judging_program programs slot) ≡ Some (published n h slot)
    → judging_program programs slot ≡ Some (a, g) → published n h slot ≡ (a.program, g)
shown_by n h programs slot g a known shown =
    let named : option_map program_and_generation (judging_program programs slot) ≡ Some (a.program, g) = ap (option_map program_and_generation) shown in
    some_same (published n h slot) (a.program, g) (sym known ∙ named)

-- a command is taken whose program is the one that looking back finds, by what its port then knows
pub taken : RunsFromTheFront → (n : Node) (port : ℕ) (p : Cargo) (j : Judging) (h : History) (s after : Standing) → port < n.ports → IsLawfulExceptAnswers n h → opened h port ≡ None → s.pass.windows ≡ windows_in n → s.pass.port ≡ port
    → (is : IsJudgedInRun j p s after) → IsKnown n h is.between.programs → HasVerdict n port h (answered_history port j.calls (Then h (Take port p) (Taken j.judged.generation))) p j
taken front n port p j h s after there lawful closed windows port_is is known =
    let g = j.judged.generation in
    let v = j.judged.verdict in
    let run = is.judgement in
    let placed = run.judged_for.placed in
    let o = asking p g h [] in
    let lies : place_in n p ≡ Some j.judged.place = ap (place_of (command_of p)) (sym windows) ∙ placed.lies in
    let slot = slot_of (command_kind (command_of p)) j.judged.place in
    let slot_is : slot_of_packet n p ≡ slot = ap (slot_at (command_of p)) lies in
    let saw : run.seen ≡ is.between.programs = sym (ap (λ (x : PassValue). x.programs) run.asked) in
    let shown : judging_program is.between.programs slot ≡ Some (run.program, g) =
    subst (λ (xs : List Publish). judging_program xs slot ≡ Some (run.program, g)) saw run.taken.shown in
    let is_published : published n h (slot_of_packet n p) ≡ (run.program.program, g) =
    ap (published n h) slot_is ∙ shown_by n h is.between.programs slot g run.program (known.shown slot) shown in
    let allowed : header_line (command_of p) (windows_in n) ≡ None = ap (header_line (command_of p)) (sym windows) ∙ placed.allowed in
    let take_is : Taken g ≡ take_outcome n h p (opened h port) =
    sym (ap (take_outcome n h p) closed ∙ (ap (packet_outcome n h p) placed.command ∙ (ap (header_outcome n h p) allowed ∙ ap (λ (x : Program × ℕ). Taken x.1) is_published))) in
    let program_is : program_of n o ≡ run.program.program = ap (λ (x : Program × ℕ). x.0) is_published in
    let calls_run = subst (λ (cs : List Call). RunsWithin run.program.program (seen_header_in p) s.pass.port cs v) (sym is.calls) run.judged_for.verdict in
    let port_run = subst (λ (q : ℕ). RunsWithin run.program.program (seen_header_in p) q j.calls v) port_is calls_run in
    let whole_run = subst (λ (x : Program). RunsWithin x (seen_header_in p) port j.calls v) (sym program_is) port_run in
    let along : StandsAlong (program_of n o) (seen_header_in p) port j.calls v = along_run front (program_of n o) (seen_header_in p) port j.calls v whole_run in
    let begun = Then h (Take port p) (Taken g) in
    let took : Keeps n port h begun = record {
      programs = λ x. refl;
      count = refl;
      banks = λ k. refl;
      own = staging_here n h (Take port p) (Taken g) port refl;
      elsewhere = one_elsewhere n h (Take port p) (Taken g) port refl;
    } in
    let answered = reported n port there p g h j.calls v along begun [] j.calls refl (small_run front (program_of n o) (seen_header_in p) port j.calls v whole_run)
    (lawful, outcome_here n h (Take port p) (Taken g) port refl there take_is) (opened_here h (Take port p) (Taken g) port refl) in
    record {
      lawful = answered.lawful;
      is_open = answered.is_open;
      stands = along j.calls [] (sym (append-nil j.calls));
      lies = lies;
      keeps = keeps_on n port h begun (answered_history port j.calls begun) took answered.keeps;
      happened = answered.happened ∙ (ap (λ (xs : List Happening). xs ++ answered_calls port j.calls) (happened_here h (Take port p) (Taken g) port refl)
          ∙ append_assoc (happened_at port h) (happening (Take port p) (Taken g) ∷ []) (answered_calls port j.calls));
    }
