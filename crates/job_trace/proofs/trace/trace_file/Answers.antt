use Rattle.std.proofs.Common.{◌≡◌, ◌∙◌, ℕ, List, [], Option, Some, ap, length, replicate, subst, sym, inl, inr, refl}
use Rattle.std.proofs.lemmas.Result.{err_from_is_err_and}
use Rattle.spw.specs.Line.{lines_of}
use Rattle.sched.specs.History.{Start}
use Rattle.sched.specs.Worlds.{IsLawfulWorld, WorldValue}
use Rattle.job_config.specs.declared.node_lines.NodeLines.{NodeLines}
use Rattle.job_nodes.specs.Beginning.{GivesSchedule, HoldsWorld}
use Rattle.job_parts.specs.Files.{ReadsFile}
use Rattle.job_parts.specs.Stops.{StopsBy}
use Rattle.job_parts.specs.Turns.{AreTaken, StopsInLines}
use Rattle.job_parts.specs.declared.faults.Fault.{Fault}
use Rattle.job_parts.specs.declared.faults.Fault.TheVariants.{NoMemory}
use Rattle.job_parts.specs.declared.stops.JobStop.{JobStop}
use Rattle.job_parts.specs.declared.stops.JobStop.TheVariants.{Ended, Unwritten}
use Rattle.job_trace.specs.Traced.{IsTraceCutShort, IsNotTraced, IsTraceStuck, TracesFile, TracesLineFrom, TracesLines}
use Rattle.job_trace.specs.declared.trace.Tracing.{Tracing}
use Rattle.job_trace.proofs.LinesInTurn.{cuts_short, traces_all}
use Rattle.job_nodes.proofs.Scheduled.{scheduled, world_in}
use Rattle.job_trace.proofs.trace.trace_file.Goals as goal

module _ {S : Type 0} (reads : ReadsFile S) (args : NodeLines) (before after : S) (old new : Option (List ℕ)) (text : List ℕ) (made : Option WorldValue) (world : WorldValue)
    (gives : GivesSchedule reads args before text made after) (is : made ≡ Some world) where
  abbrev held : HoldsWorld reads args.node gives.between world after
  held = world_in reads args before text made after world gives is

  -- the lines of the text that was read
  traces_file : (shown : List ℕ) (first last : Tracing) → first.world ≡ world → first.feeds ≡ replicate (length world.ports) [] → shown ≡ text
      → AreTaken TracesLineFrom (lines_of shown) first last old new → TracesFile reads args before after old new
  traces_file shown first last on empty same all =
      let n = held.node in
      let lawful = subst (λ (w : WorldValue). IsLawfulWorld n Start w) (sym on) (record { lawful = record { except_answers = tt; reported = tt }; world = held.is_world }) in
      let traced = traces_all n Start (lines_of shown) first last old new lawful all in
      let feeds = empty ∙ ap (λ (k : ℕ). replicate k []) held.is_world.ports_are.count in
      record {
        text = text;
        node = n;
        later = traced.0;
        world = last.world;
        left = last.feeds;
        scheduled = scheduled reads args before text made after world gives is;
        lawful = traced.1;
        all = subst (λ (t : List ℕ). TracesLines n (lines_of t) Start (replicate n.ports []) traced.0 last.feeds old new) same
            (subst (λ (f : List (List ℕ)). TracesLines n (lines_of shown) Start f traced.0 last.feeds old new) feeds traced.2);
      }

  -- a stop at a line of the text that was read
  stops_short : (shown : List ℕ) (first last : Tracing) (stop : JobStop) → first.world ≡ world → first.feeds ≡ replicate (length world.ports) [] → shown ≡ text
      → StopsBy (StopsInLines TracesLineFrom IsTraceStuck (lines_of shown) first last old new) stop → StopsBy (IsNotTraced reads args before after old new) stop
  stops_short shown first last (Unwritten refused) on empty same stop = tt
  stops_short shown first last (Ended fault) on empty same stop =
      let n = held.node in
      let lawful = subst (λ (w : WorldValue). IsLawfulWorld n Start w) (sym on) (record { lawful = record { except_answers = tt; reported = tt }; world = held.is_world }) in
      let cut = cuts_short n Start (lines_of shown) first last old new fault lawful stop in
      let feeds = empty ∙ ap (λ (k : ℕ). replicate k []) held.is_world.ports_are.count in
      inr (record {
        text = text;
        node = n;
        scheduled = scheduled reads args before text made after world gives is;
        cut_short = subst (λ (t : List ℕ). IsTraceCutShort n (lines_of t) Start (replicate n.ports []) old new fault) same
            (subst (λ (f : List (List ℕ)). IsTraceCutShort n (lines_of shown) Start f old new fault) feeds cut);
      })

  -- memory was refused to what takes them
  lacks_room : (fault : Fault) → fault ≡ NoMemory → new ≡ old → IsNotTraced reads args before after old new fault
  lacks_room fault none same = inl (
    same,
    inr (record {
      text = text;
      node = held.node;
      scheduled = scheduled reads args before text made after world gives is;
      no_memory = none;
    }),
  )

pub returns-clause-done : goal.returns-clause-done
returns-clause-done g c =
    traces_file g.F.Files.reads c.args.args.now c.args.files.now c.lines_and_world.new.files (g.W.Write.contents c.args.out.now) (g.W.Write.contents c.take_lines.new.out) _ _ _ c.in_ok-text.ensures.given c.in-Some.is _ _ _ c.in_ok-tracing.ensures.world c.in_ok-tracing.ensures.empty c.as_str.ensures.value c.in_ok-take_lines.ensures.taken

pub returns-in_err-take_lines-clause-stops : goal.returns-in_err-take_lines-clause-stops
returns-in_err-take_lines-clause-stops g c =
    let gone = err_from_is_err_and c.from_residual-in_err-take_lines.result c.from_residual-in_err-take_lines.ensures.1 in
    rw (gone.1, gone.2) (stops_short g.F.Files.reads c.args.args.now c.args.files.now c.lines_and_world.new.files (g.W.Write.contents c.args.out.now) (g.W.Write.contents c.take_lines.new.out) _ _ _ c.in_ok-text.ensures.given c.in-Some.is _ _ _ _ c.in_ok-tracing.ensures.world c.in_ok-tracing.ensures.empty c.as_str.ensures.value c.in_err-take_lines.ensures.stops)

pub returns-in_err-tracing-clause-stops : goal.returns-in_err-tracing-clause-stops
returns-in_err-tracing-clause-stops g c =
    let gone = err_from_is_err_and c.from_residual-in_err-tracing.result c.from_residual-in_err-tracing.ensures.1 in
    rw (gone.1, gone.2) (lacks_room g.F.Files.reads c.args.args.now c.args.files.now c.lines_and_world.new.files (g.W.Write.contents c.args.out.now) (g.W.Write.contents c.args.out.now) _ _ _ c.in_ok-text.ensures.given c.in-Some.is _ refl refl)
