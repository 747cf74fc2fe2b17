use Rattle.std.proofs.Common.{◌≡◌, ℕ, List, Option, Some, inr, subst}
use Rattle.std.proofs.lemmas.Result.{err_from_is_err_and}
use Rattle.spw.specs.Line.{lines_of}
use Rattle.sched.specs.History.{Start}
use Rattle.sched.specs.Worlds.{WorldValue}
use Rattle.job_config.specs.declared.node_lines.NodeLines.{NodeLines}
use Rattle.job_parts.specs.Files.{ReadsFile}
use Rattle.job_parts.specs.Stops.{StopsBy}
use Rattle.job_parts.specs.Turns.{AreTaken, StopsInLines}
use Rattle.job_parts.specs.declared.stops.JobStop.{JobStop}
use Rattle.job_parts.specs.declared.stops.JobStop.TheVariants.{Ended, Unwritten}
use Rattle.job_nodes.specs.Beginning.{GivesSchedule}
use Rattle.job_nodes.specs.Simulated.{IsCutShort, IsNotSimulated, IsStuck, SimulatesFile, SimulatesFrom, StepsEventLine}
use Rattle.job_nodes.proofs.Scheduled.{scheduled, world_in}
use Rattle.job_nodes.proofs.Simulating.{cuts_short, simulates_from}
use Rattle.job_nodes.proofs.sim.sim_file.Goals as goal

-- the lines of the text that was read
simulates_file : {S : Type 0} (reads : ReadsFile S) (args : NodeLines) (before after : S) (old new : Option (List ℕ)) (text shown : List ℕ) (made : Option WorldValue) (first last : WorldValue)
    → GivesSchedule reads args before text made after → made ≡ Some first → shown ≡ text → AreTaken StepsEventLine (lines_of shown) first last old new → SimulatesFile reads args before after old new
simulates_file reads args before after old new text shown made first last gives is same all =
    let held = world_in reads args before text made after first gives is in
    record {
      text = text;
      node = held.node;
      left = last;
      scheduled = scheduled reads args before text made after first gives is;
      all = subst (λ (t : List ℕ). SimulatesFrom held.node Start (lines_of t) last old new) same
          (simulates_from held.node Start (lines_of shown) first last old new (record { lawful = record { except_answers = tt; reported = tt }; world = held.is_world }) all);
    }

-- a stop at a line of the text that was read
stops_short : {S : Type 0} (reads : ReadsFile S) (args : NodeLines) (before after : S) (old new : Option (List ℕ)) (text shown : List ℕ) (made : Option WorldValue) (first last : WorldValue) (stop : JobStop)
    → GivesSchedule reads args before text made after → made ≡ Some first → shown ≡ text → StopsBy (StopsInLines StepsEventLine IsStuck (lines_of shown) first last old new) stop
    → StopsBy (IsNotSimulated reads args before after old new) stop
stops_short reads args before after old new text shown made first last (Unwritten refused) gives is same stop = tt
stops_short reads args before after old new text shown made first last (Ended fault) gives is same stop =
    let held = world_in reads args before text made after first gives is in
    inr (record {
      text = text;
      node = held.node;
      scheduled = scheduled reads args before text made after first gives is;
      cut_short = subst (λ (t : List ℕ). IsCutShort held.node Start (lines_of t) old new fault) same
          (cuts_short held.node Start (lines_of shown) first last old new fault (record { lawful = record { except_answers = tt; reported = tt }; world = held.is_world }) stop);
    })

pub returns-clause-done : goal.returns-clause-done
returns-clause-done g c =
    simulates_file g.F.Files.reads c.args.args.now c.args.files.now c.lines_and_world.new.files (g.W.Write.contents c.args.out.now) (g.W.Write.contents c.take_lines.new.out) _ _ _ _ _ c.in_ok-text.ensures.given c.in-Some.is c.as_str.ensures.value c.in_ok-take_lines.ensures.taken

pub returns-in_err-take_lines-clause-stops : goal.returns-in_err-take_lines-clause-stops
returns-in_err-take_lines-clause-stops g c =
    let gone = err_from_is_err_and c.from_residual-in_err-take_lines.result c.from_residual-in_err-take_lines.ensures.1 in
    rw (gone.1, gone.2) (stops_short g.F.Files.reads c.args.args.now c.args.files.now c.lines_and_world.new.files (g.W.Write.contents c.args.out.now) (g.W.Write.contents c.take_lines.new.out) _ _ _ _ _ _ c.in_ok-text.ensures.given c.in-Some.is c.as_str.ensures.value c.in_err-take_lines.ensures.stops)
