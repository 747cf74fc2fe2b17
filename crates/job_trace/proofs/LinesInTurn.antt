-- Lines that are traced in turn.
use Rattle.std.proofs.Common.{◌≡◌, ℕ, List, [], ◌∷◌, Option, Some, None, refl, sym, ap, subst}
use Rattle.spw.specs.Cargo.{Cargo}
use Rattle.sched.specs.History.{History}
use Rattle.sched.specs.Looking.{Node}
use Rattle.sched.specs.Worlds.{IsLawfulWorld, WorldValue}
use Rattle.job_nodes.specs.Feeds.{IsFed}
use Rattle.job_parts.specs.Turns.{AreTaken, StopsInLines}
use Rattle.job_parts.specs.declared.faults.Fault.{Fault}
use Rattle.job_trace.specs.Judged.{Traces, TracesPacket}
use Rattle.job_trace.specs.Traced.{IsTraceCutShort, IsTraceStuck, TracesLineFrom, TracesLines}
use Rattle.job_trace.specs.declared.trace.Tracing.{Tracing}
use Rattle.std.specs.Io.KnownBytes.{Appends}

-- ---- one line

-- a line that ended no packet
pub traces_none : (line : List ℕ) (a b : Tracing) (old : Option (List ℕ)) → b.world ≡ a.world → IsFed line a.feeds b.feeds None → TracesLineFrom line a b old old
traces_none line a b old same fed n h lawful = (h, subst (λ (w : WorldValue). IsLawfulWorld n h w) (sym same) lawful, (None, fed, (refl, refl)))

-- a line that ended a packet, of which a text was made, and printed
pub traces_received : (line : List ℕ) (port : ℕ) (packet : Cargo) (a b : Tracing) (text : List ℕ) (old new : Option (List ℕ))
    → IsFed line a.feeds b.feeds (Some (port, packet)) → TracesPacket port packet a.world b.world (Some []) (Some text) → Appends old new text
    → TracesLineFrom line a b old new
traces_received line port packet a b text old new fed traced printed n h lawful =
    let all = traced n h lawful in
    let own = subst (λ (t : List ℕ). Traces n h port packet all.0 t) (sym all.2.2) all.2.1 in
    (all.0, all.1, (Some (port, packet), fed, (text, own, printed)))

-- ---- lines in turn

-- lines that were taken in turn are traced after each history whose world is the first world
pub traces_all : (n : Node) (h : History) (lines : List (List ℕ)) (a b : Tracing) (old new : Option (List ℕ))
    → IsLawfulWorld n h a.world → AreTaken TracesLineFrom lines a b old new
    → (later : History) × IsLawfulWorld n later b.world × TracesLines n lines h a.feeds later b.feeds old new
traces_all n h [] a b old new lawful all =
    (h, subst (λ (t : Tracing). IsLawfulWorld n h t.world) (sym all.0) lawful, (refl, ap (λ (t : Tracing). t.feeds) all.0, all.1))
traces_all n h (line ∷ lines) a b old new lawful all =
    let one = all.2 n h lawful in
    let rest = traces_all n one.0 lines all.0 b all.1 new one.1 all.3 in
    (rest.0, rest.1, (one.0, all.0.feeds, all.1, one.2, rest.2))

-- a line that was not traced cuts them short
pub cuts_short : (n : Node) (h : History) (lines : List (List ℕ)) (a b : Tracing) (old new : Option (List ℕ)) (fault : Fault)
    → IsLawfulWorld n h a.world → StopsInLines TracesLineFrom IsTraceStuck lines a b old new fault → IsTraceCutShort n lines h a.feeds old new fault
cuts_short n h lines a b old new fault lawful stop =
    let all = traces_all n h stop.done a stop.between old stop.printed lawful stop.all in
    record {
      front = stop.done;
      line = stop.line;
      rest = stop.rest;
      later = all.0;
      kept = stop.between.feeds;
      left = b.feeds;
      end = stop.end;
      lines_are = stop.lines_are;
      all = subst (λ (x : Option (List ℕ)). TracesLines n stop.done h a.feeds all.0 stop.between.feeds old x) (sym stop.bad.1) all.2;
      is_fault = stop.is_fault;
      bad = stop.bad.0;
    }
