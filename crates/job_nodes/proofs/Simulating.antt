-- Lines that are simulated in turn.
use Rattle.std.proofs.Common.{◌≡◌, ℕ, suc, List, [], ◌∷◌, ◌++◌, Option, Some, None, refl, sym, ap, subst, ◌∙◌, append_assoc}
use Rattle.std.proofs.lemmas.List.{append-nil}
use Rattle.std.specs.Io.KnownBytes.{Appends}
use Rattle.bpf.specs.Program.{Program}
use Rattle.node_parts.specs.declared.config.NodeConfig.{NodeConfig}
use Rattle.sched.specs.History.{History, Then}
use Rattle.sched.specs.Looking.{Node}
use Rattle.sched.specs.Worlds.{IsLawfulWorld, WorldValue, node_of}
use Rattle.job_nodes.specs.Beginning.{node_by}
use Rattle.job_nodes.specs.EventLines.{IsEventOf}
use Rattle.job_nodes.specs.JobNode.{IsConfig}
use Rattle.job_nodes.specs.SimJob.{outcome_line, outcome_lines}
use Rattle.job_nodes.specs.Simulated.{IsCutShort, IsNotStepped, IsStuck, SimulatesFrom, StepsEventLine}
use Rattle.job_parts.specs.Turns.{AreTaken, StopsInLines}
use Rattle.job_parts.specs.declared.faults.Fault.{Fault}
use Rattle.job_parts.specs.declared.options.NodeWords.{NodeWords}

pub regroup : (a b c : List ℕ) → (a ++ b) ++ c ≡ a ++ (b ++ c)
regroup a b c = simp append_assoc

-- what was printed before and after
pub appends_both : (old mid new : Option (List ℕ)) (front back : List ℕ) → Appends old mid front → Appends mid new back → Appends old new (front ++ back)
appends_both None mid new front back one two = tt
appends_both (Some xs) None new front back one two = absurd one
appends_both (Some xs) (Some ys) None front back one two = absurd two
appends_both (Some xs) (Some ys) (Some zs) front back one two =
    two ∙ ap (λ (l : List ℕ). l ++ back) one ∙ regroup xs front back

-- nothing was printed
pub appends_nothing : (old : Option (List ℕ)) → Appends old old []
appends_nothing None = tt
appends_nothing (Some xs) = sym (append-nil xs)

-- lines that the world took in turn are simulated after each history whose world it was
pub simulates_from : (n : Node) (h : History) (lines : List (List ℕ)) (before after : WorldValue) (old new : Option (List ℕ))
    → IsLawfulWorld n h before → AreTaken StepsEventLine lines before after old new → SimulatesFrom n h lines after old new
simulates_from n h [] before after old new lawful all = record {
  events = [];
  outcomes = [];
  written = tt;
  count = refl;
  lawful = subst (λ (w : WorldValue). IsLawfulWorld n h w) (sym all.0) lawful;
  printed = subst (λ (x : Option (List ℕ)). Appends old x []) (sym all.1) (appends_nothing old);
}
simulates_from n h (line ∷ lines) before after old new lawful all =
    let step = all.2 in
    let rest = simulates_from n (Then h step.event step.outcome) lines all.0 after all.1 new (step.goes_on n h lawful) all.3 in
    record {
      events = step.event ∷ rest.events;
      outcomes = step.outcome ∷ rest.outcomes;
      written = (subst (λ (ports : ℕ). IsEventOf ports line step.event) lawful.world.ports_are.count step.written, rest.written);
      count = ap (λ (k : ℕ). suc k) rest.count;
      lawful = rest.lawful;
      printed = appends_both old all.1 new (outcome_line step.outcome) (outcome_lines rest.outcomes) step.printed rest.printed;
    }

-- a line at which the world stopped cuts them short
pub cuts_short : (n : Node) (h : History) (lines : List (List ℕ)) (before after : WorldValue) (old new : Option (List ℕ)) (fault : Fault)
    → IsLawfulWorld n h before → StopsInLines StepsEventLine IsStuck lines before after old new fault → IsCutShort n h lines old new fault
cuts_short n h lines before after old new fault lawful stop =
    let all = simulates_from n h stop.done before stop.between old stop.printed lawful stop.all in
    record {
      front = stop.done;
      line = stop.line;
      rest = stop.rest;
      left = stop.between;
      end = stop.end;
      lines_are = stop.lines_are;
      all = subst (λ (x : Option (List ℕ)). SimulatesFrom n h stop.done stop.between old x) (sym stop.bad.1) all;
      is_fault = stop.is_fault;
      bad = subst (λ (ports : ℕ). IsNotStepped ports stop.line stop.end) all.lawful.world.ports_are.count stop.bad.0;
    }

-- the node of that configuration is the node of the words
pub node_is : (words : NodeWords) (config : NodeConfig) (program : Program) → IsConfig words.ports words.sizes config → node_of config program ≡ node_by words program
node_is words config program is = rw (is.address, is.ports_are, is.banks, is.sizes_are) refl
