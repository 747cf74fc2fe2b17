-- The programs that judge at a node before its first packet.
use Rattle.std.specs.Prelude.{◌≡◌, ◌==◌, ℕ, if◌then◌else◌, List, [], ◌∷◌}
use Rattle.bver.specs.Justified.{AcceptedValue}
use Rattle.machine.specs.declared.calls.Call.{Call}
use Rattle.node_parts.specs.Steps.{IsVerdictOn}
use Rattle.plain_cells.specs.Words.{AreCallsOn, zero_words}
use Rattle.rmap.specs.Command.{CommandValue}
use Rattle.job_config.specs.OwnNodes.{OwnNodeValue}
use Rattle.job_suite.specs.declared.judges.Judges.{Judges}

-- the program of a slot after a publish, if that one judged before it
abbrev pub judge_after : (judge : AcceptedValue) → ℕ × AcceptedValue → (slot : ℕ) → AcceptedValue
judge_after judge publish slot = if publish.0 == slot then publish.1 else judge

-- the program of a slot, if these were published in turn, and that one judged before them
abbrev pub judge_among : (first : AcceptedValue) → List (ℕ × AcceptedValue) → (slot : ℕ) → AcceptedValue
judge_among first [] slot = first
judge_among first (publish ∷ more) slot = judge_among (judge_after first publish slot) more slot

-- the program of a slot
abbrev pub judge_of : Judges → (slot : ℕ) → AcceptedValue
judge_of judges slot = judge_among judges.first judges.own.publishes slot

-- the program had a run on the header of the command, at port 0, that ends with the verdict. The words of cells that
-- nobody asked answered its calls in order
pub record HasJudgedAtPortZero (judge : AcceptedValue) (c : CommandValue) (verdict : ℕ) : Type 0 where
  pub calls : List Call
  pub following : List (List ℕ)
  pub run : IsVerdictOn judge 0 calls c verdict
  pub cells : AreCallsOn judge.sizes (zero_words judge.sizes) calls following

-- the programs are those of the node: that one judges at first, and then each that is published
pub record AreJudges (own : OwnNodeValue) (first : AcceptedValue) (judges : Judges) : Type 0 where
  pub first_is : judges.first ≡ first
  pub own_is : judges.own ≡ own
