-- Why ports are not served, if the files could be read.
use Rattle.std.proofs.Common.{◌≡◌, ℕ, List, subst, inl, inr}
use Rattle.bver.specs.Justified.{AcceptedValue}
use Rattle.job_config.specs.OwnNodes.{OwnNodeValue}
use Rattle.job_config.specs.declared.node_lines.NodeLines.{NodeLines}
use Rattle.job_ports.specs.Arrivals.{AreNotTaken}
use Rattle.job_parts.specs.Files.{ReadsFile}
use Rattle.spw.specs.Line.{lines_of}
use Rattle.job_ports.specs.ServedFile.{AreGiven, IsNotServed}
use Rattle.job_parts.specs.declared.faults.Fault.{Fault}
use Rattle.job_parts.specs.declared.faults.Fault.TheVariants.{NoMemory}
use Rattle.job_parts.specs.declared.stops.JobStop.{JobStop}
use Rattle.job_parts.specs.declared.stops.JobStop.TheVariants.{Ended, Unwritten}
use Rattle.job_parts.specs.Stops.{StopsBy}

-- A job that stops so, and something else that holds then.
pub stops_with : (P : Fault → Type 0) (Q : Type 0) (halt : JobStop) → StopsBy P halt → Q → StopsBy (λ fault. P fault × Q) halt
stops_with P Q (Ended fault) p q = (p, q)
stops_with P Q (Unwritten refused) p q = tt

module _ {S : Type 0} (reads : ReadsFile S) (args : NodeLines) (before after : S) (text : List ℕ) (own : OwnNodeValue) (program : AcceptedValue)
    (given : AreGiven reads args before text own program after) where
  -- Memory was refused.
  pub no_memory : (fault : Fault) → fault ≡ NoMemory → IsNotServed reads args before after fault
  no_memory fault is = inr (inr (record { text = text; own = own; program = program; given = given; no_memory = is }))

  -- The lines are not taken.
  not_taken : (fault : Fault) → AreNotTaken (lines_of text) own.ports fault → IsNotServed reads args before after fault
  not_taken fault (inl is) = no_memory fault is
  not_taken fault (inr (number, bad, is, breaks)) = inr (inl (record {
    text = text;
    own = own;
    program = program;
    number = number;
    bad = bad;
    given = given;
    breaks = breaks;
    is_fault = is;
  }))

  -- The lines that were read are not taken.
  pub halt_of : (read : List ℕ) → read ≡ text → (ports : ℕ) → ports ≡ own.ports → (halt : JobStop) → StopsBy (AreNotTaken (lines_of read) ports) halt
      → StopsBy (IsNotServed reads args before after) halt
  halt_of read same ports count (Ended fault) bad =
      not_taken fault (subst (λ (t : List ℕ). AreNotTaken (lines_of t) own.ports fault) same (subst (λ (n : ℕ). AreNotTaken (lines_of read) n fault) count bad))
  halt_of read same ports count (Unwritten refused) bad = tt
