use Rattle.bver_form.proofs.Faults.{fault_is_known, one_fault, refutes}
use Rattle.bver_form.proofs.laws.first_faults.Goals as goal

pub returns : goal.returns
returns c = record { refutes = refutes; one = one_fault; known = fault_is_known }
