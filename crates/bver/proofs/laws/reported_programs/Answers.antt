use Rattle.absdom_stack.specs.Spill.{spill_of}
use Rattle.bver.proofs.Bare.{justifies, own_table}
use Rattle.bver.proofs.Below.{Order, reported_refutes}
use Rattle.bver.proofs.laws.reported_programs.Goals as goal

pub returns : goal.returns
returns c =
    let order : Order = record { reflexive = c.order_of_states.ensures.reflexive; transitive = c.order_of_states.ensures.transitive; applies = c.apply_grows.ensures; refines = c.refine_grows.ensures; calls = c.after_call_grows.ensures } in
    λ p maps a refused reported h. reported_refutes order p maps a refused (own_table (spill_of p.version) h.table) reported (justifies c.forgets_all.ensures p maps h)
