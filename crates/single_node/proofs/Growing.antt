-- A node of one thread with one publish more.
use Rattle.std.proofs.Common.{◌≡◌, ◌<◌, ℕ, List, [], ◌∷◌, length, Result, Ok, Err, Some, refl, arith, inl, inr}
use Rattle.std.specs.Prelude.{OnOk, OnErr}
use Rattle.bver.specs.Justified.{AcceptedValue}
use Rattle.node_programs.specs.declared.publishes.Publish.{Publish}
use Rattle.node_programs.specs.Histories.{longer_history}
use Rattle.node_programs.specs.Published.{judging_from, program_at}
use Rattle.single_node.specs.Nodes.{IsSingleNode, SingleNodeValue, single_node}
use Rattle.single_node.proofs.Serving.{Grows, informed_grows}

pub grown : {N F : Type 0} (r : Result N F) (slot : ℕ) (program : AcceptedValue) (old new : List Publish) → OnOk r (new ≡ longer_history old slot program) → OnErr r (new ≡ old)
    → Grows old new
grown (Ok n) slot program old new longer same = inr (slot, program, longer)
grown (Err fault) slot program old new longer same = inl same

-- the same of a program that was published once more
pub grown_again : {N F : Type 0} (r : Result N F) (slot : ℕ) (old new : List Publish) → 0 < length old
    → OnOk r ((program : AcceptedValue) → program_at old slot ≡ Some program → new ≡ longer_history old slot program) → OnErr r (new ≡ old) → Grows old new
grown_again r slot [] new some longer same = absurd (omega (arith, some))
grown_again (Ok n) slot (f ∷ ps) new some longer same =
    let program = (judging_from (f.program, 0) 1 ps slot).0 in
    inr (slot, program, longer program refl)
grown_again (Err fault) slot (f ∷ ps) new some longer same = inl same

pub node_grows : (s : SingleNodeValue) (programs : List Publish) → 0 < length s.programs → Grows s.programs programs → IsSingleNode s
    → IsSingleNode (single_node s.banks s.words programs s.passes)
node_grows s programs some grows is = record {
  paired = is.paired;
  informed = λ k h at. informed_grows s.programs programs h some grows (is.informed k h at);
  few_ports = is.few_ports;
  few_banks = is.few_banks;
}
