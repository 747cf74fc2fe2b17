-- Why an instruction is refused at its slot.
use Rattle.std.proofs.Common.{◌≡◌, ℕ, ℤ, Bool, List, Option, Some, Result, Ok, Err, inl, inr, ◌⊎◌}
use Rattle.std.specs.Prelude.{IfErr}
use Rattle.bpf_insn.specs.declared.insn.Insn.{Insn}
use Rattle.bpf_insn.specs.declared.insn.Insn.TheVariants.{Jump}
use Rattle.bpf_parts.specs.declared.operation.Comparison.{Comparison}
use Rattle.absdom.specs.declared.cause.Cause.{Cause}
use Rattle.absdom.specs.Edges.{Edges}
use Rattle.absdom.specs.State.{StateValue}
use Rattle.absdom_stack.specs.Spill.{spill_of}
use Rattle.bver_form.specs.declared.refusal.Refused.{Refused}
use Rattle.bver_pass.specs.Faults.{fault_in, fault_of}
use Rattle.bver_pass.specs.Justified.{AreEdgesCovered, edges_of_comparison}
use Rattle.bver_pass.specs.Leading.{IsFlowFault, IsUncoveredIfAny, refutes, returns, taken_state}
use Rattle.bver_pass.specs.Unjustified.{IsRefuted}
use Rattle.bver_pass.specs.Visit.{VisitValue}

-- an instruction that no table permits
pub refuted_fault : {T : Type 0} (r : Result T Refused) (v : VisitValue) (lowered : List Bool) (known : ℕ → Option StateValue) (a : StateValue) (insn : Insn) → IfErr r (λ refused. refused.slot ≡ v.slot)
    → IfErr r (λ refused. fault_of (spill_of v.program.version) v.maps a insn ≡ Some refused.code) → IfErr r (λ refused. IsRefuted (spill_of v.program.version) v.maps v.slot a insn) → IfErr r (IsFlowFault v lowered known a insn)
refuted_fault (Ok done) v lowered known a insn slot code refuted = tt
refuted_fault (Err refused) v lowered known a insn slot code refuted = refutes (record { slot = slot; code = code; refuted = refuted })

-- a comparison, which is refused for its operands or on its edge back
pub compared_fault : {T : Type 0} (r : Result T Refused) (v : VisitValue) (lowered : List Bool) (known : ℕ → Option StateValue) (a : StateValue) (comparison : Comparison) (offset : ℤ)
    → IfErr r (λ refused. (refused.slot ≡ v.slot) × (fault_in (edges_of_comparison a comparison) ≡ Some refused.code) ⊎ IsUncoveredIfAny v.program v.slot lowered known (taken_state (edges_of_comparison a comparison)))
    → IfErr r (IsFlowFault v lowered known a (Jump comparison offset))
compared_fault (Ok done) v lowered known a comparison offset fault = tt
compared_fault (Err refused) v lowered known a comparison offset (inr uncovered) = returns uncovered
compared_fault (Err refused) v lowered known a comparison offset (inl fails) =
    refutes (record { slot = fails.0; code = fails.1; refuted = λ table permitted. edges_refuted (edges_of_comparison a comparison) _ _ fails.1 permitted })
  where
    edges_refuted : (r : Result Edges Cause) (taken next : Option StateValue) → fault_in r ≡ Some refused.code → AreEdgesCovered r taken next → ⊥
    edges_refuted (Err cause) taken next fails h = h
    edges_refuted (Ok edges) taken next fails h = absurd cc
