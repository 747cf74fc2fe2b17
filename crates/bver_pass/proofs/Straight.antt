-- The slot to which a straight instruction leads, and why it is refused.
use Rattle.std.proofs.Common.{◌≡◌, ℕ, ◌+◌, Bool, List, Option, Some, Result, Ok, Err, refl}
use Rattle.std.specs.Prelude.{IsErr, IfOk, IfErr}
use Rattle.bpf_insn.specs.declared.insn.Insn.{Insn}
use Rattle.bpf_insn.specs.declared.insn.Insn.TheVariants.{Alu, Negate, MoveSigned, ByteSwap, Load, Store, Jump, Goto, Wide, LoadMap, LoadAddress, Call, Exit}
use Rattle.bpf_insn.specs.declared.flow.Flow.TheVariants.{GoesOn}
use Rattle.bpf_insn.specs.Flow.{flow_of}
use Rattle.bpf_insn.specs.Spelling.{slots_of}
use Rattle.machine.specs.Sizes.{Maps}
use Rattle.absdom.specs.declared.cause.Cause.{Cause}
use Rattle.absdom.specs.Effect.{after_insn}
use Rattle.absdom.specs.State.{StateValue}
use Rattle.absdom_stack.specs.declared.spill.Spill.{Spill}
use Rattle.absdom_stack.specs.Spill.{spill_of}
use Rattle.bver_form.specs.declared.refusal.Refusal.{Refusal}
use Rattle.bver_form.specs.declared.refusal.Refused.{Refused}
use Rattle.bver_pass.specs.Faults.{fault_in, fault_of}
use Rattle.bver_pass.specs.Justified.{IsPermitted, IsResultCovered}
use Rattle.bver_pass.specs.Leading.{GivesBelow, IsFlowFault, LeadsBelow, refutes}
use Rattle.bver_pass.specs.StateTable.{TableValue}
use Rattle.bver_pass.specs.Unjustified.{IsRefuted}
use Rattle.bver_pass.specs.Visit.{IsLeastNext, VisitValue}

-- ---- what is permitted leads below the table

-- an instruction that goes on leads to the slot to which its result goes
pub leads_on : (spill : Spill) (above : ℕ → Option StateValue) (slot : ℕ) (a : StateValue) (insn : Insn) → flow_of insn ≡ GoesOn → LeadsBelow spill above slot a insn → GivesBelow (after_insn spill a insn) (above (slot + slots_of insn))
leads_on spill above slot a (Alu op width dst src) goes h = h
leads_on spill above slot a (Negate width dst) goes h = h
leads_on spill above slot a (MoveSigned extension dst src) goes h = h
leads_on spill above slot a (ByteSwap swap bits dst) goes h = h
leads_on spill above slot a (Load size dst place) goes h = h
leads_on spill above slot a (Store size place src) goes h = h
leads_on spill above slot a (Jump comparison offset) goes h = absurd cc
leads_on spill above slot a (Goto distance) goes h = absurd cc
leads_on spill above slot a (Wide dst value) goes h = h
leads_on spill above slot a (LoadMap dst index) goes h = h
leads_on spill above slot a (LoadAddress dst address) goes h = absurd cc
leads_on spill above slot a (Call callee number) goes h = absurd cc
leads_on spill above slot a Exit goes h = absurd cc

pub straight_least : (spill : Spill) (r : Result Bool Refused) (slot : ℕ) (a : StateValue) (insn : Insn) (old new : TableValue) (state : StateValue) → flow_of insn ≡ GoesOn
    → IfOk r (λ runs. IsLeastNext (λ above. GivesBelow (after_insn spill a insn) (above (slot + slots_of insn))) old new runs (slot + slots_of insn) state)
    → IfOk r (λ runs. IsLeastNext (λ above. LeadsBelow spill above slot a insn) old new runs (slot + slots_of insn) state)
straight_least spill (Ok runs) slot a insn old new state goes least = λ above grown followed. least above grown (leads_on spill above slot a insn goes followed)
straight_least spill (Err refused) slot a insn old new state goes least = tt

-- an instruction that goes on is refuted if it is refused
result_refuted : (r : Result StateValue Cause) (there : Option StateValue) → IsErr r → IsResultCovered r there → ⊥
result_refuted (Err cause) there fails h = h
result_refuted (Ok a) there fails h = absurd cc

pub refuted_on : (spill : Spill) (maps : Maps) (slot : ℕ) (a : StateValue) (insn : Insn) → flow_of insn ≡ GoesOn → IsErr (after_insn spill a insn) → IsRefuted spill maps slot a insn
refuted_on spill maps slot a insn goes fails table h = by_insn insn goes fails h
  where
    by_insn : (insn : Insn) → flow_of insn ≡ GoesOn → IsErr (after_insn spill a insn) → IsPermitted spill maps table slot a insn → ⊥
    by_insn (Alu op width dst src) goes fails h = result_refuted (after_insn spill a (Alu op width dst src)) _ fails h
    by_insn (Negate width dst) goes fails h = result_refuted (after_insn spill a (Negate width dst)) _ fails h
    by_insn (MoveSigned extension dst src) goes fails h = result_refuted (after_insn spill a (MoveSigned extension dst src)) _ fails h
    by_insn (ByteSwap swap bits dst) goes fails h = result_refuted (after_insn spill a (ByteSwap swap bits dst)) _ fails h
    by_insn (Load size dst place) goes fails h = result_refuted (after_insn spill a (Load size dst place)) _ fails h
    by_insn (Store size place src) goes fails h = result_refuted (after_insn spill a (Store size place src)) _ fails h
    by_insn (Jump comparison offset) goes fails h = absurd cc
    by_insn (Goto distance) goes fails h = absurd cc
    by_insn (Wide dst value) goes fails h = absurd cc
    by_insn (LoadMap dst index) goes fails h = absurd cc
    by_insn (LoadAddress dst address) goes fails h = absurd cc
    by_insn (Call callee number) goes fails h = absurd cc
    by_insn Exit goes fails h = absurd cc

-- it is refused for the cause for which it has no result
fault_on : (spill : Spill) (maps : Maps) (a : StateValue) (insn : Insn) (code : Refusal) → flow_of insn ≡ GoesOn → fault_in (after_insn spill a insn) ≡ Some code → fault_of spill maps a insn ≡ Some code
fault_on spill maps a (Alu op width dst src) code goes fails = fails
fault_on spill maps a (Negate width dst) code goes fails = fails
fault_on spill maps a (MoveSigned extension dst src) code goes fails = fails
fault_on spill maps a (ByteSwap swap bits dst) code goes fails = fails
fault_on spill maps a (Load size dst place) code goes fails = fails
fault_on spill maps a (Store size place src) code goes fails = fails
fault_on spill maps a (Jump comparison offset) code goes fails = absurd cc
fault_on spill maps a (Goto distance) code goes fails = absurd cc
fault_on spill maps a (Wide dst value) code goes fails = absurd cc
fault_on spill maps a (LoadMap dst index) code goes fails = absurd cc
fault_on spill maps a (LoadAddress dst address) code goes fails = absurd cc
fault_on spill maps a (Call callee number) code goes fails = absurd cc
fault_on spill maps a Exit code goes fails = absurd cc

pub straight_fault : (r : Result Bool Refused) (v : VisitValue) (lowered : List Bool) (known : ℕ → Option StateValue) (a : StateValue) (insn : Insn) → flow_of insn ≡ GoesOn → IfErr r (λ refused. refused.slot ≡ v.slot)
    → IfErr r (λ refused. fault_in (after_insn (spill_of v.program.version) a insn) ≡ Some refused.code) → IfErr r (IsFlowFault v lowered known a insn)
straight_fault (Ok runs) v lowered known a insn goes slot fails = tt
straight_fault (Err refused) v lowered known a insn goes slot fails =
    refutes (record {
      slot = slot;
      code = fault_on (spill_of v.program.version) v.maps a insn refused.code goes fails;
      refuted = refuted_on (spill_of v.program.version) v.maps v.slot a insn goes (is_refused (after_insn (spill_of v.program.version) a insn) fails);
    })
  where
    is_refused : (r : Result StateValue Cause) → fault_in r ≡ Some refused.code → IsErr r
    is_refused (Err cause) fails = refl
    is_refused (Ok left) fails = absurd cc
