-- What is covered stays covered if more is known.
use Rattle.std.proofs.Common.{ℕ, ◌+◌, Option, None, Some, Result, Ok, Err}
use Rattle.bpf_insn.specs.declared.insn.Insn.{Insn}
use Rattle.bpf_insn.specs.declared.insn.Insn.TheVariants.{Alu, Negate, MoveSigned, ByteSwap, Load, Store, Jump, Goto, Wide, LoadMap, LoadAddress, Call, Exit}
use Rattle.bpf_insn.specs.Spelling.{slots_of}
use Rattle.machine.specs.Sizes.{Maps}
use Rattle.bpf_parts.specs.Operands.{distance_of}
use Rattle.absdom.specs.declared.cause.Cause.{Cause}
use Rattle.absdom.specs.State.{StateValue, after_call}
use Rattle.absdom.specs.Effect.{after_insn}
use Rattle.absdom.specs.Edges.{Edges, refined_edges}
use Rattle.absdom.specs.Laws.{BelowIsTransitive}
use Rattle.absdom_stack.specs.declared.spill.Spill.{Spill}
use Rattle.bver_form.specs.Form.{target}
use Rattle.bver_pass.specs.Justified.{IsCoveredIfAny, IsResultCovered, AreEdgesCovered, Proceeds, IsPermitted, IsPermittedAt, knowledge_at}
use Rattle.bver_pass.specs.Leading.{BranchesBelow, GivesBelow, LeadsBelow, ProceedsBelow}
use Rattle.bver_pass.proofs.Covering.{AreCovered, any_covered_more, covered_more, known_covered}

result_covered_more : BelowIsTransitive → (r : Result StateValue Cause) (x y : Option StateValue) → IsResultCovered r x → IsCoveredIfAny x y → IsResultCovered r y
result_covered_more transitive (Err cause) x y h g = absurd h
result_covered_more transitive (Ok a) x y h g = covered_more transitive a x y h g

edges_covered_more : BelowIsTransitive → (r : Result Edges Cause) (x y z w : Option StateValue) → AreEdgesCovered r x z → IsCoveredIfAny x y → IsCoveredIfAny z w → AreEdgesCovered r y w
edges_covered_more transitive (Err cause) x y z w h g f = absurd h
edges_covered_more transitive (Ok edges) x y z w h g f =
    (any_covered_more transitive edges.taken x y h.0 g, any_covered_more transitive edges.not_taken z w h.1 f)

proceeds_more : BelowIsTransitive → (spill : Spill) (old new : ℕ → Option StateValue) (slot : ℕ) (a : StateValue) (insn : Insn) → AreCovered old new → Proceeds spill old slot a insn → Proceeds spill new slot a insn
proceeds_more transitive spill old new slot a insn grown h =
    result_covered_more transitive (after_insn spill a insn) (old (slot + slots_of insn)) (new (slot + slots_of insn)) h (grown (slot + slots_of insn))

-- what a table permits, it permits if it knows more
permitted_more : BelowIsTransitive → (spill : Spill) (maps : Maps) (old new : ℕ → Option StateValue) (slot : ℕ) (a : StateValue) (insn : Insn) → AreCovered old new → IsPermitted spill maps old slot a insn → IsPermitted spill maps new slot a insn
permitted_more transitive spill maps old new slot a (Alu op width dst src) grown h = proceeds_more transitive spill old new slot a (Alu op width dst src) grown h
permitted_more transitive spill maps old new slot a (Negate width dst) grown h = proceeds_more transitive spill old new slot a (Negate width dst) grown h
permitted_more transitive spill maps old new slot a (MoveSigned extension dst src) grown h = proceeds_more transitive spill old new slot a (MoveSigned extension dst src) grown h
permitted_more transitive spill maps old new slot a (ByteSwap swap bits dst) grown h = proceeds_more transitive spill old new slot a (ByteSwap swap bits dst) grown h
permitted_more transitive spill maps old new slot a (Load size dst place) grown h = proceeds_more transitive spill old new slot a (Load size dst place) grown h
permitted_more transitive spill maps old new slot a (Store size place src) grown h = proceeds_more transitive spill old new slot a (Store size place src) grown h
permitted_more transitive spill maps old new slot a (Jump comparison offset) grown h =
    edges_covered_more transitive (refined_edges a comparison.condition comparison.width comparison.dst comparison.src) (knowledge_at old (target slot offset)) (knowledge_at new (target slot offset)) (old (slot + 1)) (new (slot + 1)) h (known_covered old new grown (target slot offset)) (grown (slot + 1))
permitted_more transitive spill maps old new slot a (Goto distance) grown h =
    covered_more transitive a (knowledge_at old (target slot (distance_of distance))) (knowledge_at new (target slot (distance_of distance))) h (known_covered old new grown (target slot (distance_of distance)))
permitted_more transitive spill maps old new slot a (Wide dst value) grown h = proceeds_more transitive spill old new slot a (Wide dst value) grown h
permitted_more transitive spill maps old new slot a (LoadMap dst index) grown h = (h.0, proceeds_more transitive spill old new slot a (LoadMap dst index) grown h.1)
permitted_more transitive spill maps old new slot a (LoadAddress dst address) grown h = absurd h
permitted_more transitive spill maps old new slot a (Call callee number) grown h =
    (h.0, covered_more transitive (after_call a) (old (slot + 1)) (new (slot + 1)) h.1 (grown (slot + 1)))
permitted_more transitive spill maps old new slot a Exit grown h = h

pub permitted_at_more : BelowIsTransitive → (spill : Spill) (maps : Maps) (old new : ℕ → Option StateValue) (slot : ℕ) (o : Option StateValue) (i : Option Insn) → AreCovered old new → IsPermittedAt spill maps old slot o i → IsPermittedAt spill maps new slot o i
permitted_at_more transitive spill maps old new slot None i grown h = tt
permitted_at_more transitive spill maps old new slot (Some a) None grown h = absurd h
permitted_at_more transitive spill maps old new slot (Some a) (Some insn) grown h = permitted_more transitive spill maps old new slot a insn grown h

-- ---- the slots to which an instruction leads

result_leads_more : BelowIsTransitive → (r : Result StateValue Cause) (x y : Option StateValue) → GivesBelow r x → IsCoveredIfAny x y → GivesBelow r y
result_leads_more transitive (Err cause) x y h g = tt
result_leads_more transitive (Ok a) x y h g = covered_more transitive a x y h g

edges_lead_more : BelowIsTransitive → (r : Result Edges Cause) (x y z w : Option StateValue) → BranchesBelow r x z → IsCoveredIfAny x y → IsCoveredIfAny z w → BranchesBelow r y w
edges_lead_more transitive (Err cause) x y z w h g f = tt
edges_lead_more transitive (Ok edges) x y z w h g f =
    (any_covered_more transitive edges.taken x y h.0 g, any_covered_more transitive edges.not_taken z w h.1 f)

proceeds_lead_more : BelowIsTransitive → (spill : Spill) (old new : ℕ → Option StateValue) (slot : ℕ) (a : StateValue) (insn : Insn) → AreCovered old new → ProceedsBelow spill old slot a insn → ProceedsBelow spill new slot a insn
proceeds_lead_more transitive spill old new slot a insn grown h =
    result_leads_more transitive (after_insn spill a insn) (old (slot + slots_of insn)) (new (slot + slots_of insn)) h (grown (slot + slots_of insn))

-- what an instruction leads to is covered if the table knows more
pub leads_more : BelowIsTransitive → (spill : Spill) (old new : ℕ → Option StateValue) (slot : ℕ) (a : StateValue) (insn : Insn) → AreCovered old new → LeadsBelow spill old slot a insn → LeadsBelow spill new slot a insn
leads_more transitive spill old new slot a (Alu op width dst src) grown h = proceeds_lead_more transitive spill old new slot a (Alu op width dst src) grown h
leads_more transitive spill old new slot a (Negate width dst) grown h = proceeds_lead_more transitive spill old new slot a (Negate width dst) grown h
leads_more transitive spill old new slot a (MoveSigned extension dst src) grown h = proceeds_lead_more transitive spill old new slot a (MoveSigned extension dst src) grown h
leads_more transitive spill old new slot a (ByteSwap swap bits dst) grown h = proceeds_lead_more transitive spill old new slot a (ByteSwap swap bits dst) grown h
leads_more transitive spill old new slot a (Load size dst place) grown h = proceeds_lead_more transitive spill old new slot a (Load size dst place) grown h
leads_more transitive spill old new slot a (Store size place src) grown h = proceeds_lead_more transitive spill old new slot a (Store size place src) grown h
leads_more transitive spill old new slot a (Jump comparison offset) grown h =
    edges_lead_more transitive (refined_edges a comparison.condition comparison.width comparison.dst comparison.src) (knowledge_at old (target slot offset)) (knowledge_at new (target slot offset)) (old (slot + 1)) (new (slot + 1)) h (known_covered old new grown (target slot offset)) (grown (slot + 1))
leads_more transitive spill old new slot a (Goto distance) grown h =
    covered_more transitive a (knowledge_at old (target slot (distance_of distance))) (knowledge_at new (target slot (distance_of distance))) h (known_covered old new grown (target slot (distance_of distance)))
leads_more transitive spill old new slot a (Wide dst value) grown h = proceeds_lead_more transitive spill old new slot a (Wide dst value) grown h
leads_more transitive spill old new slot a (LoadMap dst index) grown h = proceeds_lead_more transitive spill old new slot a (LoadMap dst index) grown h
leads_more transitive spill old new slot a (LoadAddress dst address) grown h = tt
leads_more transitive spill old new slot a (Call callee number) grown h = covered_more transitive (after_call a) (old (slot + 1)) (new (slot + 1)) h (grown (slot + 1))
leads_more transitive spill old new slot a Exit grown h = tt
