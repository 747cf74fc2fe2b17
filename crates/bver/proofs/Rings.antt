-- What covers all that a pass knows except in one loop, and the slots to which an instruction leads from there.
use Rattle.std.proofs.Common.{◌≡◌, ℕ, ◌+◌, ◌<◌, ◌≤◌, ◌⊎◌, inl, inr, ℤ, pos, negsuc, Bool, true, false, [], Option, None, Some, Result, Ok, Err, refl, arith}
use Rattle.std.specs.Prelude.{IsSome, IfSome, IfOk, ◌&&◌, nat_lt, nat_le, if◌then◌else◌}
use Rattle.std.proofs.lemmas.Bool.Decides.{nat_tests}
use Rattle.bpf.specs.declared.loops.Loop.{Loop}
use Rattle.bpf_insn.specs.declared.insn.Insn.{Insn}
use Rattle.bpf_insn.specs.declared.insn.Insn.TheVariants.{Alu, Negate, MoveSigned, ByteSwap, Load, Store, Jump, Goto, Wide, LoadMap, LoadAddress, Call, Exit}
use Rattle.bpf_insn.specs.Flow.{flow_of}
use Rattle.bpf_insn.specs.Spelling.{slots_of}
use Rattle.bpf_parts.specs.Operands.{distance_of}
use Rattle.machine.specs.Step.{insn_at}
use Rattle.absdom.specs.declared.cause.Cause.{Cause}
use Rattle.absdom.specs.Edges.{Edges}
use Rattle.absdom.specs.Effect.{after_insn}
use Rattle.absdom.specs.State.{StateValue, IsStateBelow, after_call}
use Rattle.absdom.specs.Laws.{ApplyLeaves, AreEdgesBelow, BelowIsReflexive, CallLeaves, IsKnownLeftBy, StateRefineShrinks}
use Rattle.absdom_stack.specs.Spill.{spill_of}
use Rattle.bver_form.specs.Form.{IsFormed}
use Rattle.bver_form.specs.Jumps.{IsFirstSlot, IsJump, target}
use Rattle.bver_form.specs.Loops.{GoesTo, IsEdge}
use Rattle.bver_pass.specs.Justified.{IsCovered, IsCoveredIfAny, edges_of_comparison, knowledge_at}
use Rattle.bver_pass.specs.Leading.{BranchesBelow, GivesBelow, LeadsBelow}
use Rattle.bver_pass.specs.Visit.{HasNext, IsNext, VisitValue}
use Rattle.bver.proofs.Rounds.{marked}

-- ---- what covers all except in the loop

-- the slot lies in the loop after its head
abbrev pub IsAfterHead : Loop → ℕ → Type 0
IsAfterHead l k = (l.head < k) × (k ≤ l.back)

-- in the loop after its head another state than the one that covers all
pub ring : Loop → (inner : ℕ → Option StateValue) → ℕ → Option StateValue
ring l inner k = if nat_lt l.head k && nat_le k l.back then inner k else Some (marked [])

pub ring_after : (l : Loop) (inner : ℕ → Option StateValue) (k : ℕ) → IsAfterHead l k → ring l inner k ≡ inner k
unfolding ring
ring_after l inner k following = rw (after following.0, upto following.1) refl
  where
    after : l.head < k → nat_lt l.head k ≡ true
    after h = grind (arith, nat_tests, h)

    upto : k ≤ l.back → nat_le k l.back ≡ true
    upto h = grind (arith, nat_tests, h)

pub ring_any : (P : Option StateValue → Type 0) (l : Loop) (inner : ℕ → Option StateValue) (k : ℕ) → (IsAfterHead l k → P (inner k)) → P (Some (marked [])) → P (ring l inner k)
unfolding ring
ring_any P l inner k following other = by_tests (nat_lt l.head k) refl (nat_le k l.back) refl
  where
    after : nat_lt l.head k ≡ true → l.head < k
    after h = grind (arith, nat_tests, h)

    upto : nat_le k l.back ≡ true → k ≤ l.back
    upto h = grind (arith, nat_tests, h)

    by_tests : (t : Bool) → nat_lt l.head k ≡ t → (u : Bool) → nat_le k l.back ≡ u → P (if t && u then inner k else Some (marked []))
    by_tests true is true also = following (after is, upto also)
    by_tests true is false also = other
    by_tests false is u also = other

-- if nothing was known in the loop, anything may be
pub ring_more : (P : Option StateValue → Type 0) (l : Loop) (inner : ℕ → Option StateValue) (k : ℕ) → (P None → ⊥) → P (ring l (λ i. None) k) → P (ring l inner k)
unfolding ring
ring_more P l inner k none was = by_tests (nat_lt l.head k) (nat_le k l.back) was
  where
    by_tests : (t u : Bool) → P (if t && u then None else Some (marked [])) → P (if t && u then inner k else Some (marked []))
    by_tests true true was = absurd (none was)
    by_tests true false was = was
    by_tests false u was = was

-- ---- the slots to which an instruction leads

-- what is known along each edge keeps what the instruction does not write, or says more
pub leads_by : ApplyLeaves → CallLeaves → StateRefineShrinks → BelowIsReflexive → (v : VisitValue) (above : ℕ → Option StateValue) (a : StateValue) (insn : Insn) → IsFormed v.program → HasNext v insn → insn_at v.program v.slot ≡ Some insn
    → ((k : ℕ) (b : StateValue) → IsEdge v.program v.slot k → IsSome (insn_at v.program k) → IsKnownLeftBy insn a b ⊎ IsStateBelow b a → IsCovered b (above k))
    → LeadsBelow (spill_of v.program.version) above v.slot a insn
leads_by leaves calls shrinks reflexive v above a insn form next begins cover = by_insn insn next begins cover
  where
    Covers : Insn → Type 0
    Covers insn = (k : ℕ) (b : StateValue) → IsEdge v.program v.slot k → IsSome (insn_at v.program k) → IsKnownLeftBy insn a b ⊎ IsStateBelow b a → IsCovered b (above k)

    goes_on : (insn : Insn) → IsNext v (slots_of insn) → GoesTo (flow_of insn) v.slot (v.slot + slots_of insn) (v.slot + slots_of insn) → insn_at v.program v.slot ≡ Some insn → Covers insn → GivesBelow (after_insn (spill_of v.program.version) a insn) (above (v.slot + slots_of insn))
    goes_on insn next goes begins cover = by_result (after_insn (spill_of v.program.version) a insn) (leaves (spill_of v.program.version) a insn)
      where
        by_result : (r : Result StateValue Cause) → IfOk r (IsKnownLeftBy insn a) → GivesBelow r (above (v.slot + slots_of insn))
        by_result (Err cause) left = tt
        by_result (Ok b) left = cover (v.slot + slots_of insn) b (record { insn = insn; begins = begins; goes = goes }) next.begins (inl left)

    jumps : (insn : Insn) (distance : ℤ) (b : StateValue) → IsJump v.program v.slot distance → ((k : ℕ) → target v.slot distance ≡ pos k → GoesTo (flow_of insn) v.slot (v.slot + slots_of insn) k) → insn_at v.program v.slot ≡ Some insn → Covers insn → IsStateBelow b a → IsCovered b (knowledge_at above (target v.slot distance))
    jumps insn distance b jump goes begins cover below = by_target (target v.slot distance) refl jump.first_slot
      where
        by_target : (z : ℤ) → target v.slot distance ≡ z → IsFirstSlot v.program z → IsCovered b (knowledge_at above z)
        by_target (pos k) is first = cover k b (record { insn = insn; begins = begins; goes = goes k is }) first (inr below)
        by_target (negsuc n) is first = absurd first

    by_insn : (insn : Insn) → HasNext v insn → insn_at v.program v.slot ≡ Some insn → Covers insn → LeadsBelow (spill_of v.program.version) above v.slot a insn
    by_insn (Alu op width dst src) next begins cover = goes_on (Alu op width dst src) next refl begins cover
    by_insn (Negate width dst) next begins cover = goes_on (Negate width dst) next refl begins cover
    by_insn (MoveSigned extension dst src) next begins cover = goes_on (MoveSigned extension dst src) next refl begins cover
    by_insn (ByteSwap swap bits dst) next begins cover = goes_on (ByteSwap swap bits dst) next refl begins cover
    by_insn (Load size dst place) next begins cover = goes_on (Load size dst place) next refl begins cover
    by_insn (Store size place src) next begins cover = goes_on (Store size place src) next refl begins cover
    by_insn (Jump comparison offset) next begins cover =
        by_edges (edges_of_comparison a comparison) (shrinks a comparison.condition comparison.width comparison.dst comparison.src)
      where
        by_next : (o : Option StateValue) → IfSome o (λ edge. IsStateBelow edge a) → IsCoveredIfAny o (above (v.slot + 1))
        by_next None below = tt
        by_next (Some b) below = cover (v.slot + 1) b (record { insn = Jump comparison offset; begins = begins; goes = inl refl }) next.begins (inr below)

        by_taken : (o : Option StateValue) → IfSome o (λ edge. IsStateBelow edge a) → IsCoveredIfAny o (knowledge_at above (target v.slot offset))
        by_taken None below = tt
        by_taken (Some b) below = jumps (Jump comparison offset) offset b (form.allowed v.slot (Jump comparison offset) begins).jump (λ k is. inr is) begins cover below

        by_edges : (r : Result Edges Cause) → IfOk r (λ edges. AreEdgesBelow edges a) → BranchesBelow r (knowledge_at above (target v.slot offset)) (above (v.slot + 1))
        by_edges (Err cause) below = tt
        by_edges (Ok edges) below = (by_taken edges.taken below.taken, by_next edges.not_taken below.not_taken)
    by_insn (Goto distance) next begins cover =
        jumps (Goto distance) (distance_of distance) a (form.allowed v.slot (Goto distance) begins).jump (λ k is. is) begins cover (reflexive a)
    by_insn (Wide dst value) next begins cover = goes_on (Wide dst value) next refl begins cover
    by_insn (LoadMap dst index) next begins cover = goes_on (LoadMap dst index) next refl begins cover
    by_insn (LoadAddress dst address) next begins cover = tt
    by_insn (Call callee number) next begins cover =
        cover (v.slot + 1) (after_call a) (record { insn = Call callee number; begins = begins; goes = refl }) next.begins (inl (calls a callee number))
    by_insn Exit next begins cover = tt
