-- The first fault of a program's form. A program that has one does not have its form, and has no other. It is a
-- refusal of the form, at a slot of the program.
use Rattle.std.proofs.Common.{◌≡◌, ◌≢◌, ◌⊎◌, inl, inr, ℕ, ◌-◌, ◌<◌, ℤ, pos, negsuc, Bool, true, false, length, Option, Some, None, refl, sym, subst, ap, ◌∙◌, arith}
use Rattle.std.specs.Prelude.{All, IfSome, IsSome, is_some, nat_lt, ◌||◌, ◌==◌, if◌then◌else◌, slice_index_or}
use Rattle.std.proofs.lemmas.Bool.{cases_lt, or_left, or_right, lt-ltb}
use Rattle.bpf.specs.declared.loops.Loop.{Loop}
use Rattle.bpf.specs.Program.{Program, IsProgram}
use Rattle.bpf.specs.declared.version.Version.{Version}
use Rattle.bpf_insn.specs.Flow.{flow_of, written_register}
use Rattle.bpf_insn.specs.declared.flow.Flow.{Flow}
use Rattle.bpf_insn.specs.declared.flow.Flow.TheVariants.{GoesOn, Branches, Jumps, Calls, Ends, Unsupported}
use Rattle.bpf_parts.specs.declared.callee.Callee.{Callee}
use Rattle.bpf_parts.specs.declared.callee.Callee.TheVariants.{Local, ByTypeId}
use Rattle.bpf_parts.specs.declared.callee.Callee.TheVariants as callees
use Rattle.bpf_insn.specs.declared.insn.Insn.{Insn}
use Rattle.bver_form.specs.declared.refusal.Refusal.{Refusal}
use Rattle.bver_form.specs.declared.refusal.Refusal.TheVariants.{BackJump, Budget, FallOff, FrameWrite, Helper, LoopShape}
use Rattle.bver_form.specs.declared.refusal.Refused.{Refused}
use Rattle.machine.specs.Helpers.{helper_of}
use Rattle.machine.specs.Step.{knows_helper}
use Rattle.bver_form.specs.Codes.{IsFormCode}
use Rattle.bver_form.specs.Support.{IsSupportedCall, IsSupportedFlow, call_fault, support_fault, frame_fault}
use Rattle.bver_form.specs.Jumps.{IsAfter, IsBackToHead, IsFirstSlot, IsJump, first_slot, is_loop_back, jump_distance, insn_at, target}
use Rattle.bver_form.specs.Loops.{IsLoopFormed}
use Rattle.bver_form.specs.Form.{AreAllowed, IsAllowed, IsAllowedAt, IsRefusalAt, of_insn, of_end, of_loop, of_weight, IsInsnFault, IsLoopFault, first_of, insn_fault, jump_fault, landing_fault, last_slot}
use Rattle.bver_form.specs.Laws.{FaultIsKnown, FaultRefutesForm, FirstFaultIsOne}
use Rattle.bver_form.proofs.Fitting.{loop_at}
use Rattle.bver_form.proofs.Kept.{begins_inside}
use Rattle.lemmas.proofs.Cases.{by_eq}

-- ---- an instruction that is allowed at its slot has no fault there

call_none : (version : Version) (callee : Callee) (number : ℤ) → IsSupportedCall version callee number → call_fault version callee number ≡ None
call_none version callees.Helper number h = rw h refl
call_none version Local number h = absurd h
call_none version ByTypeId number h = absurd h

support_none : (version : Version) (f : Flow) → IsSupportedFlow version f → support_fault version f ≡ None
support_none version GoesOn h = refl
support_none version (Branches distance) h = refl
support_none version (Jumps distance) h = refl
support_none version (Calls callee number) h = call_none version callee number h
support_none version Ends h = refl
support_none version Unsupported h = absurd h

frame_none : (o : Option ℕ) → IfSome o (λ register. register ≢ 10) → frame_fault o ≡ None
frame_none None h = refl
frame_none (Some register) h = by_eq (λ t. (if t then Some FrameWrite else None) ≡ None) register 10 (λ e. absurd (h e)) (λ _. refl)

onward_none : (p : Program) (slot next : ℕ) → IsAfter slot (pos next) ⊎ IsBackToHead p slot (pos next) → landing_fault p slot (Some next) ≡ None
onward_none p slot next onward =
    let passes : (nat_lt slot next || is_loop_back p slot next) ≡ true = elim onward [ inl after ↦ or_left (nat_lt slot next) (is_loop_back p slot next) (lt-ltb slot next after) | inr back ↦ or_right (nat_lt slot next) (is_loop_back p slot next) back ] in
    rw passes refl

landing_none : (p : Program) (slot : ℕ) (z : ℤ) → IsFirstSlot p z → IsAfter slot z ⊎ IsBackToHead p slot z → landing_fault p slot (first_slot p z) ≡ None
landing_none p slot (pos next) first onward = subst (λ t. landing_fault p slot (if t then Some next else None) ≡ None) (sym first) (onward_none p slot next onward)
landing_none p slot (negsuc n) first onward = absurd first

jump_none : (p : Program) (slot : ℕ) (o : Option ℤ) → IfSome o (λ distance. IsJump p slot distance) → jump_fault p slot o ≡ None
jump_none p slot None h = refl
jump_none p slot (Some distance) h = landing_none p slot (target slot distance) h.first_slot h.onward

first_none : (a b : Option Refusal) → a ≡ None → b ≡ None → first_of a b ≡ None
first_none None b e f = f
first_none (Some x) b e f = absurd cc

no_fault : (p : Program) (slot : ℕ) (insn : Insn) → IsAllowed p slot insn → insn_fault p slot insn ≡ None
no_fault p slot insn h =
    first_none (support_fault p.version (flow_of insn)) (first_of (frame_fault (written_register insn)) (jump_fault p slot (jump_distance insn))) (support_none p.version (flow_of insn) h.supported)
    (first_none (frame_fault (written_register insn)) (jump_fault p slot (jump_distance insn)) (frame_none (written_register insn) h.leaves_frame) (jump_none p slot (jump_distance insn) h.jump))

allowed_or_fault : (p : Program) (slot : ℕ) (o : Option Insn) (code : Refusal) → IsAllowedAt p slot o → IsRefusalAt p slot o code → ⊥
allowed_or_fault p slot None code allowed fault = fault
allowed_or_fault p slot (Some insn) code allowed fault = let none = no_fault p slot insn allowed in absurd cc

allowed_at : (p : Program) (slot : ℕ) (o : Option Insn) → insn_at p slot ≡ o → AreAllowed p → IsAllowedAt p slot o
allowed_at p slot None is allowed = tt
allowed_at p slot (Some insn) is allowed = allowed slot insn is

all_or_fault : (p : Program) (refused : Refused) → AreAllowed p → IsInsnFault p refused → ⊥
all_or_fault p refused allowed fault = allowed_or_fault p refused.slot (insn_at p refused.slot) refused.code (allowed_at p refused.slot (insn_at p refused.slot) refl allowed) fault.fault

unformed_or_all : (p : Program) (refused : Refused) → All (IsLoopFormed p) p.loops → IsLoopFault p refused → ⊥
unformed_or_all p refused all fault = fault.unformed (any_loop p) (all fault.place (any_loop p) fault.inside)
  where
    any_loop : Program → Loop
    any_loop p = record { head = 0; back = 0; bound = 0; register = 0 }

pub refutes : FaultRefutesForm
refutes p refused (of_insn fault) form = all_or_fault p refused form.allowed fault
refutes p refused (of_end allowed fault) form = fault.no_exit form.ends
refutes p refused (of_loop allowed ends fault) form = unformed_or_all p refused form.loops fault
refutes p refused (of_weight allowed ends loops fault) form = let heavy = fault.heavy in let light = form.within_budget in omega arith

-- ---- the first is one

refused : Refusal → ℕ → Refused
refused code slot = record { code = code; slot = slot }

same_refused : (one other : Refused) → one.code ≡ other.code → one.slot ≡ other.slot → one ≡ other
unfolding refused
same_refused one other code slot =
    ap (λ c. refused c one.slot) code ∙ ap (λ s. refused other.code s) slot

later_insn : (p : Program) (one other : Refused) → IsInsnFault p one → IsInsnFault p other → one.slot < other.slot → ⊥
later_insn p one other f g before = allowed_or_fault p one.slot (insn_at p one.slot) one.code (g.earlier one.slot before) f.fault

same_code : (p : Program) (slot : ℕ) (o : Option Insn) (a b : Refusal) → IsRefusalAt p slot o a → IsRefusalAt p slot o b → a ≡ b
same_code p slot None a b f g = absurd f
same_code p slot (Some insn) a b f g = cc

one_insn : (p : Program) (one other : Refused) → IsInsnFault p one → IsInsnFault p other → one ≡ other
one_insn p one other f g =
    elim (cases_lt one.slot other.slot) [
      | inl before ↦ absurd (later_insn p one other f g before)
      | inr not_before ↦
          elim (cases_lt other.slot one.slot) [
            | inl after ↦ absurd (later_insn p other one g f after)
            | inr not_after ↦
                let same : other.slot ≡ one.slot = omega arith in
                same_refused one other (same_code p one.slot (insn_at p one.slot) one.code other.code f.fault (subst (λ s. IsRefusalAt p s (insn_at p s) other.code) same g.fault)) (sym same)
          ]
    ]

later_loop : (p : Program) (one other : Refused) (d : Loop) → (f : IsLoopFault p one) (g : IsLoopFault p other) → f.place < g.place → ⊥
later_loop p one other d f g before = f.unformed d (g.earlier f.place d before)

one_loop : (p : Program) (one other : Refused) (d : Loop) → IsLoopFault p one → IsLoopFault p other → one ≡ other
one_loop p one other d f g =
    elim (cases_lt f.place g.place) [
      | inl before ↦ absurd (later_loop p one other d f g before)
      | inr not_before ↦
          elim (cases_lt g.place f.place) [
            | inl after ↦ absurd (later_loop p other one d g f after)
            | inr not_after ↦
                let same : f.place ≡ g.place = omega arith in
                same_refused one other (f.code ∙ sym g.code) (f.slot d ∙ ap (λ k. (slice_index_or p.loops k d).back) same ∙ sym (g.slot d))
          ]
    ]

pub one_fault : FirstFaultIsOne
one_fault p one other (of_insn f) (of_insn g) = one_insn p one other f g
one_fault p one other (of_insn f) (of_end allowed g) = absurd (all_or_fault p one allowed f)
one_fault p one other (of_insn f) (of_loop allowed ends g) = absurd (all_or_fault p one allowed f)
one_fault p one other (of_insn f) (of_weight allowed ends loops g) = absurd (all_or_fault p one allowed f)
one_fault p one other (of_end allowed f) (of_insn g) = absurd (all_or_fault p other allowed g)
one_fault p one other (of_end allowed f) (of_end also g) = same_refused one other (f.code ∙ sym g.code) (f.slot ∙ sym g.slot)
one_fault p one other (of_end allowed f) (of_loop also ends g) = absurd (f.no_exit ends)
one_fault p one other (of_end allowed f) (of_weight also ends loops g) = absurd (f.no_exit ends)
one_fault p one other (of_loop allowed ends f) (of_insn g) = absurd (all_or_fault p other allowed g)
one_fault p one other (of_loop allowed ends f) (of_end also g) = absurd (g.no_exit ends)
one_fault p one other (of_loop allowed ends f) (of_loop also too g) = one_loop p one other (record { head = 0; back = 0; bound = 0; register = 0 }) f g
one_fault p one other (of_loop allowed ends f) (of_weight also too loops g) = absurd (unformed_or_all p one loops f)
one_fault p one other (of_weight allowed ends loops f) (of_insn g) = absurd (all_or_fault p other allowed g)
one_fault p one other (of_weight allowed ends loops f) (of_end also g) = absurd (g.no_exit ends)
one_fault p one other (of_weight allowed ends loops f) (of_loop also too g) = absurd (unformed_or_all p other loops g)
one_fault p one other (of_weight allowed ends loops f) (of_weight also too more g) = same_refused one other (f.code ∙ sym g.code) (f.slot ∙ sym g.slot)

-- ---- it is a refusal of the form, at a slot of the program

-- a fault, if there is one, is of the form
abbrev MayBeForm : Option Refusal → Type 0
MayBeForm None = Unit {0}
MayBeForm (Some code) = IsFormCode code

form_fault : (o : Option Refusal) (code : Refusal) → MayBeForm o → o ≡ Some code → IsFormCode code
form_fault None code h e = absurd cc
form_fault (Some own) code h e = let same : own ≡ code = cc in subst IsFormCode same h

call_form : (version : Version) (callee : Callee) (number : ℤ) → MayBeForm (call_fault version callee number)
call_form version callees.Helper number = by_helper (knows_helper version (helper_of number))
  where
    by_helper : (t : Bool) → MayBeForm (if t then None else Some Helper)
    by_helper true = tt
    by_helper false = tt
call_form version Local number = tt
call_form version ByTypeId number = tt

support_form : (version : Version) (f : Flow) → MayBeForm (support_fault version f)
support_form version GoesOn = tt
support_form version (Branches distance) = tt
support_form version (Jumps distance) = tt
support_form version (Calls callee number) = call_form version callee number
support_form version Ends = tt
support_form version Unsupported = tt

frame_form : (o : Option ℕ) → MayBeForm (frame_fault o)
frame_form None = tt
frame_form (Some register) = by_frame (register == 10)
  where
    by_frame : (t : Bool) → MayBeForm (if t then Some FrameWrite else None)
    by_frame true = tt
    by_frame false = tt

landing_form : (p : Program) (slot : ℕ) (o : Option ℕ) → MayBeForm (landing_fault p slot o)
landing_form p slot None = tt
landing_form p slot (Some next) = by_onward (nat_lt slot next || is_loop_back p slot next)
  where
    by_onward : (t : Bool) → MayBeForm (if t then None else Some BackJump)
    by_onward true = tt
    by_onward false = tt

jump_form : (p : Program) (slot : ℕ) (o : Option ℤ) → MayBeForm (jump_fault p slot o)
jump_form p slot None = tt
jump_form p slot (Some distance) = landing_form p slot (first_slot p (target slot distance))

first_form : (a b : Option Refusal) → MayBeForm a → MayBeForm b → MayBeForm (first_of a b)
first_form None b h g = g
first_form (Some code) b h g = h

insn_form : (p : Program) (slot : ℕ) (insn : Insn) → MayBeForm (insn_fault p slot insn)
insn_form p slot insn =
    first_form (support_fault p.version (flow_of insn)) (first_of (frame_fault (written_register insn)) (jump_fault p slot (jump_distance insn))) (support_form p.version (flow_of insn))
    (first_form (frame_fault (written_register insn)) (jump_fault p slot (jump_distance insn)) (frame_form (written_register insn)) (jump_form p slot (jump_distance insn)))

insn_known : (p : Program) (slot : ℕ) (o : Option Insn) (code : Refusal) → insn_at p slot ≡ o → IsRefusalAt p slot o code → IsFormCode code × (slot < length p.slots)
insn_known p slot None code is fault = absurd fault
insn_known p slot (Some insn) code is fault =
    (form_fault (insn_fault p slot insn) code (insn_form p slot insn) fault, begins_inside p slot (subst (λ (o : Option Insn). IsSome o) (sym is) refl))

last_inside : (p : Program) → IsProgram p → last_slot p < length p.slots
last_inside p limits = by_end (is_some (insn_at p (length p.slots - 1)))
  where
    by_end : (t : Bool) → (if t then length p.slots - 1 else length p.slots - 2) < length p.slots
    by_end true = omega (arith, limits.slots.0)
    by_end false = omega (arith, limits.slots.0)

form_code : (code known : Refusal) → code ≡ known → IsFormCode known → IsFormCode code
form_code code known is h = subst IsFormCode (sym is) h

pub fault_is_known : FaultIsKnown
fault_is_known p refused limits (of_insn fault) = insn_known p refused.slot (insn_at p refused.slot) refused.code refl fault.fault
fault_is_known p refused limits (of_end allowed fault) = (form_code refused.code FallOff fault.code tt, rw fault.slot (last_inside p limits))
fault_is_known p refused limits (of_loop allowed ends fault) =
    let d : Loop = record { head = 0; back = 0; bound = 0; register = 0 } in
    (form_code refused.code LoopShape fault.code tt, rw (fault.slot d) ((loop_at p fault.place d limits fault.inside).within))
fault_is_known p refused limits (of_weight allowed ends loops fault) = (form_code refused.code Budget fault.code tt, omega (arith, limits.slots.0, fault.slot))
