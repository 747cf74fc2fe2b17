-- Every path of a justified program is at a slot with a state that fits what is known there.
use Rattle.std.proofs.Common.{◌≡◌, ℕ, ◌+◌, ◌^◌, ◌<◌, ℤ, pos, negsuc, Bool, true, false, List, Option, None, Some, Result, Ok, Err, refl, sym, subst}
use Rattle.std.specs.Prelude.{IsTrue, IsSome, if◌then◌else◌}
use Rattle.bpf.specs.Program.{Program}
use Rattle.bpf.specs.declared.version.Version.{Version}
use Rattle.bpf_parts.specs.declared.distance.Distance.TheVariants.{Short, Long}
use Rattle.bpf_parts.specs.declared.callee.Callee.{Callee}
use Rattle.bpf_parts.specs.declared.callee.Callee.TheVariants.{Local, ByTypeId}
use Rattle.bpf_parts.specs.declared.callee.Callee.TheVariants as callees
use Rattle.bpf_insn.specs.declared.insn.Insn.{Insn}
use Rattle.bpf_insn.specs.declared.insn.Insn.TheVariants.{Alu, Negate, MoveSigned, ByteSwap, Load, Store, Jump, Goto, Wide, LoadMap, LoadAddress, Exit}
use Rattle.bpf_insn.specs.declared.insn.Insn.TheVariants as insns
use Rattle.bpf_insn.specs.Flow.{flow_of}
use Rattle.bpf_insn.specs.declared.flow.Flow.{Flow}
use Rattle.bpf_insn.specs.declared.flow.Flow.TheVariants.{GoesOn, Branches, Jumps, Calls, Ends, Unsupported}
use Rattle.bpf_insn.specs.Spelling.{IsInsn, slots_of}
use Rattle.machine.specs.Sizes.{Maps}
use Rattle.machine.specs.declared.calls.Call.{Call}
use Rattle.machine.specs.declared.values.Value.{Value}
use Rattle.machine.specs.declared.values.Value.TheVariants.{Unset as Nothing, Num as Number, Ptr as Pointer, Map as MapOf}
use Rattle.machine.specs.Memory.{Header, IsProgramHeader}
use Rattle.machine.specs.Laws.{InstructionsLeave, StepPerforms}
use Rattle.machine.specs.State.{State, state, entry_state}
use Rattle.machine.specs.declared.helpers.Helper.{Helper}
use Rattle.machine.specs.Helpers.{helper_of, takes_argument}
use Rattle.machine.specs.Step.{Outcome, Next, Ask, Verdict, Trap, step, perform, perform_at, insn_at, is_map, knows_flow, knows_insn, number, argument_of, after_answer as answer_to, asks, calls, calls_helper, exits, lands, branches}
use Rattle.machine.specs.Runs.{Path, entry, moves, answered}
use Rattle.absdom.specs.declared.cause.Cause.{Cause}
use Rattle.absdom.specs.declared.kinds.AbsKind.{AbsKind}
use Rattle.absdom.specs.declared.kinds.AbsKind.TheVariants.{Unset, Num, Ptr, Map}
use Rattle.absdom.specs.Edges.{Edges}
use Rattle.absdom.specs.State.{StateValue, after_call, kind_at}
use Rattle.absdom.specs.Effect.{after_insn}
use Rattle.absdom.specs.Fits.{Fits, FitsKind, FitsEdge, IsStateSound, IsIndex, GoesStraight, TakesEdge, edge_where}
use Rattle.absdom.specs.Laws.{BelowFits, CallFits, EntryFits, ApplyFits, StateRefineFits}
use Rattle.absdom_stack.specs.declared.spill.Spill.{Spill}
use Rattle.absdom_stack.specs.Spill.{spill_of}
use Rattle.bver_form.specs.Form.{IsAllowed, IsFormed}
use Rattle.bver_form.specs.Support.{IsSupportedCall, IsSupportedFlow}
use Rattle.bver_form.specs.Jumps.{target}
use Rattle.bver_form.specs.Laws.{BeginsWithinWeight, EachStepTakesItsCost, ItsCostIsLeft, LoopsAreEntered, WeightIsOfOnes}
use Rattle.bver_pass.specs.Justified.{AsksCell, MayCall, IsCovered, IsCoveredIfAny, IsResultCovered, AreEdgesCovered, IsNumber, Proceeds, IsPermitted, IsPermittedAt, IsJustified, knowledge_at}
use Rattle.bver.proofs.Slots.{insn_in}

-- the laws of what is known, of steps, and of loops
pub record Laws : Type 0 where
  pub below : BelowFits
  pub entry : EntryFits
  pub apply : ApplyFits
  pub call : CallFits
  pub refine : StateRefineFits
  pub performs : StepPerforms
  pub leaves : InstructionsLeave
  pub begins : BeginsWithinWeight
  pub takes : EachStepTakesItsCost
  pub left : ItsCostIsLeft
  pub ones : WeightIsOfOnes
  pub entered : LoopsAreEntered

-- a path is at a slot of which something is known that its state fits
pub record Stands (table : ℕ → Option StateValue) (s : State) : Type 0 where
  pub known : StateValue
  pub is : table s.slot ≡ Some known
  pub fits : Fits s known

-- what a step may give
abbrev pub Continues : (ℕ → Option StateValue) → Outcome → Type 0
Continues table (Next t) = Stands table t
Continues table (Ask question on) = (answer : ℕ) → answer < 2 ^ 64 → Stands table (on answer)
Continues table (Verdict v) = Unit {0}
Continues table Trap = ⊥

-- a state that fits what is covered at its slot is there
stands_by : BelowFits → (table : ℕ → Option StateValue) (t : State) (a : StateValue) (o : Option StateValue) → table t.slot ≡ o → Fits t a → IsCovered a o → Stands table t
stands_by below table t a None is fits covered = absurd covered
stands_by below table t a (Some b) is fits covered = record { known = b; is = is; fits = below t a b covered fits }

arrives : BelowFits → (table : ℕ → Option StateValue) (t : State) (a : StateValue) → Fits t a → IsCovered a (table t.slot) → Stands table t
arrives below table t a fits covered = stands_by below table t a (table t.slot) refl fits covered

-- on to a slot
goes_on : BelowFits → (table : ℕ → Option StateValue) (next : ℕ) (o : Outcome) (r : Result StateValue Cause) → IsStateSound o next r → IsResultCovered r (table next) → Continues table o
goes_on below table next o (Err cause) sound covered = absurd covered
goes_on below table next (Next t) (Ok a) sound covered =
    arrives below table t a sound.1 (subst (λ (k : ℕ). IsCovered a (table k)) (sym sound.0) covered)
goes_on below table next (Ask question on) (Ok a) sound covered = absurd sound
goes_on below table next (Verdict v) (Ok a) sound covered = absurd sound
goes_on below table next Trap (Ok a) sound covered = absurd sound

-- the same registers and stack at another slot
fits_at : (s : State) (a : StateValue) (slot : ℕ) → Fits s a → Fits (state slot s.registers s.stack) a
fits_at s a slot fits = record { registers = fits.registers; bytes = fits.bytes; words = fits.words }

steps_to : BelowFits → (table : ℕ → Option StateValue) (s : State) (next : ℕ) (a : StateValue) → Fits s a → IsCovered a (table next) → Stands table (state next s.registers s.stack)
steps_to below table s next a fits covered =
    arrives below table (state next s.registers s.stack) a (fits_at s a next fits) covered

-- a jump
lands_on : BelowFits → (table : ℕ → Option StateValue) (s : State) (z : ℤ) (a : StateValue) → Fits s a → IsCovered a (knowledge_at table z) → Continues table (lands s z)
lands_on below table s (pos next) a fits covered = steps_to below table s next a fits covered
lands_on below table s (negsuc m) a fits covered = absurd covered

-- a comparison
takes_edge : BelowFits → (table : ℕ → Option StateValue) (s : State) (offset : ℤ) (taken not_taken : Option StateValue) (holds : Bool) → FitsEdge s (if holds then taken else not_taken) → IsCoveredIfAny taken (knowledge_at table (target s.slot offset)) → IsCoveredIfAny not_taken (table (s.slot + 1)) → Continues table (branches s offset holds)
takes_edge below table s offset None not_taken true fits h g = absurd fits
takes_edge below table s offset (Some a) not_taken true fits h g = lands_on below table s (target s.slot offset) a fits h
takes_edge below table s offset taken None false fits h g = absurd fits
takes_edge below table s offset taken (Some a) false fits h g = steps_to below table s (s.slot + 1) a fits g

edge_is : (holds : Bool) (edges : Edges) (s : State) → FitsEdge s (edge_where holds edges) → FitsEdge s (if holds then edges.taken else edges.not_taken)
edge_is true edges s fits = fits
edge_is false edges s fits = fits

compares_on : BelowFits → (table : ℕ → Option StateValue) (s : State) (offset : ℤ) (o : Outcome) (r : Result Edges Cause) → TakesEdge s offset o r → AreEdgesCovered r (knowledge_at table (target s.slot offset)) (table (s.slot + 1)) → Continues table o
compares_on below table s offset o (Err cause) edge covered = absurd covered
compares_on below table s offset o (Ok edges) edge covered =
    subst (λ (w : Outcome). Continues table w) (sym edge.1)
    (takes_edge below table s offset edges.taken edges.not_taken edge.0 (edge_is edge.0 edges s edge.2) covered.0 covered.1)

-- an exit
exits_with : (table : ℕ → Option StateValue) (v : Value) (k : AbsKind) → FitsKind v k → IsNumber k → Continues table (exits v)
exits_with table v Unset fits number = absurd number
exits_with table Nothing (Num range) fits number = absurd fits
exits_with table (Number m) (Num range) fits number = tt
exits_with table (Pointer region z) (Num range) fits number = absurd fits
exits_with table (MapOf index) (Num range) fits number = absurd fits
exits_with table v (Ptr region offsets) fits number = absurd number
exits_with table v (Map index) fits number = absurd number

-- a helper's argument, if it has one
argument_from : (t : Bool) (v : Value) (k : AbsKind) → FitsKind v k → (IsTrue t → IsNumber k) → IsSome (if t then number v else Some 0)
argument_from false v k fits has = refl
argument_from true v k fits has = number_from v k fits (has refl)
  where
    number_from : (v : Value) (k : AbsKind) → FitsKind v k → IsNumber k → IsSome (number v)
    number_from v Unset fits h = absurd h
    number_from v (Ptr region offsets) fits h = absurd h
    number_from v (Map index) fits h = absurd h
    number_from Nothing (Num range) fits h = absurd fits
    number_from (Number n) (Num range) fits h = refl
    number_from (Pointer region z) (Num range) fits h = absurd fits
    number_from (MapOf index) (Num range) fits h = absurd fits

-- a helper's question, whatever is answered
asks_on : BelowFits → CallFits → (maps : Maps) (table : ℕ → Option StateValue) (s : State) (a : StateValue) (helper : Helper) (map key : Value) (o : Option ℕ) (k q : AbsKind) → FitsKind map k → FitsKind key q → AsksCell maps k q → IsSome o → Fits s a → IsCovered (after_call a) (table (s.slot + 1)) → Continues table (asks s helper map key o)
asks_on below call maps table s a helper map key o Unset q is has cell some fits covered = absurd cell
asks_on below call maps table s a helper map key o (Num range) q is has cell some fits covered = absurd cell
asks_on below call maps table s a helper map key o (Ptr region offsets) q is has cell some fits covered = absurd cell
asks_on below call maps table s a helper map key o (Map index) Unset is has cell some fits covered = absurd cell
asks_on below call maps table s a helper map key o (Map index) (Ptr region offsets) is has cell some fits covered = absurd cell
asks_on below call maps table s a helper map key o (Map index) (Map other) is has cell some fits covered = absurd cell
asks_on below call maps table s a helper Nothing key o (Map index) (Num range) is has cell some fits covered = absurd is
asks_on below call maps table s a helper (Number n) key o (Map index) (Num range) is has cell some fits covered = absurd is
asks_on below call maps table s a helper (Pointer region z) key o (Map index) (Num range) is has cell some fits covered = absurd is
asks_on below call maps table s a helper (MapOf own) Nothing o (Map index) (Num range) is has cell some fits covered = absurd has
asks_on below call maps table s a helper (MapOf own) (Pointer region z) o (Map index) (Num range) is has cell some fits covered = absurd has
asks_on below call maps table s a helper (MapOf own) (MapOf other) o (Map index) (Num range) is has cell some fits covered = absurd has
asks_on below call maps table s a helper (MapOf own) (Number n) None (Map index) (Num range) is has cell some fits covered = absurd cc
asks_on below call maps table s a helper (MapOf own) (Number n) (Some argument) (Map index) (Num range) is has cell some fits covered =
    λ answer low. arrives below table (answer_to s answer) (after_call a) (call s a answer low fits) covered

-- a helper's call, if it is permitted
helper_on : BelowFits → CallFits → (maps : Maps) (table : ℕ → Option StateValue) (s : State) (a : StateValue) (called : Option Helper) → MayCall maps called a → Fits s a → IsCovered (after_call a) (table (s.slot + 1)) → Continues table (calls_helper s called)
helper_on below call maps table s a None may fits covered = absurd may
helper_on below call maps table s a (Some helper) may fits covered =
    asks_on below call maps table s a helper (s.registers 1) (s.registers 2) (argument_of helper (s.registers 3)) (kind_at a 1) (kind_at a 2) (fits.registers 1) (fits.registers 2) may.cell
    (argument_from (takes_argument helper) (s.registers 3) (kind_at a 3) (fits.registers 3) may.given) fits covered

calls_on : BelowFits → CallFits → (version : Version) (maps : Maps) (table : ℕ → Option StateValue) (s : State) (a : StateValue) (callee : Callee) (number : ℤ) → IsSupportedCall version callee number → MayCall maps (helper_of number) a → Fits s a → IsCovered (after_call a) (table (s.slot + 1)) → Continues table (calls s callee number)
calls_on below call version maps table s a callees.Helper number supported may fits covered = helper_on below call maps table s a (helper_of number) may fits covered
calls_on below call version maps table s a Local number supported may fits covered = absurd supported
calls_on below call version maps table s a ByTypeId number supported may fits covered = absurd supported

index_of : (maps : Maps) (index : ℤ) → IsTrue (is_map maps index) → IsIndex index
index_of maps (pos n) h = tt
index_of maps (negsuc n) h = absurd cc

-- ---- the step at an instruction

-- one that goes on to the next
proceeds : Laws → (spill : Spill) (table : ℕ → Option StateValue) (header : Header) (s : State) (a : StateValue) (insn : Insn) → IsProgramHeader header → Fits s a → GoesStraight insn → Proceeds spill table s.slot a insn → Continues table (perform header s insn)
proceeds laws spill table header s a insn good fits straight h =
    goes_on laws.below table (s.slot + slots_of insn) (perform header s insn) (after_insn spill a insn) (laws.apply spill header s a insn good straight fits) h

continues_at : Laws → (spill : Spill) (p : Program) (maps : Maps) (table : ℕ → Option StateValue) (header : Header) (s : State) (a : StateValue) (insn : Insn) → IsProgramHeader header → Fits s a → IsAllowed p s.slot insn → IsInsn insn → IsPermitted spill maps table s.slot a insn → Continues table (perform header s insn)
continues_at laws spill p maps table header s a (Alu op width dst src) good fits allowed is_insn h = proceeds laws spill table header s a (Alu op width dst src) good fits allowed.leaves_frame h
continues_at laws spill p maps table header s a (Negate width dst) good fits allowed is_insn h = proceeds laws spill table header s a (Negate width dst) good fits allowed.leaves_frame h
continues_at laws spill p maps table header s a (MoveSigned extension dst src) good fits allowed is_insn h = proceeds laws spill table header s a (MoveSigned extension dst src) good fits allowed.leaves_frame h
continues_at laws spill p maps table header s a (ByteSwap swap bits dst) good fits allowed is_insn h = proceeds laws spill table header s a (ByteSwap swap bits dst) good fits allowed.leaves_frame h
continues_at laws spill p maps table header s a (Load size dst place) good fits allowed is_insn h = proceeds laws spill table header s a (Load size dst place) good fits allowed.leaves_frame h
continues_at laws spill p maps table header s a (Store size place src) good fits allowed is_insn h = proceeds laws spill table header s a (Store size place src) good fits tt h
continues_at laws spill p maps table header s a (Jump comparison offset) good fits allowed is_insn h =
    compares_on laws.below table s offset _ _ (laws.refine header s a comparison offset fits) h
continues_at laws spill p maps table header s a (Goto (Short offset)) good fits allowed is_insn h = lands_on laws.below table s (target s.slot offset) a fits h
continues_at laws spill p maps table header s a (Goto (Long immediate)) good fits allowed is_insn h = lands_on laws.below table s (target s.slot immediate) a fits h
continues_at laws spill p maps table header s a (Wide dst value) good fits allowed is_insn h = proceeds laws spill table header s a (Wide dst value) good fits (allowed.leaves_frame, is_insn.1) h
continues_at laws spill p maps table header s a (LoadMap dst index) good fits allowed is_insn h = proceeds laws spill table header s a (LoadMap dst index) good fits (allowed.leaves_frame, index_of maps index h.0) h.1
continues_at laws spill p maps table header s a (LoadAddress dst address) good fits allowed is_insn h = absurd h
continues_at laws spill p maps table header s a (insns.Call callee number) good fits allowed is_insn h =
    calls_on laws.below laws.call p.version maps table s a callee number allowed.supported h.0 fits h.1
continues_at laws spill p maps table header s a Exit good fits allowed is_insn h = exits_with table (s.registers 0) (kind_at a 0) (fits.registers 0) h

continues_from : Laws → (p : Program) (maps : Maps) (h : IsJustified p maps) (header : Header) (s : State) (at : Stands h.table s) (o : Option Insn) → IsProgramHeader header → insn_at p s.slot ≡ o → IsPermittedAt (spill_of p.version) maps h.table s.slot (Some at.known) o → Continues h.table (perform_at header s o)
continues_from laws p maps h header s at None good is permitted = absurd permitted
continues_from laws p maps h header s at (Some insn) good is permitted =
    continues_at laws (spill_of p.version) p maps h.table header s at.known insn good at.fits (h.formed.allowed s.slot insn is) (insn_in false p.slots s.slot insn h.limits.code is) permitted

-- what is supported in a version is known to it
flow_known : (version : Version) (flow : Flow) → IsSupportedFlow version flow → knows_flow version flow ≡ true
flow_known version GoesOn h = refl
flow_known version (Branches distance) h = refl
flow_known version (Jumps distance) h = refl
flow_known version (Calls callees.Helper number) h = h
flow_known version (Calls Local number) h = absurd h
flow_known version (Calls ByTypeId number) h = absurd h
flow_known version Ends h = refl
flow_known version Unsupported h = absurd h

insn_known : (p : Program) → IsFormed p → (slot : ℕ) (o : Option Insn) → insn_at p slot ≡ o → knows_insn p.version o ≡ true
insn_known p formed slot None is = refl
insn_known p formed slot (Some insn) is = flow_known p.version (flow_of insn) (formed.allowed slot insn is).supported

-- a step of a justified program is what its instruction does
pub performs_here : StepPerforms → (p : Program) (maps : Maps) → IsJustified p maps → (header : Header) (s : State) → step p header s ≡ perform_at header s (insn_at p s.slot)
performs_here performs p maps h header s = performs p header s (insn_known p h.formed s.slot (insn_at p s.slot) refl)

-- what is known at the slot of a path permits its instruction
pub permitted_here : (p : Program) (maps : Maps) (h : IsJustified p maps) (s : State) (at : Stands h.table s) → IsPermittedAt (spill_of p.version) maps h.table s.slot (Some at.known) (insn_at p s.slot)
permitted_here p maps h s at =
    subst (λ (k : Option StateValue). IsPermittedAt (spill_of p.version) maps h.table s.slot k (insn_at p s.slot)) at.is (h.permitted s.slot)

pub continues : Laws → (p : Program) (maps : Maps) (h : IsJustified p maps) (header : Header) (s : State) → IsProgramHeader header → Stands h.table s → Continues h.table (step p header s)
continues laws p maps h header s good at =
    rw (performs_here laws.performs p maps h header s)
    (continues_from laws p maps h header s at (insn_at p s.slot) good refl (permitted_here p maps h s at))

-- every path is at some slot
begins_at : Laws → (p : Program) (maps : Maps) (h : IsJustified p maps) (port : ℕ) → port < 32 → Stands h.table (entry_state port)
begins_at laws p maps h port low =
    arrives laws.below h.table (entry_state port) h.entered.known (laws.entry h.entered.known port h.entered.entry low) h.entered.covered

pub stands : Laws → (p : Program) (maps : Maps) (h : IsJustified p maps) (header : Header) (port : ℕ) (calls : List Call) (n : ℕ) (s : State) → IsProgramHeader header → port < 32 → Path p header port calls n s → Stands h.table s
stands laws p maps h header port calls n s good low entry = begins_at laws p maps h port low
stands laws p maps h header port calls n s good low (moves {n = m} {s = r} path e) =
    subst (λ (o : Outcome). Continues h.table o) e (continues laws p maps h header r good (stands laws p maps h header port calls m r good low path))
stands laws p maps h header port calls n s good low (answered {n = m} {s = r} answer path e below) =
    subst (λ (o : Outcome). Continues h.table o) e (continues laws p maps h header r good (stands laws p maps h header port _ m r good low path)) answer below
