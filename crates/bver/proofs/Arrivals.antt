-- The slots to which a step of the machine leads: those at which the program lets a run go on.
use Rattle.std.proofs.Common.{◌≡◌, ℕ, ◌+◌, inl, inr, ℤ, pos, negsuc, ◌+ℤ◌, Bool, true, false, Option, None, Some, refl, subst}
use Rattle.std.specs.Prelude.{◌==◌, if◌then◌else◌}
use Rattle.bpf.specs.Program.{Program}
use Rattle.bpf_parts.specs.declared.operation.Width.{Width}
use Rattle.bpf_parts.specs.declared.operation.Condition.{Condition}
use Rattle.bpf_parts.specs.declared.memory.Size.{Size}
use Rattle.bpf_insn.specs.declared.flow.Flow.{Flow}
use Rattle.bpf_insn.specs.declared.flow.Flow.TheVariants.{GoesOn, Branches, Jumps, Calls, Ends}
use Rattle.bpf_parts.specs.declared.callee.Callee.{Callee}
use Rattle.bpf_parts.specs.declared.callee.Callee.TheVariants.{Local, ByTypeId}
use Rattle.bpf_parts.specs.declared.callee.Callee.TheVariants as callees
use Rattle.bpf_insn.specs.declared.insn.Insn.{Insn}
use Rattle.bpf_insn.specs.declared.insn.Insn.TheVariants.{Alu, Negate, MoveSigned, ByteSwap, Load, Store, Jump, Goto, Wide, LoadMap, LoadAddress, Exit}
use Rattle.bpf_insn.specs.declared.insn.Insn.TheVariants as insns
use Rattle.bpf_insn.specs.Flow.{flow_of}
use Rattle.bpf_parts.specs.Operands.{distance_of}
use Rattle.bpf_insn.specs.Spelling.{slots_of}
use Rattle.machine.specs.declared.regions.Region.TheVariants.{Front, Tail, Stack}
use Rattle.machine.specs.declared.values.Value.{Value}
use Rattle.machine.specs.declared.values.Value.TheVariants.{Unset, Num, Ptr, Map}
use Rattle.machine.specs.Words.{holds_words}
use Rattle.machine.specs.Memory.{Header, region_place_of}
use Rattle.bpf_parts.specs.Sizes.{size_bytes}
use Rattle.machine.specs.State.{State, state, register_after}
use Rattle.machine.specs.declared.helpers.Helper.{Helper}
use Rattle.machine.specs.Helpers.{helper_of}
use Rattle.machine.specs.declared.calls.Question.{Question}
use Rattle.machine.specs.Step.{Outcome, Next, Ask, Verdict, Trap, perform, insn_at, operand, writes, puts, stores, compares, branches, lands, asks, calls, exits, map_at, calls_helper, argument_of}
use Rattle.bver_form.specs.Jumps.{target}
use Rattle.bver_form.specs.Loops.{IsEdge, GoesTo}

-- a step leads to a state: at once, or by an answer to its question
pub data LeadsTo (o : Outcome) (t : State) : Type 0 where
  at_once : o ≡ Next t → LeadsTo o t
  by_answer : (question : Question) (on : ℕ → State) (answer : ℕ) → o ≡ Ask question on → on answer ≡ t → LeadsTo o t

-- each state to which a step leads is so
abbrev pub After : (State → Type 0) → Outcome → Type 0
After P (Next t) = P t
After P (Ask question on) = (answer : ℕ) → P (on answer)
After P (Verdict n) = Unit {0}
After P Trap = Unit {0}

pub is_after : (P : State → Type 0) (o : Outcome) (t : State) → LeadsTo o t → After P o → P t
is_after P o t (at_once e) after = subst (λ (w : Outcome). After P w) e after
is_after P o t (by_answer question on answer e is) after = subst P is (subst (λ (w : Outcome). After P w) e after answer)

abbrev IsAt : ℕ → Outcome → Type 0
IsAt next (Next t) = t.slot ≡ next
IsAt next (Ask question on) = (answer : ℕ) → (on answer).slot ≡ next
IsAt next (Verdict n) = Unit {0}
IsAt next Trap = Unit {0}

writes_at : (s : State) (next register : ℕ) (o : Option Value) → IsAt next (writes s next register o)
writes_at s next register None = tt
writes_at s next register (Some value) = by_frame (register == 10)
  where
    by_frame : (is : Bool) → IsAt next (if is then Trap else Next (state next (register_after s.registers register value) s.stack))
    by_frame true = tt
    by_frame false = refl

puts_at : (s : State) (bytes : ℕ) (o : Option ℕ) (value : Value) → IsAt (s.slot + 1) (puts s bytes o value)
puts_at s bytes None value = tt
puts_at s bytes (Some place) Unset = tt
puts_at s bytes (Some place) (Num n) = refl
puts_at s bytes (Some place) (Ptr region offset) = tt
puts_at s bytes (Some place) (Map index) = tt

stores_at : (s : State) (size : Size) (base : Value) (offset : ℤ) (value : Value) → IsAt (s.slot + 1) (stores s size base offset value)
stores_at s size Unset offset value = tt
stores_at s size (Num n) offset value = tt
stores_at s size (Ptr Front start) offset value = tt
stores_at s size (Ptr Tail start) offset value = tt
stores_at s size (Ptr Stack start) offset value = puts_at s (size_bytes size) (region_place_of Stack (size_bytes size) (start +ℤ offset)) value
stores_at s size (Map index) offset value = tt

-- a run of an instruction goes on so
abbrev IsOnEdge : Flow → (slot after : ℕ) → Outcome → Type 0
IsOnEdge flow slot after o = After (λ t. GoesTo flow slot after t.slot) o

straight_edge : (slot next : ℕ) (o : Outcome) → IsAt next o → IsOnEdge GoesOn slot next o
straight_edge slot next (Next t) at = at
straight_edge slot next (Ask question on) at = at
straight_edge slot next (Verdict n) at = tt
straight_edge slot next Trap at = tt

jump_edge : (s : State) (distance : ℤ) (after : ℕ) (z : ℤ) → target s.slot distance ≡ z → IsOnEdge (Jumps distance) s.slot after (lands s z)
jump_edge s distance after (pos next) is = is
jump_edge s distance after (negsuc n) is = tt

taken_edge : (s : State) (distance : ℤ) (after : ℕ) (z : ℤ) → target s.slot distance ≡ z → IsOnEdge (Branches distance) s.slot after (lands s z)
taken_edge s distance after (pos next) is = inr is
taken_edge s distance after (negsuc n) is = tt

branch_edge : (s : State) (distance : ℤ) (holds : Bool) → IsOnEdge (Branches distance) s.slot (s.slot + 1) (branches s distance holds)
branch_edge s distance true = taken_edge s distance (s.slot + 1) (target s.slot distance) refl
branch_edge s distance false = inl refl

compares_edge : (s : State) (condition : Condition) (width : Width) (distance : ℤ) (a b : Value) → IsOnEdge (Branches distance) s.slot (s.slot + 1) (compares condition width s distance a b)
compares_edge s condition width distance (Num a) (Num b) = branch_edge s distance (holds_words condition width a b)
compares_edge s condition width distance (Num a) Unset = tt
compares_edge s condition width distance (Num a) (Ptr region offset) = tt
compares_edge s condition width distance (Num a) (Map index) = tt
compares_edge s condition width distance Unset b = tt
compares_edge s condition width distance (Ptr region offset) b = tt
compares_edge s condition width distance (Map index) b = tt

exits_edge : (slot after : ℕ) (v : Value) → IsOnEdge Ends slot after (exits v)
exits_edge slot after Unset = tt
exits_edge slot after (Num n) = tt
exits_edge slot after (Ptr region offset) = tt
exits_edge slot after (Map index) = tt

asks_edge : (s : State) (callee : Callee) (number : ℤ) (helper : Helper) (map key : Value) (argument : Option ℕ) → IsOnEdge (Calls callee number) s.slot (s.slot + 1) (asks s helper map key argument)
asks_edge s callee number helper (Map map) (Num key) (Some argument) = λ answer. refl
asks_edge s callee number helper (Map map) (Num key) None = tt
asks_edge s callee number helper (Map map) Unset argument = tt
asks_edge s callee number helper (Map map) (Ptr region offset) argument = tt
asks_edge s callee number helper (Map map) (Map index) argument = tt
asks_edge s callee number helper Unset key argument = tt
asks_edge s callee number helper (Num n) key argument = tt
asks_edge s callee number helper (Ptr region offset) key argument = tt

calls_edge : (s : State) (callee : Callee) (number : ℤ) → IsOnEdge (Calls callee number) s.slot (s.slot + 1) (calls s callee number)
calls_edge s callees.Helper number = by_helper (helper_of number)
  where
    by_helper : (called : Option Helper) → IsOnEdge (Calls callees.Helper number) s.slot (s.slot + 1) (calls_helper s called)
    by_helper None = tt
    by_helper (Some helper) = asks_edge s callees.Helper number helper (s.registers 1) (s.registers 2) (argument_of helper (s.registers 3))
calls_edge s Local number = tt
calls_edge s ByTypeId number = tt

follows : (header : Header) (s : State) (insn : Insn) → IsOnEdge (flow_of insn) s.slot (s.slot + slots_of insn) (perform header s insn)
follows header s (Alu op width dst src) = straight_edge s.slot (s.slot + 1) _ (writes_at s (s.slot + 1) dst _)
follows header s (Negate width dst) = straight_edge s.slot (s.slot + 1) _ (writes_at s (s.slot + 1) dst _)
follows header s (MoveSigned extension dst src) = straight_edge s.slot (s.slot + 1) _ (writes_at s (s.slot + 1) dst _)
follows header s (ByteSwap swap bits dst) = straight_edge s.slot (s.slot + 1) _ (writes_at s (s.slot + 1) dst _)
follows header s (Load size dst place) = straight_edge s.slot (s.slot + 1) _ (writes_at s (s.slot + 1) dst _)
follows header s (Store size place src) = straight_edge s.slot (s.slot + 1) _ (stores_at s size (s.registers place.base) place.offset (operand s src))
follows header s (Jump comparison offset) = compares_edge s comparison.condition comparison.width offset (s.registers comparison.dst) (operand s comparison.src)
follows header s (Goto distance) = jump_edge s (distance_of distance) (s.slot + 1) (target s.slot (distance_of distance)) refl
follows header s (Wide dst value) = straight_edge s.slot (s.slot + 2) _ (writes_at s (s.slot + 2) dst (Some (Num value)))
follows header s (LoadMap dst index) = straight_edge s.slot (s.slot + 2) _ (writes_at s (s.slot + 2) dst (map_at index))
follows header s (LoadAddress dst address) = tt
follows header s (insns.Call callee number) = calls_edge s callee number
follows header s Exit = exits_edge s.slot (s.slot + 1) (s.registers 0)

-- every step of the machine follows an edge
pub edge_of : (p : Program) (header : Header) (s t : State) (insn : Insn) → insn_at p s.slot ≡ Some insn → LeadsTo (perform header s insn) t → IsEdge p s.slot t.slot
edge_of p header s t insn is e =
    record { insn = insn; begins = is; goes = is_after (λ u. GoesTo (flow_of insn) s.slot (s.slot + slots_of insn) u.slot) (perform header s insn) t e (follows header s insn) }
