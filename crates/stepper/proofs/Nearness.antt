-- A step moves no pointer by more than 2^63.
use Rattle.std.proofs.Common.{◌≡◌, ℕ, zero, suc, eqb, ap, get_or, neg_ℤ, List, ◌+◌, ◌*◌, ◌^◌, ◌≤◌, refl, arith, Option, Some, None, IfSome, Bool, true, false, cond, ℤ, pos, negsuc, ◌+ℤ◌, ◌-ℤ◌}
use Rattle.std.specs.Int.{cast_signed, w64}
use Rattle.std.specs.Prelude.{unsigned_abs}
use Rattle.std.proofs.lemmas.Int.{ints}
use Rattle.bpf_parts.specs.declared.operation.Width.{Width}
use Rattle.bpf_parts.specs.declared.operation.Width.TheVariants.{Bits32, Bits64}
use Rattle.bpf_parts.specs.declared.operation.AluOp.{AluOp}
use Rattle.bpf_parts.specs.declared.operation.AluOp.TheVariants.{Add, Sub, Mul, Div, SignedDiv, Or, And, Lsh, Rsh, Mod, SignedMod, Xor, Mov, Arsh}
use Rattle.machine.specs.declared.regions.Region.{Region}
use Rattle.machine.specs.declared.regions.Region.TheVariants.{Front, Tail, Stack}
use Rattle.machine.specs.declared.values.Value.{Value}
use Rattle.machine.specs.declared.values.Value.TheVariants.{Unset, Num, Ptr, Map}
use Rattle.machine.specs.Words.{signed_value}
use Rattle.stepper.specs.Near.{IsNear, AreNear}
use Rattle.bpf_parts.specs.declared.operation.Operand.{Operand}
use Rattle.bpf_parts.specs.declared.operation.Operand.TheVariants.{FromRegister, Immediate}
use Rattle.bpf_parts.specs.declared.operation.Condition.{Condition}
use Rattle.bpf_parts.specs.declared.memory.Size.{Size}
use Rattle.bpf_parts.specs.declared.memory.LoadSize.{LoadSize}
use Rattle.bpf_parts.specs.declared.callee.Callee.{Callee}
use Rattle.bpf_parts.specs.declared.callee.Callee.TheVariants as callees
use Rattle.bpf_insn.specs.declared.insn.Insn.{Insn}
use Rattle.bpf_insn.specs.declared.insn.Insn.TheVariants as insns
use Rattle.machine.specs.declared.helpers.Helper.{Helper}
use Rattle.machine.specs.Helpers.{helper_of}
use Rattle.machine.specs.Memory.{Header}
use Rattle.machine.specs.Sizes.{Maps}
use Rattle.machine.specs.State.{State, register_after, register_after_call}
use Rattle.stepper.specs.Deeds.{perform_with, outcome_of, registers_in}
use Rattle.stepper.specs.declared.deeds.InstructionEffect.{InstructionEffect}
use Rattle.machine.specs.Step.{alu, moved_pointer, moved_value, copied_value, operand, number_result, Outcome, Next, Ask, Verdict, Trap, writes, lands, branches, compares, load_value, loads, puts, stores, map_at, argument_of, asks, calls_helper, calls, exits, perform, finds_maps}
use Rattle.stepper.specs.Machine.{IsOutcome, state_with}
use Rattle.stepper.specs.declared.outcomes.StepOutcome as outcomes
use Rattle.machine.specs.Words.{holds_words}

pub further : (limit by : ℕ) (v : Value) → IsNear limit v → IsNear (limit + by) v
further limit by Unset h = tt
further limit by (Num n) h = tt
further limit by (Ptr region offset) h = omega arith
further limit by (Map index) h = tt

cast_near : (n : ℕ) → unsigned_abs (cast_signed w64 n) ≤ 2 ^ 63
cast_near n = grind (arith, ints)

sum_near : (a b : ℤ) → unsigned_abs (a +ℤ b) ≤ unsigned_abs a + unsigned_abs b
sum_near (pos a) (pos b) = omega arith
sum_near (pos a) (negsuc b) = grind (arith, ints)
sum_near (negsuc a) (pos b) = grind (arith, ints)
sum_near (negsuc a) (negsuc b) = omega arith

neg_size : (b : ℤ) → unsigned_abs (neg_ℤ b) ≡ unsigned_abs b
neg_size (pos zero) = refl
neg_size (pos (suc n)) = refl
neg_size (negsuc n) = refl

difference_near : (a b : ℤ) → unsigned_abs (a -ℤ b) ≤ unsigned_abs a + unsigned_abs b
difference_near a b = omega (arith, sum_near a (neg_ℤ b), neg_size b)

added : (offset : ℤ) (n limit : ℕ) → unsigned_abs offset ≤ limit → unsigned_abs (offset +ℤ signed_value Bits64 n) ≤ limit + 2 ^ 63
added offset n limit h = omega (arith, sum_near offset (signed_value Bits64 n), cast_near n)

subtracted : (offset : ℤ) (n limit : ℕ) → unsigned_abs offset ≤ limit → unsigned_abs (offset -ℤ signed_value Bits64 n) ≤ limit + 2 ^ 63
subtracted offset n limit h = omega (arith, difference_near offset (signed_value Bits64 n), cast_near n)

copied_near : (limit : ℕ) (width : Width) (v : Value) → IsNear limit v → IfSome (copied_value width v) (IsNear (limit + 2 ^ 63))
copied_near limit width Unset h = tt
copied_near limit width (Num n) h = tt
copied_near limit Bits32 (Ptr region offset) h = tt
copied_near limit Bits64 (Ptr region offset) h = omega arith
copied_near limit Bits32 (Map index) h = tt
copied_near limit Bits64 (Map index) h = tt

copied_by_near : (limit : ℕ) (op : AluOp) (width : Width) (v : Value) → IsNear limit v → IfSome (moved_value op width v) (IsNear (limit + 2 ^ 63))
copied_by_near limit Add width v h = tt
copied_by_near limit Sub width v h = tt
copied_by_near limit Mul width v h = tt
copied_by_near limit Div width v h = tt
copied_by_near limit SignedDiv width v h = tt
copied_by_near limit Or width v h = tt
copied_by_near limit And width v h = tt
copied_by_near limit Lsh width v h = tt
copied_by_near limit Rsh width v h = tt
copied_by_near limit Mod width v h = tt
copied_by_near limit SignedMod width v h = tt
copied_by_near limit Xor width v h = tt
copied_by_near limit Mov width v h = copied_near limit width v h
copied_by_near limit Arsh width v h = tt

moved_by_near : (limit : ℕ) (op : AluOp) (region : Region) (offset : ℤ) (n : ℕ) → unsigned_abs offset ≤ limit → IfSome (moved_pointer op region offset n) (IsNear (limit + 2 ^ 63))
moved_by_near limit Add region offset n h = added offset n limit h
moved_by_near limit Sub region offset n h = subtracted offset n limit h
moved_by_near limit Mul region offset n h = tt
moved_by_near limit Div region offset n h = tt
moved_by_near limit SignedDiv region offset n h = tt
moved_by_near limit Or region offset n h = tt
moved_by_near limit And region offset n h = tt
moved_by_near limit Lsh region offset n h = tt
moved_by_near limit Rsh region offset n h = tt
moved_by_near limit Mod region offset n h = tt
moved_by_near limit SignedMod region offset n h = tt
moved_by_near limit Xor region offset n h = tt
moved_by_near limit Mov region offset n h = tt
moved_by_near limit Arsh region offset n h = tt

pub alu_near : (limit : ℕ) (op : AluOp) (width : Width) (a b : Value) → IsNear limit a → IsNear limit b → IfSome (alu op width a b) (IsNear (limit + 2 ^ 63))
alu_near limit op width (Num a) (Num b) h k = tt
alu_near limit op width (Num a) Unset h k = tt
alu_near limit op width (Num a) (Ptr region offset) h k = copied_by_near limit op width (Ptr region offset) k
alu_near limit op width (Num a) (Map index) h k = copied_by_near limit op width (Map index) tt
alu_near limit op Bits64 (Ptr region offset) (Num n) h k = moved_by_near limit op region offset n h
alu_near limit op Bits32 (Ptr region offset) (Num n) h k = copied_by_near limit op Bits32 (Num n) tt
alu_near limit op width (Ptr region offset) Unset h k = tt
alu_near limit op width (Ptr region offset) (Ptr other at_offset) h k = copied_by_near limit op width (Ptr other at_offset) k
alu_near limit op width (Ptr region offset) (Map index) h k = copied_by_near limit op width (Map index) tt
alu_near limit op width Unset value h k = copied_by_near limit op width value k
alu_near limit op width (Map index) value h k = copied_by_near limit op width value k

-- all registers of a state, and of the state that an outcome goes on with
abbrev pub AreAllNear : ℕ → (ℕ → Value) → Type 0
AreAllNear limit registers = (k : ℕ) → IsNear limit (registers k)

abbrev pub GoesOnNear : ℕ → Outcome → Type 0
GoesOnNear limit (Next t) = AreAllNear limit t.registers
GoesOnNear limit (Ask question on) = Unit {0}
GoesOnNear limit (Verdict verdict) = Unit {0}
GoesOnNear limit Trap = Unit {0}

choice_near : (limit : ℕ) (b : Bool) (x y : Value) → IsNear limit x → IsNear limit y → IsNear limit (cond b x y)
choice_near limit true x y h k = h
choice_near limit false x y h k = k

after_near : (limit : ℕ) (registers : ℕ → Value) (register : ℕ) (v : Value) → AreAllNear limit registers → IsNear limit v → AreAllNear limit (register_after registers register v)
after_near limit registers register v h n k = choice_near limit (eqb k register) v (registers k) n (h k)

pub after_call_near : (limit : ℕ) (registers : ℕ → Value) (answer : ℕ) → AreAllNear limit registers → AreAllNear limit (register_after_call registers answer)
after_call_near limit registers answer h k =
    let unset : IsNear limit Unset = tt in
    choice_near limit (eqb k 0) (Num answer) _ tt
    (choice_near limit (eqb k 1) Unset _ tt
    (choice_near limit (eqb k 2) Unset _ tt
    (choice_near limit (eqb k 3) Unset _ tt
    (choice_near limit (eqb k 4) Unset _ tt
    (choice_near limit (eqb k 5) Unset (registers k) tt (h k))))))

unless : (limit : ℕ) (b : Bool) (o : Outcome) → GoesOnNear limit o → GoesOnNear limit (cond b Trap o)
unless limit true o h = tt
unless limit false o h = h

where_so : (limit : ℕ) (b : Bool) (o : Outcome) → GoesOnNear limit o → GoesOnNear limit (cond b o Trap)
where_so limit true o h = h
where_so limit false o h = tt

module _ (limit : ℕ) (s : State) (all : AreAllNear limit s.registers) where
  kept : AreAllNear (limit + 2 ^ 63) s.registers
  kept k = further limit (2 ^ 63) (s.registers k) (all k)

  writes_near : (next register : ℕ) (v : Option Value) → IfSome v (IsNear (limit + 2 ^ 63)) → GoesOnNear (limit + 2 ^ 63) (writes s next register v)
  writes_near next register None h = tt
  writes_near next register (Some v) h =
      unless (limit + 2 ^ 63) (eqb register 10) _ (after_near (limit + 2 ^ 63) s.registers register v kept h)

  operand_near : (src : Operand) → IsNear limit (operand s src)
  operand_near (FromRegister register) = all register
  operand_near (Immediate value) = tt

  on_number_near : (f : ℕ → ℕ) (v : Value) → IfSome (number_result f v) (IsNear (limit + 2 ^ 63))
  on_number_near f Unset = tt
  on_number_near f (Num n) = tt
  on_number_near f (Ptr region offset) = tt
  on_number_near f (Map index) = tt

  load_value_near : (size : LoadSize) (o : Option ℕ) → IfSome (load_value size o) (IsNear (limit + 2 ^ 63))
  load_value_near size None = tt
  load_value_near size (Some n) = tt

  loads_near : (header : Header) (size : LoadSize) (base : Value) (offset : ℤ) → IfSome (loads header s size base offset) (IsNear (limit + 2 ^ 63))
  loads_near header size Unset offset = tt
  loads_near header size (Num n) offset = tt
  loads_near header size (Ptr region start) offset = load_value_near size _
  loads_near header size (Map index) offset = tt

  lands_near : (z : ℤ) → GoesOnNear (limit + 2 ^ 63) (lands s z)
  lands_near (pos target) = kept
  lands_near (negsuc n) = tt

  branches_near : (offset : ℤ) (b : Bool) → GoesOnNear (limit + 2 ^ 63) (branches s offset b)
  branches_near offset true = lands_near _
  branches_near offset false = kept

  compares_near : (condition : Condition) (width : Width) (offset : ℤ) (a b : Value) → GoesOnNear (limit + 2 ^ 63) (compares condition width s offset a b)
  compares_near condition width offset (Num a) (Num b) = branches_near offset (holds_words condition width a b)
  compares_near condition width offset (Num a) Unset = tt
  compares_near condition width offset (Num a) (Ptr region start) = tt
  compares_near condition width offset (Num a) (Map index) = tt
  compares_near condition width offset Unset b = tt
  compares_near condition width offset (Ptr region start) b = tt
  compares_near condition width offset (Map index) b = tt

  puts_near : (bytes : ℕ) (place : Option ℕ) (v : Value) → GoesOnNear (limit + 2 ^ 63) (puts s bytes place v)
  puts_near bytes None v = tt
  puts_near bytes (Some place) Unset = tt
  puts_near bytes (Some place) (Num n) = kept
  puts_near bytes (Some place) (Ptr region start) = tt
  puts_near bytes (Some place) (Map index) = tt

  stores_near : (size : Size) (base : Value) (offset : ℤ) (v : Value) → GoesOnNear (limit + 2 ^ 63) (stores s size base offset v)
  stores_near size Unset offset v = tt
  stores_near size (Num n) offset v = tt
  stores_near size (Ptr Front start) offset v = tt
  stores_near size (Ptr Tail start) offset v = tt
  stores_near size (Ptr Stack start) offset v = puts_near _ _ v
  stores_near size (Map index) offset v = tt

  map_at_near : (index : ℤ) → IfSome (map_at index) (IsNear (limit + 2 ^ 63))
  map_at_near (pos index) = tt
  map_at_near (negsuc n) = tt

  asks_near : (helper : Helper) (map key : Value) (argument : Option ℕ) → GoesOnNear (limit + 2 ^ 63) (asks s helper map key argument)
  asks_near helper (Map map) (Num key) (Some argument) = tt
  asks_near helper (Map map) (Num key) None = tt
  asks_near helper (Map map) Unset argument = tt
  asks_near helper (Map map) (Ptr region start) argument = tt
  asks_near helper (Map map) (Map index) argument = tt
  asks_near helper Unset key argument = tt
  asks_near helper (Num n) key argument = tt
  asks_near helper (Ptr region start) key argument = tt

  calls_helper_near : (helper : Option Helper) → GoesOnNear (limit + 2 ^ 63) (calls_helper s helper)
  calls_helper_near None = tt
  calls_helper_near (Some helper) = asks_near helper (s.registers 1) (s.registers 2) (argument_of helper (s.registers 3))

  calls_near : (callee : Callee) (number : ℤ) → GoesOnNear (limit + 2 ^ 63) (calls s callee number)
  calls_near callees.Helper number = calls_helper_near (helper_of number)
  calls_near callees.Local number = tt
  calls_near callees.ByTypeId number = tt

  exits_near : (v : Value) → GoesOnNear (limit + 2 ^ 63) (exits v)
  exits_near Unset = tt
  exits_near (Num verdict) = tt
  exits_near (Ptr region start) = tt
  exits_near (Map index) = tt

  perform_near : (header : Header) (insn : Insn) → GoesOnNear (limit + 2 ^ 63) (perform header s insn)
  perform_near header (insns.Alu op width dst src) = writes_near _ dst _ (alu_near limit op width (s.registers dst) (operand s src) (all dst) (operand_near src))
  perform_near header (insns.Negate width dst) = writes_near _ dst _ (on_number_near _ (s.registers dst))
  perform_near header (insns.MoveSigned extension dst src) = writes_near _ dst _ (on_number_near _ (s.registers src))
  perform_near header (insns.ByteSwap swap bits dst) = writes_near _ dst _ (on_number_near _ (s.registers dst))
  perform_near header (insns.Load size dst place) = writes_near _ dst _ (loads_near header size (s.registers place.base) place.offset)
  perform_near header (insns.Store size place src) = stores_near size (s.registers place.base) place.offset (operand s src)
  perform_near header (insns.Jump comparison offset) = compares_near comparison.condition comparison.width offset (s.registers comparison.dst) (operand s comparison.src)
  perform_near header (insns.Goto distance) = lands_near _
  perform_near header (insns.Wide dst value) = writes_near (s.slot + 2) dst (Some (Num value)) tt
  perform_near header (insns.LoadMap dst index) = writes_near _ dst _ (map_at_near index)
  perform_near header (insns.LoadAddress dst address) = tt
  perform_near header (insns.Call callee number) = calls_near callee number
  perform_near header insns.Exit = exits_near (s.registers 0)

  pub perform_with_near : (sizes : Maps) (header : Header) (insn : Insn) → GoesOnNear (limit + 2 ^ 63) (perform_with sizes header s insn)
  perform_with_near sizes header insn =
      where_so (limit + 2 ^ 63) (finds_maps sizes s (Some insn)) _ (perform_near header insn)

pub outcome_near : (limit : ℕ) (o : Outcome) (outcome : outcomes.StepOutcome) (before after : State) → IsOutcome o outcome before after → AreAllNear limit before.registers → GoesOnNear (limit + 2 ^ 63) o → AreAllNear (limit + 2 ^ 63) after.registers
outcome_near limit (Next t) outcome before after h near goes k = rw h.1 (goes k)
outcome_near limit (Ask question on) outcome before after h near goes k = rw h.1 (further limit (2 ^ 63) (before.registers k) (near k))
outcome_near limit (Verdict verdict) outcome before after h near goes k = rw h.1 (further limit (2 ^ 63) (before.registers k) (near k))
outcome_near limit Trap outcome before after h near goes k = rw h.1 (further limit (2 ^ 63) (before.registers k) (near k))

-- what is near as a function is near as a list
pub near_along : (limit : ℕ) (now : List Value) (f : ℕ → Value) → registers_in now ≡ f → AreAllNear limit f → AreNear limit now
near_along limit now f e h k =
    let here : get_or now k Unset ≡ f k = ap (λ (g : ℕ → Value). g k) e in
    rw here (h k)

-- one step more
pub step_near : (steps : ℕ) (slot next : ℕ) (registers after : List Value) (stack bytes : List (Option ℕ)) (sizes : Maps) (header : Header) (insn : Insn) (deed : InstructionEffect) (outcome : outcomes.StepOutcome) → AreNear (2 ^ 63 * steps) registers → outcome_of (state_with slot registers stack) deed ≡ perform_with sizes header (state_with slot registers stack) insn → IsOutcome (outcome_of (state_with slot registers stack) deed) outcome (state_with slot registers stack) (state_with next after bytes) → AreNear (2 ^ 63 * (steps + 1)) after
step_near steps slot next registers after stack bytes sizes header insn deed outcome near same done =
    let limit = 2 ^ 63 * steps in
    let before = state_with slot registers stack in
    let goes : GoesOnNear (limit + 2 ^ 63) (outcome_of before deed) = rw same (perform_with_near limit before near sizes header insn) in
    let moved = outcome_near limit (outcome_of before deed) outcome before (state_with next after bytes) done near goes in
    let further : 2 ^ 63 * (steps + 1) ≡ limit + 2 ^ 63 = omega arith in
    rw further moved
