-- What a step does not change, and what follows a question.
use Rattle.std.proofs.Common.{◌≡◌, ℕ, ◌+◌, refl, subst, arith, Bool, true, false, cond, eqb, ℤ, Option, Some, None}
use Rattle.std.specs.Prelude.{◌||◌}
use Rattle.std.proofs.lemmas.Bool.Decides.{nat_tests}
use Rattle.bpf_parts.specs.declared.callee.Callee.{Callee}
use Rattle.bpf.specs.declared.version.Version.{Version}
use Rattle.bpf_insn.specs.declared.insn.Insn.{Insn}
use Rattle.bpf_insn.specs.declared.insn.Insn.TheVariants as insns
use Rattle.bpf_insn.specs.Flow.{is_written, flow_of}
use Rattle.machine.specs.declared.values.Value.{Value}
use Rattle.machine.specs.declared.values.Value.TheVariants.{Num}
use Rattle.machine.specs.Memory.{Header}
use Rattle.machine.specs.State.{State, state, register_after, register_after_call}
use Rattle.machine.specs.Step.{Outcome, Next, Ask, Verdict, Trap, after_answer, writes, perform, perform_at, knows_flow, knows_insn, perform_in, insn_at}
use Rattle.machine.specs.Laws.{StepPerforms, IsLeftBy, AreLeftBy, InstructionsLeave, StepsLeave, InstructionsGoOn, QuestionsGoOn}
use Rattle.machine.proofs.Outcomes.{unless, where_so, lands_so, compares_so, stores_so, calls_so, exits_so}

-- ---- versions

pub step_performs : StepPerforms
step_performs program header s knows = performs_at (insn_at program s.slot) knows
  where
    where_true : (b : Bool) (o : Outcome) → b ≡ true → cond b o Trap ≡ o
    where_true true o h = refl
    where_true false o h = cc

    performs_at : (insn : Option Insn) → knows_insn program.version insn ≡ true → perform_in program.version header s insn ≡ perform_at header s insn
    performs_at None knows = refl
    performs_at (Some insn) knows = where_true (knows_flow program.version (flow_of insn)) (perform header s insn) knows

-- ---- what is not changed

-- the register that an instruction names is the one that it writes
abbrev Names : Insn → (register : ℕ) → Type 0
Names insn register = (k : ℕ) → is_written insn k ≡ false → eqb k register ≡ false

other : (registers : ℕ → Value) (register k : ℕ) (v : Value) → eqb k register ≡ false → register_after registers register v k ≡ registers k
other registers register k v e = rw e refl

named : (k register : ℕ) → (eqb register k || false) ≡ false → eqb k register ≡ false
named k register h = grind (arith, nat_tests)

module _ (insn : Insn) (s : State) where
  same : (slot : ℕ) → IsLeftBy insn s (state slot s.registers s.stack)
  same slot = record { registers = λ k h. refl; stack = λ h. refl }

  left_writes : (next register : ℕ) (v : Option Value) → Names insn register → AreLeftBy insn s (writes s next register v)
  left_writes next register None names = tt
  left_writes next register (Some v) names =
      unless (AreLeftBy insn s) tt (eqb register 10) (Next _)
      (record { registers = λ k h. other s.registers register k v (names k h); stack = λ h. refl })

-- a call
after_call_left : (registers : ℕ → Value) (answer k : ℕ) (callee : Callee) (number : ℤ) → is_written (insns.Call callee number) k ≡ false → register_after_call registers answer k ≡ registers k
after_call_left registers answer k callee number h = grind (arith, nat_tests)

pub instructions_leave : InstructionsLeave
instructions_leave header (insns.Alu op width dst src) s = left_writes (insns.Alu op width dst src) s _ dst _ (λ k h. named k dst h)
instructions_leave header (insns.Negate width dst) s = left_writes (insns.Negate width dst) s _ dst _ (λ k h. named k dst h)
instructions_leave header (insns.MoveSigned extension dst src) s = left_writes (insns.MoveSigned extension dst src) s _ dst _ (λ k h. named k dst h)
instructions_leave header (insns.ByteSwap swap bits dst) s = left_writes (insns.ByteSwap swap bits dst) s _ dst _ (λ k h. named k dst h)
instructions_leave header (insns.Load size dst place) s = left_writes (insns.Load size dst place) s _ dst _ (λ k h. named k dst h)
instructions_leave header (insns.Store size place src) s =
    stores_so (AreLeftBy (insns.Store size place src) s) tt s (λ bytes start n. record { registers = λ k h. refl; stack = λ h. absurd cc }) size _ place.offset _
instructions_leave header (insns.Jump comparison offset) s =
    compares_so (AreLeftBy (insns.Jump comparison offset) s) tt s (same (insns.Jump comparison offset) s) comparison.condition comparison.width offset _ _
instructions_leave header (insns.Goto distance) s =
    lands_so (AreLeftBy (insns.Goto distance) s) tt s (same (insns.Goto distance) s) _
instructions_leave header (insns.Wide dst value) s = left_writes (insns.Wide dst value) s (s.slot + 2) dst (Some (Num value)) (λ k h. named k dst h)
instructions_leave header (insns.LoadMap dst index) s = left_writes (insns.LoadMap dst index) s _ dst _ (λ k h. named k dst h)
instructions_leave header (insns.LoadAddress dst address) s = tt
instructions_leave header (insns.Call callee number) s =
    calls_so (AreLeftBy (insns.Call callee number) s) tt s
    (λ helper map key argument answer. record { registers = λ k h. after_call_left s.registers answer k callee number h; stack = λ h. refl }) callee number
instructions_leave header insns.Exit s = exits_so (AreLeftBy insns.Exit s) tt _ (λ verdict. tt)

pub steps_leave : StepsLeave
steps_leave program header insn s e =
    rw e (where_so (AreLeftBy insn s) tt (knows_flow program.version (flow_of insn)) _ (instructions_leave header insn s))

-- ---- every question goes on with its answer

abbrev GoesOn : State → Outcome → Type 0
GoesOn s (Next t) = Unit {0}
GoesOn s (Ask question on) = on ≡ after_answer s
GoesOn s (Verdict verdict) = Unit {0}
GoesOn s Trap = Unit {0}

module _ (s : State) where
  goes_writes : (next register : ℕ) (v : Option Value) → GoesOn s (writes s next register v)
  goes_writes next register None = tt
  goes_writes next register (Some v) = unless (GoesOn s) tt (eqb register 10) (Next _) tt

  goes_on : (header : Header) (insn : Insn) → GoesOn s (perform header s insn)
  goes_on header (insns.Alu op width dst src) = goes_writes _ dst _
  goes_on header (insns.Negate width dst) = goes_writes _ dst _
  goes_on header (insns.MoveSigned extension dst src) = goes_writes _ dst _
  goes_on header (insns.ByteSwap swap bits dst) = goes_writes _ dst _
  goes_on header (insns.Load size dst place) = goes_writes _ dst _
  goes_on header (insns.Store size place src) = stores_so (GoesOn s) tt s (λ bytes start n. tt) size _ place.offset _
  goes_on header (insns.Jump comparison offset) = compares_so (GoesOn s) tt s (λ slot. tt) comparison.condition comparison.width offset _ _
  goes_on header (insns.Goto distance) = lands_so (GoesOn s) tt s (λ slot. tt) _
  goes_on header (insns.Wide dst value) = goes_writes (s.slot + 2) dst (Some (Num value))
  goes_on header (insns.LoadMap dst index) = goes_writes _ dst _
  goes_on header (insns.LoadAddress dst address) = tt
  goes_on header (insns.Call callee number) = calls_so (GoesOn s) tt s (λ helper map key argument. refl) callee number
  goes_on header insns.Exit = exits_so (GoesOn s) tt _ (λ verdict. tt)

  goes_in : (version : Version) (header : Header) (insn : Option Insn) → GoesOn s (perform_in version header s insn)
  goes_in version header None = tt
  goes_in version header (Some insn) = where_so (GoesOn s) tt (knows_flow version (flow_of insn)) _ (goes_on header insn)

pub instructions_go_on : InstructionsGoOn
instructions_go_on header insn s question on e = subst (λ (o : Outcome). GoesOn s o) e (goes_on s header insn)

pub questions_go_on : QuestionsGoOn
questions_go_on program header s question on e =
    subst (λ (o : Outcome). GoesOn s o) e (goes_in s program.version header (insn_at program s.slot))
