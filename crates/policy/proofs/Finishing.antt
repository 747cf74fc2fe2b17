-- Runs of a program from their front: what each kind of instruction does, and at which slots instructions are.
use Rattle.std.proofs.Common.{◌≡◌, ◌<◌, ◌^◌, ◌+◌, ℕ, suc, Bool, true, false, List, [], ◌∷◌, ◌++◌, length, get_or, Option, Some, None, refl, sym, ap, ◌∙◌, subst, append_assoc, length-append}
use Rattle.std.specs.Prelude.{ℤ, pos, is_some}
use Rattle.std.specs.List.{flat_map}
use Rattle.std.proofs.Math.Seq.{get_or-append_seam}
use Rattle.bpf.specs.declared.version.Version.TheVariants.{One}
use Rattle.bpf.specs.Program.{Program, insn_at}
use Rattle.bpf.specs.Parts.{placed_slots, second_slots}
use Rattle.bpf_insn.specs.declared.insn.Insn.{Insn}
use Rattle.bpf_insn.specs.Flow.{flow_of}
use Rattle.bpf_insn.specs.Spelling.{second_immediate, slots_in, slots_of}
use Rattle.machine.specs.declared.calls.Call.{Call}
use Rattle.machine.specs.declared.values.Value.{Value}
use Rattle.machine.specs.Memory.{Header}
use Rattle.machine.specs.Runs.{Ends, GoesOn, call}
use Rattle.machine.specs.State.{State, state}
use Rattle.machine.specs.declared.calls.Question.{Question}
use Rattle.machine.specs.Step.{Outcome, Next, Ask, Verdict, branches, knows_flow, perform, step}

-- the draws and the verdict of a table
abbrev pub Decision : Type 0
Decision = List Call × ℕ

-- an instruction of version 1 of the format
abbrev pub IsOfFirst : Insn → Type 0
IsOfFirst insn = knows_flow One (flow_of insn) ≡ true

-- each step of a program does what its instruction does, if that is one of version 1
abbrev pub Performs : Program → Type 0
Performs program =
    (header : Header) (s : State) (insn : Insn) → insn_at program s.slot ≡ Some insn → IsOfFirst insn
    → step program header s ≡ perform header s insn

-- from a state, some steps have these draws and give this verdict
pub record Finishes (program : Program) (header : Header) (s : State) (d : Decision) : Type 0 where
  pub steps : ℕ
  pub ends : Ends program header steps s d.0 d.1

-- what remains after an outcome that took this many steps
abbrev Rest : Program → Header → ℕ → Decision → Outcome → Type 0
Rest program header n d o = GoesOn (λ t calls. Ends program header n t calls d.1) (n ≡ 0) d.0 d.1 o

-- ---- one instruction

performed : (program : Program) (header : Header) (s : State) (insn : Insn) (o : Outcome) → Performs program
    → insn_at program s.slot ≡ Some insn → IsOfFirst insn → perform header s insn ≡ o → step program header s ≡ o
performed program header s insn o performs here known done =
    performs header s insn here known ∙ done

pub next : (program : Program) (header : Header) (s t : State) (insn : Insn) (d : Decision) → Performs program
    → insn_at program s.slot ≡ Some insn → IsOfFirst insn → perform header s insn ≡ Next t → Finishes program header t d → Finishes program header s d
next program header s t insn d performs here known done rest =
    let e : step program header s ≡ Next t = performed program header s insn (Next t) performs here known done in
    record { steps = suc rest.steps; ends = subst (λ (o : Outcome). Rest program header rest.steps d o) (sym e) rest.ends }

pub asked : (program : Program) (header : Header) (s : State) (question : Question) (on : ℕ → State) (insn : Insn) (answer : ℕ) (d : Decision) → Performs program
    → insn_at program s.slot ≡ Some insn → IsOfFirst insn → perform header s insn ≡ Ask question on → answer < 2 ^ 64
    → Finishes program header (on answer) d → Finishes program header s (call question answer ∷ d.0, d.1)
asked program header s question on insn answer d performs here known done small rest =
    let e : step program header s ≡ Ask question on = performed program header s insn (Ask question on) performs here known done in
    let drawn : Decision = (call question answer ∷ d.0, d.1) in
    record {
      steps = suc rest.steps;
      ends = subst (λ (o : Outcome). Rest program header rest.steps drawn o) (sym e) (answer, d.0, small, refl, rest.ends);
    }

pub stopped : (program : Program) (header : Header) (s : State) (insn : Insn) (verdict : ℕ) → Performs program
    → insn_at program s.slot ≡ Some insn → IsOfFirst insn → perform header s insn ≡ Verdict verdict → Finishes program header s ([], verdict)
stopped program header s insn verdict performs here known done =
    let e : step program header s ≡ Verdict verdict = performed program header s insn (Verdict verdict) performs here known done in
    record { steps = 1; ends = subst (λ (o : Outcome). Rest program header 0 ([], verdict) o) (sym e) (refl, refl, refl) }

-- A jump ends in one of two ways. If the test holds, it ends as the code at its target does, else as the code after
-- it does.
pub branched : (program : Program) (header : Header) (slot skipped end : ℕ) (registers : ℕ → Value) (stack : ℕ → Option ℕ) (insn : Insn) (d : Decision) (t : Bool) → Performs program
    → insn_at program slot ≡ Some insn → IsOfFirst insn → perform header (state slot registers stack) insn ≡ branches (state slot registers stack) (pos skipped) t
    → slot + 1 + skipped ≡ end
    → (t ≡ true → Finishes program header (state end registers stack) d)
    → (t ≡ false → Finishes program header (state (slot + 1) registers stack) d)
    → Finishes program header (state slot registers stack) d
branched program header slot skipped end registers stack insn d true performs here known done target there following =
    let at_target : Finishes program header (state (slot + 1 + skipped) registers stack) d = subst (λ (k : ℕ). Finishes program header (state k registers stack) d) (sym target) (there refl) in
    next program header (state slot registers stack) (state (slot + 1 + skipped) registers stack) insn d performs here known done at_target
branched program header slot skipped end registers stack insn d false performs here known done target there following =
    next program header (state slot registers stack) (state (slot + 1) registers stack) insn d performs here known done (following refl)

-- ---- at which slots instructions are

-- the instructions are in the program from a slot
abbrev pub StandAt : Program → (slot : ℕ) → List Insn → Type 0
StandAt program slot [] = Unit {0}
StandAt program slot (insn ∷ insns) = (insn_at program slot ≡ Some insn) × StandAt program (slot + slots_of insn) insns

-- the slot after instructions
abbrev pub slot_after : (slot : ℕ) → List Insn → ℕ
slot_after slot [] = slot
slot_after slot (insn ∷ insns) = slot_after (slot + slots_of insn) insns

-- two lists of instructions follow each other
pub split : (program : Program) (slot : ℕ) (xs ys : List Insn) → StandAt program slot (xs ++ ys) → StandAt program slot xs × StandAt program (slot_after slot xs) ys
split program slot [] ys h = (tt, h)
split program slot (x ∷ xs) ys h =
    let parts = split program (slot + slots_of x) xs ys h.1 in ((h.0, parts.0), parts.1)

placed_by : (insn : Insn) (second : Option ℤ) → length (Some insn ∷ second_slots (is_some second)) ≡ slots_in second
placed_by insn None = refl
placed_by insn (Some immediate) = refl

pub placed_length : (insn : Insn) → length (placed_slots insn) ≡ slots_of insn
placed_length insn = placed_by insn (second_immediate insn)

pub stand : (program : Program) (before : List (Option Insn)) (insns : List Insn) → program.slots ≡ before ++ flat_map placed_slots insns → StandAt program (length before) insns
stand program before [] e = tt
stand program before (insn ∷ insns) e =
    let rest : List (Option Insn) = second_slots (is_some (second_immediate insn)) ++ flat_map placed_slots insns in
    let here : insn_at program (length before) ≡ Some insn = ap (λ (xs : List (Option Insn)). get_or xs (length before) None) e ∙ get_or-append_seam before (Some insn) rest None in
    let more : program.slots ≡ (before ++ placed_slots insn) ++ flat_map placed_slots insns = e ∙ sym (append_assoc before (placed_slots insn) (flat_map placed_slots insns)) in
    let len : length (before ++ placed_slots insn) ≡ length before + slots_of insn = length-append before (placed_slots insn) ∙ ap (λ (k : ℕ). length before + k) (placed_length insn) in
    (here, subst (λ (k : ℕ). StandAt program k insns) len (stand program (before ++ placed_slots insn) insns more))
