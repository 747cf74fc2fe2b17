-- The counters of the loops around a path: each is 1 to its bound, and the loop takes one from it before the back.
use Rattle.std.proofs.Common.{◌≡◌, ◌≢◌, ℕ, zero, suc, ◌+◌, ◌-◌, ◌<◌, ◌≤◌, ◌⊎◌, inl, inr, ℤ, pos, negsuc, Bool, true, false, List, [], ◌∷◌, length, Option, Some, refl, sym, ap, subst, ◌∙◌, arith, eqb}
use Rattle.std.specs.Prelude.{IsTrue, ◌==◌, if◌then◌else◌, slice_index_or, All, IfSome}
use Rattle.std.proofs.lemmas.Bool.{false≢true, cases_lt}
use Rattle.std.proofs.lemmas.Bool.Decides.{nat_tests}
use Rattle.bpf.specs.declared.loops.Loop.{Loop}
use Rattle.bpf.specs.Program.{Program, AreLoops, IsLoop}
use Rattle.bpf_parts.specs.declared.operation.Width.TheVariants.{Bits64}
use Rattle.bpf_insn.specs.declared.insn.Insn.{Insn}
use Rattle.bpf_insn.specs.Flow.{is_written}
use Rattle.bpf_parts.specs.declared.operation.AluOp.TheVariants.{Add}
use Rattle.bpf_parts.specs.declared.operation.Condition.TheVariants.{NotEqual}
use Rattle.machine.specs.declared.values.Value.{Value}
use Rattle.machine.specs.declared.values.Value.TheVariants.{Unset, Num, Ptr, Map}
use Rattle.machine.specs.Words.{alu_words, word}
use Rattle.machine.specs.Memory.{Header}
use Rattle.machine.specs.State.{State}
use Rattle.machine.specs.Step.{Outcome, Next, Ask, Verdict, Trap, perform, insn_at, alu, writes, compares}
use Rattle.bver.proofs.Arrivals.{After, LeadsTo, at_once, by_answer, is_after}
use Rattle.bver_form.specs.Loops.{IsCounted, ComesIn, IsLoopFormed, holds, step_down, back_jump}
use Rattle.bver_form.proofs.Reported.{from_eqb}
use Rattle.bver_pass.proofs.Loops.{holds_at, inside_of, loop_in}

-- the number of a value, and 0 of any other
abbrev pub amount : Value → ℕ
amount Unset = 0
amount (Num n) = n
amount (Ptr region offset) = 0
amount (Map index) = 0

-- the value of each loop's counter, by the loop's head
abbrev pub values_of : List Loop → State → ℕ → ℕ
values_of [] s head = 0
values_of (l ∷ ls) s head = if l.head == head then amount (s.registers l.register) else values_of ls s head

-- loops at two places have two heads
pub same_place : (slots least : ℕ) (ls : List Loop) (k j : ℕ) (d : Loop) → AreLoops slots least ls → k < length ls → j < length ls → (slice_index_or ls k d).head ≡ (slice_index_or ls j d).head → k ≡ j
same_place slots least [] k j d h below under same = absurd (omega arith)
same_place slots least (l ∷ ls) zero zero d h below under same = refl
same_place slots least (l ∷ ls) zero (suc j) d h below under same =
    let rest = loop_in slots (l.head + 1) ls j d h.2 (omega arith) in
    absurd (omega (arith, rest.0, same))
same_place slots least (l ∷ ls) (suc k) zero d h below under same =
    let rest = loop_in slots (l.head + 1) ls k d h.2 (omega arith) in
    absurd (omega (arith, rest.0, same))
same_place slots least (l ∷ ls) (suc k) (suc j) d h below under same =
    ap suc (same_place slots (l.head + 1) ls k j d h.2 (omega arith) (omega arith) same)

-- each declared loop's value is that of its register: heads rise strictly, so no other loop has its head
eqb_same : (n : ℕ) → eqb n n ≡ true
eqb_same n = grind (arith, nat_tests)

to_eqb : (m n : ℕ) → m ≡ n → eqb m n ≡ true
to_eqb m n same = grind (arith, nat_tests, same)

eqb_other : (m n : ℕ) → m < n → eqb m n ≡ false
eqb_other m n below = grind (arith, nat_tests)

pub values_at : (slots least : ℕ) (ls : List Loop) (s : State) (k : ℕ) (d : Loop) → AreLoops slots least ls → k < length ls → values_of ls s (slice_index_or ls k d).head ≡ amount (s.registers (slice_index_or ls k d).register)
values_at slots least [] s k d h below = absurd (omega arith)
values_at slots least (l ∷ ls) s zero d h below = rw (eqb_same l.head) refl
values_at slots least (l ∷ ls) s (suc k) d h below =
    let rest = loop_in slots (l.head + 1) ls k d h.2 (omega arith) in
    rw (eqb_other l.head (slice_index_or ls k d).head (omega (arith, rest.0))) (values_at slots (l.head + 1) ls s k d h.2 (omega arith))

-- ---- a loop around the slot

-- its counter is a number within the bound; it is 1 at least, except at the back, after the loop took one from it
pub record IsCounting (l : Loop) (s : State) : Type 0 where
  pub value : ℕ
  pub is : s.registers l.register ≡ Num value
  pub high : value ≤ l.bound
  pub low : s.slot ≢ l.back → 1 ≤ value
  pub back : s.slot ≡ l.back → value + 1 ≤ l.bound

-- the same of each declared loop that holds the slot
abbrev pub AreCounting : Program → State → Type 0
AreCounting p s = All (λ l. IsTrue (holds l s.slot) → IsCounting l s) p.loops

-- ---- how a step counts

-- one is taken from a counter that is not zero
taken_down : (n : ℕ) → 1 ≤ n → n ≤ 4096 → alu_words Add Bits64 n (word (negsuc 0)) + 1 ≡ n
taken_down zero low high = absurd (omega arith)
taken_down (suc m) low high = omega arith

-- the next slot, and a register that is one less than before
abbrev IsDown : State → (register was : ℕ) → Outcome → Type 0
IsDown s register was (Next t) = (t.slot ≡ s.slot + 1) × (m : ℕ) × (t.registers register ≡ Num m) × (m + 1 ≡ was)
IsDown s register was (Ask question on) = ⊥
IsDown s register was (Verdict n) = Unit {0}
IsDown s register was Trap = Unit {0}

counts_down : (s : State) (register n : ℕ) (value : Value) → register ≤ 9 → value ≡ Num n → 1 ≤ n → n ≤ 4096 → IsDown s register n (writes s (s.slot + 1) register (alu Add Bits64 value (Num (word (negsuc 0)))))
counts_down s register n value low is above below =
    rw (is, eqb_other register 10 (omega arith), eqb_same register)
    (refl, alu_words Add Bits64 n (word (negsuc 0)), refl, taken_down n above below)

pub steps_down : (header : Header) (l : Loop) (s t : State) (n : ℕ) → l.register ≤ 9 → s.registers l.register ≡ Num n → 1 ≤ n → n ≤ 4096 → LeadsTo (perform header s (step_down l)) t → IsDown s l.register n (Next t)
steps_down header l s t n low is above below e =
    down_to s l.register n (perform header s (step_down l)) t e (counts_down s l.register n (s.registers l.register) low is above below)
  where
    down_to : (s : State) (register was : ℕ) (o : Outcome) (t : State) → LeadsTo o t → IsDown s register was o → IsDown s register was (Next t)
    down_to s register was o t (at_once same) down = subst (λ (w : Outcome). IsDown s register was w) same down
    down_to s register was o t (by_answer question on answer same to) down = absurd (subst (λ (w : Outcome). IsDown s register was w) same down)

-- a back jump that goes back found a counter that is not zero
abbrev IsTurn : State → (was : ℕ) → Outcome → Type 0
IsTurn s was o = After (λ t. (t.slot ≡ s.slot + 1) ⊎ (1 ≤ was)) o

not_zero : (s : State) (n : ℕ) (o : Outcome) → 1 ≤ n → IsTurn s n o
not_zero s n (Next t) low = inr low
not_zero s n (Ask question on) low = λ answer. inr low
not_zero s n (Verdict v) low = tt
not_zero s n Trap low = tt

turns : (s : State) (z : ℤ) (n : ℕ) → IsTurn s n (compares NotEqual Bits64 s z (Num n) (Num (word (pos 0))))
turns s z zero = inl refl
turns s z (suc n) = not_zero s (suc n) (compares NotEqual Bits64 s z (Num (suc n)) (Num (word (pos 0)))) (omega arith)

pub goes_back : (header : Header) (l : Loop) (s t : State) (n : ℕ) → s.registers l.register ≡ Num n → LeadsTo (perform header s (back_jump l)) t → (t.slot ≡ s.slot + 1) ⊎ (1 ≤ n)
goes_back header l s t n is e =
    let distance : ℤ = negsuc (l.back - l.head) in
    is_after (λ u. (u.slot ≡ s.slot + 1) ⊎ (1 ≤ n)) (perform header s (back_jump l)) t e
    (subst (λ (v : Value). IsTurn s n (compares NotEqual Bits64 s distance v (Num (word (pos 0))))) (sym is) (turns s distance n))

-- ---- what a step does to the counter of a loop

-- a number from one to another
abbrev pub IsNumberIn : Value → (low high : ℕ) → Type 0
IsNumberIn value low high = (n : ℕ) × (value ≡ Num n) × (low ≤ n) × (n ≤ high)

-- at the head of a loop its counter is a number from 1 to the bound
abbrev pub IsBegun : Loop → State → Type 0
IsBegun l t = t.slot ≡ l.head → IsNumberIn (t.registers l.register) 1 l.bound

-- the step counts, and the loop still counts after it
abbrev pub IsStepped : Loop → (s t : State) → Type 0
IsStepped l s t =
    IsCounted l s.slot t.slot (amount (s.registers l.register)) (amount (t.registers l.register)) × (IsTrue (holds l t.slot) → IsCounting l t)

pub begun : (slots : ℕ) (l : Loop) (t : State) → IsLoop slots l → t.slot ≡ l.head → IsNumberIn (t.registers l.register) 1 l.bound → IsCounting l t
begun slots l t limits at number = record {
  value = number.0;
  is = number.1;
  high = number.3;
  low = λ other. number.2;
  back = λ same. absurd (omega (arith, limits.ordered, at, same));
}

pub begun_high : (l : Loop) (value : Value) → IsNumberIn value 1 l.bound → amount value ≤ l.bound
begun_high l value number = rw number.1 number.3

-- into a loop
comes_in : (slots : ℕ) (l : Loop) (s t : State) → IsLoop slots l → holds l s.slot ≡ false → ComesIn l s.slot t.slot → IsBegun l t → IsStepped l s t
comes_in slots l s t limits out comes begins = (
  record {
    stays = λ inside. absurd (false≢true (sym out ∙ inside));
    steps = λ inside. absurd (false≢true (sym out ∙ inside));
    enters = λ o inside. begun_high l (t.registers l.register) (begins (comes.to_head out inside));
    again = λ back head. absurd (false≢true (sym out ∙ holds_at l s.slot (omega (arith, limits.ordered, back)) (omega (arith, back))));
  },
  λ inside. begun slots l t limits (comes.to_head out inside) (begins (comes.to_head out inside)),
)

-- before the back of a loop
counts_off : (slots : ℕ) (header : Header) (l : Loop) (s t : State) → IsLoop slots l → IsTrue (holds l s.slot) → s.slot + 1 ≡ l.back → IsCounting l s → LeadsTo (perform header s (step_down l)) t → IsStepped l s t
counts_off slots header l s t limits inside before counting e =
    let differs : s.slot ≢ l.back = λ same. absurd (omega (arith, same, before)) in
    let down = steps_down header l s t counting.value limits.register counting.is (counting.low differs) (omega (arith, counting.high, limits.high)) e in (
      record {
        stays = λ held on other. absurd (other before);
        steps = λ held on same. rw (down.2, counting.is) down.3;
        enters = λ out. absurd (false≢true (sym out ∙ inside));
        again = λ back. absurd (differs back);
      },
      λ on. record {
        value = down.1;
        is = down.2;
        high = omega (arith, down.3, counting.high);
        low = λ other. absurd (other (down.0 ∙ before));
        back = λ same. omega (arith, down.3, counting.high);
      },
    )

-- elsewhere in a loop
goes_round : (slots : ℕ) (header : Header) (l : Loop) (s t : State) → IsLoop slots l → IsTrue (holds l s.slot) → s.slot + 1 ≢ l.back → ComesIn l s.slot t.slot → IsCounting l s → t.registers l.register ≡ s.registers l.register → (s.slot ≡ l.back → LeadsTo (perform header s (back_jump l)) t) → IsStepped l s t
goes_round slots header l s t limits inside other comes counting kept turn = (
  record {
    stays = λ held on differs. ap amount kept;
    steps = λ held on same. absurd (other same);
    enters = λ out. absurd (false≢true (sym out ∙ inside));
    again = λ back head. rw counting.is (again_low back (holds_at l t.slot (omega (arith, head)) (omega (arith, head, limits.ordered))));
  },
  λ on. record {
    value = counting.value;
    is = kept ∙ counting.is;
    high = counting.high;
    low = λ differs. low_of on;
    back = λ same. absurd (other (comes.to_back same));
  },
)
  where
    again_low : s.slot ≡ l.back → IsTrue (holds l t.slot) → 1 ≤ counting.value
    again_low back on =
        elim (goes_back header l s t counting.value counting.is (turn back)) [
          | inl next ↦ absurd (omega (arith, next, back, (inside_of l t.slot on).1))
          | inr low ↦ low
        ]

    low_of : IsTrue (holds l t.slot) → 1 ≤ counting.value
    low_of on =
        elim (cases_lt s.slot l.back) [
          | inl below ↦ counting.low (λ same. absurd (omega (arith, below, same)))
          | inr past ↦ again_low (omega (arith, past, (inside_of l s.slot inside).1)) on
        ]

same_insn : (p : Program) (slot k : ℕ) (insn at : Insn) → slot ≡ k → insn_at p slot ≡ Some insn → insn_at p k ≡ Some at → insn ≡ at
same_insn p slot k insn at same is there =
    let here : insn_at p slot ≡ Some at = ap (insn_at p) same ∙ there in
    cc

-- what holds of the instruction of a slot holds of it
if_insn : (P : Insn → Type 0) (o : Option Insn) (insn : Insn) → o ≡ Some insn → IfSome o P → P insn
if_insn P o insn is h = subst (λ (i : Option Insn). IfSome i P) is h

-- a step in a program that has its form
pub stepped : (slots : ℕ) (p : Program) (header : Header) (l : Loop) (s t : State) (insn : Insn) → IsLoop slots l → IsLoopFormed p l → ComesIn l s.slot t.slot → insn_at p s.slot ≡ Some insn → LeadsTo (perform header s insn) t → (is_written insn l.register ≡ false → t.registers l.register ≡ s.registers l.register) → (IsTrue (holds l s.slot) → IsCounting l s) → IsBegun l t → IsStepped l s t
stepped slots p header l s t insn limits form comes is e leaves counting begins = by_place (holds l s.slot) refl
  where
    performs : (at : Insn) → insn ≡ at → LeadsTo (perform header s at) t
    performs at same = subst (λ (i : Insn). LeadsTo (perform header s i) t) same e

    within : IsTrue (holds l s.slot) → (b : Bool) → eqb (s.slot + 1) l.back ≡ b → IsStepped l s t
    within inside true same =
        let before : s.slot + 1 ≡ l.back = from_eqb (s.slot + 1) l.back same in
        counts_off slots header l s t limits inside before (counting inside) (performs (step_down l) (same_insn p s.slot (l.back - 1) insn (step_down l) (omega (arith, before)) is form.step))
    within inside false differs =
        let other : s.slot + 1 ≢ l.back = λ same. false≢true (sym differs ∙ to_eqb (s.slot + 1) l.back same) in
        goes_round slots header l s t limits inside other comes (counting inside) (leaves (if_insn _ (insn_at p s.slot) insn is (form.counter s.slot) inside other))
        (λ back. performs (back_jump l) (same_insn p s.slot l.back insn (back_jump l) back is form.back))

    by_place : (b : Bool) → holds l s.slot ≡ b → IsStepped l s t
    by_place true inside = within inside (eqb (s.slot + 1) l.back) refl
    by_place false out = comes_in slots l s t limits out comes begins
