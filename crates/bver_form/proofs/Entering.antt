-- The steps into a declared loop, and the slot to which a jump backward leads.
use Rattle.std.proofs.Common.{◌≡◌, inl, inr, ℕ, suc, ◌+◌, ◌-◌, ◌<◌, ◌≤◌, ℤ, pos, negsuc, true, false, Option, None, Some, List, [], ◌∷◌, refl, sym, subst, ap, ◌∙◌, arith}
use Rattle.std.specs.Prelude.{IfSome, IsSome, is_some, ◌+ℤ◌, ◌==◌, ◌&&◌}
use Rattle.std.specs.List.{list_any}
use Rattle.std.proofs.lemmas.Bool.{cases_eq, cases_Bool, true≢false, and_parts, eqb-true}
use Rattle.std.proofs.lemmas.Int.{ints}
use Rattle.bpf.specs.declared.loops.Loop.{Loop}
use Rattle.bpf.specs.Program.{Program, IsProgram, insn_at}
use Rattle.bpf_insn.specs.Flow.{flow_of}
use Rattle.bpf_insn.specs.Spelling.{second_immediate, slots_in}
use Rattle.bpf_insn.specs.declared.flow.Flow.{Flow}
use Rattle.bpf_insn.specs.declared.flow.Flow.TheVariants.{GoesOn, Branches, Jumps, Calls, Ends, Unsupported}
use Rattle.bpf_insn.specs.declared.insn.Insn.{Insn}
use Rattle.bver_form.specs.Form.{IsFormed}
use Rattle.bver_form.specs.Jumps.{IsAfter, IsBackToHead, IsFirstSlot, IsJump, flow_distance, jump_distance, target}
use Rattle.bver_form.specs.Loops.{ComesIn, EntersAtHead, GoesTo, IsEdge, IsLoopFormed, back_jump, step_down}
use Rattle.bver_form.proofs.Left.{low, high, outside}
use Rattle.bver_form.proofs.Steps.{IsBackOf}
use Rattle.bpf.proofs.SecondSlots.{hidden}

-- no instruction begins at the second slot of another
begins_apart : (p : Program) (k other : ℕ) (insn : Insn) → IsProgram p → insn_at p k ≡ Some insn → is_some (second_immediate insn) ≡ true → other ≡ suc k → IsSome (insn_at p other) → ⊥
begins_apart p k other insn limits is two at begins =
    let none : insn_at p other ≡ None = ap (insn_at p) at ∙ hidden false p.slots k insn limits.code is two in
    absurd (true≢false (sym (subst IsSome none begins)))

-- ---- edges

-- a run goes on to the next instruction or along a jump
pub data IsWay (insn : Insn) (slot next : ℕ) : Type 0 where
  on : next ≡ slot + slots_in (second_immediate insn) → IsWay insn slot next
  jumped : (distance : ℤ) → jump_distance insn ≡ Some distance → target slot distance ≡ pos next → IsWay insn slot next

way_of : (insn : Insn) (slot next : ℕ) (f : Flow) → flow_of insn ≡ f → GoesTo f slot (slot + slots_in (second_immediate insn)) next → IsWay insn slot next
way_of insn slot next GoesOn is goes = on goes
way_of insn slot next (Branches distance) is (inl goes) = on goes
way_of insn slot next (Branches distance) is (inr goes) = jumped distance (ap flow_distance is) goes
way_of insn slot next (Jumps distance) is goes = jumped distance (ap flow_distance is) goes
way_of insn slot next (Calls callee number) is goes = on goes
way_of insn slot next Ends is goes = absurd goes
way_of insn slot next Unsupported is goes = absurd goes

pub way : (p : Program) (slot next : ℕ) (edge : IsEdge p slot next) → IsWay edge.insn slot next
way p slot next edge = way_of edge.insn slot next (flow_of edge.insn) refl edge.goes

-- ---- a declared loop

-- a back jump leads to the head
pub to_head : (head back : ℕ) → head ≤ back → pos (back + 1) +ℤ negsuc (back - head) ≡ pos head
to_head head back ordered = omega (arith, ints)

-- so an instruction begins at the head, and none of two slots steps over it
head_begins : (p : Program) (l : Loop) → IsFormed p → IsLoopFormed p l → l.head ≤ l.back → IsSome (insn_at p l.head)
head_begins p l form formed ordered =
    let jump : IsJump p l.back (negsuc (l.back - l.head)) = (form.allowed l.back (back_jump l) formed.back).jump in
    subst (IsFirstSlot p) (to_head l.head l.back ordered) jump.first_slot

some_of : (p : Program) (k : ℕ) (insn : Insn) → insn_at p k ≡ Some insn → IsSome (insn_at p k)
some_of p k insn is = subst IsSome (sym is) refl

entered_by : (p : Program) (l : Loop) (slot next : ℕ) (insn : Insn) (distance : ℤ) → IsLoopFormed p l → insn_at p slot ≡ Some insn → jump_distance insn ≡ Some distance → target slot distance ≡ pos next → EntersAtHead l slot (pos next)
entered_by p l slot next insn distance formed is far to =
    let jumps : IfSome (jump_distance insn) (λ d. EntersAtHead l slot (target slot d)) = subst (λ (o : Option Insn). IfSome o (λ i. IfSome (jump_distance i) (λ d. EntersAtHead l slot (target slot d)))) is (formed.entry slot) in
    let enters : EntersAtHead l slot (target slot distance) = subst (λ (o : Option ℤ). IfSome o (λ d. EntersAtHead l slot (target slot d))) far jumps in
    subst (EntersAtHead l slot) to enters

comes_on : (p : Program) (l : Loop) (slot next : ℕ) (insn : Insn) (o : Option ℤ) → IsProgram p → IsFormed p → IsLoopFormed p l → l.head < l.back → insn_at p slot ≡ Some insn → second_immediate insn ≡ o → next ≡ slot + slots_in o → ComesIn l slot next
comes_on p l slot next insn None limits form formed ordered is size at = record {
  to_head = λ out inside.
      let from = low l next inside in
      let to = high l next inside in
      elim (outside l slot out) [ inl a ↦ omega arith | inr a ↦ absurd (omega arith) ];
  to_back = λ last. omega arith;
}
comes_on p l slot next insn (Some immediate) limits form formed ordered is size at = record {
  to_head = λ out inside.
      let from = low l next inside in
      let to = high l next inside in
      elim (outside l slot out) [
        | inl a ↦
            elim (cases_eq next l.head) [
              | inl same ↦ same
              | inr other ↦ absurd (begins_apart p slot l.head insn limits is (ap is_some size) (omega arith) (head_begins p l form formed (omega arith)))
            ]
        | inr a ↦ absurd (omega arith)
      ];
  to_back = λ last. absurd (begins_apart p slot (l.back - 1) insn limits is (ap is_some size) (omega arith) (some_of p (l.back - 1) (step_down l) formed.step));
}

comes_by : (p : Program) (l : Loop) (slot next : ℕ) (insn : Insn) → IsProgram p → IsFormed p → IsLoopFormed p l → l.head < l.back → insn_at p slot ≡ Some insn → IsWay insn slot next → ComesIn l slot next
comes_by p l slot next insn limits form formed ordered is (on at) = comes_on p l slot next insn (second_immediate insn) limits form formed ordered is refl at
comes_by p l slot next insn limits form formed ordered is (jumped distance far to) =
    let enters = entered_by p l slot next insn distance formed is far to in
    record {
      to_head = λ out inside. elim (enters.1 inside) [ inl a ↦ absurd (true≢false (sym a ∙ out)) | inr a ↦ a ];
      to_back = λ last. absurd (enters.0 last);
    }

pub comes_in : (p : Program) (l : Loop) (slot next : ℕ) → IsProgram p → IsFormed p → IsLoopFormed p l → l.head < l.back → IsEdge p slot next → ComesIn l slot next
comes_in p l slot next limits form formed ordered edge = comes_by p l slot next edge.insn limits form formed ordered edge.begins (way p slot next edge)

-- ---- backward

back_of : (ls : List Loop) (slot next : ℕ) → list_any (λ (l : Loop). l.back == slot && l.head == next) ls ≡ true → IsBackOf slot next ls
back_of [] slot next is = absurd (true≢false (sym is))
back_of (l ∷ ls) slot next is =
    elim (cases_Bool (l.back == slot && l.head == next)) [
      | inl here ↦
          let both = and_parts (l.back == slot) (l.head == next) here in
          inl (sym (eqb-true l.back slot both.0), sym (eqb-true l.head next both.1))
      | inr not_here ↦ inr (back_of ls slot next (rw not_here at is))
    ]

backward_by : (p : Program) (slot next : ℕ) (distance : ℤ) → IsJump p slot distance → target slot distance ≡ pos next → next ≤ slot → IsBackOf slot next p.loops
backward_by p slot next distance jump to backward =
    elim jump.onward [
      | inl after ↦ let later : slot < next = subst (IsAfter slot) to after in absurd (omega arith)
      | inr back ↦ back_of p.loops slot next (subst (IsBackToHead p slot) to back)
    ]

backward_way : (p : Program) (slot next : ℕ) (insn : Insn) → IsFormed p → insn_at p slot ≡ Some insn → IsWay insn slot next → next ≤ slot → IsBackOf slot next p.loops
backward_way p slot next insn form is (on at) backward = absurd (further_on (second_immediate insn) at)
  where
    further_on : (o : Option ℤ) → next ≡ slot + slots_in o → ⊥
    further_on None at = omega arith
    further_on (Some immediate) at = omega arith
backward_way p slot next insn form is (jumped distance far to) backward =
    let jump : IsJump p slot distance = subst (λ (o : Option ℤ). IfSome o (λ d. IsJump p slot d)) far (form.allowed slot insn is).jump in
    backward_by p slot next distance jump to backward

pub goes_back_to : (p : Program) (slot next : ℕ) → IsFormed p → IsEdge p slot next → next ≤ slot → IsBackOf slot next p.loops
goes_back_to p slot next form edge backward = backward_way p slot next edge.insn form edge.begins (way p slot next edge) backward
