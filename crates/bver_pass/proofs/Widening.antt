-- What is known at the head of a loop is widened, register by register.
use Rattle.std.proofs.Common.{◌≡◌, ◌≢◌, ℕ, zero, suc, ◌+◌, ◌<◌, ◌≤◌, Bool, true, false, List, [], ◌∷◌, length, inl, inr, eqb, refl, sym, ap, subst, ◌∙◌, arith}
use Rattle.std.specs.Prelude.{◌==◌, ◌&&◌, slice_index_or}
use Rattle.std.specs.List.{list_any}
use Rattle.std.proofs.lemmas.Bool.{cases_lt}
use Rattle.bpf.specs.declared.header.TheConstants.{MAX_SLOTS}
use Rattle.bpf.specs.declared.loops.Loop.{Loop}
use Rattle.bpf.specs.Program.{Program, IsProgram, IsLoop}
use Rattle.absdom.specs.declared.kinds.AbsKind.{AbsKind}
use Rattle.absdom.specs.State.{StateValue, kind_at, kind_in}
use Rattle.absdom_stack.specs.StackWords.{AreAllWhole}
use Rattle.bver_form.specs.Jumps.{is_loop_back}
use Rattle.bver_pass.specs.Heads.{AreWidenedRanges, IsDeclared, IsWidened, IsWidenedKind, retains, forgets}
use Rattle.bver_pass.proofs.Loops.{loop_in}
use Rattle.bver_form.proofs.Reported.{from_eqb}

-- the registers below one were widened, and the ranges of words
pub record IsWidening (p : Program) (l : Loop) (lowered : List Bool) (place : ℕ) (before now : StateValue) (from : ℕ) : Type 0 where
  pub done : (register : ℕ) → register < from → IsWidenedKind p l lowered place register (kind_at before register) (kind_at now register)
  pub rest : (register : ℕ) → from ≤ register → kind_at now register ≡ kind_at before register
  pub marks : now.marks ≡ before.marks
  pub ranges : AreWidenedRanges p l before now

pub widening_none : (p : Program) (l : Loop) (lowered : List Bool) (place : ℕ) (before now : StateValue) → now.kinds ≡ before.kinds → now.marks ≡ before.marks → AreWidenedRanges p l before now → IsWidening p l lowered place before now 0
widening_none p l lowered place before now kinds marks ranges = record {
  done = λ register below. absurd (omega arith);
  rest = λ register past. ap (λ (ks : List AbsKind). kind_in ks register) kinds;
  marks = marks;
  ranges = ranges;
}

-- a change only of registers keeps the ranges
ranges_stay : (p : Program) (l : Loop) (before now next : StateValue) → next.ranges ≡ now.ranges → AreWidenedRanges p l before now → AreWidenedRanges p l before next
ranges_stay p l before now next same (forgets stored is) = forgets stored (subst AreAllWhole (sym same) is)
ranges_stay p l before now next same (retains out is) = retains out (same ∙ is)

pub widening_next : (p : Program) (l : Loop) (lowered : List Bool) (place : ℕ) (before now next : StateValue) (from : ℕ) → ((k : ℕ) → k ≢ from → kind_at next k ≡ kind_at now k) → next.marks ≡ now.marks → next.ranges ≡ now.ranges → IsWidening p l lowered place before now from → IsWidenedKind p l lowered place from (kind_at now from) (kind_at next from) → IsWidening p l lowered place before next (from + 1)
widening_next p l lowered place before now next from others marks ranges widening widened = record {
  done = λ register below.
      elim (cases_lt register from) [
        | inl earlier ↦ rw (others register (apart register earlier)) (widening.done register earlier)
        | inr past ↦ same register (omega (arith, past, below))
      ];
  rest = λ register past. others register (beyond register past) ∙ widening.rest register (omega (arith, past));
  marks = marks ∙ widening.marks;
  ranges = ranges_stay p l before now next ranges widening.ranges;
}
  where
    apart : (register : ℕ) → register < from → register ≢ from
    apart register below same = omega (arith, below, same)

    beyond : (register : ℕ) → from + 1 ≤ register → register ≢ from
    beyond register above same = omega (arith, above, same)

    same : (register : ℕ) → register ≡ from → IsWidenedKind p l lowered place register (kind_at before register) (kind_at next register)
    same register is =
        subst (λ (r : ℕ). IsWidenedKind p l lowered place r (kind_at before r) (kind_at next r)) (sym is)
        (subst (λ (k : AbsKind). IsWidenedKind p l lowered place from k (kind_at next from)) (widening.rest from (omega arith)) widened)

pub widening_all : (p : Program) (l : Loop) (lowered : List Bool) (place : ℕ) (before now : StateValue) → IsWidening p l lowered place before now 10 → IsWidened p l lowered place before now
widening_all p l lowered place before now widening = record {
  registers = λ register low. widening.done register (omega (arith, low));
  frame = widening.rest 10 (omega arith);
  marks = widening.marks;
  ranges = widening.ranges;
}

-- an element does not depend on the default for the others
pub any_default : (xs : List Loop) (k : ℕ) (d e : Loop) → k < length xs → slice_index_or xs k d ≡ slice_index_or xs k e
any_default [] k d e below = absurd (omega arith)
any_default (x ∷ xs) zero d e below = refl
any_default (x ∷ xs) (suc k) d e below = any_default xs k d e (omega arith)

-- none of the loops below a place is so
abbrev pub NoneBefore : (Loop → Type 0) → Program → ℕ → Type 0
NoneBefore P p n = (k : ℕ) (d : Loop) → k < n → P (slice_index_or p.loops k d) → ⊥

pub none_next : (P : Loop → Type 0) (p : Program) (l : Loop) (n : ℕ) → NoneBefore P p n → IsDeclared p l n → (P l → ⊥) → NoneBefore P p (n + 1)
none_next P p l n none declared is_not k d below so =
    elim (cases_lt k n) [
      | inl earlier ↦ none k d earlier so
      | inr past ↦
          let here : n ≡ k = omega (arith, past, below) in
          is_not (subst P (declared.is d) (subst (λ (i : ℕ). P (slice_index_or p.loops i d)) (sym here) so))
    ]

-- if no loop has the back and the head, none is found
none_back : (slot head : ℕ) (ls : List Loop) → ((k : ℕ) (d : Loop) → k < length ls → (slice_index_or ls k d).back ≡ slot × (slice_index_or ls k d).head ≡ head → ⊥) → list_any (λ l. l.back == slot && l.head == head) ls ≡ false
none_back slot head [] none = refl
none_back slot head (l ∷ ls) none =
    rw (is_other l (none 0 l (omega arith))) (none_back slot head ls (λ k d below. none (suc k) d (omega (arith, below))))
  where
    is_other : (l : Loop) → (l.back ≡ slot × l.head ≡ head → ⊥) → (l.back == slot && l.head == head) ≡ false
    is_other l other = by_back (eqb l.back slot) refl (eqb l.head head) refl
      where
        by_back : (b : Bool) → eqb l.back slot ≡ b → (h : Bool) → eqb l.head head ≡ h → (l.back == slot && l.head == head) ≡ false
        by_back false back h at = rw back refl
        by_back true back false at = rw (back, at) refl
        by_back true back true at = absurd (other (from_eqb l.back slot back, from_eqb l.head head at))

pub none_closes : (p : Program) (slot head n : ℕ) → length p.loops ≤ n → NoneBefore (λ l. l.back ≡ slot × l.head ≡ head) p n → is_loop_back p slot head ≡ false
none_closes p slot head n all none = none_back slot head p.loops (λ k d below. none k d (omega (arith, below, all)))

-- a loop that is declared at a place
pub declared_at : (p : Program) (l : Loop) (place : ℕ) → IsProgram p → place < length p.loops → ((d : Loop) → slice_index_or p.loops place d ≡ l) → IsDeclared p l place
declared_at p l place limits inside is = record { inside = inside; is = is; few = omega (arith, inside, limits.few_loops); limits = subst (IsLoop MAX_SLOTS) (is l) (low_loop (loop_in (length p.slots) 0 p.loops place l limits.loops inside).1) }
  where
    low_loop : {m : Loop} → IsLoop (length p.slots) m → IsLoop MAX_SLOTS m
    low_loop loop = record { ordered = loop.ordered; within = omega (arith, loop.within, limits.slots.1); low = loop.low; high = loop.high; register = loop.register }

-- a declared loop ends inside the code
pub declared_within : (p : Program) (l : Loop) (place : ℕ) → IsProgram p → IsDeclared p l place → l.back < length p.slots
declared_within p l place limits declared =
    subst (λ (m : Loop). m.back < length p.slots) (declared.is l) (loop_in (length p.slots) 0 p.loops place l limits.loops declared.inside).1.within

-- the loop that is read at a place of the loops is declared there
pub declared_read : (p : Program) (lent : List Loop) (found : Loop) (place : ℕ) → IsProgram p → place < length p.loops → lent ≡ p.loops → found ≡ slice_index_or lent place found → IsDeclared p found place
declared_read p lent found place limits inside same read =
    let is : slice_index_or p.loops place found ≡ found = ap (λ (xs : List Loop). slice_index_or xs place found) (sym same) ∙ sym read in
    declared_at p found place limits inside (λ d. any_default p.loops place d found inside ∙ is)
