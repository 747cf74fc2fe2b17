-- The loops of a program are within the limits of the format.
use Rattle.std.proofs.Common.{◌≡◌, ℕ, zero, suc, ◌+◌, ◌<◌, ◌≤◌, List, [], ◌∷◌, length, refl, subst, ap, ◌∙◌, arith, below_more}
use Rattle.std.specs.Prelude.{slice_index_or}
use Rattle.bpf.specs.declared.header.TheConstants.{MAX_SLOTS}
use Rattle.bpf.specs.declared.loops.Loop.{Loop}
use Rattle.bver_form.specs.Loops.{IsLoopFormed}
use Rattle.bpf.specs.Program.{Program, IsLoop, AreLoops, IsProgram}

wider : (n : ℕ) (l : Loop) → IsLoop n l → n ≤ MAX_SLOTS → IsLoop MAX_SLOTS l
wider n l h most = let within = h.within in record { ordered = h.ordered; within = omega arith; low = h.low; high = h.high; register = h.register }

-- each loop of a list that may follow a slot
pub each_loop : (n least : ℕ) (ls : List Loop) (k : ℕ) (d : Loop) → AreLoops n least ls → k < length ls → IsLoop n (slice_index_or ls k d)
each_loop n least [] k d h below = absurd (omega arith)
each_loop n least (l ∷ ls) zero d h below = h.1
each_loop n least (l ∷ ls) (suc k) d h below = each_loop n (l.head + 1) ls k d h.2 (omega (arith, below))

pub loop_at : (p : Program) (k : ℕ) (d : Loop) → IsProgram p → k < length p.loops → IsLoop (length p.slots) (slice_index_or p.loops k d)
loop_at p k d h below = each_loop (length p.slots) 0 p.loops k d h.loops below

pub small_loop : (p : Program) (k : ℕ) (d : Loop) → IsProgram p → k < length p.loops → IsLoop MAX_SLOTS (slice_index_or p.loops k d)
small_loop p k d h below = wider (length p.slots) (slice_index_or p.loops k d) (loop_at p k d h below) h.slots.1

-- an element is the same whatever the value for those past the end
same_item : (xs : List Loop) (k : ℕ) (d m : Loop) → k < length xs → slice_index_or xs k d ≡ slice_index_or xs k m
same_item [] k d m below = absurd (omega arith)
same_item (x ∷ xs) zero d m below = refl
same_item (x ∷ xs) (suc k) d m below = same_item xs k d m (omega (arith, below))

-- an item of the loops
pub item_is : (p : Program) (xs : List Loop) (k : ℕ) (item : Loop) → xs ≡ p.loops → item ≡ slice_index_or xs k item → item ≡ slice_index_or p.loops k item
item_is p xs k item same is = is ∙ ap (λ ys. slice_index_or ys k item) same

pub formed_next : (p : Program) (k : ℕ) (item : Loop) → item ≡ slice_index_or p.loops k item → k < length p.loops → ((j : ℕ) (m : Loop) → j < k → IsLoopFormed p (slice_index_or p.loops j m)) → IsLoopFormed p item → (j : ℕ) (m : Loop) → j < k + 1 → IsLoopFormed p (slice_index_or p.loops j m)
formed_next p k item is below earlier here j m inside =
    below_more (λ (n : ℕ). IsLoopFormed p (slice_index_or p.loops n m)) k (λ n before. earlier n m before) (subst (IsLoopFormed p) (is ∙ same_item p.loops k item m below) here) j inside
