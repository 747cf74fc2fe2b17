-- What a table has from a slot, and before it what covers all: a pass never comes back there.
use Rattle.std.proofs.Common.{◌≡◌, ℕ, ◌+◌, ◌<◌, ◌≤◌, Bool, true, false, [], Option, None, Some, refl, arith}
use Rattle.std.specs.Prelude.{IfSome, nat_lt, if◌then◌else◌}
use Rattle.std.proofs.lemmas.Bool.Decides.{nat_tests}
use Rattle.absdom.specs.State.{StateValue, IsWhole}
use Rattle.absdom.specs.Laws.{BelowIsReflexive}
use Rattle.bver_pass.specs.Justified.{IsCoveredIfAny}
use Rattle.bver_pass.proofs.Covering.{AreCovered, covers_itself}
use Rattle.bver.proofs.Rounds.{below_all, marked, words_of}

pub ahead : (slot : ℕ) (table : ℕ → Option StateValue) → ℕ → Option StateValue
ahead slot table k = if nat_lt k slot then Some (marked []) else table k

pub ahead_from : (slot : ℕ) (table : ℕ → Option StateValue) (k : ℕ) → slot ≤ k → ahead slot table k ≡ table k
unfolding ahead
ahead_from slot table k from = rw past refl
  where
    past : nat_lt k slot ≡ false
    past = grind (arith, nat_tests, from)

pub ahead_before : (slot : ℕ) (table : ℕ → Option StateValue) (k : ℕ) → k < slot → ahead slot table k ≡ Some (marked [])
unfolding ahead
ahead_before slot table k below = rw before refl
  where
    before : nat_lt k slot ≡ true
    before = grind (arith, nat_tests, below)

-- what is whole is covered by what covers all
below_top : (o : Option StateValue) → IfSome o IsWhole → IsCoveredIfAny o (Some (marked []))
below_top None whole = tt
below_top (Some a) whole = below_all a (words_of a whole)

pub covered_ahead : BelowIsReflexive → (slot : ℕ) (table : ℕ → Option StateValue) → ((k : ℕ) → IfSome (table k) IsWhole) → AreCovered table (ahead slot table)
unfolding ahead
covered_ahead reflexive slot table whole k = by_test (nat_lt k slot)
  where
    by_test : (t : Bool) → IsCoveredIfAny (table k) (if t then Some (marked []) else table k)
    by_test true = below_top (table k) (whole k)
    by_test false = covers_itself reflexive (table k)

pub ahead_next : BelowIsReflexive → (slot : ℕ) (table : ℕ → Option StateValue) → ((k : ℕ) → IfSome (table k) IsWhole) → AreCovered (ahead slot table) (ahead (slot + 1) table)
unfolding ahead
ahead_next reflexive slot table whole k = by_tests (nat_lt k slot) refl (nat_lt k (slot + 1)) refl
  where
    less : (n : ℕ) → nat_lt k n ≡ true → k < n
    less n is = grind (arith, nat_tests, is)

    past : (n : ℕ) → nat_lt k n ≡ false → n ≤ k
    past n is = grind (arith, nat_tests, is)

    by_tests : (t : Bool) → nat_lt k slot ≡ t → (u : Bool) → nat_lt k (slot + 1) ≡ u → IsCoveredIfAny (if t then Some (marked []) else table k) (if u then Some (marked []) else table k)
    by_tests true is true also = reflexive (marked [])
    by_tests true is false also = absurd (omega (arith, less slot is, past (slot + 1) also))
    by_tests false is true also = below_top (table k) (whole k)
    by_tests false is false also = covers_itself reflexive (table k)
