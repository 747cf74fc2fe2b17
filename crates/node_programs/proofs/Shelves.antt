-- What four slots show.
use Rattle.std.proofs.Common.{◌≡◌, ℕ, zero, suc, ◌+◌, ◌<◌, ◌==◌, Bool, true, false, List, [], ◌∷◌, ◌++◌, length, Option, Some, slice_index_or, slice_set, cond, refl, ap, subst, arith}
use Rattle.std.specs.Prelude.{map}
use Rattle.machine.specs.Sizes.{Maps}
use Rattle.bver.specs.Justified.{AcceptedValue}
use Rattle.node_programs.specs.declared.publishes.Publish.{Publish}
use Rattle.node_programs.specs.Histories.{longer_history}
use Rattle.node_programs.specs.Laws.{IsSetByNext}
use Rattle.node_programs.specs.Published.{judging_program, judging_from, sizes_of, AreFor}

-- the factory program stays the first
pub sizes_stay : (xs more : List Publish) → 0 < length xs → sizes_of (xs ++ more) ≡ sizes_of xs
sizes_stay [] more some = absurd (omega arith)
sizes_stay (x ∷ xs) more some = refl

-- a program with its generation
abbrev pub Pair : Type 0
Pair = AcceptedValue × ℕ

-- what each slot shows by a list
abbrev pub shown_by : List Publish → List (Option Pair)
shown_by h = judging_program h 0 ∷ judging_program h 1 ∷ judging_program h 2 ∷ judging_program h 3 ∷ []

pub slot_at : (slots : List Pair) (h : List Publish) (k : ℕ) (d : Pair) → k < 4 → map (λ s. Some s) slots ≡ shown_by h → judging_program h k ≡ Some (slice_index_or slots k d)
slot_at [] h k d few is = absurd (cc is)
slot_at (a ∷ []) h k d few is = absurd (cc is)
slot_at (a ∷ b ∷ []) h k d few is = absurd (cc is)
slot_at (a ∷ b ∷ c ∷ []) h k d few is = absurd (cc is)
slot_at (a ∷ b ∷ c ∷ e ∷ f ∷ fs) h k d few is = absurd (cc is)
slot_at (a ∷ b ∷ c ∷ e ∷ []) h zero d few is = cc is
slot_at (a ∷ b ∷ c ∷ e ∷ []) h (suc zero) d few is = cc is
slot_at (a ∷ b ∷ c ∷ e ∷ []) h (suc (suc zero)) d few is = cc is
slot_at (a ∷ b ∷ c ∷ e ∷ []) h (suc (suc (suc zero))) d few is = cc is
slot_at (a ∷ b ∷ c ∷ e ∷ []) h (suc (suc (suc (suc n)))) d few is = absurd (omega arith)

-- four slots, one of which is set
four_set : (a b c d : Pair) (a' b' c' d' : Option Pair) (slot : ℕ) (s : Pair) (x : Option Pair) → slot < 4 → Some s ≡ x
    → map (λ p. Some p) (a ∷ b ∷ c ∷ d ∷ []) ≡ a' ∷ b' ∷ c' ∷ d' ∷ []
    → map (λ p. Some p) (slice_set (a ∷ b ∷ c ∷ d ∷ []) slot s) ≡ cond (slot == 0) x a' ∷ cond (slot == 1) x b' ∷ cond (slot == 2) x c' ∷ cond (slot == 3) x d' ∷ []
four_set a b c d a' b' c' d' zero s x few own is = cc (own, is)
four_set a b c d a' b' c' d' (suc zero) s x few own is = cc (own, is)
four_set a b c d a' b' c' d' (suc (suc zero)) s x few own is = cc (own, is)
four_set a b c d a' b' c' d' (suc (suc (suc zero))) s x few own is = cc (own, is)
four_set a b c d a' b' c' d' (suc (suc (suc (suc n)))) s x few own is = absurd (omega arith)

-- one publish more is shown in its slot
pub slots_next : IsSetByNext → (slots : List Pair) (h : List Publish) (slot : ℕ) (s : Pair) → slot < 4 → 0 < length h → map (λ p. Some p) slots ≡ shown_by h → s.1 ≡ length h
    → map (λ p. Some p) (slice_set slots slot s) ≡ shown_by (longer_history h slot s.0)
slots_next next [] h slot s few some is gen = absurd (cc is)
slots_next next (a ∷ []) h slot s few some is gen = absurd (cc is)
slots_next next (a ∷ b ∷ []) h slot s few some is gen = absurd (cc is)
slots_next next (a ∷ b ∷ c ∷ []) h slot s few some is gen = absurd (cc is)
slots_next next (a ∷ b ∷ c ∷ d ∷ e ∷ es) h slot s few some is gen = absurd (cc is)
slots_next next (a ∷ b ∷ c ∷ d ∷ []) h slot s few some is gen =
    let x : Option Pair = Some (s.0, length h) in
    let own : Some s ≡ x = ap (λ n. Some (s.0, n)) gen in
    let set = four_set a b c d (judging_program h 0) (judging_program h 1) (judging_program h 2) (judging_program h 3) slot s x few own is in
    rw (next h slot s.0 0 some, next h slot s.0 1 some, next h slot s.0 2 some, next h slot s.0 3 some) set

pub for_snoc : (sizes : Maps) (ps : List Publish) (p : Publish) → AreFor sizes ps → p.program.sizes ≡ sizes → AreFor sizes (ps ++ p ∷ [])
for_snoc sizes [] p are is = (is, tt)
for_snoc sizes (q ∷ ps) p are is = (are.0, for_snoc sizes ps p are.1 is)

from_for : (sizes : Maps) (best : Pair) (next : ℕ) (ps : List Publish) (k : ℕ) → best.0.sizes ≡ sizes → AreFor sizes ps → (judging_from best next ps k).0.sizes ≡ sizes
from_for sizes best next [] k is are = is
from_for sizes best next (p ∷ ps) k is are = from_for sizes (cond (p.slot == k) (p.program, next) best) (next + 1) ps k (pick (p.slot == k)) are.1
  where
    pick : (b : Bool) → (cond b (p.program, next) best).0.sizes ≡ sizes
    pick true = are.0
    pick false = is

pub published_for : (h : List Publish) (k : ℕ) (x : Pair) → AreFor (sizes_of h) h → judging_program h k ≡ Some x → x.0.sizes ≡ sizes_of h
published_for [] k x are is = absurd (cc is)
published_for (f ∷ ps) k x are is =
    let same : judging_from (f.program, 0) 1 ps k ≡ x = cc is in
    subst (λ (y : Pair). y.0.sizes ≡ f.program.sizes) same (from_for f.program.sizes (f.program, 0) 1 ps k refl are.1)
