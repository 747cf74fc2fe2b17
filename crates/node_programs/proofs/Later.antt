-- What is published for a slot after a publish for it.
use Rattle.std.proofs.Common.{◌≡◌, ◌<◌, inl, inr, ℕ, ◌+◌, ◌==◌, Bool, true, false, List, [], ◌∷◌, ◌++◌, length, Some, cond, refl, ap, sym, ◌∙◌, subst, arith, length-append}
use Rattle.bver.specs.Justified.{AcceptedValue}
use Rattle.node_programs.specs.declared.publishes.Publish.{Publish}
use Rattle.node_programs.specs.Histories.{entry, longer_history}
use Rattle.node_programs.specs.Published.{judging_program, judging_from}
use Rattle.node_programs.specs.Laws.{IsThatOrLater, IsKeptOrLater}
use Rattle.node_programs.proofs.Judging.{published_snoc}

-- a later publish for the slot is a later one, and one for another slot changes nothing
one_later : (b : Bool) (program : AcceptedValue) (place next : ℕ) (p : Publish) (best : AcceptedValue × ℕ) → place < next → IsThatOrLater program place best
    → IsThatOrLater program place (cond b (p.program, next) best)
one_later true program place next p best following is = inr following
one_later false program place next p best following is = is

later_from : (program : AcceptedValue) (place next : ℕ) (ps : List Publish) (k : ℕ) (best : AcceptedValue × ℕ) → place < next → IsThatOrLater program place best
    → IsThatOrLater program place (judging_from best next ps k)
later_from program place next [] k best following is = is
later_from program place next (p ∷ ps) k best following is =
    later_from program place (next + 1) ps k (cond (p.slot == k) (p.program, next) best) (omega arith) (one_later (p.slot == k) program place next p best following is)

-- the best of a list is the start of what follows it
from_append : (best : AcceptedValue × ℕ) (next : ℕ) (ps qs : List Publish) (k : ℕ) → judging_from best next (ps ++ qs) k ≡ judging_from (judging_from best next ps k) (length ps + next) qs k
from_append best next [] qs k =
    let count : next ≡ length {A = Publish} [] + next = omega arith in
    ap (λ (n : ℕ). judging_from best n qs k) count
from_append best next (p ∷ ps) qs k =
    let count : length ps + (next + 1) ≡ length (p ∷ ps) + next = omega arith in
    from_append (cond (p.slot == k) (p.program, next) best) (next + 1) ps qs k
    ∙ ap (λ (n : ℕ). judging_from (judging_from best next (p ∷ ps) k) n qs k) count

some_same : {A : Type 0} (x y : A) → Some x ≡ Some y → x ≡ y
some_same x y e = cc

same_slot : (k : ℕ) → (k == k) ≡ true
same_slot k = grind arith

-- the program that was published last, for its slot
own : (f : Publish) (ps : List Publish) (slot : ℕ) (program : AcceptedValue) → judging_from (f.program, 0) 1 (ps ++ entry slot program ∷ []) slot ≡ (program, length (f ∷ ps))
own f ps slot program =
    some_same _ _ (published_snoc f ps slot program slot ∙ ap (λ (b : Bool). cond b (Some (program, length (f ∷ ps))) (judging_program (f ∷ ps) slot)) (same_slot slot))

after_all : (history more : List Publish) (slot : ℕ) (program : AcceptedValue) (shown : AcceptedValue × ℕ) → judging_program (longer_history history slot program ++ more) slot ≡ Some shown
    → IsThatOrLater program (length history) shown
after_all [] more slot program shown is =
    subst (λ (x : AcceptedValue × ℕ). IsThatOrLater program 0 x) (some_same (judging_from (program, 0) 1 more slot) shown is) (later_from program 0 1 more slot (program, 0) (omega arith) (inl (refl, refl)))
after_all (f ∷ ps) more slot program shown is =
    let all = ps ++ entry slot program ∷ [] in
    let last = judging_from (f.program, 0) 1 all slot in
    let start : IsThatOrLater program (length (f ∷ ps)) last = subst (λ (x : AcceptedValue × ℕ). IsThatOrLater program (length (f ∷ ps)) x) (sym (own f ps slot program)) (inl (refl, refl)) in
    let following : length (f ∷ ps) < length all + 1 = omega (arith, length-append ps (entry slot program ∷ [])) in
    subst (λ (x : AcceptedValue × ℕ). IsThatOrLater program (length (f ∷ ps)) x) (sym (from_append (f.program, 0) 1 all more slot) ∙ some_same (judging_from (f.program, 0) 1 (all ++ more) slot) shown is)
    (later_from program (length (f ∷ ps)) (length all + 1) more slot last following start)

pub kept_or_later : IsKeptOrLater
kept_or_later history seen slot program judge generation longer is =
    after_all history longer.0 slot program (judge, generation) (subst (λ (l : List Publish). judging_program l slot ≡ Some (judge, generation)) (sym longer.1) is)
