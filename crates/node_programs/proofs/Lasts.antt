-- What is published for a slot is the last of it.
use Rattle.std.proofs.Common.{◌≡◌, ◌≢◌, inl, inr, ℕ, ◌+◌, ◌==◌, Bool, true, false, List, [], ◌∷◌, ◌++◌, length, cond, refl, ap, sym, ◌∙◌, subst, arith, append_assoc, length-append}
use Rattle.std.proofs.lemmas.Bool.Decides.{nat_tests}
use Rattle.std.proofs.lemmas.List.{append-nil}
use Rattle.bver.specs.Justified.{AcceptedValue}
use Rattle.node_programs.specs.declared.publishes.Publish.{Publish}
use Rattle.node_programs.specs.Published.{judging_from}
use Rattle.node_programs.specs.Laws.{AreOthers, IsLast, IsSetByNext, IsLastFor, IsGenerationBelow}
use Rattle.node_programs.proofs.Judging.{published_snoc}

pub set_by_next : IsSetByNext
set_by_next [] slot program k some = absurd (omega arith)
set_by_next (f ∷ ps) slot program k some = published_snoc f ps slot program k

others_snoc : (k : ℕ) (ps : List Publish) (p : Publish) → AreOthers k ps → p.slot ≢ k → AreOthers k (ps ++ p ∷ [])
others_snoc k [] p are other = (other, tt)
others_snoc k (q ∷ ps) p are other = (are.0, others_snoc k ps p are.1 other)

-- one program more
last_next : (pre : List Publish) (p : Publish) (k : ℕ) (best : AcceptedValue × ℕ) → IsLast pre k best.0 best.1 → (b : Bool) → (p.slot == k) ≡ b
    → IsLast (pre ++ p ∷ []) k (cond b (p.program, length pre) best).0 (cond b (p.program, length pre) best).1
last_next pre p k best is true test = record {
  before = pre;
  last = p;
  after = [];
  parts = refl;
  count = refl;
  program = refl;
  slot = inr (let same : p.slot ≡ k = grind (arith, nat_tests) in same);
  others = tt;
}
last_next pre p k best is false test = record {
  before = is.before;
  last = is.last;
  after = is.after ++ p ∷ [];
  parts = ap (λ (w : List Publish). w ++ p ∷ []) is.parts ∙ append_assoc is.before (is.last ∷ is.after) (p ∷ []);
  count = is.count;
  program = is.program;
  slot = is.slot;
  others = others_snoc k is.after p is.others (let other : p.slot ≢ k = grind (arith, nat_tests) in other);
}

last_from : (pre ps : List Publish) (k : ℕ) (best : AcceptedValue × ℕ) (next : ℕ) → length pre ≡ next → IsLast pre k best.0 best.1
    → IsLast (pre ++ ps) k (judging_from best next ps k).0 (judging_from best next ps k).1
last_from pre [] k best next len is = subst (λ (w : List Publish). IsLast w k best.0 best.1) (sym (append-nil pre)) is
last_from pre (p ∷ ps) k best next len is =
    let one = last_next pre p k best is (p.slot == k) refl in
    let here : IsLast (pre ++ p ∷ []) k (cond (p.slot == k) (p.program, next) best).0 (cond (p.slot == k) (p.program, next) best).1
    = subst (λ (n : ℕ). IsLast (pre ++ p ∷ []) k (cond (p.slot == k) (p.program, n) best).0 (cond (p.slot == k) (p.program, n) best).1) len one in
    let long : length (pre ++ p ∷ []) ≡ next + 1 = omega (arith, len, length-append pre (p ∷ [])) in
    subst (λ (w : List Publish). IsLast w k (judging_from best next (p ∷ ps) k).0 (judging_from best next (p ∷ ps) k).1) (append_assoc pre (p ∷ []) ps)
    (last_from (pre ++ p ∷ []) ps k (cond (p.slot == k) (p.program, next) best) (next + 1) long here)

pub last_for : IsLastFor
last_for [] slot program generation is = absurd (cc is)
last_for (f ∷ ps) slot program generation is =
    let same : judging_from (f.program, 0) 1 ps slot ≡ (program, generation) = cc is in
    let first : IsLast (f ∷ []) slot f.program 0 = record { before = []; last = f; after = []; parts = refl; count = refl; program = refl; slot = inl refl; others = tt } in
    subst (λ (x : AcceptedValue × ℕ). IsLast (f ∷ ps) slot x.0 x.1) same (last_from (f ∷ []) ps slot (f.program, 0) 1 refl first)

pub below : IsGenerationBelow
below history slot program generation is =
    let last = last_for history slot program generation is in
    omega (arith, last.count, ap (λ (w : List Publish). length w) last.parts, length-append last.before (last.last ∷ last.after))
