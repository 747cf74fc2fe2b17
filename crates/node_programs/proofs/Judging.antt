-- Which program judges after one publish more.
use Rattle.std.proofs.Common.{◌≡◌, ℕ, ◌+◌, ◌==◌, Bool, true, false, List, [], ◌∷◌, ◌++◌, length, Some, cond, ap, ◌∙◌, arith}
use Rattle.bver.specs.Justified.{AcceptedValue}
use Rattle.node_programs.specs.declared.publishes.Publish.{Publish}
use Rattle.node_programs.specs.Histories.{entry}
use Rattle.node_programs.specs.Published.{judging_program, judging_from}

-- one more publish
pub from_snoc : (best : AcceptedValue × ℕ) (next : ℕ) (ps : List Publish) (slot : ℕ) (program : AcceptedValue) (k : ℕ)
    → judging_from best next (ps ++ entry slot program ∷ []) k ≡ cond (slot == k) (program, next + length ps) (judging_from best next ps k)
from_snoc best next [] slot program k = ap (λ n. cond (slot == k) (program, n) best) (omega arith)
from_snoc best next (p ∷ ps) slot program k =
    from_snoc (cond (p.slot == k) (p.program, next) best) (next + 1) ps slot program k
    ∙ ap (λ n. cond (slot == k) (program, n) (judging_from (cond (p.slot == k) (p.program, next) best) (next + 1) ps k)) (omega arith)

pub published_snoc : (f : Publish) (ps : List Publish) (slot : ℕ) (program : AcceptedValue) (k : ℕ)
    → judging_program ((f ∷ ps) ++ entry slot program ∷ []) k ≡ cond (slot == k) (Some (program, length (f ∷ ps))) (judging_program (f ∷ ps) k)
published_snoc f ps slot program k = pick (slot == k) (from_snoc (f.program, 0) 1 ps slot program k)
  where
    pick : (b : Bool) → judging_from (f.program, 0) 1 (ps ++ entry slot program ∷ []) k ≡ cond b (program, 1 + length ps) (judging_from (f.program, 0) 1 ps k)
        → Some (judging_from (f.program, 0) 1 (ps ++ entry slot program ∷ []) k) ≡ cond b (Some (program, length (f ∷ ps))) (Some (judging_from (f.program, 0) 1 ps k))
    pick true e = ap Some e ∙ ap (λ n. Some (program, n)) (omega arith)
    pick false e = ap Some e
