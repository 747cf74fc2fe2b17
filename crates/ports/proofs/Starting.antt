-- What becomes of a worker whose thread is to be started.
use Rattle.std.proofs.Common.{◌≡◌, ◌+◌, ℕ, List, [], ◌∷◌, ◌++◌, sym, ap, ◌∙◌, append_assoc, arith}
use Rattle.std.specs.Prelude.{length, get_or}
use Rattle.std.proofs.Math.Seq.{get_or-append_seam}
use Rattle.std.proofs.lemmas.List.{length-append}
use Rattle.ports.specs.Serves.{AreLast}

module _ {X : Type 0} (first rest ahead : List X) (worker : X) where
  -- If there is no rest the worker is none of those ahead any more.
  pub gone : rest ≡ [] → AreLast (rest ++ worker ∷ ahead) first → AreLast (rest ++ ahead) first
  gone none (front, is) = (
    front ++ worker ∷ [],
    is ∙ ap (λ l. front ++ (l ++ worker ∷ ahead)) none ∙ sym (append_assoc front (worker ∷ []) ahead) ∙ ap (λ l. (front ++ worker ∷ []) ++ (l ++ ahead)) (sym none),
  )

  -- The worker goes from those ahead to the rest.
  pub rests : AreLast (rest ++ worker ∷ ahead) first → AreLast ((rest ++ worker ∷ []) ++ ahead) first
  rests (front, is) = (front, is ∙ ap (λ l. front ++ l) (sym (append_assoc rest (worker ∷ []) ahead)))

  -- If there is no rest the worker is at the place after those that have a thread.
  pub next_is : (n : ℕ) (other : X) → rest ≡ [] → AreLast (rest ++ worker ∷ ahead) first → n + length (worker ∷ ahead) ≡ length first → get_or first n other ≡ worker
  next_is n other none (front, is) many =
      let all : first ≡ front ++ worker ∷ ahead = is ∙ ap (λ l. front ++ (l ++ worker ∷ ahead)) none in
      let place : length front ≡ n = omega (arith, many, length-append front (worker ∷ ahead), ap length all) in
      ap (λ l. get_or l n other) all ∙ ap (λ m. get_or (front ++ worker ∷ ahead) m other) (sym place) ∙ get_or-append_seam front worker ahead other
