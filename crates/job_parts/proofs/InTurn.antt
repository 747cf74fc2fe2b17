-- Lines that are taken in turn.
use Rattle.std.proofs.Common.{◌≡◌, ◌<◌, ℕ, zero, suc, List, [], ◌∷◌, ◌++◌, length, take, drop, get_or, Option, refl, ap, subst, arith, ◌∙◌}
use Rattle.job_parts.specs.Stops.{StopsBy, fault_at}
use Rattle.job_parts.specs.Turns.{AreTaken, SeesPrinted, SeesEnd, StopsLinesAt, StopsInLines}
use Rattle.job_parts.specs.declared.stops.JobStop.{JobStop}
use Rattle.job_parts.specs.declared.stops.JobStop.TheVariants.{Ended, Unwritten}

-- the lines round one of them
pub around : (lines : List (List ℕ)) (n : ℕ) (line : List ℕ) → n < length lines → lines ≡ take n lines ++ get_or lines n line ∷ drop (suc n) lines
around [] n line low = absurd (omega (arith, low))
around (first ∷ lines) zero line low = refl
around (first ∷ lines) (suc n) line low = ap (λ (l : List (List ℕ)). first ∷ l) (around lines n line (omega (arith, low)))

-- one more line
pub takes_more : {T : Type 0} (takes : List ℕ → SeesPrinted T) (lines : List (List ℕ)) (line : List ℕ) (a b c : T) (o p q : Option (List ℕ))
    → AreTaken takes lines a b o p → takes line b c p q → AreTaken takes (lines ++ line ∷ []) a c o q
takes_more takes [] line a b c o p q all one =
    (c, q, subst (λ x. takes line x c o q) all.0 (subst (λ (x : Option (List ℕ)). takes line b c x q) all.1 one), (refl, refl))
takes_more takes (first ∷ lines) line a b c o p q all one =
    (all.0, all.1, all.2, takes_more takes lines line all.0 b c all.1 p q all.3 one)

-- a stop at a line is one of the lines
pub stops_in : {T : Type 0} (takes : List ℕ → SeesPrinted T) (stops : List ℕ → SeesEnd T) (lines done rest : List (List ℕ)) (line : List ℕ) (count : ℕ) (a b c : T) (o p q : Option (List ℕ)) (stop : JobStop)
    → lines ≡ done ++ line ∷ rest → count ≡ suc (length done) → AreTaken takes done a b o p
    → StopsBy (StopsLinesAt stops line count b c p q) stop → StopsBy (StopsInLines takes stops lines a c o q) stop
stops_in takes stops lines done rest line count a b c o p q (Unwritten refused) are place all bad = tt
stops_in takes stops lines done rest line count a b c o p q (Ended fault) are place all bad = record {
  done = done;
  line = line;
  rest = rest;
  between = b;
  printed = p;
  end = bad.0;
  lines_are = are;
  all = all;
  is_fault = bad.1 ∙ ap (λ (number : ℕ). fault_at number bad.0) place;
  bad = bad.2;
}
