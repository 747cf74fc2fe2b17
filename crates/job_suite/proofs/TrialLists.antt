-- Packets of a suite, one more at a time.
use Rattle.std.proofs.Common.{◌≡◌, ◌++◌, ◌∷◌, List, [], sym, subst}
use Rattle.std.proofs.lemmas.List.Elements.{All-append, All-cons, All-nil}
use Rattle.job_suite.specs.Trials.{AreTrials, IsTrial}
use Rattle.job_suite.specs.declared.trials.Bench.{Bench}
use Rattle.job_suite.specs.declared.trials.Trial.{Trial}

-- one more packet that meets its row
pub one_more_trial : (b : Bench) (old new : List Trial) (t : Trial) → new ≡ old ++ t ∷ [] → AreTrials b old → IsTrial b t → AreTrials b new
one_more_trial b old new t joined are is =
    subst (AreTrials b) (sym joined) (All-append (IsTrial b) old (t ∷ []) are (All-cons (IsTrial b) t [] is (All-nil (IsTrial b))))
