-- Histories that grow.
use Rattle.std.proofs.Common.{◌≡◌, List, [], ◌∷◌, ◌++◌, length, refl, arith}
use Rattle.sched.specs.declared.event.Event.{Event}
use Rattle.sched.specs.declared.event.Outcome.{Outcome}
use Rattle.sched.specs.Headline.{BringsBytes, HasBytes}
use Rattle.sched.specs.History.{History, Then, history_from}
use Rattle.sched.specs.Looking.{Node}
use Rattle.sched.specs.Worlds.{WorldValue, IsLawfulWorld, GoesOnLawfully}

-- one event more, with its outcome, at the end
history-push : (h : History) (events : List Event) (outcomes : List Outcome) (event : Event) (outcome : Outcome) → length events ≡ length outcomes
    → history_from h (events ++ event ∷ []) (outcomes ++ outcome ∷ []) ≡ Then (history_from h events outcomes) event outcome
history-push h [] [] event outcome same = refl
history-push h [] (o ∷ os) event outcome same = absurd (omega (arith, same))
history-push h (e ∷ es) [] event outcome same = absurd (omega (arith, same))
history-push h (e ∷ es) (o ∷ os) event outcome same = history-push (Then h e o) es os event outcome (omega (arith, same))

-- its packets have bytes, if that of the event has
pub bytes_grown : (h : History) (events : List Event) (outcomes more : List Outcome) (event : Event) (outcome : Outcome)
    → length events ≡ length outcomes → more ≡ outcomes ++ outcome ∷ [] → HasBytes (history_from h events outcomes) → BringsBytes event
    → HasBytes (history_from h (events ++ event ∷ []) more)
bytes_grown h events outcomes more event outcome same grown bytes brings =
    rw (grown, history-push h events outcomes event outcome same) (bytes, brings)

-- the world after one event more is that of the history with it
pub history_grown : (n : Node) (h : History) (events : List Event) (outcomes more : List Outcome) (event : Event) (outcome : Outcome) (old new : WorldValue)
    → length events ≡ length outcomes → more ≡ outcomes ++ outcome ∷ [] → IsLawfulWorld n (history_from h events outcomes) old → GoesOnLawfully event outcome old new
    → IsLawfulWorld n (history_from h (events ++ event ∷ []) more) new
history_grown n h events outcomes more event outcome old new same grown world goes =
    rw (grown, history-push h events outcomes event outcome same) (goes n (history_from h events outcomes) world)
