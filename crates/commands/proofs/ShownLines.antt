-- Lines that are shown in turn.
use Rattle.std.proofs.Common.{◌≡◌, ◌+◌, ℕ, suc, Bool, true, refl, subst, arith}
use Rattle.job_live.specs.Talking.{ComesLine, Misses, Sends}
use Rattle.job_parts.specs.declared.stops.JobStop.{JobStop}
use Rattle.commands.specs.ShownTalk.{BreaksShow, IsUnreported, Shows, ShowsOne}

-- This many lines were shown: the number of the next is one more.
pub record IsGoingOn {T : Type 0} (received : ComesLine T) (sent : Sends T) (number : ℕ) (start at : T) : Type 0 where
  pub count : ℕ
  pub counted : number ≡ suc count
  pub shows : Shows received sent count start at

-- none yet
pub none_reported : {T : Type 0} (received : ComesLine T) (sent : Sends T) (talk : T) → IsGoingOn received sent 1 talk talk
none_reported received sent talk = record { count = 0; counted = refl; shows = refl }

-- a line that came and was shown is the next one
pub one_more : {T : Type 0} (received : ComesLine T) (sent : Sends T) (number : ℕ) (s t u : T) (was_given : Bool)
    → IsGoingOn received sent number s t → ShowsOne received sent was_given t u → was_given ≡ true
    → IsGoingOn received sent (number + 1) s u
one_more {T} received sent number s t u was_given way shown is =
    let one = subst (λ (w : Bool). ShowsOne received sent w t u) is shown in
    record { count = suc way.count; counted = omega (arith, way.counted); shows = (t, way.shows, one) }

-- a line that was not shown, after those that were
pub breaks : {T : Type 0} (received : ComesLine T) (sent unsent : Sends T) (missed : Misses T) (number : ℕ) (s t u : T) (halt : JobStop)
    → IsGoingOn received sent number s t → IsUnreported received sent unsent missed number t u halt
    → BreaksShow received sent unsent missed s u halt
breaks received sent unsent missed number s t u halt way unreported = record {
  count = way.count;
  last = t;
  shows = way.shows;
  unreported = subst (λ (n : ℕ). IsUnreported received sent unsent missed n t u halt) way.counted unreported;
}
