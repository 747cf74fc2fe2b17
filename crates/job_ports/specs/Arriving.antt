-- The lines that bring packets, one after the other.
use Rattle.std.specs.Prelude.{◌≡◌, ℕ, List}
use Rattle.job_parts.specs.Turns.{SeesPrinted, SeesEnd}
use Rattle.job_ports.specs.Arrivals.{IsNotTakenIn, TakesIn}
use Rattle.job_ports.specs.declared.arriving.Arriving.{Arriving}

-- the line was taken in, and nothing was printed
abbrev pub Arrives : List ℕ → SeesPrinted Arriving
Arrives line before after old new = TakesIn line before.feeds after.feeds before.arrivals after.arrivals × (new ≡ old)

-- the line was not taken in
abbrev pub IsLineRefused : List ℕ → SeesEnd Arriving
IsLineRefused line before after old new end = IsNotTakenIn line before.feeds before.arrivals end
