-- The packet lines of a text, and what is printed of each.
use Rattle.std.specs.Prelude.{◌≡◌, ℕ, List, Option, Some, None}
use Rattle.policy_table.specs.Policies.{PolicyValue}
use Rattle.rmap.specs.Command.{discard_of}
use Rattle.rmap.specs.Windows.{WindowsValue}
use Rattle.spw.specs.Cargo.{Cargo}
use Rattle.job_nodes.specs.Feeds.{IsFed, IsNotFed}
use Rattle.job_parts.specs.declared.stops.LineEnd.{LineEnd}
use Rattle.job_parts.specs.declared.stops.LineEnd.TheVariants.{Bad, NoMemory}
use Rattle.job_decide.specs.Decided.{PrintsPacket}
use Rattle.job_decide.specs.declared.decide.Deciding.{Deciding}

-- if a line ends no packet, nothing was printed and drawn, and else what becomes of its packet
abbrev pub PrintsReceived : WindowsValue → PolicyValue → Option (ℕ × Cargo) → (before after : List ℕ)
    → (old new : Option (List ℕ)) → Type 0
PrintsReceived windows policy None before after old new = (after ≡ before) × (new ≡ old)
PrintsReceived windows policy (Some received) before after old new =
    PrintsPacket windows received.0 policy received.1 (discard_of received.1.bytes) before after old new

-- the line was taken by the table, which stays, as the node's windows do, and what comes of it was printed
pub record DecidesLine (line : List ℕ) (before after : Deciding) (old new : Option (List ℕ)) : Type 0 where
  pub received : Option (ℕ × Cargo)
  pub fed : IsFed line before.feeds after.feeds received
  pub reported : PrintsReceived before.windows.now before.table received before.counts after.counts old new
  pub table : after.table ≡ before.table
  pub windows : after.windows ≡ before.windows

-- the line is bad, or memory was refused for its packet; nothing was printed of it
abbrev pub IsBadDecideLine : List ℕ → (before after : Deciding) → (old new : Option (List ℕ)) → LineEnd → Type 0
IsBadDecideLine line before after old new (Bad fault) = IsNotFed line before.feeds after.feeds fault × (new ≡ old)
IsBadDecideLine line before after old new NoMemory = new ≡ old
