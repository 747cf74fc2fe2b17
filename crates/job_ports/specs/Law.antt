-- What the law on threads says of the ports that were served.
use Rattle.std.specs.Prelude.{◌≡◌, ◌<◌, ◌≤◌, ℕ, List, [], map, slice_get, slice_index_or, Some}
use Rattle.annals.specs.declared.deed.HistoryEntry.{HistoryEntry}
use Rattle.annals.specs.Chains.{done_for, instrument}
use Rattle.bver.specs.Justified.{AcceptedValue}
use Rattle.node_parts.specs.declared.config.BankConfig.{BankConfig}
use Rattle.node_programs.specs.declared.publishes.Publish.{Publish}
use Rattle.publish.specs.Firsts.{programs_with}
use Rattle.spw.specs.Cargo.{Cargo}
use Rattle.ports.specs.Due.{Standing, Worked, standing}
use Rattle.sched.specs.Looking.{Node}
use Rattle.lawful.specs.Alone.{AreDealtInFull}
use Rattle.lawful.specs.Together.{Account, HaveLawfulHistory, IsBankOfPorts, published_first}
use Rattle.job_config.specs.OwnNodes.{OwnNodeValue}
use Rattle.job_nodes.specs.Beginning.{own_schedule}
use Rattle.job_ports.specs.Ends.{PortEnd}

-- the account is one of a port that began with that, served these packets, and ended so
pub record IsAccountOf (start : Standing) (packets : List Cargo) (end : PortEnd) (account : Account) : Type 0 where
  pub first : account.first ≡ start
  pub packets_are : account.packets ≡ packets
  pub last : account.last ≡ standing end.pass end.front

-- each of these accounts is one of the port of its number
abbrev pub AreAccountsOf : (starts : ℕ → Standing) (ports : ℕ) (packets : ℕ → List Cargo) → List PortEnd → (accounts : ℕ → Account)
    → Type 0
AreAccountsOf starts ports packets ends accounts =
    (port : ℕ) (end : PortEnd) → port < ports
    → IsAccountOf (starts port) (packets port) (slice_index_or ends port end) (accounts port)

-- by the account each packet became what is due, and nothing was missing
pub record IsInFull (n : Node) (account : Account) : Type 0 where
  pub worked : Worked account.first account.packets account.deeds account.last
  pub in_full : AreDealtInFull n account.first account.packets account.deeds account.last worked

-- what the law asks for beyond what the ports did: nothing was missing, and the list of the node has only entries of
-- each bank. It has of others than the ports only that the instrument published these programs
pub record IsServedInFull (n : Node) (programs : List Publish) (accounts : ℕ → Account) (whole : List HistoryEntry) : Type 0 where
  pub each : (port : ℕ) → port < n.ports → IsInFull n (accounts port)
  pub banks : (k : ℕ) (bank : BankConfig) → slice_get n.banks k ≡ Some bank → IsBankOfPorts k bank whole
  pub opening : done_for instrument whole ≡ map published_first programs
  pub others : (owner : ℕ) → n.ports ≤ owner → (owner ≡ instrument → ⊥) → done_for owner whole ≡ []

-- by any accounts of what the ports did, what they did is a lawful history of the node's schedules, apart from what
-- cells answered. The conditions are that nothing was missing, and that the list has nothing else
abbrev pub IsOneLawfulHistory : OwnNodeValue → AcceptedValue → (starts : ℕ → Standing) (packets : ℕ → List Cargo) → List PortEnd
    → (whole : List HistoryEntry) → Type 0
IsOneLawfulHistory own program starts packets ends whole =
    (accounts : ℕ → Account) → AreAccountsOf starts own.ports packets ends accounts
    → IsServedInFull (own_schedule own program.program) (programs_with program own.publishes) accounts whole
    → HaveLawfulHistory (own_schedule own program.program) accounts whole
