-- The law of all ports. What threads did at the ports of a node, side by side, is a lawful history of the node, apart
-- from what cells answered. A command is taken at the moment at which readers saw the programs by which it was judged.
-- A command of a bank is done at the place of its entry in the one list of the node. A load is done when readers see
-- its program.
use Rattle.std.specs.Prelude.{◌≡◌, ◌<◌, ◌≤◌, ◌+◌, ◌^◌, ℕ, List, [], ◌∷◌, length, map, slice_get, Some, None, option_map}
use mathlib.Core.List.{IsPrefix}
use Rattle.spw.specs.Cargo.{Cargo}
use Rattle.annals.specs.declared.deed.Act.TheVariants.{Leaves, Sets, Rotates, Publishes}
use Rattle.annals.specs.declared.deed.Deed.{Deed as LinkDeed}
use Rattle.annals.specs.declared.deed.Deed.TheVariants.{Opens, Does, Asks, Shows}
use Rattle.annals.specs.declared.deed.HistoryEntry.{HistoryEntry}
use Rattle.annals.specs.Banks.{entries_of}
use Rattle.annals.specs.Chains.{Due, chain_of, done_for, instrument}
use Rattle.annals.specs.Publishes.{publishes_chain, publishes_of}
use Rattle.annals.specs.Shown.{AreListed, shown_in}
use Rattle.node_programs.specs.declared.publishes.Publish.{Publish}
use Rattle.node_programs.specs.Published.{judging_program}
use Rattle.node_parts.specs.declared.config.BankConfig.{BankConfig}
use Rattle.ports.specs.Due.{Deed, Standing, Worked}
use Rattle.sched.specs.Agreement.{program_and_generation, slot_and_program}
use Rattle.sched.specs.History.{History, opened}
use Rattle.sched.specs.Looking.{Node, entries, published, publishes, staging}
use Rattle.lawful.specs.Alone.{AreDealtInFull, IsFreshPort}
use Rattle.sched.specs.Lawful.{IsLawfulExceptAnswers}
use Rattle.lawful.specs.Happenings.{HappenBy, happened_at}

-- ---- premises

-- what was done at a port: what it had at first, the packets that it served, what became of them, and what it has then
pub record Account : Type 0 where
  pub first : Standing
  pub last : Standing
  pub packets : List Cargo
  pub deeds : List Deed

-- A fresh port of the node was served beside others. The list of the node has all that it knows. Of the port it has
-- what it asked for, and nothing else. Nothing was lacking.
pub record IsServedBeside (n : Node) (whole : List HistoryEntry) (port : ℕ) (account : Account) : Type 0 where
  pub worked : Worked account.first account.packets account.deeds account.last
  pub fresh : IsFreshPort n account.first
  pub port_is : account.first.pass.port ≡ port
  pub asked : account.first.asked ≡ []
  pub begins : IsPrefix account.last.front whole
  pub did : done_for port whole ≡ account.last.asked
  pub in_full : AreDealtInFull n account.first account.packets account.deeds account.last worked

-- a deed at a bank is an entry
abbrev pub IsSomeEntry : LinkDeed → Type 0
IsSomeEntry (Opens opening) = ⊥
IsSomeEntry (Does (Leaves entry)) = Unit {0}
IsSomeEntry (Does (Sets setting)) = ⊥
IsSomeEntry (Does (Rotates room)) = ⊥
IsSomeEntry (Does (Publishes publish)) = ⊥
IsSomeEntry (Asks due) = ⊥
IsSomeEntry Shows = ⊥

-- each deed is an entry
abbrev pub AreSomeEntries : List HistoryEntry → Type 0
AreSomeEntries [] = Unit {0}
AreSomeEntries (l ∷ ls) = IsSomeEntry l.deed × AreSomeEntries ls

-- What the list has of a bank, if anything. First the bank began, as the node's configuration says. Then come only
-- entries, for which its journal has room.
abbrev pub IsChainOf : BankConfig → List HistoryEntry → Type 0
IsChainOf bank [] = Unit {0}
IsChainOf bank (l ∷ ls) = (l.deed ≡ Opens (bank.base, bank.size, bank.room)) × AreSomeEntries ls × (length ls ≤ bank.room)

-- the list has of the bank of that number what ports left, and the numbers of its entries are below 2^64
pub record IsBankOfPorts (k : ℕ) (bank : BankConfig) (whole : List HistoryEntry) : Type 0 where
  pub chain : IsChainOf bank (chain_of k whole)
  pub few : bank.room < 2 ^ 64

-- that the instrument published a program
abbrev pub published_first : Publish → Due
published_first publish = (publishes_chain, Publishes (instrument, publish))

-- All ports of the node were served side by side, each fresh at first. The list of the node has what they did. Of
-- others it has only that the instrument published the factory program and then those that the node begins with, in
-- order. Readers saw no program before it was published, and in the end all.
pub record AreServedTogether (n : Node) (accounts : ℕ → Account) (whole : List HistoryEntry) : Type 0 where
  pub few : n.ports ≤ instrument
  pub each : (port : ℕ) → port < n.ports → IsServedBeside n whole port (accounts port)
  pub banks : (k : ℕ) (bank : BankConfig) → slice_get n.banks k ≡ Some bank → IsBankOfPorts k bank whole
  pub factory : Publish
  pub firsts : List Publish
  pub program : factory.program.program ≡ n.factory
  pub firsts_are : map slot_and_program firsts ≡ n.firsts
  pub sizes : factory.program.sizes ≡ n.sizes
  pub opening : done_for instrument whole ≡ map published_first (factory ∷ firsts)
  pub others : (owner : ℕ) → n.ports ≤ owner → (owner ≡ instrument → ⊥) → done_for owner whole ≡ []
  pub listed : AreListed whole
  pub shown : length (publishes_of whole) ≤ shown_in whole

-- ---- the law

-- There is a history of the node, lawful apart from what cells answered. In it what became of its packets happened at
-- each port, and nothing happened elsewhere. Its entries at each bank and its programs are those of the list, and each
-- port's staging is its own.
pub record HaveLawfulHistory (n : Node) (accounts : ℕ → Account) (whole : List HistoryEntry) : Type 0 where
  pub history : History
  pub lawful : IsLawfulExceptAnswers n history
  pub happened : (port : ℕ) → port < n.ports → HappenBy port (accounts port).packets (accounts port).deeds (happened_at port history)
  pub elsewhere : (port : ℕ) → n.ports ≤ port → happened_at port history ≡ []
  pub closed : (port : ℕ) → opened history port ≡ None
  pub entries_are : (k : ℕ) (bank : BankConfig) → slice_get n.banks k ≡ Some bank → entries n history k ≡ entries_of k whole
  pub programs : (slot : ℕ) → option_map program_and_generation (judging_program (publishes_of whole) slot) ≡ Some (published n history slot)
  pub count : length (publishes_of whole) ≡ publishes n history + 1
  pub stagings : (port : ℕ) → port < n.ports → staging n history port ≡ (accounts port).last.pass.staging

-- What threads did at the fresh ports of a node that they served side by side is a lawful history, apart from what
-- cells answered.
abbrev pub ThreadsAreLawful : Type 0
ThreadsAreLawful =
    (n : Node) (accounts : ℕ → Account) (whole : List HistoryEntry) → AreServedTogether n accounts whole
    → HaveLawfulHistory n accounts whole
