-- The law of one port. What a thread did at a port, while nobody else changed what it met, is a lawful history, apart
-- from what cells answered.
use Rattle.std.specs.Prelude.{◌≡◌, ◌<◌, ◌≤◌, ◌+◌, ◌^◌, ℕ, true, List, [], ◌∷◌, length, map, slice_get, Some, None, option_map}
use mathlib.Core.List.{IsPrefix}
use Rattle.spw.specs.Cargo.{Cargo}
use Rattle.rmap.specs.declared.places.Place.TheVariants as places
use Rattle.rmap.specs.declared.status.Status.{Status}
use Rattle.rmap.specs.BootRecords.{control_of}
use Rattle.rmap.specs.Checks.{header_line}
use Rattle.rmap.specs.Command.{command_of}
use Rattle.annals.specs.declared.deed.Act.TheVariants.{Leaves, Sets, Rotates, Publishes}
use Rattle.annals.specs.declared.deed.Deed.{Deed as LinkDeed}
use Rattle.annals.specs.declared.deed.Deed.TheVariants.{Opens, Does, Asks, Shows}
use Rattle.annals.specs.declared.deed.HistoryEntry.{HistoryEntry}
use Rattle.annals.specs.Banks.{entries_of}
use Rattle.annals.specs.Chains.{chain_of}
use Rattle.bank.specs.Answer.{judged_line}
use Rattle.bank.specs.Records.{is_bank_place}
use Rattle.node_programs.specs.declared.publishes.Publish.{Publish}
use Rattle.node_programs.specs.Published.{judging_program, sizes_of}
use Rattle.node_parts.specs.declared.config.BankConfig.{BankConfig}
use Rattle.node_parts.specs.declared.refusal.LoadRefusal.{LoadRefusal}
use Rattle.node_parts.specs.Loads.{IsUnprepared, refused_result}
use Rattle.node_parts.specs.Nodes.{first_staging}
use Rattle.target.specs.Lines.{CountsAllOf}
use Rattle.ports.specs.Due.{Deed, Judging, Standing, Worked, judgings}
use Rattle.ports.specs.Due.Deed.{Dropped, Answered, Judged}
use Rattle.ports.specs.Laws.{publishes_of_commands, next_number_at}
use Rattle.sched.specs.Agreement.{program_and_generation, slot_and_program}
use Rattle.sched.specs.History.{History, opened}
use Rattle.sched.specs.Looking.{Node, entries, published, staging, windows_in}
use Rattle.sched.specs.Lawful.{IsLawfulExceptAnswers}
use Rattle.lawful.specs.Happenings.{HappenBy, happened_at}

-- ---- premises

-- A port of the node that was not served yet. It knows of the factory program and of those that were published before
-- the first packet. Its staging is the first, and it left no entry.
pub record IsFreshPort (n : Node) (s : Standing) : Type 0 where
  pub there : s.pass.port < n.ports
  pub windows : s.pass.windows ≡ windows_in n
  pub factory : Publish
  pub firsts : List Publish
  pub programs : s.pass.programs ≡ factory ∷ firsts
  pub program : factory.program.program ≡ n.factory
  pub firsts_are : map slot_and_program firsts ≡ n.firsts
  pub sizes : factory.program.sizes ≡ n.sizes
  pub staging_is : s.pass.staging ≡ first_staging
  pub shares : length s.pass.shares ≡ length n.banks
  pub numbers : (k : ℕ) → next_number_at s.pass k ≡ 0

-- a deed at a bank is an entry of that port
abbrev pub IsDeedOf : (port : ℕ) → LinkDeed → Type 0
IsDeedOf port (Opens opening) = ⊥
IsDeedOf port (Does (Leaves entry)) = entry.port ≡ port
IsDeedOf port (Does (Sets setting)) = ⊥
IsDeedOf port (Does (Rotates room)) = ⊥
IsDeedOf port (Does (Publishes publish)) = ⊥
IsDeedOf port (Asks due) = ⊥
IsDeedOf port Shows = ⊥

-- each deed is an entry of that port
abbrev pub AreDeedsOf : (port : ℕ) → List HistoryEntry → Type 0
AreDeedsOf port [] = Unit {0}
AreDeedsOf port (l ∷ ls) = IsDeedOf port l.deed × AreDeedsOf port ls

-- What the list has of a bank, if anything. First the bank began, as the node's configuration says. Then come entries
-- of only that port, for which its journal has room.
abbrev pub IsOwnChain : (port : ℕ) → BankConfig → List HistoryEntry → Type 0
IsOwnChain port bank [] = Unit {0}
IsOwnChain port bank (l ∷ ls) =
    (l.deed ≡ Opens (bank.base, bank.size, bank.room)) × AreDeedsOf port ls × (length ls ≤ bank.room)

-- what the list has of the bank of that number is the port's, and the numbers of its entries are below 2^64
pub record IsOwnBank (port k : ℕ) (bank : BankConfig) (whole : List HistoryEntry) : Type 0 where
  pub chain : IsOwnChain port bank (chain_of k whole)
  pub few : bank.room < 2 ^ 64

-- the load of a control write was refused because of what the port had staged, as its load result says
pub record IsRefusedForStaged (h after : Standing) (j : Judging) : Type 0 where
  pub refusal : LoadRefusal
  pub unprepared : IsUnprepared (control_of (command_of j.judged.packet).body) h.pass.staging.bytes (sizes_of h.pass.programs) refusal
  pub reported : after.pass.staging.load_result ≡ refused_result refusal

-- A judged command lacked nothing: at a bank it left its entry, and a load published its program or was refused for
-- what was staged.
pub record IsJudgedInFull (h after : Standing) (j : Judging) : Type 0 where
  pub entered : is_bank_place j.judged.place ≡ true → j.entered ≡ true
  pub loads : j.judged.place ≡ places.Control → judged_line (command_of j.judged.packet) j.judged.verdict ≡ None
      → j.loaded ≡ None → IsRefusedForStaged h after j

-- what became of a packet lacked nothing: if no verdict answered it, a check of its header did
abbrev pub IsDealtInFull : Node → Deed → Cargo → (h after : Standing) → Type 0
IsDealtInFull n Dropped p h after = Unit {0}
IsDealtInFull n (Answered reply) p h after = (status : Status) × (header_line (command_of p) (windows_in n) ≡ Some status)
IsDealtInFull n (Judged j) p h after = IsJudgedInFull h after j

-- what became of some packets lacked nothing
abbrev pub AreDealtInFull : Node → (h : Standing) (ps : List Cargo) (ds : List Deed) (after : Standing) → Worked h ps ds after → Type 0
AreDealtInFull n h [] [] after worked = Unit {0}
AreDealtInFull n h [] (d ∷ ds) after worked = Unit {0}
AreDealtInFull n h (p ∷ ps) [] after worked = Unit {0}
AreDealtInFull n h (p ∷ ps) (d ∷ ds) after worked =
    IsDealtInFull n d p h worked.0 × AreDealtInFull n worked.0 ps ds after worked.2

-- A fresh port of the node was the only one that was served. Of the list of the node all that its banks had is the
-- port's, and only its loads published. Nothing was lacking.
pub record IsServedAlone (n : Node) (first : Standing) (ps : List Cargo) (ds : List Deed) (last : Standing) (whole : List HistoryEntry) : Type 0 where
  pub worked : Worked first ps ds last
  pub fresh : IsFreshPort n first
  pub banks : (k : ℕ) (bank : BankConfig) → slice_get n.banks k ≡ Some bank → IsOwnBank first.pass.port k bank whole
  pub begins : IsPrefix last.front whole
  pub counted : CountsAllOf last.pass whole
  pub loads : length last.pass.programs ≤ length first.pass.programs + length (publishes_of_commands (judgings ds))
  pub in_full : AreDealtInFull n first ps ds last worked

-- ---- the law

-- There is a history of the node, lawful apart from what cells answered. What became of its packets happened at the
-- port, and nothing happened elsewhere. Its entries at each bank are those of the list. Its programs are those that the
-- port knows in the end, and its staging is the port's.
pub record HasLawfulHistory (n : Node) (port : ℕ) (ps : List Cargo) (ds : List Deed) (last : Standing) (whole : List HistoryEntry) : Type 0 where
  pub history : History
  pub lawful : IsLawfulExceptAnswers n history
  pub happened : HappenBy port ps ds (happened_at port history)
  pub elsewhere : (other : ℕ) → (other ≡ port → ⊥) → happened_at other history ≡ []
  pub closed : opened history port ≡ None
  pub entries_are : (k : ℕ) (bank : BankConfig) → slice_get n.banks k ≡ Some bank → entries n history k ≡ entries_of k whole
  pub programs : (slot : ℕ) → option_map program_and_generation (judging_program last.pass.programs slot) ≡ Some (published n history slot)
  pub staging_is : staging n history port ≡ last.pass.staging

-- What a thread did at a fresh port of a node, served without others, is a lawful history, apart from what cells
-- answered.
abbrev pub OnePortIsLawful : Type 0
OnePortIsLawful =
    (n : Node) (first last : Standing) (ps : List Cargo) (ds : List Deed) (whole : List HistoryEntry) → IsServedAlone n first ps ds last whole
    → HasLawfulHistory n first.pass.port ps ds last whole
