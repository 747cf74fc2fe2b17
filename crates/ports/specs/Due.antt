-- What became of the packets that a worker took, and the replies that are due then (ECSS-E-ST-50-52C). Locks guard the
-- banks and the publisher. So a command that left an entry is in the one history of the node, and so is a load that
-- published. Of any other it is known that some bank, or some list of publishes, was what it met.
use Rattle.std.specs.Prelude.{◌≡◌, ◌⊎◌, ℕ, Bool, true, false, ◌&&◌, List, [], ◌∷◌, length, map, filter, Option, None, Some}
use mathlib.Core.List.{IsPrefix}
use Rattle.machine.specs.declared.calls.Call.{Call}
use Rattle.spw.specs.Cargo.{Cargo}
use Rattle.rmap.specs.declared.discard.Discard.{Discard}
use Rattle.rmap.specs.declared.places.Place.TheVariants.{Bank, Control}
use Rattle.rmap.specs.declared.status.Status.{Status}
use Rattle.rmap.specs.Command.{discard_of}
use Rattle.bver.specs.Justified.{AcceptedValue}
use Rattle.bank.specs.declared.bank.Applied.{Applied}
use Rattle.bank.specs.Records.{JudgedValue, IsBank, has_room}
use Rattle.node_programs.specs.declared.publishes.Publish.{Publish}
use Rattle.node_parts.specs.Passes.{PassValue}
use Rattle.node_parts.specs.Steps.{IsStopped, IsUnread, IsJudgement}
use Rattle.node_parts.specs.declared.stop.Stop.TheVariants as stops
use Rattle.node_parts.specs.Applied.{share_of}
use Rattle.node_parts.specs.Loaded.{IsLoadEnd}
use Rattle.node_parts.specs.Served.{EndsAtWindow}
use Rattle.annals.specs.declared.deed.HistoryEntry.{HistoryEntry}
use Rattle.annals.specs.Banks.{KeptValue, takes}
use Rattle.annals.specs.Chains.{Due, done_for}
use Rattle.annals.specs.Publishes.{publishes_of}
use Rattle.annals.specs.Shown.{IsTakenAtMoment}
use Rattle.target.specs.Finished.{AsksForEntry, IsFinishedAt}
use Rattle.target.specs.Loads.{AsksForLoad}
use Rattle.target.specs.Passes.{PortPass}

-- what a port has of its node, what it asked for in its line of the node's history, and what it knows of that history
pub record Standing : Type 0 where
  pub pass : PassValue
  pub asked : List Due
  pub front : List HistoryEntry

-- the port that has this, asked for that, and knows that beginning of the history
abbrev pub stand : PassValue → List Due → List HistoryEntry → Standing
stand pass asked front = record { pass = pass; asked = asked; front = front }

-- the port with that pass, which knows that beginning of the history
abbrev pub standing : PortPass → List HistoryEntry → Standing
standing port front = stand port.pass port.asked front

-- A command that was judged: the program and the calls of its run, and whether it left an entry in a bank's journal. It
-- also has what the command published, if it did, and the reply that is due.
pub record Judging : Type 0 where
  pub judged : JudgedValue
  pub program : AcceptedValue
  pub calls : List Call
  pub entered : Bool
  pub loaded : Option Publish
  pub reply : List ℕ

-- What became of a packet. It was no command, or it was answered without a verdict, and that reply is due, or it was
-- judged.
pub data Deed : Type 0 where
  Dropped : Deed
  Answered : List ℕ → Deed
  Judged : Judging → Deed

-- the reply that is due, which is empty if none is
abbrev pub reply_in : Deed → List ℕ
reply_in Dropped = []
reply_in (Answered reply) = reply
reply_in (Judged judging) = judging.reply

-- the packet was no command
abbrev pub is_dropped : Deed → Bool
is_dropped Dropped = true
is_dropped (Answered reply) = false
is_dropped (Judged judging) = false

-- there is a reply
abbrev pub is_reply : List ℕ → Bool
is_reply [] = false
is_reply (byte ∷ bytes) = true

-- the replies of such lists of bytes, in order: none of an empty one
abbrev pub due_of : List (List ℕ) → List (List ℕ)
due_of replies = filter is_reply replies

-- the replies that are due, in order: a command whose bit 3 is clear has none
abbrev pub due : List Deed → List (List ℕ)
due deeds = due_of (map reply_in deeds)

-- how many packets were no command
abbrev pub discarded : List Deed → ℕ
discarded deeds = length (filter is_dropped deeds)

-- the commands that were judged, in order
abbrev pub judgings : List Deed → List Judging
judgings [] = []
judgings (Dropped ∷ deeds) = judgings deeds
judgings (Answered reply ∷ deeds) = judgings deeds
judgings (Judged judging ∷ deeds) = judging ∷ judgings deeds

-- the packet was no command, and the port is as it was
pub record IsDropped (p : Cargo) (h after : Standing) : Type 0 where
  pub discard : Discard
  pub discarded : discard_of p.bytes ≡ Some discard
  pub same : after ≡ h

-- A check of the header answered the packet, or none did and the reply is the general error of a packet that no program
-- judged. The port is as it was.
pub record IsUnjudged (reply : List ℕ) (p : Cargo) (h after : Standing) : Type 0 where
  pub answered : ((status : Status) × IsStopped (stops.Answered status) p h.pass.windows reply)
      ⊎ IsUnread p h.pass.windows reply
  pub same : after ≡ h

-- A judged command ended at some bank with its chain. If it left an entry, that is the last of the history that the
-- port then knows, and its port asked for it. Status and reply are then the definition's on the replay of what is
-- before it there.
pub record HasFinished (known reached : List HistoryEntry) (holder after : PassValue) (asked asks : List Due) (j : JudgedValue)
    (reply : List ℕ) : Type 0 where
  pub before : KeptValue
  pub following : KeptValue
  pub result : Applied
  pub bank : IsBank before.bank
  pub finished : IsFinishedAt before following known reached holder after j result reply
  pub asks_for : AsksForEntry before.chain.number holder j result asked asks

-- The command's place is a bank, and it ended at some bank. If it was applied and there was room, it left an entry
-- there.
pub record IsBanked (judging : Judging) (h after : Standing) : Type 0 where
  pub number : ℕ
  pub place : judging.judged.place ≡ Bank number
  pub ended : HasFinished h.front after.front h.pass after.pass h.asked after.asked judging.judged judging.reply
  pub loaded : judging.loaded ≡ None
  pub entered : judging.entered
      ≡ (takes ended.before (share_of h.pass judging.judged.place) judging.judged
      && has_room ended.before.bank judging.judged.port)

-- What a port knows of the history by a load. At one moment after all that the port knew, that list had been published
-- and the port had done what it asked for. At a later moment both are what the load left.
pub record HasMet (port : ℕ) (known reached : List HistoryEntry) (old new : List Publish) (asked asks : List Due) : Type 0 where
  pub met : List HistoryEntry
  pub seen : IsPrefix known met
  pub published : publishes_of met ≡ old
  pub did : done_for port met ≡ asked
  pub goes : IsPrefix met reached
  pub publishes : publishes_of reached ≡ new
  pub does : done_for port reached ≡ asks

-- A judged control write ended when some list had been published, which began with all that the port knew. Its port
-- asked for what it published, and for nothing else. The port knows where in the history that was.
pub record HasLoadEnd (known reached : List HistoryEntry) (holder after : PassValue) (asked asks : List Due) (j : JudgedValue)
    (reply : List ℕ) : Type 0 where
  pub old : List Publish
  pub new : List Publish
  pub begins : IsPrefix holder.programs old
  pub result : Status
  pub ended : IsLoadEnd holder after old new j result reply
  pub loaded : Option Publish
  pub asks_for : AsksForLoad holder.port loaded old new asked asks
  pub moment : HasMet holder.port known reached old new asked asks

-- A judged command ended in the boot window when some list had been published, which began with all that the port knew.
-- Its port asked for what it published, and for nothing else. Of a control write the port knows where in the history
-- that was, and it forgets nothing.
pub record IsWindowEnd (judging : Judging) (h after : Standing) : Type 0 where
  pub old : List Publish
  pub new : List Publish
  pub begins : IsPrefix h.pass.programs old
  pub result : Status
  pub ended : EndsAtWindow judging.judged.place h.pass after.pass old new judging.judged result judging.reply
  pub entered : judging.entered ≡ false
  pub asks_for : AsksForLoad h.pass.port judging.loaded old new h.asked after.asked
  pub front : IsPrefix h.front after.front
  pub moment : judging.judged.place ≡ Control
      → HasMet h.pass.port h.front after.front old new h.asked after.asked

-- The command of the packet was judged in one run, which left the port so. The programs are those that readers saw at
-- one moment of the history, after what the port knew. The command ended at some bank or in the boot window.
pub record IsJudgedInRun (judging : Judging) (p : Cargo) (h after : Standing) : Type 0 where
  pub between : PassValue
  pub reached : List HistoryEntry
  pub moment : IsTakenAtMoment h.front reached between.programs
  pub judgement : IsJudgement h.pass between p judging.judged
  pub program : judging.program ≡ judgement.program
  pub calls : judging.calls ≡ judgement.calls
  pub ended : IsBanked judging (stand between h.asked reached) after
      ⊎ IsWindowEnd judging (stand between h.asked reached) after

-- what became of one packet and of its port: the packet was dropped, answered without a run, or judged
abbrev pub IsDealt : Deed → Cargo → (h after : Standing) → Type 0
IsDealt Dropped p h after = IsDropped p h after
IsDealt (Answered reply) p h after = IsUnjudged reply p h after
IsDealt (Judged judging) p h after = IsJudgedInRun judging p h after

-- one after the other, that became of the packets and of the port
abbrev pub Worked : Standing → List Cargo → List Deed → Standing → Type 0
Worked h [] [] after = after ≡ h
Worked h [] (d ∷ ds) after = ⊥
Worked h (p ∷ ps) [] after = ⊥
Worked h (p ∷ ps) (d ∷ ds) after = (between : Standing) × IsDealt d p h between × Worked between ps ds after

-- Some such deed became of the packet and of the port, with that reply. The packet was no command or not.
pub record HasDealt (p : Cargo) (h after : Standing) (reply : List ℕ) (dropped : Bool) : Type 0 where
  pub deed : Deed
  pub dealt : IsDealt deed p h after
  pub reply_is : reply ≡ reply_in deed
  pub dropped_is : dropped ≡ is_dropped deed
