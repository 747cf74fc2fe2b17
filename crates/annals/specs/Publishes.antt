-- The publishes in the history of a node.
use Rattle.std.specs.Prelude.{◌≡◌, ℕ, List, [], ◌∷◌, ◌++◌}
use mathlib.Core.List.{IsPrefix}
use Rattle.logbook.specs.Pages.{Book}
use Rattle.bank.specs.Records.{EntryValue}
use Rattle.node_programs.specs.declared.publishes.Publish.{Publish}
use Rattle.annals.specs.declared.deed.Act.{Act}
use Rattle.annals.specs.declared.deed.Act.TheVariants.{Leaves, Sets, Rotates, Publishes}
use Rattle.annals.specs.declared.deed.Deed.{Deed}
use Rattle.annals.specs.declared.deed.Deed.TheVariants.{Opens, Does, Asks, Shows}
use Rattle.annals.specs.declared.deed.HistoryEntry.{HistoryEntry}
use Rattle.annals.specs.Chains.{Due, LineValue, at_bank, at_chain, chain_of, done_for, line_with}

-- the number of the chain of the publishes: the one after the chains of banks
abbrev pub publishes_chain : ℕ
publishes_chain = 8

-- the publish that an act is, if it is one, before those
abbrev pub with_published : Act → List Publish → List Publish
with_published (Leaves entry) publishes = publishes
with_published (Sets setting) publishes = publishes
with_published (Rotates room) publishes = publishes
with_published (Publishes publish) publishes = publish.1 ∷ publishes

-- the publish that a deed is, if it is one, before those
abbrev pub with_publish : Deed → List Publish → List Publish
with_publish (Opens opening) publishes = publishes
with_publish (Does act) publishes = with_published act publishes
with_publish (Asks due) publishes = publishes
with_publish Shows publishes = publishes

-- the publishes among those deeds, in order
abbrev pub publishes_in : List HistoryEntry → List Publish
publishes_in [] = []
publishes_in (l ∷ ls) = with_publish l.deed (publishes_in ls)

-- the programs that were published, in order: the place of each is its generation
abbrev pub publishes_of : List HistoryEntry → List Publish
publishes_of log = publishes_in (chain_of publishes_chain log)

-- the publishes among those acts, in order
abbrev pub published_in : List Act → List Publish
published_in [] = []
published_in (act ∷ acts) = with_published act (published_in acts)

-- the publishes that are asked for
abbrev pub loads_in : List Due → List Publish
loads_in dues = published_in (at_chain publishes_chain dues)

-- those of a line's owner, in order
abbrev pub loads_by : ℕ → List HistoryEntry → List Publish
loads_by owner log = loads_in (done_for owner log)

-- the line, and after what it asked for the publish of its owner
abbrev pub line_loading : LineValue → Publish → LineValue
line_loading line publish = line_with line publishes_chain (Publishes (line.port, publish))

-- a beginning of the history of that book
pub record BeginningValue : Type 0 where
  pub book : Book
  pub log : List HistoryEntry

-- what begins a history has the publishes that begin the history's
abbrev pub PublishesGrow : Type 0
PublishesGrow = (known reached : List HistoryEntry) → IsPrefix known reached → IsPrefix (publishes_of known) (publishes_of reached)

-- a publish is no entry: what a line asked for at banks stays
abbrev pub LoadsAreNoEntries : Type 0
LoadsAreNoEntries =
    (bank : ℕ) (line : LineValue) (publish : Publish)
    → at_bank bank (line_loading line publish).asked ≡ at_bank bank line.asked

-- an entry is no publish: the publishes that are asked for stay
abbrev pub EntriesAreNoLoads : Type 0
EntriesAreNoLoads =
    (bank : ℕ) (dues : List Due) (entry : EntryValue) → loads_in (dues ++ (bank, Leaves entry) ∷ []) ≡ loads_in dues

-- the publishes that are asked for have one more
abbrev pub LoadsAreListed : Type 0
LoadsAreListed =
    (owner : ℕ) (dues : List Due) (publish : Publish)
    → loads_in (dues ++ (publishes_chain, Publishes (owner, publish)) ∷ []) ≡ loads_in dues ++ publish ∷ []
