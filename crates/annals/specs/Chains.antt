-- The rule of one history for all banks of a node. Each bank has a chain in it: each entry of a chain names the cell
-- whose pen adds the next entry of that chain. The chain of a bank has the number of the bank, and a word of that key.
-- One chain more has the publishes of programs. Each port has a chain too, its line, and so has the instrument. There
-- each asks for what it does at the other chains before that is done.
use Rattle.std.specs.Prelude.{ℕ, ◌≡◌, ◌<◌, ◌+◌, ◌==◌, true, List, [], ◌∷◌, ◌++◌, length, map, MatchBool, if◌then◌else◌}
use Rattle.std.specs.List.{filter}
use mathlib.Core.List.{IsPrefix}
use Rattle.logbook.specs.Pages.{Cell, cell, Step, View, Book, Named, Nib, may_make, may_write}
use Rattle.bank.specs.Records.{EntryValue}
use Rattle.annals.specs.declared.deed.Act.{Act}
use Rattle.annals.specs.declared.deed.Act.TheVariants.{Leaves, Sets, Rotates, Publishes}
use Rattle.annals.specs.declared.deed.Deed.{Deed}
use Rattle.annals.specs.declared.deed.Deed.TheVariants.{Opens, Does, Asks, Shows}
use Rattle.annals.specs.declared.deed.HistoryEntry.{HistoryEntry}

-- that deed, which is the one of that place of its chain, and after which the pen of that cell adds
abbrev pub link : (chain place : ℕ) → Deed → ℕ → HistoryEntry
link chain place deed next = record { chain = chain; place = place; deed = deed; next = next }

-- what a step asks that adds nothing
abbrev pub blank : HistoryEntry
blank = link 0 0 (Opens (0, 0, 0)) 0

-- the entries of a chain
abbrev pub chain_of : ℕ → List HistoryEntry → List HistoryEntry
chain_of c log = filter (λ (l : HistoryEntry). l.chain == c) log

-- The number of the instrument's line. Those of ports are below it.
abbrev pub instrument : ℕ
instrument = 32

-- whose act it is, by the number of the line: a port's, or the instrument's
abbrev pub owner_of : Act → ℕ
owner_of (Leaves entry) = entry.port
owner_of (Sets setting) = instrument
owner_of (Rotates room) = instrument
owner_of (Publishes publish) = publish.0

-- an act, after the number of the chain at which it is done
abbrev pub Due : Type 0
Due = ℕ × Act

-- what a deed asks for, if anything, before those
abbrev pub with_asked : Deed → List Due → List Due
with_asked (Opens opening) dues = dues
with_asked (Does act) dues = dues
with_asked (Asks due) dues = due ∷ dues
with_asked Shows dues = dues

-- what is asked for, in order
abbrev pub asked_in : List HistoryEntry → List Due
asked_in [] = []
asked_in (l ∷ ls) = with_asked l.deed (asked_in ls)

-- The chain that is a line. Those of eight banks and one for what is published come before, and the instrument's is the
-- first.
abbrev pub line_chain_of : ℕ → ℕ
line_chain_of owner = if owner == instrument then 9 else 10 + owner

-- what was asked for in a line, in order
abbrev pub asked_by : ℕ → List HistoryEntry → List Due
asked_by owner log = asked_in (chain_of (line_chain_of owner) log)

-- the act of that line's owner that a deed of that chain did, if any, before those
abbrev pub with_done : (owner chain : ℕ) → Deed → List Due → List Due
with_done owner chain (Opens opening) dues = dues
with_done owner chain (Does act) dues = if owner_of act == owner then (chain, act) ∷ dues else dues
with_done owner chain (Asks due) dues = dues
with_done owner chain Shows dues = dues

-- what a line's owner did at all chains, in order
abbrev pub done_for : ℕ → List HistoryEntry → List Due
done_for owner [] = []
done_for owner (l ∷ ls) = with_done owner l.chain l.deed (done_for owner ls)

-- of those, the acts at that chain
abbrev pub at_chain : ℕ → List Due → List Act
at_chain chain dues = map (λ (d : Due). d.1) (filter (λ (d : Due). d.0 == chain) dues)

-- the entry that an act leaves, if it leaves one, before those
abbrev pub with_left : Act → List EntryValue → List EntryValue
with_left (Leaves entry) entries = entry ∷ entries
with_left (Sets setting) entries = entries
with_left (Rotates room) entries = entries
with_left (Publishes publish) entries = entries

-- the entries that those acts leave, in order
abbrev pub left_in : List Act → List EntryValue
left_in [] = []
left_in (act ∷ acts) = with_left act (left_in acts)

-- the entries that are asked for at that bank
abbrev pub at_bank : ℕ → List Due → List EntryValue
at_bank bank dues = left_in (at_chain bank dues)

-- The deed may be the next at that chain. An act must be the next one that its owner asked for, and no chain shows
-- programs.
abbrev pub IsDue : ℕ → Deed → List HistoryEntry → Type 0
IsDue chain (Opens opening) log = Unit {0}
IsDue chain (Does act) log = asked_by (owner_of act) log ≡ done_for (owner_of act) log ++ (chain, act) ∷ []
IsDue chain (Asks due) log = Unit {0}
IsDue chain Shows log = ⊥

-- each owner of a line asked for its acts before they were done, in that order, each once
abbrev pub AreAskedBefore : List HistoryEntry → Type 0
AreAskedBefore log = (owner : ℕ) → IsPrefix (done_for owner log) (asked_by owner log)

-- what begins a history has of each line's owner the acts that begin those which the history has of that owner
abbrev pub ActsGrow : Type 0
ActsGrow =
    (owner : ℕ) (known reached : List HistoryEntry) → IsPrefix known reached → IsPrefix (done_for owner known) (done_for owner reached)

-- the cell whose pen adds to the chain
abbrev pub next_of : List HistoryEntry → ℕ
next_of [] = 0
next_of (l ∷ []) = l.next
next_of (l ∷ m ∷ ls) = next_of (m ∷ ls)

-- the cell is at home: its pen was used
abbrev pub IsHome : List Cell → ℕ → Type 0
IsHome cells key = (cell cells key).1 ≡ true

-- each entry but the last names a cell that is at home
abbrev pub AreHome : List Cell → List HistoryEntry → Type 0
AreHome cells [] = Unit {0}
AreHome cells (l ∷ []) = Unit {0}
AreHome cells (l ∷ m ∷ ls) = IsHome cells l.next × AreHome cells (m ∷ ls)

-- the word of a chain
abbrev pub chain_word_of : Book → ℕ → Named
chain_word_of b c = record { tracked = true; key = c; book = b }

-- a chain: its number, and how far its owner has seen the history, which is all of it that is of the chain
pub record ChainValue : Type 0 where
  pub number : ℕ
  pub log : List HistoryEntry

-- the word is the chain's, and the pen is of the cell that the last entry of the chain names
pub record IsChainHeld (home : Book) (word : Named) (pens : Book) (nib : Nib) (seen : Book) (log : List HistoryEntry) : Type 0 where
  pub word_is : word ≡ chain_word_of home word.key
  pub few : word.key < 42
  pub book : pens ≡ home
  pub seen_is : seen ≡ home
  pub right : nib.right ≡ may_write
  pub key : nib.key ≡ next_of (chain_of word.key log)
  pub some : 0 < length (chain_of word.key log)

-- a line: its number, which is a port's or the instrument's, and what was asked for in it, all of which was done
pub record LineValue : Type 0 where
  pub port : ℕ
  pub asked : List Due

-- The chain is the line of that number. When that was reached, all that it asks for had been done.
pub record IsLineChain (owner : ℕ) (chain : ChainValue) (reached : List HistoryEntry) : Type 0 where
  pub number : chain.number ≡ line_chain_of owner
  pub left : IsPrefix (asked_by owner chain.log) (done_for owner reached)

-- the line, and after what it asked for that act at that chain
abbrev pub line_with : LineValue → (chain : ℕ) → Act → LineValue
line_with line chain act = record { port = line.port; asked = line.asked ++ (chain, act) ∷ [] }

-- somebody has seen a beginning of a history of which the chain is whole, and what had been done was asked for
pub record IsChainWhole (chain : ChainValue) (front : List HistoryEntry) : Type 0 where
  pub log : List HistoryEntry
  pub seen : IsPrefix front log
  pub whole : chain_of chain.number log ≡ chain_of chain.number chain.log
  pub asked : AreAskedBefore log

-- The deed is the last of a history that goes on from what was known. It is the next one of the chain of that number.
pub record IsLastDeed (bank : ℕ) (known reached : List HistoryEntry) (deed : Deed) : Type 0 where
  pub before : List HistoryEntry
  pub next : ℕ
  pub log : reached ≡ before ++ link bank (length (chain_of bank before)) deed next ∷ []
  pub seen : IsPrefix known before

-- the step gave a right to make a word of a new cell
abbrev pub Draws : Step HistoryEntry → View HistoryEntry ℕ → ℕ → View HistoryEntry ℕ → Type 0
Draws s v found w = w.1.0.right ≡ may_make

-- The deed was added to a chain, all of which is before it. What had been done was asked for.
pub record IsLastOf (chain : ChainValue) (known reached : List HistoryEntry) (deed : Deed) : Type 0 where
  pub last : IsLastDeed chain.number known reached deed
  pub whole : chain_of chain.number last.before ≡ chain_of chain.number chain.log
  pub asked : AreAskedBefore last.before

-- Before it is all that was seen, and that many entries of its chain. What had been done was asked for.
pub record IsEntryAdded (v w : List HistoryEntry) (e : HistoryEntry) : Type 0 where
  pub before : List HistoryEntry
  pub log : w ≡ before ++ e ∷ []
  pub seen : IsPrefix v before
  pub place : length (chain_of e.chain before) ≡ e.place
  pub asked : AreAskedBefore before

-- the same, and its chain had none before it
pub record IsFirstOfChain (v w : List HistoryEntry) (e : HistoryEntry) : Type 0 where
  pub added : IsEntryAdded v w e
  pub none : chain_of e.chain added.before ≡ []

-- the chain had no entry, and has this one, or it had one already
abbrev pub Begins : Step HistoryEntry → View HistoryEntry ℕ → ℕ → View HistoryEntry ℕ → Type 0
Begins s v found w = MatchBool (found == s.old) (IsFirstOfChain v.0 w.0 s.ask) (Unit {0})

-- the entry was added
abbrev pub Adds : Step HistoryEntry → View HistoryEntry ℕ → ℕ → View HistoryEntry ℕ → Type 0
Adds s v found w = IsEntryAdded v.0 w.0 s.ask

-- The chain is as long as was asked, and the pen is as it was. What had been done was asked for.
abbrev pub Looks : Step HistoryEntry → View HistoryEntry ℕ → ℕ → View HistoryEntry ℕ → Type 0
Looks s v found w = (length (chain_of s.ask.chain w.0) ≡ s.ask.place) × (w.1.0 ≡ v.1.0) × AreAskedBefore w.0
