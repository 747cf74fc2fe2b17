-- The rule of the history, and what the steps say that show programs to readers.
use Rattle.std.specs.Prelude.{ℕ, ◌≡◌, ◌<◌, ◌≤◌, ◌+◌, ◌==◌, List, [], length, MatchBool}
use Rattle.logbook.specs.Pages.{Cell, cell, Step, View}
use Rattle.annals.specs.declared.deed.Deed.TheVariants.{Shows}
use Rattle.annals.specs.declared.deed.HistoryEntry.{HistoryEntry}
use Rattle.annals.specs.Chains.{AreAskedBefore, AreHome, IsHome, chain_of, link}
use Rattle.annals.specs.Shown.{AreListed, shown_in}

-- the key of the word that counts the programs which readers see: the one after the words of the chains
abbrev pub shown_word : ℕ
shown_word = 42

-- The words of the 42 chains are at home, and a chain whose word is 0 has no entry. Of each chain, what each entry
-- except the last names was used. What was done was asked for. One word more is how many programs readers see, and
-- these were published.
pub record AreChained (cells : List Cell) (log : List HistoryEntry) : Type 0 where
  pub row : 43 ≤ length cells
  pub homes : (c : ℕ) → c < 42 → IsHome cells c
  pub begun : (c : ℕ) → c < 42 → (cell cells c).0 ≡ 0 → chain_of c log ≡ []
  pub used : (c : ℕ) → c < 42 → AreHome cells (chain_of c log)
  pub asked : AreAskedBefore log
  pub home : IsHome cells shown_word
  pub shown : (cell cells shown_word).0 ≡ shown_in log
  pub listed : AreListed log

-- what a step adds that shows one more program: a deed of no chain
abbrev pub showing : HistoryEntry
showing = link shown_word 0 Shows shown_word

-- the history so far was seen, and how many programs readers see at its end
abbrev pub Counts : Step HistoryEntry → View HistoryEntry ℕ → ℕ → View HistoryEntry ℕ → Type 0
Counts s v found w = shown_in w.0 ≡ found

-- readers see one program more, or they saw another number of them
abbrev pub Raises : Step HistoryEntry → View HistoryEntry ℕ → ℕ → View HistoryEntry ℕ → Type 0
Raises s v found w = MatchBool (found == s.old) (shown_in w.0 ≡ s.old + 1) (shown_in w.0 ≡ found)
