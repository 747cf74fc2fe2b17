-- The steps that read and raise how many programs readers see keep the rule.
use Rattle.std.proofs.Common.{◌≡◌, ◌≢◌, ℕ, ◌+◌, ◌<◌, ◌≤◌, ◌==◌, Bool, true, false, List, [], ◌∷◌, ◌++◌, length, refl, ap, sym, ◌∙◌, arith, inl, None, slice_set}
use Rattle.std.proofs.lemmas.List.{append-nil, get_or-set_same, get_or-set_other}
use Rattle.std.proofs.lemmas.Bool.Decides.{nat_tests}
use mathlib.Core.List.{IsPrefix}
use prog.Atomic.{either}
use Rattle.logbook.specs.Pages.{Cell, cell, keeps, no_nib, step, Moves, Goes}
use Rattle.annals.specs.declared.deed.HistoryEntry.{HistoryEntry}
use Rattle.annals.specs.Chains.{chain_of}
use Rattle.annals.specs.Publishes.{publishes_of}
use Rattle.annals.specs.Rule.{AreChained, Counts, Raises, shown_word, showing}
use Rattle.annals.specs.Shown.{shown_in}
use Rattle.lemmas.proofs.Prefixes.{prefix_length}
use Rattle.annals.proofs.Dues.{none_asked}
use Rattle.annals.proofs.Listing.{listed_snoc, shown_append}
use Rattle.annals.proofs.Publishings.{publishes_begin}
use Rattle.annals.proofs.Turns.{moved, other_snoc, same_cell, set_home, set_length, shown, still_home}

pub counts_moves : (v : List HistoryEntry) (e : HistoryEntry)
    → Moves AreChained shown moved shown_word (v, (no_nib, None)) (λ n. n) (Counts (step shown_word 0 0 e) (v, (no_nib, None)))
counts_moves v e cs log kept pre away =
    let all : log ++ [] ≡ log = append-nil log in (
      omega (arith, kept.row),
      kept.home,
      (
        keeps,
        [],
        None,
        tt,
        rw (same_cell cs shown_word (cell cs shown_word).0 kept.home refl, all) kept,
        inl (refl, ap shown all),
        ap shown_in all ∙ sym kept.shown,
      ),
    )

-- one program more is shown
raise_kept : (cs : List Cell) (log : List HistoryEntry) (n : ℕ) → n ≡ shown_in log + 1 → n ≤ length (publishes_of log) → AreChained cs log
    → AreChained (slice_set cs shown_word (n, true)) (log ++ showing ∷ [])
raise_kept cs log n next low kept =
    let ds = slice_set cs shown_word (n, true) in
    let more : shown_in (log ++ showing ∷ []) ≡ n = omega (arith, shown_append log (showing ∷ []), next) in
    let grown = prefix_length (publishes_of log) (publishes_of (log ++ showing ∷ [])) (publishes_begin log (log ++ showing ∷ []) (showing ∷ [], refl)) in
    record {
      row = omega (arith, kept.row, set_length cs shown_word (n, true));
      homes = λ c few. set_home cs shown_word n c (kept.homes c few);
      begun = λ c few is. other_snoc c log showing (apart c few) ∙ kept.begun c few (sym (ap (λ (d : Cell). d.0) (get_or-set_other cs shown_word c (n, true) (0, false) (λ same. apart c few (sym same)))) ∙ is);
      used = λ c few. rw (other_snoc c log showing (apart c few)) (still_home cs ds (chain_of c log) (λ j home. set_home cs shown_word n j home) (kept.used c few));
      asked = none_asked log showing (λ owner. refl) kept.asked;
      home = set_home cs shown_word n shown_word kept.home;
      shown = ap (λ (d : Cell). d.0) (get_or-set_same cs shown_word (n, true) (0, false) (omega (arith, kept.row))) ∙ sym more;
      listed = listed_snoc log showing (omega (arith, more, low, grown)) kept.listed;
    }
  where
    apart : (c : ℕ) → c < 42 → shown_word ≢ c
    apart c few same = absurd (omega (arith, few, same))

raise_goes : (cs : List Cell) (log v : List HistoryEntry) (old new : ℕ) → new ≡ old + 1 → new ≤ length (publishes_of v) → IsPrefix v log → AreChained cs log
    → (b : Bool) → ((cell cs shown_word).0 == old) ≡ b
    → Goes AreChained shown moved shown_word (v, (no_nib, None)) (λ n. either (n == old) new n) (Raises (step shown_word old new showing) (v, (no_nib, None))) cs log
raise_goes cs log v old new next low pre kept true is =
    let here : (cell cs shown_word).0 ≡ old = grind (arith, nat_tests, is) in
    let many : new ≡ shown_in log + 1 = omega (arith, next, here, kept.shown) in
    let grown = prefix_length (publishes_of v) (publishes_of log) (publishes_begin v log pre) in
    let more : shown_in (log ++ showing ∷ []) ≡ old + 1 = omega (arith, shown_append log (showing ∷ []), here, kept.shown) in (
      keeps,
      showing ∷ [],
      None,
      tt,
      rw is (raise_kept cs log new many (omega (arith, low, grown)) kept),
      inl (refl, refl),
      rw is more,
    )
raise_goes cs log v old new next low pre kept false is =
    let all : log ++ [] ≡ log = append-nil log in (
      keeps,
      [],
      None,
      tt,
      rw (is, same_cell cs shown_word (cell cs shown_word).0 kept.home refl, all) kept,
      inl (refl, ap shown all),
      rw is (ap shown_in all ∙ sym kept.shown),
    )

pub raise_moves : (v : List HistoryEntry) (old new : ℕ) → new ≡ old + 1 → new ≤ length (publishes_of v)
    → Moves AreChained shown moved shown_word (v, (no_nib, None)) (λ n. either (n == old) new n) (Raises (step shown_word old new showing) (v, (no_nib, None)))
raise_moves v old new next low cs log kept pre away =
    (omega (arith, kept.row), kept.home, raise_goes cs log v old new next low pre kept ((cell cs shown_word).0 == old) refl)
