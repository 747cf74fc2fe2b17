-- The numbers of a port's entries in a chain.
use Rattle.std.proofs.Common.{◌≡◌, Option, Some, None, ℕ, ◌+◌, ◌-◌, ◌<◌, ◌++◌, ◌∷◌, [], List, Bool, true, false, length, get_or, set, zero, refl, sym, ap, ◌∙◌, subst, arith, inl, inr}
use Rattle.std.specs.Prelude.{if◌then◌else◌, map, replicate}
use Rattle.std.specs.Option.{is_some}
use Rattle.bank.specs.Effect.{memory_at}
use Rattle.std.specs.List.{range_with_len}
use Rattle.std.proofs.lemmas.List.{length-set, length-replicate, get_or-replicate, get_or-set_same, get_or-set_other, append-nil}
use Rattle.std.proofs.lemmas.Bool.{cases_eq}
use Rattle.bank.specs.Records.{BankValue, ShareValue, JudgedValue, EntryValue, numbers_of, fits, after_command, after_record, answer_of, has_room, next_share, number_left, JournalValue, fresh_bank}
use Rattle.annals.specs.declared.deed.Act.TheVariants.{Leaves, Sets, Rotates, Publishes}
use Rattle.annals.specs.declared.deed.Deed.{Deed}
use Rattle.annals.specs.declared.deed.Deed.TheVariants.{Opens, Does, Asks, Shows}
use Rattle.annals.specs.declared.deed.HistoryEntry.{HistoryEntry}
use Rattle.annals.specs.Chains.{ChainValue, LineValue, at_bank, chain_of, line_with, link}
use Rattle.annals.specs.Banks.{CountsOn, numbers_at, with_entry, entries_in, entries_of, memory_after, zeros, IsBankKept}
use Rattle.annals.proofs.Dues.{at_append, at_other, at_own, numbers_append, own_snoc}
use Rattle.bank.proofs.Banks.{numbers_of-same, numbers_of-other, range_more}
use Rattle.bank.proofs.Banks.{fitting}

with_append : (d : Deed) (xs ys : List EntryValue) → with_entry d (xs ++ ys) ≡ with_entry d xs ++ ys
with_append (Opens x) xs ys = refl
with_append (Does (Leaves e)) xs ys = refl
with_append (Does (Sets x)) xs ys = refl
with_append (Does (Rotates x)) xs ys = refl
with_append (Does (Publishes x)) xs ys = refl
with_append (Asks x) xs ys = refl
with_append Shows xs ys = refl

entries_snoc : (ls : List HistoryEntry) (k place next : ℕ) (e : EntryValue) → entries_in (ls ++ link k place (Does (Leaves e)) next ∷ []) ≡ entries_in ls ++ e ∷ []
entries_snoc [] k place next e = refl
entries_snoc (m ∷ ls) k place next e = ap (λ (es : List EntryValue). with_entry m.deed es) (entries_snoc ls k place next e) ∙ with_append m.deed (entries_in ls) (e ∷ [])

-- a deed of no command leaves the entries as they are
entries_stay : (ls : List HistoryEntry) (l : HistoryEntry) → with_entry l.deed [] ≡ [] → entries_in (ls ++ l ∷ []) ≡ entries_in ls
entries_stay [] l none = none
entries_stay (m ∷ ls) l none = ap (λ (es : List EntryValue). with_entry m.deed es) (entries_stay ls l none)

-- before the command the port had the entries from 0 up to its share's number
pub numbers_before : (k : ℕ) (old before : List HistoryEntry) (b : BankValue) (s : ShareValue) (j : JudgedValue) → fits b s j ≡ true
    → ((port : ℕ) → port < length b.counts → numbers_of port (entries_of k old) ≡ range_with_len 0 (get_or b.counts port 0))
    → chain_of k before ≡ chain_of k old → numbers_of j.port (entries_of k before) ≡ range_with_len 0 s.number
numbers_before k old before b s j fit counted same =
    let fitted = fitting b s j fit in
    ap (λ (l : List HistoryEntry). numbers_of j.port (entries_in l)) same ∙ (counted j.port fitted.below ∙ ap (λ (n : ℕ). range_with_len 0 n) (sym fitted.number))

pub counts_after : (b : BankValue) (s : ShareValue) (j : JudgedValue) → has_room b j.port ≡ true → (after_command b s j).counts ≡ set b.counts j.port (s.number + 1)
counts_after b s j room = ap (λ (r : Bool). (if r then after_record b s j (answer_of b j) else b).counts) room

pub still_counted : (k place next : ℕ) (old before log : List HistoryEntry) (b : BankValue) (counts : List ℕ) (s : ShareValue) (j : JudgedValue) (e : EntryValue) → fits b s j ≡ true
    → ((port : ℕ) → port < length b.counts → numbers_of port (entries_of k old) ≡ range_with_len 0 (get_or b.counts port 0))
    → chain_of k before ≡ chain_of k old → counts ≡ set b.counts j.port (s.number + 1) → e.port ≡ j.port → e.number ≡ s.number
    → log ≡ before ++ link k place (Does (Leaves e)) next ∷ []
    → (port : ℕ) → port < length counts → numbers_of port (entries_of k log) ≡ range_with_len 0 (get_or counts port 0)
still_counted k place next old before log b counts s j e fit counted same new at number more port below =
    let fitted = fitting b s j fit in
    let ports : length counts ≡ length b.counts = ap (λ (l : List ℕ). length l) new ∙ length-set b.counts j.port (s.number + 1) in
    let within : port < length b.counts = omega arith in
    let all : entries_of k log ≡ entries_of k before ++ e ∷ [] =
    ap (entries_of k) more ∙ (ap entries_in (own_snoc k before (link k place (Does (Leaves e)) next) refl) ∙ entries_snoc (chain_of k before) k place next e) in
    ap (numbers_of port) all ∙ elim (cases_eq j.port port) [
      | inl here ↦
          let count : get_or counts port 0 ≡ s.number + 1 = rw (new, ← here) (get_or-set_same b.counts j.port (s.number + 1) 0 fitted.below) in
          let earlier : numbers_of port (entries_of k before) ≡ range_with_len 0 s.number = rw (← here) (numbers_before k old before b s j fit counted same) in
          numbers_of-same port (entries_of k before) e (at ∙ here) ∙ (ap (λ (l : List ℕ). l ++ e.number ∷ []) earlier ∙ (ap (λ (n : ℕ). range_with_len 0 s.number ++ n ∷ []) number ∙ (range_more 0 s.number s.number (omega arith) ∙ ap (λ (n : ℕ). range_with_len 0 n) (sym count))))
      | inr other ↦
          let count : get_or counts port 0 ≡ get_or b.counts port 0 = rw new (get_or-set_other b.counts j.port port (s.number + 1) 0 (λ e. other (sym e))) in
          numbers_of-other port (entries_of k before) e (λ is. other (sym at ∙ is)) ∙ (ap (λ (l : List HistoryEntry). numbers_of port (entries_in l)) same ∙ (counted port within ∙ ap (λ (n : ℕ). range_with_len 0 n) (sym count)))
    ]

-- the share and the line after an entry
pub counts_on : (k : ℕ) (s after : ShareValue) (line line' : LineValue) (e : EntryValue) → after ≡ record { port = s.port; number = s.number + 1 } → e.number ≡ s.number → line' ≡ line_with line k (Leaves e)
    → CountsOn k s after line line'
counts_on k s after line line' e next number more = record {
  port = ap (λ (x : ShareValue). x.port) next;
  line = ap (λ (l : LineValue). l.port) more;
  elsewhere = λ i apart. ap (λ (l : LineValue). at_bank i l.asked) more ∙ (at_append i line.asked ((k, Leaves e) ∷ []) ∙ (ap (λ (es : List EntryValue). at_bank i line.asked ++ es) (at_other i k (Leaves e) [] apart) ∙ append-nil (at_bank i line.asked)));
  counted = λ was.
      let own : numbers_at k ((k, Leaves e) ∷ []) ≡ s.number ∷ [] = ap (map (λ (x : EntryValue). x.number)) (at_own k e []) ∙ ap (λ (n : ℕ). n ∷ []) number in
      ap (λ (l : LineValue). numbers_at k l.asked) more ∙ (numbers_append k line.asked ((k, Leaves e) ∷ []) ∙ (ap (λ (ns : List ℕ). numbers_at k line.asked ++ ns) own ∙ (ap (λ (ns : List ℕ). ns ++ s.number ∷ []) was ∙ (range_more 0 s.number s.number (omega arith) ∙ ap (λ (x : ShareValue). range_with_len 0 x.number) (sym next)))));
}

-- nothing was asked for
pub counts_same : (k : ℕ) (s after : ShareValue) (line line' : LineValue) → after ≡ s → line' ≡ line → CountsOn k s after line line'
counts_same k s after line line' same still = record {
  port = ap (λ (x : ShareValue). x.port) same;
  line = ap (λ (l : LineValue). l.port) still;
  elsewhere = λ i apart. ap (λ (l : LineValue). at_bank i l.asked) still;
  counted = λ was. ap (λ (l : LineValue). numbers_at k l.asked) still ∙ (was ∙ ap (λ (x : ShareValue). range_with_len 0 x.number) (sym same));
}

pub next_share_is : (b : BankValue) (s : ShareValue) (j : JudgedValue) → has_room b j.port ≡ true → next_share b s j ≡ record { port = s.port; number = s.number + 1 }
next_share_is b s j room = ap (λ (r : Bool). if r then record { port = s.port; number = s.number + 1 } else s) room

-- if no number was left the share stays
pub share_stays : (b : BankValue) (s : ShareValue) (j : JudgedValue) (n : Option ℕ) → n ≡ number_left b s j → is_some n ≡ false → next_share b s j ≡ s
share_stays b s j n left none = go (has_room b j.port) refl where
  go : (r : Bool) → has_room b j.port ≡ r → next_share b s j ≡ s
  go true is = absurd (cc (sym none, ap is_some left, ap (λ (x : Bool). is_some (if x then Some s.number else None)) is))
  go false is = ap (λ (x : Bool). if x then record { port = s.port; number = s.number + 1 } else s) is

-- a bank of zeros is what a chain says that has just begun with it
pub fresh_kept : (b : BankValue) (c : ChainValue) (first size : ℕ) (journal : JournalValue) (ports : ℕ) (extent : ℕ × ℕ) → b ≡ fresh_bank first size journal ports
    → extent.0 ≡ b.first → extent.1 ≡ length b.bytes → memory_after c.number c.log ≡ zeros extent → entries_of c.number c.log ≡ [] → IsBankKept b c
fresh_kept b c first size journal ports extent is at bytes memory entries =
    let here : extent.0 ≡ first = at ∙ ap (λ (v : BankValue). v.first) is in
    let many : extent.1 ≡ size = bytes ∙ (ap (λ (v : BankValue). length v.bytes) is ∙ length-replicate size zero) in
    let begun : zeros extent ≡ memory_at first (replicate size 0) = ap (λ (n : ℕ). memory_at n (replicate extent.1 0)) here ∙ ap (λ (n : ℕ). memory_at first (replicate n 0)) many in
    subst (λ (v : BankValue). IsBankKept v c) (sym is) (record {
      replayed = sym (memory ∙ begun);
      counted = λ port below.
          let within : port < ports = omega (arith, below, length-replicate ports zero) in
          ap (λ (l : List EntryValue). numbers_of port l) entries ∙ ap (λ (n : ℕ). range_with_len 0 n) (sym (get_or-replicate ports port 0 0 within));
    })

-- after a deed of no command the entries are counted as before
pub set_counted : (k : ℕ) (old before log : List HistoryEntry) (l : HistoryEntry) (counts : List ℕ)
    → ((port : ℕ) → port < length counts → numbers_of port (entries_of k old) ≡ range_with_len 0 (get_or counts port 0))
    → chain_of k before ≡ chain_of k old → l.chain ≡ k → with_entry l.deed [] ≡ [] → log ≡ before ++ l ∷ []
    → (port : ℕ) → port < length counts → numbers_of port (entries_of k log) ≡ range_with_len 0 (get_or counts port 0)
set_counted k old before log l counts counted same own none more port below =
    let all : entries_of k log ≡ entries_of k old =
    ap (entries_of k) more ∙ (ap entries_in (own_snoc k before l own) ∙ (entries_stay (chain_of k before) l none ∙ ap entries_in same)) in
    ap (numbers_of port) all ∙ counted port below
