-- A bank's memory is the replay of its chain.
use Rattle.std.proofs.Common.{◌≡◌, ℕ, ◌-◌, Bool, true, false, Option, Some, None, List, [], ◌∷◌, ◌++◌, length, slice_get, refl, ap, sym, ◌∙◌, arith, length-append}
use Rattle.std.specs.Prelude.{fold, if◌then◌else◌}
use Rattle.std.specs.Option.{is_some}
use Rattle.std.proofs.lemmas.Bool.Decides.{nat_tests}
use Rattle.bank.specs.Effect.{Memory}
use Rattle.bank.specs.Answer.{answer}
use Rattle.rmap.specs.Command.{command_of}
use Rattle.rmap.specs.declared.places.Place.{Place}
use Rattle.rmap.specs.declared.places.Place.TheVariants.{Bank, Staging, LoadResult, Control}
use Rattle.bank.specs.Records.{EntryValue, ShareValue, JudgedValue, BankValue, memory_of, answer_of, has_room, after_entry, after_command, after_record, entry_of, number_left, is_place_of}
use Rattle.annals.specs.declared.deed.Act.TheVariants.{Leaves}
use Rattle.annals.specs.declared.deed.Deed.TheVariants.{Does}
use Rattle.annals.specs.declared.deed.HistoryEntry.{HistoryEntry}
use Rattle.annals.specs.Chains.{chain_of, link}
use Rattle.annals.specs.Banks.{zeros, after_deed, after_link, memory_after, answer_after}
use Rattle.annals.proofs.Dues.{own_snoc}

fold_snoc : (m : Memory) (xs : List HistoryEntry) (x : HistoryEntry) → fold after_link m (xs ++ x ∷ []) ≡ after_link (fold after_link m xs) x
fold_snoc m [] x = refl
fold_snoc m (y ∷ ys) x = fold_snoc (after_link m y) ys x

get_snoc : (xs : List EntryValue) (x : EntryValue) → slice_get (xs ++ x ∷ []) (length xs) ≡ Some x
get_snoc [] x = refl
get_snoc (y ∷ ys) x = get_snoc ys x

-- the last of a list that is one longer
pub last_is : (old xs : List EntryValue) (x y : EntryValue) → xs ≡ old ++ x ∷ [] → Some y ≡ slice_get xs (length xs - 1) → y ≡ x
last_is old xs x y is found =
    let place : length xs - 1 ≡ length old = omega (arith, ap length is, length-append old (x ∷ [])) in
    let there : Some y ≡ Some x = found ∙ (ap (λ (k : ℕ). slice_get xs k) place ∙ (ap (λ (l : List EntryValue). slice_get l (length old)) is ∙ get_snoc old x)) in
    cc there

-- if a number was left there was room
pub room_of : (b : BankValue) (s : ShareValue) (j : JudgedValue) (n : Option ℕ) → n ≡ number_left b s j → is_some n ≡ true → has_room b j.port ≡ true
room_of b s j n left some = go (has_room b j.port) refl (ap is_some (sym left) ∙ some) where
  go : (r : Bool) → has_room b j.port ≡ r → is_some (if r then Some s.number else None) ≡ true → has_room b j.port ≡ true
  go true is known = is
  go false is known = absurd (cc known)

pub number_is : (b : BankValue) (s : ShareValue) (j : JudgedValue) → has_room b j.port ≡ true → number_left b s j ≡ Some s.number
number_is b s j room = ap (λ (r : Bool). if r then Some s.number else None) room

pub entries_after : (b : BankValue) (s : ShareValue) (j : JudgedValue) → has_room b j.port ≡ true
    → (after_command b s j).journal.entries ≡ b.journal.entries ++ entry_of s j (answer_of b j).status ∷ []
entries_after b s j room = ap (λ (r : Bool). (if r then after_record b s j (answer_of b j) else b).journal.entries) room

pub same_memory : (k : ℕ) (old before : List HistoryEntry) (b : BankValue) → memory_of b ≡ memory_after k old → chain_of k before ≡ chain_of k old → memory_after k before ≡ memory_of b
same_memory k old before b kept same = ap (λ (l : List HistoryEntry). fold after_link (zeros (0, 0)) l) same ∙ sym kept

-- the answer of a bank is the answer after the history
pub answers : (k : ℕ) (before : List HistoryEntry) (b : BankValue) (j : JudgedValue) → has_room b j.port ≡ true → memory_after k before ≡ memory_of b → answer_of b j ≡ answer_after k before j
answers k before b j room same =
    ap (λ (r : Bool). answer (memory_of b) r (command_of j.packet) j.verdict) room
    ∙ ap (λ (m : Memory). answer m true (command_of j.packet) j.verdict) (sym same)

pub replayed : (k place next : ℕ) (before log : List HistoryEntry) (b new : BankValue) (s : ShareValue) (j : JudgedValue) (entry : EntryValue)
    → memory_after k before ≡ memory_of b → memory_of new ≡ (answer_of b j).memory → entry ≡ entry_of s j (answer_of b j).status
    → log ≡ before ++ link k place (Does (Leaves entry)) next ∷ [] → memory_of new ≡ memory_after k log
replayed k place next before log b new s j entry same memory is more =
    let snoc : memory_after k (before ++ link k place (Does (Leaves entry)) next ∷ []) ≡ after_entry (memory_after k before) entry =
    ap (λ (l : List HistoryEntry). fold after_link (zeros (0, 0)) l) (own_snoc k before (link k place (Does (Leaves entry)) next) refl)
    ∙ fold_snoc (zeros (0, 0)) (chain_of k before) (link k place (Does (Leaves entry)) next) in
    let done : after_entry (memory_of b) (entry_of s j (answer_of b j).status) ≡ (answer_of b j).memory = refl in
    memory ∙ sym (ap (memory_after k) more ∙ (snoc ∙ (ap (λ (m : Memory). after_entry m entry) same ∙ (ap (λ (e : EntryValue). after_entry (memory_of b) e) is ∙ done))))

-- the replay of a chain with one more deed
pub replayed_more : (k : ℕ) (before log : List HistoryEntry) (l : HistoryEntry) (m : Memory) → l.chain ≡ k → memory_after k before ≡ m → log ≡ before ++ l ∷ []
    → memory_after k log ≡ after_deed m l.deed
replayed_more k before log l m own same more =
    ap (memory_after k) more
    ∙ (ap (λ (ls : List HistoryEntry). fold after_link (zeros (0, 0)) ls) (own_snoc k before l own)
    ∙ (fold_snoc (zeros (0, 0)) (chain_of k before) l ∙ ap (λ (x : Memory). after_deed x l.deed) same))

-- a place that is the bank of a number
pub at_place : (k : ℕ) (place : Place) → is_place_of k place ≡ true → place ≡ Bank k
at_place k (Bank n) is =
    let same : n ≡ k = grind (arith, nat_tests, is) in
    ap Bank same
at_place k Staging is = absurd (cc is)
at_place k LoadResult is = absurd (cc is)
at_place k Control is = absurd (cc is)
