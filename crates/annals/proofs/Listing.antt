-- What readers see was published.
use Rattle.std.proofs.Common.{◌≡◌, ◌≢◌, ◌⊎◌, ⊎_elim, ℕ, ◌+◌, ◌-◌, ◌<◌, ◌≤◌, ◌==◌, Bool, true, false, MatchBool, List, [], ◌∷◌, ◌++◌, length, refl, ap, sym, ◌∙◌, subst, arith, append_assoc, length-append}
use Rattle.std.specs.Prelude.{take}
use Rattle.std.proofs.lemmas.List.{append-nil}
use Rattle.std.proofs.lemmas.List.Sums.{sum_by-append}
use Rattle.std.proofs.lemmas.Bool.Decides.{nat_tests}
use mathlib.Core.List.{IsPrefix}
use Rattle.node_programs.specs.declared.publishes.Publish.{Publish}
use Rattle.annals.specs.declared.deed.Deed.{Deed}
use Rattle.annals.specs.declared.deed.Deed.TheVariants.{Opens, Does, Asks, Shows}
use Rattle.annals.specs.declared.deed.HistoryEntry.{HistoryEntry}
use Rattle.annals.specs.Chains.{IsDue}
use Rattle.annals.specs.Publishes.{publishes_of}
use Rattle.annals.specs.Shown.{AreListed, IsTakenAtMoment, shown_in, shows}
use Rattle.lemmas.proofs.Prefixes.{prefix_either, prefix_length, prefix_self, prefix_shorter, prefix_trans, prefix_whole}
use Rattle.annals.proofs.Publishings.{publishes_begin}

-- a deed that is due at a chain shows nothing
pub due_quiet : (chain : ℕ) (d : Deed) (log : List HistoryEntry) → IsDue chain d log → shows d ≡ 0
due_quiet chain (Opens x) log due = refl
due_quiet chain (Does a) log due = refl
due_quiet chain (Asks x) log due = refl
due_quiet chain Shows log due = absurd due

pub shown_append : (xs ys : List HistoryEntry) → shown_in (xs ++ ys) ≡ shown_in xs + shown_in ys
shown_append xs ys = sum_by-append (λ (l : HistoryEntry). shows l.deed) xs ys

pub shown_quiet : (log : List HistoryEntry) (e : HistoryEntry) → shows e.deed ≡ 0 → shown_in (log ++ e ∷ []) ≡ shown_in log
shown_quiet log e quiet = omega (arith, shown_append log (e ∷ []), quiet)

pub none_listed : AreListed []
none_listed [] p = omega arith
none_listed (l ∷ ls) p = absurd (cc (p.1))

-- one entry more, at whose end it is so too
pub listed_snoc : (log : List HistoryEntry) (e : HistoryEntry) → shown_in (log ++ e ∷ []) ≤ length (publishes_of (log ++ e ∷ [])) → AreListed log → AreListed (log ++ e ∷ [])
listed_snoc log e end listed before p =
    ⊎_elim (λ (q : IsPrefix before log). listed before q) (λ (q : IsPrefix log before). longer q.0 q.1) (prefix_either before log (log ++ e ∷ []) p (e ∷ [], refl))
  where
    G : List HistoryEntry → Type 0
    G l = shown_in l ≤ length (publishes_of l)

    longer : (rest : List HistoryEntry) → log ++ rest ≡ before → G before
    longer [] is = subst G (sym (append-nil log) ∙ is) (listed log (prefix_self log))
    longer (x ∷ rest) is =
        let size : length (log ++ e ∷ []) ≤ length before = omega (arith, ap length is, length-append log (x ∷ rest), length-append log (e ∷ [])) in
        subst G (sym (prefix_whole before (log ++ e ∷ []) p size)) end

-- an entry that shows nothing
pub listed_quiet : (log : List HistoryEntry) (e : HistoryEntry) → shows e.deed ≡ 0 → AreListed log → AreListed (log ++ e ∷ [])
listed_quiet log e quiet listed =
    let grown = prefix_length (publishes_of log) (publishes_of (log ++ e ∷ [])) (publishes_begin log (log ++ e ∷ []) (e ∷ [], refl)) in
    listed_snoc log e (omega (arith, shown_quiet log e quiet, listed log (prefix_self log), grown)) listed

-- what is so of a history is so of each beginning
pub listed_begins : (xs ys : List HistoryEntry) → IsPrefix xs ys → AreListed ys → AreListed xs
listed_begins xs ys p listed = λ before q. listed before (prefix_trans before xs ys q p)

-- a deed shows one program at most
one_at_most : (l : HistoryEntry) → shown_in (l ∷ []) ≤ 1
one_at_most l = by_deed l.deed where
  by_deed : (d : Deed) → 0 + shows d ≤ 1
  by_deed (Opens x) = omega arith
  by_deed (Does a) = omega arith
  by_deed (Asks x) = omega arith
  by_deed Shows = omega arith

-- the more was seen, the more programs readers saw
pub shown_grows : (xs ys : List HistoryEntry) → IsPrefix xs ys → shown_in xs ≤ shown_in ys
shown_grows xs ys p = omega (arith, ap shown_in p.1, shown_append xs p.0)

-- after a raise readers see the program if they saw the one before it
pub high_enough : (found count before after : ℕ) → 0 < count → before ≤ after → MatchBool (found == count - 1) (after ≡ count - 1 + 1) (after ≡ found) → count ≤ before + 1 → count ≤ after
high_enough found count before after some grown m low = by_test (found == count - 1) refl m
  where
    by_test : (b : Bool) → (found == count - 1) ≡ b → MatchBool b (after ≡ count - 1 + 1) (after ≡ found) → count ≤ after
    by_test true is m = omega (arith, m, some)
    by_test false is m =
        let not : found ≢ count - 1 = λ same. absurd (grind (arith, nat_tests, is, same)) in
        omega (arith, m, grown, low, not, some)

-- a moment at which that many programs were shown
pub record IsMoment (known reached : List HistoryEntry) (count : ℕ) : Type 0 where
  pub at : List HistoryEntry
  pub after : IsPrefix known at
  pub before : IsPrefix at reached
  pub many : shown_in at ≡ count

-- a number between what a beginning shows and what the whole shows is shown at a moment in between
between : (xs more : List HistoryEntry) (k : ℕ) → shown_in xs ≤ k → k ≤ shown_in (xs ++ more) → IsMoment xs (xs ++ more) k
between xs [] k low high = record {
  at = xs;
  after = prefix_self xs;
  before = ([], refl);
  many = omega (arith, low, high, ap shown_in (append-nil xs));
}
between xs (d ∷ more) k low high = by_test (λ one far. between (xs ++ d ∷ []) more k one far) (shown_in xs == k) refl
  where
    by_test : (shown_in (xs ++ d ∷ []) ≤ k → k ≤ shown_in ((xs ++ d ∷ []) ++ more) → IsMoment (xs ++ d ∷ []) ((xs ++ d ∷ []) ++ more) k)
        → (b : Bool) → (shown_in xs == k) ≡ b → IsMoment xs (xs ++ d ∷ more) k
    by_test further true is = record { at = xs; after = prefix_self xs; before = (d ∷ more, refl); many = grind (arith, nat_tests) }
    by_test further false is =
        let not : shown_in xs ≢ k = λ same. absurd (grind (arith, nat_tests, is, same)) in
        let one : shown_in (xs ++ d ∷ []) ≤ k = omega (arith, shown_append xs (d ∷ []), one_at_most d, not, low) in
        let parts : (xs ++ d ∷ []) ++ more ≡ xs ++ d ∷ more = append_assoc xs (d ∷ []) more in
        let rest : IsMoment (xs ++ d ∷ []) ((xs ++ d ∷ []) ++ more) k = further one (subst (λ (l : List HistoryEntry). k ≤ shown_in l) (sym parts) high) in
        record {
          at = rest.at;
          after = prefix_trans xs (xs ++ d ∷ []) rest.at (d ∷ [], refl) rest.after;
          before = subst (λ (l : List HistoryEntry). IsPrefix rest.at l) parts rest.before;
          many = rest.many;
        }

pub between_seen : (xs ys : List HistoryEntry) (k : ℕ) → IsPrefix xs ys → shown_in xs ≤ k → k ≤ shown_in ys → IsMoment xs ys k
between_seen xs ys k p low high =
    subst (λ (l : List HistoryEntry). IsMoment xs l k) p.1 (between xs p.0 k low (subst (λ (l : List HistoryEntry). k ≤ shown_in l) (sym p.1) high))

take_front : {A : Type 0} (xs ys : List A) → take (length xs) (xs ++ ys) ≡ xs
take_front [] ys = refl
take_front (x ∷ xs) ys = ap (λ zs. x ∷ zs) (take_front xs ys)

-- a table of that many programs is what readers saw at that moment
pub taken_at : (known reached table : List HistoryEntry) (count : ℕ) → IsMoment known reached count → AreListed reached → IsPrefix table reached → length (publishes_of table) ≡ count
    → IsTakenAtMoment known reached (publishes_of table)
taken_at known reached table count moment listed begins many =
    let ours = publishes_of table in
    let there = publishes_of moment.at in
    let size : length ours ≤ length there = omega (arith, many, moment.many, listed moment.at moment.before) in
    let front : IsPrefix ours there =
    prefix_shorter ours there (publishes_of reached) (publishes_begin table reached begins) (publishes_begin moment.at reached moment.before) size in
    let seen : take (shown_in moment.at) there ≡ ours =
    ap (λ (k : ℕ). take k there) (moment.many ∙ sym many) ∙ (ap (λ (l : List Publish). take (length ours) l) (sym front.1) ∙ take_front ours front.0) in
    record { at = moment.at; after = moment.after; before = moment.before; seen = seen }
