-- Each step on the words keeps their rule.
use Rattle.std.proofs.Common.{◌≡◌, ◌≢◌, ℕ, ◌+◌, ◌-◌, ◌%◌, ◌^◌, ◌<◌, List, [], ◌∷◌, ◌++◌, length, set, max, refl, sym, ap, ◌∙◌, subst, ⊎_elim, arith}
use Rattle.std.specs.Prelude.{All, sum, sum_by, cond, slice_index}
use Rattle.std.proofs.lemmas.List.{length-set, get_or-set_same, get_or-set_other, set-get_or}
use Rattle.std.proofs.lemmas.List.Sums.{sum_by-append}
use Rattle.std.proofs.lemmas.List.Elements.{All-nil, All-append}
use Rattle.std.proofs.lemmas.Bool.{le-ltb}
use Rattle.std.proofs.lemmas.Bool.Decides.{eqb_tells}
use mathlib.Core.Option.{some, none, some-ne-none}
use lib.ListN.{get_elem?}
use Rattle.atomic_table.specs.Table.{State, Me, step, keeps, opening, Allows, Splits, Joins}
use Rattle.atomic_table.proofs.Lists.{at_set, at_snoc, set_again}
use Rattle.machine.specs.declared.helpers.Helper.{Helper}
use Rattle.machine.specs.declared.helpers.Helper.TheVariants as helpers
use Rattle.cells.specs.declared.logs.Answer.{Answer}
use Rattle.cells.specs.declared.logs.SeatLog.{SeatLog}
use Rattle.machine.specs.Sizes.{Maps}
use Rattle.machine.specs.declared.kinds.MapKind.{MapKind}
use Rattle.machine.specs.declared.kinds.MapKind.TheVariants.{Counter, Peak}
use Rattle.cells.specs.Logs.{answer_of_parts, ticket_numbers, kind_of_cell, IsBelowCount, IsUnder}
use Rattle.cells.specs.Counting.{seat_log, spent_log, all_answers, IsTicketCounted, IsPeak, IsWordOf, IsCellTable, IsWordAnswered, LogsAnswer, AnswersFound, RaisesWord, ReportsTickets, ReportsPeak}
use Rattle.cells.proofs.Lists.{sum_set, sum_answers_set, answers_snoc, no_answers, all_front, all_back, of_log, after_set}
use Rattle.cells.proofs.Counted.{AreAlike, counted_alike, counted_other, counted_count, counted_ticket}
use Rattle.cells.proofs.Raised.{peak_alike, peak_other, peak_counted, peak_raised, under_greater}

abbrev Table : Type 0
Table = State (Unit {0}) SeatLog

abbrev table : List ℕ → Table → List SeatLog → Table
table words s views = record { words = words; homes = s.homes; views = views }

parts_of : SeatLog → ℕ
parts_of h = h.parts

-- a word that is something to some answers is the same to them in another order
word_alike : (kind : MapKind) (word value : ℕ) (ds es : List Answer) → AreAlike ds es
    → ((P : Answer → Type 0) → All P ds → All P es) → IsWordOf kind word value ds → IsWordOf kind word value es
word_alike Counter word value ds es same facts h = counted_alike word value ds es same facts h
word_alike Peak word value ds es same facts h = peak_alike word value ds es same facts h

-- an answer of another word
word_other : (kind : MapKind) (word value : ℕ) (ds : List Answer) (d : Answer) → d.word ≢ word → IsWordOf kind word value ds → IsWordOf kind word value (ds ++ d ∷ [])
word_other Counter word value ds d apart h = counted_other word value ds d apart h
word_other Peak word value ds d apart h = peak_other word value ds d apart h

-- a word of 0 without answers
word_at_first : (kind : MapKind) (word value : ℕ) → value ≡ 0 → IsWordOf kind word value []
word_at_first Counter word value zero = record {
  counts = zero;
  each_once = λ number. sym (ap (λ b. cond b 1 0) (le-ltb number 0 (omega arith)));
  following = All-nil _;
}
word_at_first Peak word value zero = record { under = All-nil _; reached = λ p. absurd (omega arith) }

-- the words with one answer more
words_after : (kind : ℕ → MapKind) (s : Table) (word value : ℕ) (d : Answer) → word < length s.words → d.word ≡ word
    → IsWordOf (kind word) word value (all_answers s.views ++ d ∷ [])
    → ((k : ℕ) → k < length s.words → IsWordOf (kind k) k (slice_index s.words k) (all_answers s.views))
    → (k : ℕ) → k < length (set s.words word value) → IsWordOf (kind k) k (slice_index (set s.words word value) k) (all_answers s.views ++ d ∷ [])
words_after kind s word value d inside here new cells k below =
    let long = length-set s.words word value in
    ⊎_elim
    (λ t. let same : k ≡ word = t.1 in
    subst (λ (j : ℕ). IsWordOf (kind j) j (slice_index (set s.words word value) j) (all_answers s.views ++ d ∷ [])) (sym same)
    (subst (λ (x : ℕ). IsWordOf (kind word) word x (all_answers s.views ++ d ∷ [])) (sym (get_or-set_same s.words word value 0 inside)) new))
    (λ t. let apart : k ≢ word = t.1 in
    subst (λ (x : ℕ). IsWordOf (kind k) k x (all_answers s.views ++ d ∷ [])) (sym (get_or-set_other s.words word k value 0 apart))
    (word_other (kind k) k (slice_index s.words k) (all_answers s.views) d (λ e. apart (sym e ∙ here)) (cells k (omega arith))))
    (eqb_tells k word)

-- the table with one answer more
answers_more : (maps : Maps) (s : Table) (seat : ℕ) (v : SeatLog) (word value : ℕ) (d : Answer) → IsCellTable maps s → get_elem? s.views seat ≡ some v → 0 < v.parts
    → word < length s.words → d.word ≡ word → IsWordOf (kind_of_cell maps word) word value (all_answers s.views ++ d ∷ [])
    → IsCellTable maps (table (set s.words word value) s (set s.views seat (seat_log v.maps v.parts (v.answers ++ d ∷ []))))
answers_more maps s seat v word value d h at part inside here new =
    let w : SeatLog = seat_log v.maps v.parts (v.answers ++ d ∷ []) in
    let ds = all_answers s.views in record {
      words = length-set s.words word value ∙ h.words;
      parts = (let e = sum_set (λ (u : SeatLog). u.parts) s.views seat v w at in let p = h.parts in omega arith);
      idle = λ j u e without. ⊎_elim
          (λ (t : (j ≡ seat) × (w ≡ u)). let same : v.parts ≡ u.parts = ap (λ (x : SeatLog). x.parts) t.1 in absurd (omega arith))
          (λ (t : (j ≢ seat) × (get_elem? s.views j ≡ some u)). h.idle j u t.1 without)
          (at_set s.views seat j w u e);
      cells = λ k below. word_alike (kind_of_cell maps k) k (slice_index (set s.words word value) k) (ds ++ d ∷ []) (all_answers (set s.views seat w))
          (λ f. let e = sum_answers_set f s.views seat v w at in omega (arith, sum_by-append f v.answers (d ∷ []), sum_by-append f ds (d ∷ [])))
          (λ P all. let old = all_front P ds (d ∷ []) all in
          after_set P s.views seat w (All-append P v.answers (d ∷ []) (of_log P s.views seat v at old) (all_back P ds (d ∷ []) all)) old)
          (words_after (kind_of_cell maps) s word value d inside here new h.cells k below);
    }

-- One answer more of a word of that kind. The word goes on as the rule says, and so do the answers of whoever asked.
-- What is so of all answers is so of these.
record Goes (kind : MapKind) (helper : Helper) (word argument answer after : ℕ) (ds : List Answer) : Type 1 where
  exact : ℕ
  word_goes : IsWordOf kind word after (ds ++ answer_of_parts helper word argument exact answer ∷ [])
  answers_go : (mine : List Answer) → ((P : Answer → Type 0) → All P ds → All P mine)
      → IsWordAnswered kind helper word argument mine answer (mine ++ answer_of_parts helper word argument exact answer ∷ [])

-- a step that answers a call of a word, if each word of its kind goes on so
goes_on : (more answer : ℕ → ℕ) (helper : Helper) (argument first slots seat word : ℕ) (me : Me (Unit {0}) SeatLog) → 0 < me.0.parts → word < sum me.0.maps.cells
    → ((found : ℕ) (ds : List Answer) → IsWordOf (kind_of_cell me.0.maps word) word found ds → Goes (kind_of_cell me.0.maps word) helper word argument (answer found) (more found) ds)
    → Allows (IsCellTable me.0.maps) slots seat me word more (λ found after. LogsAnswer helper argument (answer found) (step slots word first 0 none) me after)
goes_on more answer helper argument first slots seat word me part below goes s h len at fits =
    let v : SeatLog = me.0 in
    let found = slice_index s.words word in
    let inside : word < length s.words = (let long = h.words in omega arith) in
    let g = goes found (all_answers s.views) (h.cells word inside) in
    let d : Answer = answer_of_parts helper word argument g.exact (answer found) in (
      seat_log v.maps v.parts (v.answers ++ d ∷ []),
      keeps,
      tt,
      answers_more v.maps s seat v word (more found) d h at part inside refl g.word_goes,
      record { answered = g.answers_go v.answers (λ P all. of_log P s.views seat v at all); maps = refl; parts = refl; slots = refl },
    )

-- `count` of a word
count_goes : (kind : MapKind) (word found : ℕ) (ds : List Answer) → IsWordOf kind word found ds → Goes kind helpers.Count word 0 found found ds
count_goes Counter word found ds h =
    let n = length (ticket_numbers word ds) in record {
      exact = n;
      word_goes = counted_count word found found ds h;
      answers_go = λ mine facts. record { exact = n; wraps = h.counts; rising = facts (IsBelowCount word n) h.following; answers = refl };
    }
count_goes Peak word found ds h = record {
  exact = found;
  word_goes = peak_counted word found ds h;
  answers_go = λ mine facts. record { raised = omega arith; rising = facts (IsUnder word found) h.under; answers = refl };
}

-- `ticket` of a word of a counter map
ticket_goes : (kind : MapKind) (word found : ℕ) (ds : List Answer) → kind ≡ Counter → IsWordOf kind word found ds → Goes kind helpers.Ticket word 0 found ((found + 1) % 2 ^ 64) ds
ticket_goes Counter word found ds is h =
    let n = length (ticket_numbers word ds) in record {
      exact = n;
      word_goes = counted_ticket word found found ds h;
      answers_go = λ mine facts. record { exact = n; wraps = h.counts; rising = facts (IsBelowCount word n) h.following; answers = refl };
    }
ticket_goes Peak word found ds is h = absurd cc

-- `peak` of a word of a peak map
peak_goes : (kind : MapKind) (word argument found : ℕ) (ds : List Answer) → kind ≡ Peak → IsWordOf kind word found ds → Goes kind helpers.Peak word argument (max found argument) (max found argument) ds
peak_goes Counter word argument found ds is h = absurd cc
peak_goes Peak word argument found ds is h = record {
  exact = max found argument;
  word_goes = peak_raised word found argument ds h;
  answers_go = λ mine facts. record { raised = omega arith; rising = under_greater word found argument mine (facts (IsUnder word found) h.under); answers = refl };
}

-- an answer of `count`
pub counts : (slots seat word : ℕ) (me : Me (Unit {0}) SeatLog) → 0 < me.0.parts → word < sum me.0.maps.cells
    → Allows (IsCellTable me.0.maps) slots seat me word (λ n. n) (AnswersFound helpers.Count (step slots word 0 0 none) me)
counts slots seat word me part below =
    goes_on (λ n. n) (λ n. n) helpers.Count 0 0 slots seat word me part below (λ found ds h. count_goes (kind_of_cell me.0.maps word) word found ds h)

-- an answer of `ticket`
pub draws_one : (slots seat word : ℕ) (me : Me (Unit {0}) SeatLog) → kind_of_cell me.0.maps word ≡ Counter → 0 < me.0.parts → word < sum me.0.maps.cells
    → Allows (IsCellTable me.0.maps) slots seat me word (λ n. (n + 1) % 2 ^ 64) (AnswersFound helpers.Ticket (step slots word 1 0 none) me)
draws_one slots seat word me kind part below =
    goes_on (λ n. (n + 1) % 2 ^ 64) (λ n. n) helpers.Ticket 0 1 slots seat word me part below (λ found ds h. ticket_goes (kind_of_cell me.0.maps word) word found ds kind h)

-- an answer of `peak`
pub raises : (slots seat word argument : ℕ) (me : Me (Unit {0}) SeatLog) → kind_of_cell me.0.maps word ≡ Peak → 0 < me.0.parts → word < sum me.0.maps.cells
    → Allows (IsCellTable me.0.maps) slots seat me word (λ n. max n argument) (RaisesWord (step slots word argument 0 none) me)
raises slots seat word argument me kind part below =
    goes_on (λ n. max n argument) (λ n. max n argument) helpers.Peak argument argument slots seat word me part below
    (λ found ds h. peak_goes (kind_of_cell me.0.maps word) word argument found ds kind h)

-- who has all parts has all answers
whole : (logs : List SeatLog) (seat : ℕ) (v : SeatLog) → get_elem? logs seat ≡ some v → sum_by (λ (u : SeatLog). u.parts) logs ≡ 256
    → ((j : ℕ) (u : SeatLog) → get_elem? logs j ≡ some u → u.parts ≡ 0 → u.answers ≡ []) → v.parts ≡ 256 → AreAlike (all_answers logs) v.answers
whole logs seat v at parts idle all f =
    let zero_log : SeatLog = spent_log in
    let others = set logs seat zero_log in
    let without : sum_by (λ (u : SeatLog). u.parts) others ≡ 0 = (let e = sum_set (λ (u : SeatLog). u.parts) logs seat v zero_log at in omega arith) in
    let empty : all_answers others ≡ [] = no_answers others without
    (λ j u e z. ⊎_elim (λ (t : (j ≡ seat) × (zero_log ≡ u)). sym (ap (λ (x : SeatLog). x.answers) t.1)) (λ (t : (j ≢ seat) × (get_elem? logs j ≡ some u)). idle j u t.1 z) (at_set logs seat j zero_log u e)) in
    let nothing : sum_by f (all_answers others) ≡ 0 = ap (sum_by f) empty in
    let e = sum_answers_set f logs seat v zero_log at in omega arith

-- a look at a word, which reports something that is so of all answers
looks : (maps : Maps) (slots seat word : ℕ) (me : Me (Unit {0}) SeatLog) (reported : ℕ → Me (Unit {0}) SeatLog → Type 0) → word < sum maps.cells
    → ((s : Table) → IsCellTable maps s → get_elem? s.views seat ≡ some me.0 → IsWordOf (kind_of_cell maps word) word (slice_index s.words word) (all_answers s.views) → reported (slice_index s.words word) me)
    → Allows (IsCellTable maps) slots seat me word (λ n. n) reported
looks maps slots seat word me reported below reports s h len at fits =
    let v : SeatLog = me.0 in
    let inside : word < length s.words = (let long = h.words in omega arith) in (
      v,
      keeps,
      tt,
      subst (λ (ws : List ℕ). IsCellTable maps (table ws s (set s.views seat v))) (sym (set-get_or s.words word 0))
          (subst (λ (vs : List SeatLog). IsCellTable maps (table s.words s vs)) (sym (set_again s.views seat v at)) h),
      reports s h at (h.cells word inside),
    )

-- a look at a word of a counter map
pub reports : (maps : Maps) (slots seat word : ℕ) (me : Me (Unit {0}) SeatLog) → kind_of_cell maps word ≡ Counter → word < sum maps.cells
    → Allows (IsCellTable maps) slots seat me word (λ n. n) (ReportsTickets (step slots word 0 0 none) me)
reports maps slots seat word me kind below =
    looks maps slots seat word me (ReportsTickets (step slots word 0 0 none) me) below
    (λ s h at is.
    let v : SeatLog = me.0 in
    let ds = all_answers s.views in
    let found = slice_index s.words word in
    let c : IsTicketCounted word found ds = subst (λ (k : MapKind). IsWordOf k word found ds) kind is in record {
      same = refl;
      counted = λ all. counted_alike word found ds v.answers (whole s.views seat v at h.parts h.idle all) (λ P. of_log P s.views seat v at) c;
    })

-- a look at a word of a peak map
pub reports_peak : (maps : Maps) (slots seat word : ℕ) (me : Me (Unit {0}) SeatLog) → kind_of_cell maps word ≡ Peak → word < sum maps.cells
    → Allows (IsCellTable maps) slots seat me word (λ n. n) (ReportsPeak (step slots word 0 0 none) me)
reports_peak maps slots seat word me kind below =
    looks maps slots seat word me (ReportsPeak (step slots word 0 0 none) me) below
    (λ s h at is.
    let v : SeatLog = me.0 in
    let ds = all_answers s.views in
    let found = slice_index s.words word in
    let c : IsPeak word found ds = subst (λ (k : MapKind). IsWordOf k word found ds) kind is in record {
      same = refl;
      above = of_log (IsUnder word found) s.views seat v at c.under;
      peak = λ all. peak_alike word found ds v.answers (whole s.views seat v at h.parts h.idle all) (λ P. of_log P s.views seat v at) c;
    })

-- a new seat
pub splits : (maps : Maps) (seat : ℕ) (v : SeatLog) → v.answers ≡ [] → 0 < v.parts → Splits (IsCellTable maps) seat v (seat_log v.maps (v.parts - 1) v.answers) (seat_log v.maps 1 [])
splits maps seat v clean part s h at =
    let left : SeatLog = seat_log v.maps (v.parts - 1) v.answers in
    let right : SeatLog = seat_log v.maps 1 [] in
    let views = set s.views seat left in
    let same : all_answers (views ++ right ∷ []) ≡ all_answers views = answers_snoc views v.maps 1 in record {
      words = h.words;
      parts = (let e = sum_set (λ (u : SeatLog). u.parts) s.views seat v left at in let p = h.parts in omega (arith, sum_by-append (λ (u : SeatLog). u.parts) views (right ∷ [])));
      idle = λ j u e without. ⊎_elim
          (λ (b : get_elem? views j ≡ some u). ⊎_elim
          (λ (t : (j ≡ seat) × (left ≡ u)). sym (ap (λ (x : SeatLog). x.answers) t.1) ∙ clean)
          (λ (t : (j ≢ seat) × (get_elem? s.views j ≡ some u)). h.idle j u t.1 without)
          (at_set s.views seat j left u b))
          (λ (is : right ≡ u). sym (ap (λ (x : SeatLog). x.answers) is))
          (at_snoc views right u j e);
      cells = λ k below. word_alike (kind_of_cell maps k) k (slice_index s.words k) (all_answers s.views) (all_answers (views ++ right ∷ []))
          (λ f. let e = sum_answers_set f s.views seat v left at in let q = ap (sum_by f) same in omega arith)
          (λ P all. subst (All P) (sym same) (after_set P s.views seat left (of_log P s.views seat v at all) all))
          (h.cells k below);
    }

-- a seat comes back
pub joins : (maps : Maps) (seat : ℕ) (v : SeatLog) (other : ℕ) (w : SeatLog) → Joins (IsCellTable maps) seat v other w (seat_log v.maps (v.parts + w.parts) (v.answers ++ w.answers)) spent_log
joins maps seat v other w s h at apart at' =
    let both : SeatLog = seat_log v.maps (v.parts + w.parts) (v.answers ++ w.answers) in
    let spent : SeatLog = spent_log in
    let views = set s.views seat both in
    let was : get_elem? s.views other ≡ some w = ⊎_elim
    (λ (t : (other ≡ seat) × (both ≡ w)). absurd (apart t.0)) (λ (t : (other ≢ seat) × (get_elem? s.views other ≡ some w)). t.1) (at_set s.views seat other both w at') in record {
      words = h.words;
      parts = (let e = sum_set (λ (u : SeatLog). u.parts) s.views seat v both at in let e' = sum_set (λ (u : SeatLog). u.parts) views other w spent at' in let p = h.parts in omega arith);
      idle = λ j u e without. ⊎_elim
          (λ (t : (j ≡ other) × (spent ≡ u)). sym (ap (λ (x : SeatLog). x.answers) t.1))
          (λ (t : (j ≢ other) × (get_elem? views j ≡ some u)). ⊎_elim
          (λ (b : (j ≡ seat) × (both ≡ u)).
          let all : v.parts + w.parts ≡ u.parts = ap (λ (x : SeatLog). x.parts) b.1 in
          let mine = h.idle seat v at (omega arith) in
          let theirs = h.idle other w was (omega arith) in
          let joined : v.answers ++ w.answers ≡ u.answers = ap (λ (x : SeatLog). x.answers) b.1 in cc)
          (λ (b : (j ≢ seat) × (get_elem? s.views j ≡ some u)). h.idle j u b.1 without)
          (at_set s.views seat j both u t.1))
          (at_set views other j spent u e);
      cells = λ k below. word_alike (kind_of_cell maps k) k (slice_index s.words k) (all_answers s.views) (all_answers (set views other spent))
          (λ f. let e = sum_answers_set f s.views seat v both at in let e' = sum_answers_set f views other w spent at' in omega (arith, sum_by-append f v.answers w.answers))
          (λ P all. after_set P views other spent (All-nil P) (after_set P s.views seat both (All-append P v.answers w.answers (of_log P s.views seat v at all) (of_log P s.views other w was all)) all))
          (h.cells k below);
    }

-- the words at the start
pub opens : (maps : Maps) (words : List ℕ) → length words ≡ sum maps.cells + 1 → All (λ x. x ≡ 0) words → IsCellTable maps (opening words [] (seat_log maps 256 []))
opens maps words long zeros = record {
  words = long;
  parts = refl;
  idle = λ seat u e without. ⊎_elim (λ (t : get_elem? [] seat ≡ some u). absurd (some-ne-none u (sym t))) (λ (is : seat_log maps 256 [] ≡ u). sym (ap (λ (x : SeatLog). x.answers) is)) (at_snoc [] (seat_log maps 256 []) u seat e);
  cells = λ k below. word_at_first (kind_of_cell maps k) k (slice_index words k) (zeros k 0 below);
}
