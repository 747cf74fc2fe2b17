-- A quota of N matches at most N commands of ports that threads serve. The answer to the matching draw of each is a
-- number below N, and no two tickets of a cell have one number.
use Rattle.std.specs.Prelude.{◌==◌, ◌&&◌, cond, nat_lt, filter, map, count_by}
use Rattle.std.specs.List.{flat_map}
use Rattle.std.proofs.Common.{◌≡◌, ◌<◌, ◌≤◌, ◌+◌, ℕ, zero, suc, Bool, true, false, List, [], ◌∷◌, ◌++◌, refl, sym, ap, ap₂, ◌∙◌, subst, arith, inl, inr}
use Rattle.std.proofs.lemmas.Bool.{and_from, eq-eqb}
use Rattle.std.proofs.lemmas.Bool.Decides.{nat_tests}
use Rattle.std.proofs.lemmas.Grind.{flat_map-append}
use Rattle.std.proofs.lemmas.List.{map-append}
use Rattle.std.proofs.lemmas.List.Concat.{flat_map-cons}
use Rattle.std.proofs.lemmas.List.Elements.{filter-append}
use Rattle.std.proofs.lemmas.List.Sums.{sum_by-append, sum_by-cons}
use Rattle.cells.specs.Logs.{AreNumbersBelow, asks_ticket, tickets_of}
use Rattle.machine.specs.declared.calls.Call.{Call}
use Rattle.ports.specs.Due.{Judging, judgings}
use Rattle.ports.specs.Laws.{WorkersAskOnce}
use Rattle.quotas.specs.Threads.{HaveMatched, HasMatched, PortRun, QuotasHoldInThreads, calls_at, judged_at}
use Rattle.quotas.proofs.Deciding.{EndsLow, drawn_of, ends_below}
use Rattle.sched.specs.Looking.{seen_header_in}

-- ---- numbers below a limit

-- how many of the numbers are below the limit
abbrev low : ℕ → List ℕ → ℕ
low limit numbers = count_by (λ k. nat_lt k limit) numbers

-- how often the number is among those
abbrev often : ℕ → List ℕ → ℕ
often m numbers = count_by (λ k. k == m) numbers

low_more : (limit : ℕ) (xs ys : List ℕ) → low limit (xs ++ ys) ≡ low limit xs + low limit ys
low_more limit xs ys = sum_by-append (λ k. cond (nat_lt k limit) 1 0) xs ys

low_first : (limit x : ℕ) (xs : List ℕ) → low limit (x ∷ xs) ≡ cond (nat_lt x limit) 1 0 + low limit xs
low_first limit x xs = sum_by-cons (λ k. cond (nat_lt k limit) 1 0) x xs

often_first : (m x : ℕ) (xs : List ℕ) → often m (x ∷ xs) ≡ cond (x == m) 1 0 + often m xs
often_first m x xs = sum_by-cons (λ k. cond (k == m) 1 0) x xs

one_higher : (m x : ℕ) → ◌≡◌ {A = ℕ} (cond (nat_lt x (suc m)) 1 0) (cond (nat_lt x m) 1 0 + cond (x == m) 1 0)
one_higher m x = by (nat_lt x (suc m)) (nat_lt x m) (x == m) refl refl refl
  where
    by : (s t u : Bool) → nat_lt x (suc m) ≡ s → nat_lt x m ≡ t → (x == m) ≡ u → ◌≡◌ {A = ℕ} (cond s 1 0) (cond t 1 0 + cond u 1 0)
    by true true true a b c = absurd (grind (arith, nat_tests, a, b, c))
    by true true false a b c = omega arith
    by true false true a b c = omega arith
    by true false false a b c = absurd (grind (arith, nat_tests, a, b, c))
    by false true true a b c = absurd (grind (arith, nat_tests, a, b, c))
    by false true false a b c = absurd (grind (arith, nat_tests, a, b, c))
    by false false true a b c = absurd (grind (arith, nat_tests, a, b, c))
    by false false false a b c = omega arith

higher : (m : ℕ) (xs : List ℕ) → low (suc m) xs ≡ low m xs + often m xs
higher m [] = omega arith
higher m (x ∷ xs) = omega (arith, low_first (suc m) x xs, low_first m x xs, often_first m x xs, one_higher m x, higher m xs)

never : (x : ℕ) → ◌≡◌ {A = ℕ} (cond (nat_lt x 0) 1 0) 0
never x =
    let is : nat_lt x 0 ≡ false = grind (arith, nat_tests) in
    ap (λ (t : Bool). cond {A = ℕ} t 1 0) is

none_low : (xs : List ℕ) → low 0 xs ≡ 0
none_low [] = refl
none_low (x ∷ xs) = omega (arith, low_first 0 x xs, none_low xs, never x)

-- if each number is there at most once, at most as many are below a limit as it says
few_low : (xs : List ℕ) → ((m : ℕ) → often m xs ≤ 1) → (limit : ℕ) → low limit xs ≤ limit
few_low xs once zero = omega (arith, none_low xs)
few_low xs once (suc m) = omega (arith, higher m xs, few_low xs once m, once m)

at_most_one : (n : ℕ) (xs : List ℕ) → AreNumbersBelow n xs → (m : ℕ) → often m xs ≤ 1
at_most_one n xs below m = by (nat_lt m n) (below m)
  where
    by : (t : Bool) → often m xs ≡ cond t 1 0 → often m xs ≤ 1
    by true is = omega (arith, is)
    by false is = omega (arith, is)

-- ---- tickets of calls

tickets_more : (m key : ℕ) (xs ys : List Call) → tickets_of m key (xs ++ ys) ≡ tickets_of m key xs ++ tickets_of m key ys
tickets_more m key xs ys =
    ap (map (λ (c : Call). c.answer)) (filter-append (asks_ticket m key) xs ys)
    ∙ map-append (λ (c : Call). c.answer) (filter (asks_ticket m key) xs) (filter (asks_ticket m key) ys)

low_tickets : (m key limit : ℕ) (xs ys : List Call) → low limit (tickets_of m key (xs ++ ys)) ≡ low limit (tickets_of m key xs) + low limit (tickets_of m key ys)
low_tickets m key limit xs ys = ap (low limit) (tickets_more m key xs ys) ∙ low_more limit (tickets_of m key xs) (tickets_of m key ys)

is_own : (m key : ℕ) → (m == m && key == key) ≡ true
is_own m key = and_from (m == m) (key == key) (eq-eqb m m refl) (eq-eqb key key refl)

one_ticket : (m key answer : ℕ) → tickets_of m key (drawn_of m key answer ∷ []) ≡ answer ∷ []
one_ticket m key answer = ap (λ (t : Bool). map (λ (c : Call). c.answer) (cond t (drawn_of m key answer ∷ []) [])) (is_own m key)

one_low : (limit answer : ℕ) → answer < limit → low limit (answer ∷ []) ≡ 1
one_low limit answer below =
    let is : nat_lt answer limit ≡ true = grind (arith, nat_tests, below) in
    low_first limit answer [] ∙ ap (λ (t : Bool). cond t 1 0 + 0) is

ends_low : (calls : List Call) (m key limit : ℕ) → EndsLow calls m key limit → 0 < low limit (tickets_of m key calls)
ends_low calls m key limit ends =
    let all = ap (λ (cs : List Call). low limit (tickets_of m key cs)) ends.is in
    let more = low_tickets m key limit ends.before (drawn_of m key ends.answer ∷ []) in
    let one = ap (low limit) (one_ticket m key ends.answer) in
    omega (arith, all, more, one, one_low limit ends.answer ends.below)

-- ---- commands that were judged

-- the calls of their runs, in order
abbrev calls_in : List Judging → List Call
calls_in js = flat_map (λ (j : Judging). j.calls) js

matched_low : (m key limit : ℕ) (j : Judging) → HasMatched m key limit j → 0 < low limit (tickets_of m key j.calls)
matched_low m key limit j is = ends_low j.calls m key limit (ends_below is.rules (seen_header_in j.judged.packet) j.calls m key is.own_limit limit is.match is.small)

count_low : (m key limit : ℕ) (js : List Judging) (count : ℕ) → HaveMatched m key limit js count → count ≤ low limit (tickets_of m key (calls_in js))
count_low m key limit [] count none = omega (arith, none)
count_low m key limit (j ∷ js) count matched =
    let all = ap (λ (cs : List Call). low limit (tickets_of m key cs)) (flat_map-cons (λ (x : Judging). x.calls) j js) in
    let more = low_tickets m key limit j.calls (calls_in js) in
    elim matched [
      | inl others ↦ omega (arith, count_low m key limit js count others, all, more)
      | inr one ↦ omega (arith, one.1, count_low m key limit js one.0 one.2, matched_low m key limit j one.3, all, more)
    ]

module _ (once : WorkersAskOnce) where
  asked_at : (run : PortRun) → run.last.pass.seat.asked ≡ calls_in (judgings run.deeds)
  asked_at run = once run.first run.last run.packets run.deeds run.worked ∙ ap (λ (l : List Call). l ++ calls_in (judgings run.deeds)) run.fresh

  -- the seats have the calls of the runs that judged, and no others
  calls_are : (runs : List PortRun) → calls_at runs ≡ calls_in (judged_at runs)
  calls_are [] = refl
  calls_are (run ∷ runs) =
      flat_map-cons (λ (r : PortRun). r.last.pass.seat.asked) run runs
      ∙ ap₂ (λ (a b : List Call). a ++ b) (asked_at run) (calls_are runs)
      ∙ sym (flat_map-append (λ (j : Judging). j.calls) (judgings run.deeds) (judged_at runs))
      ∙ sym (ap calls_in (flat_map-cons (λ (r : PortRun). judgings r.deeds) run runs))

  pub quotas_hold_in_threads : QuotasHoldInThreads
  quotas_hold_in_threads it runs m key limit drawn count back numbered few matched =
      let are = back ∙ calls_are runs in
      let all = tickets_of m key (calls_in (judged_at runs)) in
      let numbers : AreNumbersBelow drawn all = subst (λ (cs : List Call). AreNumbersBelow drawn (tickets_of m key cs)) are (numbered few) in
      omega (arith, count_low m key limit (judged_at runs) count matched, few_low all (at_most_one drawn all numbers) limit)
