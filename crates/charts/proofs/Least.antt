-- The tickets of a run, from the least that each cell may give on.
use Rattle.std.proofs.Common.{◌≡◌, ◌≤◌, ◌<◌, ◌+◌, ◌^◌, ◌==◌, ◌&&◌, ℕ, zero, suc, max, min, Bool, true, false, List, [], ◌∷◌, ◌++◌, length, get_or, Option, Some, None, refl, ap, sym, ◌∙◌, subst, arith}
use Rattle.std.specs.Prelude.{if◌then◌else◌, nat_lt}
use Rattle.std.proofs.lemmas.Bool.Decides.{nat_tests}
use Rattle.std.proofs.lemmas.List.Elements.{All-cons, All-head, All-nil, All-tail}
use Rattle.std.proofs.lemmas.Bool.{and_parts}
use Rattle.machine.specs.declared.calls.Call.{Call}
use Rattle.rmap.specs.Verdict.{verdict_number}
use Rattle.policy_table.specs.Meaning.{AreAnswerWords, draw, ruled}
use Rattle.policy_table.specs.declared.rules.Quota.{Quota}
use Rattle.policy_table.specs.declared.rules.Rule.{Rule}
use Rattle.charts.specs.Alike.{said}
use Rattle.charts.specs.Tickets.{AreTickets, AreTicketsFrom, IsTicketBelow, IsFrom, TicketsFollow, after, is_of, least_from, least_of, raised}

pub none_answered : (least : ℕ → ℕ → ℕ) → AreTicketsFrom least []
none_answered least = record { from = All-nil (IsFrom least); tickets = tt }

pub same_number : (a b : ℕ) → (a == b) ≡ true → a ≡ b
same_number a b e = grind (arith, nat_tests)

same_test : (a b : ℕ) → a ≡ b → (a == b) ≡ true
same_test a b e = grind (arith, nat_tests)

-- a quota of a cell has its numbers
pub cell_of : (q : Quota) (map cell : ℕ) → is_of q map cell ≡ true → (q.map ≡ map) × (q.cell ≡ cell)
cell_of q map cell e =
    let parts = and_parts (q.map == map) (q.cell == cell) e in
    (same_number q.map map parts.0, same_number q.cell cell parts.1)

of_cell : (q : Quota) (map cell : ℕ) → q.map ≡ map → q.cell ≡ cell → is_of q map cell ≡ true
of_cell q map cell e f = joined (q.map == map) (q.cell == cell) (same_test q.map map e) (same_test q.cell cell f)
  where
    joined : (s t : Bool) → s ≡ true → t ≡ true → (s && t) ≡ true
    joined true t e f = f
    joined false t e f = absurd (cc)

-- what is known of the least of a cell is known of that of a quota of it
pub least_there : (least : ℕ → ℕ → ℕ) (q : Quota) (map cell : ℕ) → is_of q map cell ≡ true → least map cell ≡ least q.map q.cell
least_there least q map cell e =
    let same = cell_of q map cell e in
    ap (λ (n : ℕ). least n cell) (sym same.0) ∙ ap (λ (n : ℕ). least q.map n) (sym same.1)

from_after : (least : ℕ → ℕ → ℕ) (q : Quota) (t : ℕ) (call : Call) → least q.map q.cell ≤ t → IsFrom (after least q t) call → IsFrom least call
from_after least q t call le h = by_cell (is_of q call.question.map call.question.key) refl h
  where
    by_cell : (b : Bool) → is_of q call.question.map call.question.key ≡ b → (if b then suc t else least call.question.map call.question.key) ≤ call.answer → least call.question.map call.question.key ≤ call.answer
    by_cell true e h = let same = least_there least q call.question.map call.question.key e in omega (arith, same, le, h)
    by_cell false e h = h

below_after : (least : ℕ → ℕ → ℕ) (q : Quota) (t : ℕ) (call : Call) → IsFrom (after least q t) call → IsTicketBelow (draw q t) call
below_after least q t call h m c =
    let there : is_of q call.question.map call.question.key ≡ true = of_cell q call.question.map call.question.key m c in
    let fits : suc t ≤ call.answer = subst (λ (b : Bool). (if b then suc t else least call.question.map call.question.key) ≤ call.answer) there h in
    omega (arith, fits)

after_of : (least : ℕ → ℕ → ℕ) (q : Quota) (t : ℕ) (call : Call) → IsFrom least call → IsTicketBelow (draw q t) call → IsFrom (after least q t) call
after_of least q t call from below = by_cell (is_of q call.question.map call.question.key) refl
  where
    by_cell : (b : Bool) → is_of q call.question.map call.question.key ≡ b → (if b then suc t else least call.question.map call.question.key) ≤ call.answer
    by_cell true e = let same = cell_of q call.question.map call.question.key e in let lt : t < call.answer = below same.0 same.1 in omega (arith, lt)
    by_cell false e = from

-- ---- one draw and those after it

pub answered_first : (least : ℕ → ℕ → ℕ) (q : Quota) (t : ℕ) (calls : List Call) → least q.map q.cell ≤ t → AreTicketsFrom (after least q t) calls → AreTicketsFrom least (draw q t ∷ calls)
answered_first least q t calls le rest = record {
  from = All-cons (IsFrom least) (draw q t) calls le (λ k d lt. from_after least q t (get_or calls k d) le (rest.from k d lt));
  tickets = ((λ k d lt. below_after least q t (get_or calls k d) (rest.from k d lt)), rest.tickets);
}

pub first_from : (least : ℕ → ℕ → ℕ) (q : Quota) (t : ℕ) (calls : List Call) → AreTicketsFrom least (draw q t ∷ calls) → least q.map q.cell ≤ t
first_from least q t calls reported = All-head (IsFrom least) (draw q t) calls reported.from

pub rest_from : (least : ℕ → ℕ → ℕ) (q : Quota) (t : ℕ) (calls : List Call) → AreTicketsFrom least (draw q t ∷ calls) → AreTicketsFrom (after least q t) calls
rest_from least q t calls reported = record {
  from = λ k d lt. after_of least q t (get_or calls k d) (All-tail (IsFrom least) (draw q t) calls reported.from k d lt) (reported.tickets.0 k d lt);
  tickets = reported.tickets.1;
}

pub weaker : (less more : ℕ → ℕ → ℕ) (calls : List Call) → ((map cell : ℕ) → less map cell ≤ more map cell) → AreTicketsFrom more calls → AreTicketsFrom less calls
weaker less more calls le reported = record { from = λ k d lt. lower (get_or calls k d) (reported.from k d lt); tickets = reported.tickets }
  where
    lower : (call : Call) → IsFrom more call → IsFrom less call
    lower call h = omega (arith, le call.question.map call.question.key, h)

-- from the start a cell may give any ticket
pub from_start : (least : ℕ → ℕ → ℕ) (calls : List Call) → ((map cell : ℕ) → least map cell ≡ 0) → AreTickets calls → AreTicketsFrom least calls
from_start least calls none tickets = record { from = λ k d lt. low (get_or calls k d); tickets = tickets }
  where
    low : (call : Call) → IsFrom least call
    low call = omega (arith, none call.question.map call.question.key)

-- ---- the least after rules

pub least_more : (least : ℕ) (rules : List Rule) (rule : Rule) (map cell : ℕ) → least_from least (rules ++ rule ∷ []) map cell ≡ raised rule.quota map cell (least_from least rules map cell)
least_more least [] rule map cell = refl
least_more least (other ∷ rules) rule map cell = least_more (raised other.quota map cell least) rules rule map cell

-- after a rule with a quota
pub least_next : (least : ℕ) (rules : List Rule) (rule : Rule) (q : Quota) (map cell : ℕ) → rule.quota ≡ Some q → least_from least (rules ++ rule ∷ []) map cell ≡ (if is_of q map cell then suc (max (least_from least rules map cell) q.limit) else least_from least rules map cell)
least_next least rules rule q map cell e =
    least_more least rules rule map cell ∙ ap (λ (o : Option Quota). raised o map cell (least_from least rules map cell)) e

pub same_cell : (q p : Quota) (map cell : ℕ) → q.map ≡ p.map → q.cell ≡ p.cell → is_of q map cell ≡ is_of p map cell
same_cell q p map cell e f = ap (λ (n : ℕ). n == map && q.cell == cell) e ∙ ap (λ (n : ℕ). p.map == map && n == cell) f

lower_by : (s t : Bool) (x y a b n : ℕ) → s ≡ t → (s ≡ true → max x y ≤ n) → a ≤ n → b ≤ n → max (if s then suc (max x a) else x) (if t then suc (max y b) else y) ≤ (if s then suc n else max x y)
lower_by true true x y a b n e below one two = let le : max x y ≤ n = below refl in omega (arith, le, one, two)
lower_by true false x y a b n e below one two = absurd (cc)
lower_by false true x y a b n e below one two = absurd (cc)
lower_by false false x y a b n e below one two = omega arith

higher_by : (s t : Bool) (x y a b n : ℕ) → s ≡ t → (s ≡ true → n ≤ max (max x a) (max y b)) → (if s then suc n else max x y) ≤ max (if s then suc (max x a) else x) (if t then suc (max y b) else y)
higher_by true true x y a b n e above = let le : n ≤ max (max x a) (max y b) = above refl in omega (arith, le)
higher_by true false x y a b n e above = absurd (cc)
higher_by false true x y a b n e above = absurd (cc)
higher_by false false x y a b n e above = omega arith

module _ (olds news : List Rule) (rule other : Rule) (q p : Quota) (e : rule.quota ≡ Some q) (f : other.quota ≡ Some p) (same_map : q.map ≡ p.map) (same_key : q.cell ≡ p.cell) (map cell : ℕ) where
  both_next : least_of (olds ++ rule ∷ []) (news ++ other ∷ []) map cell
      ≡ max (if is_of q map cell then suc (max (least_from 0 olds map cell) q.limit) else least_from 0 olds map cell) (if is_of p map cell then suc (max (least_from 0 news map cell) p.limit) else least_from 0 news map cell)
  both_next = rw (least_next 0 olds rule q map cell e, least_next 0 news other p map cell f) refl

  -- the least after a ticket that is below neither limit is not above what it leaves
  pub both_below : (t : ℕ) → least_of olds news q.map q.cell ≤ t → q.limit ≤ t → p.limit ≤ t → least_of (olds ++ rule ∷ []) (news ++ other ∷ []) map cell ≤ after (least_of olds news) q t map cell
  both_below t le one two =
      subst (λ (n : ℕ). n ≤ after (least_of olds news) q t map cell) (sym both_next)
      (lower_by (is_of q map cell) (is_of p map cell) (least_from 0 olds map cell) (least_from 0 news map cell) q.limit p.limit t (same_cell q p map cell same_map same_key)
      (λ h. let there = least_there (least_of olds news) q map cell h in omega (arith, there, le)) one two)

  -- and that after the least such ticket is not below it
  pub both_above : after (least_of olds news) q (max (least_of olds news q.map q.cell) (max q.limit p.limit)) map cell ≤ least_of (olds ++ rule ∷ []) (news ++ other ∷ []) map cell
  both_above =
      subst (λ (n : ℕ). after (least_of olds news) q (max (least_of olds news q.map q.cell) (max q.limit p.limit)) map cell ≤ n) (sym both_next)
      (higher_by (is_of q map cell) (is_of p map cell) (least_from 0 olds map cell) (least_from 0 news map cell) q.limit p.limit (max (least_of olds news q.map q.cell) (max q.limit p.limit)) (same_cell q p map cell same_map same_key)
      (λ h. let there = least_there (least_of olds news) q map cell h in omega (arith, there)))

-- ---- tickets that rise

-- from a number on, each is one more, up to the greatest number of 64 bits
abbrev pub rising : (from : ℕ) → ℕ → ℕ
rising from k = min (from + k) 18446744073709551615

pub rising_words : (from : ℕ) → AreAnswerWords (rising from)
rising_words from k = omega arith

pub rising_is : (from n : ℕ) → from + n < 2 ^ 64 → (k : ℕ) → k < n → rising from k ≡ from + k
rising_is from n fits k lt = omega (arith, fits, lt)

-- a ticket, and others after it
abbrev pub ahead : ℕ → (ℕ → ℕ) → ℕ → ℕ
ahead ticket rest zero = ticket
ahead ticket rest (suc k) = rest k

pub ahead_words : (ticket : ℕ) (rest : ℕ → ℕ) → ticket < 2 ^ 64 → AreAnswerWords rest → AreAnswerWords (ahead ticket rest)
ahead_words ticket rest h words zero = h
ahead_words ticket rest h words (suc k) = words k

-- after a ticket of it, a bound of the least is one more
pub bound_after : (least : ℕ → ℕ → ℕ) (q : Quota) (t bound : ℕ) → t ≤ bound → ((map cell : ℕ) → least map cell ≤ bound) → (map cell : ℕ) → after least q t map cell ≤ suc bound
bound_after least q t bound le below map cell = by_cell (is_of q map cell)
  where
    by_cell : (b : Bool) → (if b then suc t else least map cell) ≤ suc bound
    by_cell true = omega (arith, le)
    by_cell false = omega (arith, below map cell)

-- one of two decisions
abbrev pub either : Bool → (one other : List Call × ℕ) → List Call × ℕ
either t one other = if t then one else other

module _ (least : ℕ → ℕ → ℕ) (quota : Quota) (code : ℕ) (reported : ℕ → ℕ) (rest : List Call × ℕ) where
  -- a draw and what comes after it get such tickets
  pub drawn_answered : least quota.map quota.cell ≤ reported 0 → (nat_lt (reported 0) quota.limit ≡ false → AreTicketsFrom (after least quota (reported 0)) rest.0) → AreTicketsFrom least (ruled (Some quota) code reported rest).0
  drawn_answered le following = by_test (nat_lt (reported 0) quota.limit) following
    where
      by_test : (b : Bool) → (b ≡ false → AreTicketsFrom (after least quota (reported 0)) rest.0) → AreTicketsFrom least (either b (draw quota (reported 0) ∷ [], code) (draw quota (reported 0) ∷ rest.0, rest.1)).0
      by_test true following = answered_first least quota (reported 0) [] le (none_answered (after least quota (reported 0)))
      by_test false following = answered_first least quota (reported 0) rest.0 le (following refl)

  pub drawn_first : AreTicketsFrom least (ruled (Some quota) code reported rest).0 → least quota.map quota.cell ≤ reported 0
  drawn_first h = by_test (nat_lt (reported 0) quota.limit) h
    where
      by_test : (b : Bool) → AreTicketsFrom least (either b (draw quota (reported 0) ∷ [], code) (draw quota (reported 0) ∷ rest.0, rest.1)).0 → least quota.map quota.cell ≤ reported 0
      by_test true h = first_from least quota (reported 0) [] h
      by_test false h = first_from least quota (reported 0) rest.0 h

  pub drawn_rest : nat_lt (reported 0) quota.limit ≡ false → AreTicketsFrom least (ruled (Some quota) code reported rest).0 → AreTicketsFrom (after least quota (reported 0)) rest.0
  drawn_rest e h =
      rest_from least quota (reported 0) rest.0
      (subst (λ (b : Bool). AreTicketsFrom least (either b (draw quota (reported 0) ∷ [], code) (draw quota (reported 0) ∷ rest.0, rest.1)).0) e h)

-- rules get tickets that rise from a bound of the least on
pub rising_answered : (rules : List Rule) (bound : ℕ) (least : ℕ → ℕ → ℕ) (reported : ℕ → ℕ) → ((k : ℕ) → k < length rules → reported k ≡ bound + k) → ((map cell : ℕ) → least map cell ≤ bound) → AreTicketsFrom least (said rules reported).0
rising_answered [] bound least reported rises below = none_answered least
rising_answered (rule ∷ rules) bound least reported rises below =
    by_quota rule.quota (λ l le. rising_answered rules (suc bound) l (λ k. reported (suc k)) (λ k lt. next k lt) le)
  where
    first : reported 0 ≡ bound
    first = rises 0 (omega arith) ∙ omega arith

    next : (k : ℕ) → k < length rules → reported (suc k) ≡ suc bound + k
    next k lt = rises (suc k) (omega (arith, lt)) ∙ omega arith

    by_quota : (o : Option Quota) → ((l : ℕ → ℕ → ℕ) → ((map cell : ℕ) → l map cell ≤ suc bound) → AreTicketsFrom l (said rules (λ k. reported (suc k))).0) → AreTicketsFrom least (ruled o (verdict_number rule.verdict) reported (said rules (λ k. reported (suc k)))).0
    by_quota None following = none_answered least
    by_quota (Some q) following =
        drawn_answered least q (verdict_number rule.verdict) reported (said rules (λ k. reported (suc k))) (omega (arith, first, below q.map q.cell))
        (λ e. following (after least q (reported 0)) (bound_after least q (reported 0) bound (omega (arith, first)) below))

-- a ticket, and such tickets after it
pub ahead_answered : (least : ℕ → ℕ → ℕ) (q : Quota) (code : ℕ) (rules : List Rule) (t bound : ℕ) → least q.map q.cell ≤ t → t ≤ bound → ((map cell : ℕ) → least map cell ≤ bound) → suc bound + length rules < 2 ^ 64
    → AreTicketsFrom least (ruled (Some q) code (ahead t (rising (suc bound))) (said rules (rising (suc bound)))).0
ahead_answered least q code rules t bound le fits below few =
    drawn_answered least q code (ahead t (rising (suc bound))) (said rules (rising (suc bound))) le
    (λ e. rising_answered rules (suc bound) (after least q t) (rising (suc bound)) (rising_is (suc bound) (length rules) few) (bound_after least q t bound fits below))

pub tickets_follow : TicketsFollow
tickets_follow = record {
  start = λ draws tickets. from_start (λ map cell. 0) draws (λ map cell. refl) tickets;
  none = none_answered;
  first = answered_first;
  own = first_from;
  rest = rest_from;
  lower = weaker;
  following = least_more;
  together = λ olds news rule other one two e f same_map same_key map cell.
      let ticket : ℕ = max (least_of olds news one.map one.cell) (max one.limit two.limit) in
      let low = both_below olds news rule other one two e f same_map same_key map cell ticket (omega arith) (omega arith) (omega arith) in
      let high = both_above olds news rule other one two e f same_map same_key map cell in
      omega (arith, low, high);
}
