-- The test whether two courses are the same is exact.
use Rattle.std.proofs.Common.{◌≡◌, ◌≤◌, ◌<◌, ◌+◌, ◌^◌, ◌⊎◌, ◌==◌, inl, inr, ℕ, suc, max, get_or, take, drop, drop-cons, add-one, Bool, true, false, ◌&&◌, ◌||◌, List, [], ◌∷◌, ◌++◌, length, Option, Some, None, refl, ap, sym, ◌∙◌, subst, arith}
use Rattle.std.specs.Prelude.{All, MatchBool, if◌then◌else◌, nat_le, nat_lt}
use Rattle.std.proofs.lemmas.Bool.{le-ltb, lt-ltb, and_parts}
use Rattle.std.proofs.lemmas.Bool.Decides.{nat_tests}
use Rattle.std.proofs.lemmas.List.{append-nil, take_more}
use Rattle.std.proofs.lemmas.List.Elements.{All-cons, All-head, All-tail}
use Rattle.machine.specs.declared.calls.Call.{Call}
use Rattle.rmap.specs.Verdict.{verdict_number}
use Rattle.rmap.specs.declared.verdict.Verdict.TheVariants.{NotAuthorised}
use Rattle.charts.specs.Alike.{AreLimited, AreSaidAlike, DifferSaid, DifferWithinLimits, HasLimit, after_both, after_first, alike_after, alike_said, held, said, same_steps, stop, stop_of, stops_with}
use Rattle.charts.specs.Tickets.{AreTickets, AreTicketsFrom, AreTicketsOfOne, after, is_of, least_from, least_of}
use Rattle.policy_table.specs.Limits.{IsLimited}
use Rattle.policy_table.specs.Meaning.{AreAnswerWords, draw, ruled}
use Rattle.charts.specs.Points.{DecideAlike, decision_at, holds_at}
use Rattle.regions.specs.declared.points.Point.{Point}
use Rattle.policy_table.specs.declared.rules.Quota.{Quota}
use Rattle.policy_table.specs.declared.rules.Rule.{Rule}
use Rattle.charts.proofs.Least.{ahead, ahead_answered, ahead_words, both_above, both_below, cell_of, drawn_first, drawn_rest, drawn_answered, from_start, least_next, none_answered, rising, rising_is, rising_answered, rising_words, same_number, weaker}

-- it ends so, it matches with this draw, it goes on after this draw
abbrev ends : ℕ → List Call × ℕ
ends code = ([], code)

abbrev matches : Call → ℕ → List Call × ℕ
matches d code = (d ∷ [], code)

abbrev goes : Call → List Call × ℕ → List Call × ℕ
goes d rest = (d ∷ rest.0, rest.1)

-- ---- the rules that hold

said_if : (t : Bool) (rule : Rule) (rules : List Rule) (p : Point) (reported : ℕ → ℕ) → ((other : ℕ → ℕ) → decision_at rules p other ≡ said (held p rules) other)
    → (if t then ruled rule.quota (verdict_number rule.verdict) reported (decision_at rules p (λ k. reported (suc k))) else decision_at rules p reported)
    ≡ said (if t then rule ∷ held p rules else held p rules) reported
said_if true rule rules p reported same = ap (λ (d : List Call × ℕ). ruled rule.quota (verdict_number rule.verdict) reported d) (same (λ k. reported (suc k)))
said_if false rule rules p reported same = same reported

pub held_decide : (rules : List Rule) (p : Point) (reported : ℕ → ℕ) → decision_at rules p reported ≡ said (held p rules) reported
held_decide [] p reported = refl
held_decide (rule ∷ rules) p reported = said_if (holds_at rule p) rule rules p reported (λ other. held_decide rules p other)

-- ---- what stops without a draw

ruled_stops : (quota : Option Quota) (code wanted : ℕ) (reported : ℕ → ℕ) (rest : List Call × ℕ) → stops_with (stop_of quota code) wanted ≡ true → ruled quota code reported rest ≡ ends wanted
ruled_stops None code wanted reported rest e = ap ends (same_number code wanted e)
ruled_stops (Some quota) code wanted reported rest e = absurd (cc)

stops : (rules : List Rule) (wanted : ℕ) (reported : ℕ → ℕ) → stops_with (stop rules) wanted ≡ true → said rules reported ≡ ends wanted
stops [] wanted reported e = ap ends (same_number (verdict_number NotAuthorised) wanted e)
stops (rule ∷ rules) wanted reported e = ruled_stops rule.quota (verdict_number rule.verdict) wanted reported (said rules (λ k. reported (suc k))) e

-- ---- the parts of a decision

chosen_draws : (t : Bool) (a b : List Call × ℕ) (n : ℕ) → n ≤ length a.0 → n ≤ length b.0 → n ≤ length (if t then a else b).0
chosen_draws true a b n h k = h
chosen_draws false a b n h k = k

ruled_draws : (quota : Quota) (code : ℕ) (reported : ℕ → ℕ) (rest : List Call × ℕ) → 1 ≤ length (ruled (Some quota) code reported rest).0
ruled_draws quota code reported rest = chosen_draws (nat_lt (reported 0) quota.limit) (draw quota (reported 0) ∷ [], code) (draw quota (reported 0) ∷ rest.0, rest.1) 1 (omega arith) (omega arith)

-- if nothing is drawn, it stops with its verdict
undrawn_rule : (quota : Option Quota) (code : ℕ) (reported : ℕ → ℕ) (rest : List Call × ℕ) → length (ruled quota code reported rest).0 ≡ 0 → stops_with (stop_of quota code) (ruled quota code reported rest).1 ≡ true
undrawn_rule None code reported rest e = grind (arith, nat_tests)
undrawn_rule (Some quota) code reported rest e = absurd (omega (arith, ruled_draws quota code reported rest))

undrawn : (rules : List Rule) (reported : ℕ → ℕ) → length (said rules reported).0 ≡ 0 → stops_with (stop rules) (said rules reported).1 ≡ true
undrawn [] reported e = refl
undrawn (rule ∷ rules) reported e = undrawn_rule rule.quota (verdict_number rule.verdict) reported (said rules (λ k. reported (suc k))) e

-- ---- two steps

pub record AreSameSteps (least : ℕ) (q : Quota) (v : ℕ) (p : Quota) (w : ℕ) (after_q after_p : Option ℕ) : Type 0 where
  pub map : q.map ≡ p.map
  pub cell : q.cell ≡ p.cell
  pub both : least < q.limit → least < p.limit → v ≡ w
  pub first_alone : max least p.limit < q.limit → stops_with after_p v ≡ true
  pub second_alone : max least q.limit < p.limit → stops_with after_q w ≡ true

or_second : (s t : Bool) → (s || t) ≡ true → s ≡ false → t ≡ true
or_second true t e h = absurd (cc)
or_second false t e h = e

not_le : (a b : ℕ) → b < a → nat_le a b ≡ false
not_le a b h = grind (arith, nat_tests)

steps_of : (least : ℕ) (q : Quota) (v : ℕ) (p : Quota) (w : ℕ) (after_q after_p : Option ℕ) → same_steps least q v p w after_q after_p ≡ true → AreSameSteps least q v p w after_q after_p
steps_of least q v p w after_q after_p e =
    let codes : Bool = nat_le q.limit least || (nat_le p.limit least || v == w) in
    let first : Bool = nat_le q.limit (max least p.limit) || stops_with after_p v in
    let second : Bool = nat_le p.limit (max least q.limit) || stops_with after_q w in
    let one = and_parts (is_of q p.map p.cell) (codes && (first && second)) e in
    let cells = cell_of q p.map p.cell one.0 in
    let two = and_parts codes (first && second) one.1 in
    let three = and_parts first second two.1 in
    record {
      map = cells.0;
      cell = cells.1;
      both = λ h k. same_number v w (or_second (nat_le p.limit least) (v == w) (or_second (nat_le q.limit least) (nat_le p.limit least || v == w) two.0 (not_le q.limit least h)) (not_le p.limit least k));
      first_alone = λ h. or_second (nat_le q.limit (max least p.limit)) (stops_with after_p v) three.0 (not_le q.limit (max least p.limit) h);
      second_alone = λ h. or_second (nat_le p.limit (max least q.limit)) (stops_with after_q w) three.1 (not_le p.limit (max least q.limit) h);
    }

same_draw : (q p : Quota) (answer : ℕ) → q.map ≡ p.map → q.cell ≡ p.cell → draw q answer ≡ draw p answer
same_draw q p answer e f = rw (e, f) refl

-- ---- sound

-- one of two runs gets tickets that are not below the least
abbrev IsOneAnswered : (least : ℕ → ℕ → ℕ) → (one other : List Call) → Type 0
IsOneAnswered least one other = AreTicketsFrom least one ⊎ AreTicketsFrom least other

-- the two draws, by whether each matches
by_matches : (s t : Bool) (d c : Call) (v w : ℕ) (a b : List Call × ℕ) → d ≡ c → (s ≡ true → t ≡ true → v ≡ w) → (s ≡ true → t ≡ false → b ≡ ends v) → (s ≡ false → t ≡ true → a ≡ ends w) → (s ≡ false → t ≡ false → a ≡ b)
    → (if s then matches d v else goes d a) ≡ (if t then matches c w else goes c b)
by_matches true true d c v w a b e vw bv aw ab = rw (e, vw refl refl) refl
by_matches true false d c v w a b e vw bv aw ab = rw (e, bv refl refl) refl
by_matches false true d c v w a b e vw bv aw ab = rw (e, aw refl refl) refl
by_matches false false d c v w a b e vw bv aw ab = rw (e, ab refl refl) refl

below_limit : (a limit : ℕ) → nat_lt a limit ≡ true → a < limit
below_limit a limit e = grind (arith, nat_tests)

not_below_limit : (a limit : ℕ) → nat_lt a limit ≡ false → limit ≤ a
not_below_limit a limit e = grind (arith, nat_tests)

module _ (olds news : List Rule) (rule other : Rule) (q p : Quota) (v w : ℕ) (rules others : List Rule) (e : rule.quota ≡ Some q) (f : other.quota ≡ Some p)
    (same : AreSameSteps (least_of olds news q.map q.cell) q v p w (stop rules) (stop others))
    (rest : (reported : ℕ → ℕ) → IsOneAnswered (least_of (olds ++ rule ∷ []) (news ++ other ∷ [])) (said rules reported).0 (said others reported).0 → said rules reported ≡ said others reported) (reported : ℕ → ℕ) where
  abbrev on : ℕ → ℕ
  on k = reported (suc k)

  abbrev one_run : List Call × ℕ
  one_run = ruled (Some q) v reported (said rules on)

  abbrev other_run : List Call × ℕ
  other_run = ruled (Some p) w reported (said others on)

  not_below_least : IsOneAnswered (least_of olds news) one_run.0 other_run.0 → least_of olds news q.map q.cell ≤ reported 0
  not_below_least (inl h) = drawn_first (least_of olds news) q v reported (said rules on) h
  not_below_least (inr h) =
      let there : least_of olds news p.map p.cell ≡ least_of olds news q.map q.cell = ap (λ (n : ℕ). least_of olds news n p.cell) (sym same.map) ∙ ap (λ (n : ℕ). least_of olds news q.map n) (sym same.cell) in
      omega (arith, there, drawn_first (least_of olds news) p w reported (said others on) h)

  rest_answered : nat_lt (reported 0) q.limit ≡ false → nat_lt (reported 0) p.limit ≡ false → IsOneAnswered (least_of olds news) one_run.0 other_run.0
      → IsOneAnswered (least_of (olds ++ rule ∷ []) (news ++ other ∷ [])) (said rules on).0 (said others on).0
  rest_answered s t h = by_one h
    where
      lower : (map cell : ℕ) → least_of (olds ++ rule ∷ []) (news ++ other ∷ []) map cell ≤ after (least_of olds news) q (reported 0) map cell
      lower map cell =
          both_below olds news rule other q p e f same.map same.cell map cell (reported 0) (not_below_least h) (not_below_limit (reported 0) q.limit s) (not_below_limit (reported 0) p.limit t)

      same_after : (map cell : ℕ) → after (least_of olds news) q (reported 0) map cell ≡ after (least_of olds news) p (reported 0) map cell
      same_after map cell = ap (λ (n : ℕ). if n == map && q.cell == cell then suc (reported 0) else least_of olds news map cell) same.map ∙ ap (λ (n : ℕ). if p.map == map && n == cell then suc (reported 0) else least_of olds news map cell) same.cell

      by_one : IsOneAnswered (least_of olds news) one_run.0 other_run.0 → IsOneAnswered (least_of (olds ++ rule ∷ []) (news ++ other ∷ [])) (said rules on).0 (said others on).0
      by_one (inl k) = inl (weaker _ (after (least_of olds news) q (reported 0)) (said rules on).0 lower (drawn_rest (least_of olds news) q v reported (said rules on) s k))
      by_one (inr k) = inr (weaker _ (after (least_of olds news) p (reported 0)) (said others on).0 (λ map cell. omega (arith, lower map cell, same_after map cell)) (drawn_rest (least_of olds news) p w reported (said others on) t k))

  both_sound : IsOneAnswered (least_of olds news) one_run.0 other_run.0 → one_run ≡ other_run
  both_sound h =
      let least : ℕ = least_of olds news q.map q.cell in
      let le : least ≤ reported 0 = not_below_least h in
      by_matches (nat_lt (reported 0) q.limit) (nat_lt (reported 0) p.limit) (draw q (reported 0)) (draw p (reported 0)) v w (said rules on) (said others on)
      (same_draw q p (reported 0) same.map same.cell)
      (λ s t. same.both (omega (arith, le, below_limit (reported 0) q.limit s)) (omega (arith, le, below_limit (reported 0) p.limit t)))
      (λ s t. stops others v on (same.first_alone (omega (arith, le, below_limit (reported 0) q.limit s, not_below_limit (reported 0) p.limit t))))
      (λ s t. stops rules w on (same.second_alone (omega (arith, le, not_below_limit (reported 0) q.limit s, below_limit (reported 0) p.limit t))))
      (λ s t. rest on (rest_answered s t h))

-- the tests of two lists that hold after others, and what they mean
abbrev IsSound : (olds news old new : List Rule) → Type 0
IsSound olds news old new = alike_after olds news old new ≡ true → (reported : ℕ → ℕ) → IsOneAnswered (least_of olds news) (said old reported).0 (said new reported).0 → said old reported ≡ said new reported

second_sound : (olds news : List Rule) (rule : Rule) (q : Quota) (v : ℕ) (rules : List Rule) (other : Rule) (quota : Option Quota) (w : ℕ) (others : List Rule) → rule.quota ≡ Some q → other.quota ≡ quota
    → IsSound (olds ++ rule ∷ []) (news ++ other ∷ []) rules others
    → after_both (least_of olds news q.map q.cell) q v (stop rules) (alike_after (olds ++ rule ∷ []) (news ++ other ∷ []) rules others) quota w (stop others) ≡ true → (reported : ℕ → ℕ)
    → IsOneAnswered (least_of olds news) (ruled (Some q) v reported (said rules (λ k. reported (suc k)))).0 (ruled quota w reported (said others (λ k. reported (suc k)))).0
    → ruled (Some q) v reported (said rules (λ k. reported (suc k))) ≡ ruled quota w reported (said others (λ k. reported (suc k)))
second_sound olds news rule q v rules other None w others e f rest h reported one = absurd (cc)
second_sound olds news rule q v rules other (Some p) w others e f rest h reported one =
    let parts = and_parts (same_steps (least_of olds news q.map q.cell) q v p w (stop rules) (stop others)) (alike_after (olds ++ rule ∷ []) (news ++ other ∷ []) rules others) h in
    both_sound olds news rule other q p v w rules others e f (steps_of (least_of olds news q.map q.cell) q v p w (stop rules) (stop others) parts.0) (rest parts.1) reported one

first_sound : (olds news : List Rule) (rule : Rule) (quota : Option Quota) (v : ℕ) (rules others : List Rule) → rule.quota ≡ quota
    → ((other : Rule) (more : List Rule) → IsSound (olds ++ rule ∷ []) (news ++ other ∷ []) rules more)
    → after_first (least_of olds news) quota v (stop rules) (λ other more. alike_after (olds ++ rule ∷ []) (news ++ other ∷ []) rules more) others ≡ true → (reported : ℕ → ℕ)
    → IsOneAnswered (least_of olds news) (ruled quota v reported (said rules (λ k. reported (suc k)))).0 (said others reported).0
    → ruled quota v reported (said rules (λ k. reported (suc k))) ≡ said others reported
first_sound olds news rule None v rules others e rest h reported one = sym (stops others v reported h)
first_sound olds news rule (Some q) v rules [] e rest h reported one = absurd (cc)
first_sound olds news rule (Some q) v rules (other ∷ others) e rest h reported one =
    second_sound olds news rule q v rules other other.quota (verdict_number other.verdict) others e refl (rest other others) h reported one

sound_after : (olds news old new : List Rule) → IsSound olds news old new
sound_after olds news [] new e reported one = sym (stops new (verdict_number NotAuthorised) reported e)
sound_after olds news (rule ∷ rules) new e reported one =
    first_sound olds news rule rule.quota (verdict_number rule.verdict) rules new refl (λ other more. sound_after (olds ++ rule ∷ []) (news ++ other ∷ []) rules more) e reported one

-- at first a cell may give any ticket
from_none : (map cell : ℕ) → least_of [] [] map cell ≡ 0
from_none map cell = omega arith

pub sound : (old new : List Rule) → alike_said old new ≡ true → AreSaidAlike old new
sound old new e reported one = sound_after [] [] old new e reported (by_one one)
  where
    by_one : AreTicketsOfOne (said old reported).0 (said new reported).0 → IsOneAnswered (least_of [] []) (said old reported).0 (said new reported).0
    by_one (inl h) = inl (from_start (least_of [] []) (said old reported).0 from_none h)
    by_one (inr h) = inr (from_start (least_of [] []) (said new reported).0 from_none h)

-- ---- complete

-- the parts of a decision
abbrev map_of : List Call → ℕ
map_of [] = 0
map_of (c ∷ cs) = c.question.map

abbrev key_of : List Call → ℕ
key_of [] = 0
key_of (c ∷ cs) = c.question.key

abbrev later : List Call → List Call
later [] = []
later (c ∷ cs) = cs

-- a draw, then a match or the rest
abbrev drawn : Bool → Call → (v : ℕ) → (rest : List Call × ℕ) → List Call × ℕ
drawn s d v a = if s then matches d v else goes d a

drawn_map : (s : Bool) (d : Call) (v : ℕ) (a : List Call × ℕ) → map_of (drawn s d v a).0 ≡ d.question.map
drawn_map true d v a = refl
drawn_map false d v a = refl

drawn_key : (s : Bool) (d : Call) (v : ℕ) (a : List Call × ℕ) → key_of (drawn s d v a).0 ≡ d.question.key
drawn_key true d v a = refl
drawn_key false d v a = refl

drawn_match : (s : Bool) (d : Call) (v : ℕ) (a : List Call × ℕ) → s ≡ true → drawn s d v a ≡ matches d v
drawn_match true d v a e = refl
drawn_match false d v a e = absurd (cc)

drawn_on : (s : Bool) (d : Call) (v : ℕ) (a : List Call × ℕ) → s ≡ false → drawn s d v a ≡ goes d a
drawn_on true d v a e = absurd (cc)
drawn_on false d v a e = refl

unlike : (a b : ℕ) → (a == b) ≡ false → ¬ (a ≡ b)
unlike a b e h = absurd (grind (arith, nat_tests))

test_lt : (a b : ℕ) → a < b → nat_lt a b ≡ true
test_lt a b h = lt-ltb a b h

test_le : (a b : ℕ) → b ≤ a → nat_lt a b ≡ false
test_le a b h = le-ltb a b h

-- only this one matches, and the other goes on: they are not the same if the other does not end so
alone : (d c : Call) (v w : ℕ) (others : List Rule) (reported : ℕ → ℕ) → stops_with (stop others) v ≡ false → ¬ (matches d v ≡ goes c (said others reported))
alone d c v w others reported no_stop e =
    let none : length (said others reported).0 ≡ 0 = omega (arith, ap (λ (x : List Call × ℕ). length x.0) e) in
    let code : (said others reported).1 ≡ v = sym (ap (λ (x : List Call × ℕ). x.1) e) in
    let it_ends : stops_with (stop others) v ≡ true = subst (λ (n : ℕ). stops_with (stop others) n ≡ true) code (undrawn others reported none) in
    absurd (cc)

-- two decisions differ for tickets that are not below the least
record DifferFrom (least : ℕ → ℕ → ℕ) (old new : (ℕ → ℕ) → List Call × ℕ) : Type 0 where
  reported : ℕ → ℕ
  words : AreAnswerWords reported
  old_answered : AreTicketsFrom least (old reported).0
  new_answered : AreTicketsFrom least (new reported).0
  differ : ¬ (old reported ≡ new reported)

-- a rule with what comes after it
abbrev with_rest : Option Quota → (code : ℕ) → List Rule → (ℕ → ℕ) → List Call × ℕ
with_rest quota code rules reported = ruled quota code reported (said rules (λ k. reported (suc k)))

-- a bound of limits and of the least, from which on there are words enough
record IsBound (bound : ℕ) (least : ℕ → ℕ → ℕ) (rules others : List Rule) : Type 0 where
  limits : 2147483647 ≤ bound
  below : (map cell : ℕ) → least map cell ≤ bound
  fits : suc bound + (length rules + length others) < 2 ^ 64

module _ (least : ℕ → ℕ → ℕ) (q : Quota) (v : ℕ) (p : Quota) (w : ℕ) (rules others : List Rule) (bound : ℕ) (bounded : IsBound bound least rules others) where
  abbrev BothDiffer : Type 0
  BothDiffer = DifferFrom least (with_rest (Some q) v rules) (with_rest (Some p) w others)

  -- they differ for a ticket, and rising tickets after it
  differ_by : (t : ℕ) → least q.map q.cell ≤ t → least p.map p.cell ≤ t → t ≤ bound
      → ¬ (with_rest (Some q) v rules (ahead t (rising (suc bound))) ≡ with_rest (Some p) w others (ahead t (rising (suc bound)))) → BothDiffer
  differ_by t one two fits differ = record {
    reported = ahead t (rising (suc bound));
    words = ahead_words t (rising (suc bound)) (omega (arith, fits, bounded.fits)) (rising_words (suc bound));
    old_answered = ahead_answered least q v rules t bound one fits bounded.below (omega (arith, bounded.fits));
    new_answered = ahead_answered least p w others t bound two fits bounded.below (omega (arith, bounded.fits));
    differ = differ;
  }

  map_differs : (q.map == p.map) ≡ false → BothDiffer
  map_differs no_map =
      differ_by bound (bounded.below q.map q.cell) (bounded.below p.map p.cell) (omega arith)
      (λ e. unlike q.map p.map no_map
      (sym (drawn_map (nat_lt bound q.limit) (draw q bound) v (said rules (rising (suc bound)))) ∙ ap (λ (x : List Call × ℕ). map_of x.0) e ∙ drawn_map (nat_lt bound p.limit) (draw p bound) w (said others (rising (suc bound)))))

  cell_differs : (q.cell == p.cell) ≡ false → BothDiffer
  cell_differs no_cell =
      differ_by bound (bounded.below q.map q.cell) (bounded.below p.map p.cell) (omega arith)
      (λ e. unlike q.cell p.cell no_cell
      (sym (drawn_key (nat_lt bound q.limit) (draw q bound) v (said rules (rising (suc bound)))) ∙ ap (λ (x : List Call × ℕ). key_of x.0) e ∙ drawn_key (nat_lt bound p.limit) (draw p bound) w (said others (rising (suc bound)))))

  -- the same cell has the same least
  same_least : is_of q p.map p.cell ≡ true → least p.map p.cell ≡ least q.map q.cell
  same_least cell =
      let same = cell_of q p.map p.cell cell in
      ap (λ (n : ℕ). least n p.cell) (sym same.0) ∙ ap (λ (n : ℕ). least q.map n) (sym same.1)

  verdict_differs : is_of q p.map p.cell ≡ true → least q.map q.cell < q.limit → least q.map q.cell < p.limit → (v == w) ≡ false → BothDiffer
  verdict_differs cell hq hp no_code =
      let t : ℕ = least q.map q.cell in
      differ_by t (omega arith) (omega (arith, same_least cell)) (bounded.below q.map q.cell)
      (λ e. unlike v w no_code
      (sym (ap (λ (x : List Call × ℕ). x.1) (drawn_match (nat_lt t q.limit) (draw q t) v (said rules (rising (suc bound))) (test_lt t q.limit hq)))
      ∙ ap (λ (x : List Call × ℕ). x.1) e ∙ ap (λ (x : List Call × ℕ). x.1) (drawn_match (nat_lt t p.limit) (draw p t) w (said others (rising (suc bound))) (test_lt t p.limit hp))))

  first_alone_differs : is_of q p.map p.cell ≡ true → p.limit ≤ 2147483647 → max (least q.map q.cell) p.limit < q.limit → stops_with (stop others) v ≡ false → BothDiffer
  first_alone_differs cell fits lt no_stop =
      let t : ℕ = max (least q.map q.cell) p.limit in
      differ_by t (omega arith) (omega (arith, same_least cell)) (omega (arith, fits, bounded.limits, bounded.below q.map q.cell))
      (λ e. alone (draw q t) (draw p t) v w others (rising (suc bound)) no_stop
      (sym (drawn_match (nat_lt t q.limit) (draw q t) v (said rules (rising (suc bound))) (test_lt t q.limit lt)) ∙ e ∙ drawn_on (nat_lt t p.limit) (draw p t) w (said others (rising (suc bound))) (test_le t p.limit (omega arith))))

  second_alone_differs : is_of q p.map p.cell ≡ true → q.limit ≤ 2147483647 → max (least q.map q.cell) q.limit < p.limit → stops_with (stop rules) w ≡ false → BothDiffer
  second_alone_differs cell fits lt no_stop =
      let t : ℕ = max (least q.map q.cell) q.limit in
      differ_by t (omega arith) (omega (arith, same_least cell)) (omega (arith, fits, bounded.limits, bounded.below q.map q.cell))
      (λ e. alone (draw p t) (draw q t) w v rules (rising (suc bound)) no_stop
      (sym (drawn_match (nat_lt t p.limit) (draw p t) w (said others (rising (suc bound))) (test_lt t p.limit lt)) ∙ sym e ∙ drawn_on (nat_lt t q.limit) (draw q t) v (said rules (rising (suc bound))) (test_le t q.limit (omega arith))))

-- what differs after two draws of one cell that do not match
rest_differs : (olds news : List Rule) (rule other : Rule) (q : Quota) (v : ℕ) (p : Quota) (w : ℕ) (rules others : List Rule) (bound : ℕ) → IsBound bound (least_of olds news) rules others → rule.quota ≡ Some q → other.quota ≡ Some p
    → is_of q p.map p.cell ≡ true → q.limit ≤ 2147483647 → p.limit ≤ 2147483647 → DifferFrom (least_of (olds ++ rule ∷ []) (news ++ other ∷ [])) (said rules) (said others)
    → DifferFrom (least_of olds news) (with_rest (Some q) v rules) (with_rest (Some p) w others)
rest_differs olds news rule other q v p w rules others bound bounded e f cell fq fp d = record {
  reported = ahead t d.reported;
  words = ahead_words t d.reported (omega (arith, fq, fp, bounded.fits, bounded.below q.map q.cell)) d.words;
  old_answered = drawn_answered (least_of olds news) q v (ahead t d.reported) (said rules d.reported) (omega arith) (λ _. weaker _ _ (said rules d.reported).0 above d.old_answered);
  new_answered = drawn_answered (least_of olds news) p w (ahead t d.reported) (said others d.reported) (omega (arith, there)) (λ _. weaker _ _ (said others d.reported).0 above_other d.new_answered);
  differ = λ h. d.differ
      (ap (λ (x : List Call × ℕ). (later x.0, x.1))
      (sym (drawn_on (nat_lt t q.limit) (draw q t) v (said rules d.reported) (test_le t q.limit (omega arith))) ∙ h ∙ drawn_on (nat_lt t p.limit) (draw p t) w (said others d.reported) (test_le t p.limit (omega arith))));
}
  where
    t : ℕ
    t = max (least_of olds news q.map q.cell) (max q.limit p.limit)

    same : (q.map ≡ p.map) × (q.cell ≡ p.cell)
    same = cell_of q p.map p.cell cell

    there : least_of olds news p.map p.cell ≡ least_of olds news q.map q.cell
    there = ap (λ (n : ℕ). least_of olds news n p.cell) (sym same.0) ∙ ap (λ (n : ℕ). least_of olds news q.map n) (sym same.1)

    above : (map cell : ℕ) → after (least_of olds news) q t map cell ≤ least_of (olds ++ rule ∷ []) (news ++ other ∷ []) map cell
    above map cell = both_above olds news rule other q p e f same.0 same.1 map cell

    above_other : (map cell : ℕ) → after (least_of olds news) p t map cell ≤ least_of (olds ++ rule ∷ []) (news ++ other ∷ []) map cell
    above_other map cell =
        let one : is_of p map cell ≡ is_of q map cell = ap (λ (n : ℕ). n == map && p.cell == cell) (sym same.0) ∙ ap (λ (n : ℕ). q.map == map && n == cell) (sym same.1) in
        let two : after (least_of olds news) p t map cell ≡ after (least_of olds news) q t map cell = ap (λ (b : Bool). if b then suc t else least_of olds news map cell) one in
        omega (arith, two, above map cell)

-- ---- which part is not the same

and_false : (s t : Bool) → (s && t) ≡ false → (s ≡ false) ⊎ (t ≡ false)
and_false true t e = inr e
and_false false t e = inl refl

or_false : (s t : Bool) → (s || t) ≡ false → (s ≡ false) × (t ≡ false)
or_false true t e = absurd (cc)
or_false false t e = (refl, e)

over : (a b : ℕ) → nat_le a b ≡ false → b < a
over a b e = grind (arith, nat_tests)

module _ (olds news : List Rule) (rule other : Rule) (q : Quota) (v : ℕ) (p : Quota) (w : ℕ) (rules others : List Rule) (bound : ℕ) (bounded : IsBound bound (least_of olds news) rules others) (fq : q.limit ≤ 2147483647) (fp : p.limit ≤ 2147483647) where
  abbrev first_least : ℕ
  first_least = least_of olds news q.map q.cell

  cells_differ : is_of q p.map p.cell ≡ false → DifferFrom (least_of olds news) (with_rest (Some q) v rules) (with_rest (Some p) w others)
  cells_differ h = elim (and_false (q.map == p.map) (q.cell == p.cell) h) [
    | inl k ↦ map_differs (least_of olds news) q v p w rules others bound bounded k
    | inr k ↦ cell_differs (least_of olds news) q v p w rules others bound bounded k
  ]

  steps_differ : is_of q p.map p.cell ≡ true
      → ((nat_le q.limit first_least || (nat_le p.limit first_least || v == w)) && ((nat_le q.limit (max first_least p.limit) || stops_with (stop others) v) && (nat_le p.limit (max first_least q.limit) || stops_with (stop rules) w))) ≡ false
      → DifferFrom (least_of olds news) (with_rest (Some q) v rules) (with_rest (Some p) w others)
  steps_differ cell e = elim (and_false (nat_le q.limit first_least || (nat_le p.limit first_least || v == w)) _ e) [
    | inl codes ↦
        let one = or_false (nat_le q.limit first_least) (nat_le p.limit first_least || v == w) codes in
        let two = or_false (nat_le p.limit first_least) (v == w) one.1 in
        verdict_differs (least_of olds news) q v p w rules others bound bounded cell (over q.limit first_least one.0) (over p.limit first_least two.0) two.1
    | inr more ↦ elim (and_false (nat_le q.limit (max first_least p.limit) || stops_with (stop others) v) (nat_le p.limit (max first_least q.limit) || stops_with (stop rules) w) more) [
      | inl h ↦
          let parts = or_false (nat_le q.limit (max first_least p.limit)) (stops_with (stop others) v) h in
          first_alone_differs (least_of olds news) q v p w rules others bound bounded cell fp (over q.limit (max first_least p.limit) parts.0) parts.1
      | inr h ↦
          let parts = or_false (nat_le p.limit (max first_least q.limit)) (stops_with (stop rules) w) h in
          second_alone_differs (least_of olds news) q v p w rules others bound bounded cell fq (over p.limit (max first_least q.limit) parts.0) parts.1
    ]
  ]

  both_differ : rule.quota ≡ Some q → other.quota ≡ Some p → (alike_after (olds ++ rule ∷ []) (news ++ other ∷ []) rules others ≡ false → DifferFrom (least_of (olds ++ rule ∷ []) (news ++ other ∷ [])) (said rules) (said others))
      → (same_steps first_least q v p w (stop rules) (stop others) && alike_after (olds ++ rule ∷ []) (news ++ other ∷ []) rules others) ≡ false
      → DifferFrom (least_of olds news) (with_rest (Some q) v rules) (with_rest (Some p) w others)
  both_differ e f rest h = by_cell (is_of q p.map p.cell) refl h
    where
      by_cell : (b : Bool) → is_of q p.map p.cell ≡ b
          → ((b && ((nat_le q.limit first_least || (nat_le p.limit first_least || v == w)) && ((nat_le q.limit (max first_least p.limit) || stops_with (stop others) v) && (nat_le p.limit (max first_least q.limit) || stops_with (stop rules) w)))) && alike_after (olds ++ rule ∷ []) (news ++ other ∷ []) rules others) ≡ false
          → DifferFrom (least_of olds news) (with_rest (Some q) v rules) (with_rest (Some p) w others)
      by_cell false c k = cells_differ c
      by_cell true c k = elim (and_false _ (alike_after (olds ++ rule ∷ []) (news ++ other ∷ []) rules others) k) [
        | inl s ↦ steps_differ c s
        | inr s ↦ rest_differs olds news rule other q v p w rules others bound bounded e f c fq fp (rest s)
      ]

-- ---- all of two lists

draws_differ : (q : Quota) (v code : ℕ) (reported : ℕ → ℕ) (rest : List Call × ℕ) → ¬ (ruled (Some q) v reported rest ≡ ends code)
draws_differ q v code reported rest e = absurd (omega (arith, ruled_draws q v reported rest, ap (λ (x : List Call × ℕ). length x.0) e))

stop_differs : (others : List Rule) (code : ℕ) (reported : ℕ → ℕ) → stops_with (stop others) code ≡ false → ¬ (ends code ≡ said others reported)
stop_differs others code reported no_stop e =
    let none : length (said others reported).0 ≡ 0 = sym (ap (λ (x : List Call × ℕ). length x.0) e) in
    let own : (said others reported).1 ≡ code = sym (ap (λ (x : List Call × ℕ). x.1) e) in
    let it_ends : stops_with (stop others) code ≡ true = subst (λ (n : ℕ). stops_with (stop others) n ≡ true) own (undrawn others reported none) in
    absurd (cc)

-- one that draws nothing differs from others that end otherwise
ended_differs : (least : ℕ → ℕ → ℕ) (code : ℕ) (others : List Rule) (bound : ℕ) → ((map cell : ℕ) → least map cell ≤ bound) → bound + length others < 2 ^ 64 → stops_with (stop others) code ≡ false → DifferFrom least (λ reported. ends code) (said others)
ended_differs least code others bound below fits no_stop = record {
  reported = rising bound;
  words = rising_words bound;
  old_answered = none_answered least;
  new_answered = rising_answered others bound least (rising bound) (rising_is bound (length others) fits) below;
  differ = stop_differs others code (rising bound) no_stop;
}

-- one that draws differs from one that does not
drawn_differs : (least : ℕ → ℕ → ℕ) (q : Quota) (v : ℕ) (rules : List Rule) (code : ℕ) (bound : ℕ) → ((map cell : ℕ) → least map cell ≤ bound) → suc bound + length rules < 2 ^ 64 → DifferFrom least (with_rest (Some q) v rules) (λ reported. ends code)
drawn_differs least q v rules code bound below fits = record {
  reported = ahead bound (rising (suc bound));
  words = ahead_words bound (rising (suc bound)) (omega (arith, fits)) (rising_words (suc bound));
  old_answered = ahead_answered least q v rules bound bound (below q.map q.cell) (omega arith) below fits;
  new_answered = none_answered least;
  differ = draws_differ q v code (ahead bound (rising (suc bound))) (said rules (rising (suc bound)));
}

-- what the tests of two lists that do not hold after others mean
abbrev IsComplete : (olds news old new : List Rule) → Type 0
IsComplete olds news old new =
    (bound : ℕ) → 2147483647 ≤ bound → ((map cell : ℕ) → least_of olds news map cell ≤ bound) → bound + (length old + length new) < 2 ^ 64
    → All HasLimit old → All HasLimit new → alike_after olds news old new ≡ false → DifferFrom (least_of olds news) (said old) (said new)

-- the least after two rules with limits is at most one more
bound_next : (olds news : List Rule) (rule other : Rule) (q p : Quota) (bound : ℕ) → rule.quota ≡ Some q → other.quota ≡ Some p → q.limit ≤ 2147483647 → p.limit ≤ 2147483647 → 2147483647 ≤ bound
    → ((map cell : ℕ) → least_of olds news map cell ≤ bound) → (map cell : ℕ) → least_of (olds ++ rule ∷ []) (news ++ other ∷ []) map cell ≤ suc bound
bound_next olds news rule other q p bound e f fq fp limits below map cell =
    rw (least_next 0 olds rule q map cell e, least_next 0 news other p map cell f) (by_cells (is_of q map cell) (is_of p map cell))
  where
    by_cells : (s t : Bool) → max (if s then suc (max (least_from 0 olds map cell) q.limit) else least_from 0 olds map cell) (if t then suc (max (least_from 0 news map cell) p.limit) else least_from 0 news map cell) ≤ suc bound
    by_cells true true = omega (arith, below map cell, fq, fp, limits)
    by_cells true false = omega (arith, below map cell, fq, fp, limits)
    by_cells false true = omega (arith, below map cell, fq, fp, limits)
    by_cells false false = omega (arith, below map cell, fq, fp, limits)

second_differs : (olds news : List Rule) (rule : Rule) (q : Quota) (v : ℕ) (rules : List Rule) (other : Rule) (quota : Option Quota) (w : ℕ) (others : List Rule) (bound : ℕ) → rule.quota ≡ Some q → other.quota ≡ quota → q.limit ≤ 2147483647 → IsLimited quota
    → 2147483647 ≤ bound → ((map cell : ℕ) → least_of olds news map cell ≤ bound) → suc bound + (length rules + length others) < 2 ^ 64
    → (alike_after (olds ++ rule ∷ []) (news ++ other ∷ []) rules others ≡ false → ((map cell : ℕ) → least_of (olds ++ rule ∷ []) (news ++ other ∷ []) map cell ≤ suc bound) → DifferFrom (least_of (olds ++ rule ∷ []) (news ++ other ∷ [])) (said rules) (said others))
    → after_both (least_of olds news q.map q.cell) q v (stop rules) (alike_after (olds ++ rule ∷ []) (news ++ other ∷ []) rules others) quota w (stop others) ≡ false
    → DifferFrom (least_of olds news) (with_rest (Some q) v rules) (with_rest quota w others)
second_differs olds news rule q v rules other None w others bound e f fq limited limits below fits rest h = drawn_differs (least_of olds news) q v rules w bound below (omega (arith, fits))
second_differs olds news rule q v rules other (Some p) w others bound e f fq limited limits below fits rest h =
    both_differ olds news rule other q v p w rules others bound (record { limits = limits; below = below; fits = fits }) fq limited.2 e f
    (λ s. rest s (bound_next olds news rule other q p bound e f fq limited.2 limits below)) h

first_differs : (olds news : List Rule) (rule : Rule) (quota : Option Quota) (v : ℕ) (rules others : List Rule) (bound : ℕ) → rule.quota ≡ quota → IsLimited quota → 2147483647 ≤ bound → ((map cell : ℕ) → least_of olds news map cell ≤ bound)
    → bound + (suc (length rules) + length others) < 2 ^ 64 → All HasLimit others
    → ((other : Rule) (more : List Rule) → All HasLimit more → alike_after (olds ++ rule ∷ []) (news ++ other ∷ []) rules more ≡ false → ((map cell : ℕ) → least_of (olds ++ rule ∷ []) (news ++ other ∷ []) map cell ≤ suc bound)
    → suc bound + (length rules + length more) < 2 ^ 64 → DifferFrom (least_of (olds ++ rule ∷ []) (news ++ other ∷ [])) (said rules) (said more))
    → after_first (least_of olds news) quota v (stop rules) (λ other more. alike_after (olds ++ rule ∷ []) (news ++ other ∷ []) rules more) others ≡ false
    → DifferFrom (least_of olds news) (with_rest quota v rules) (said others)
first_differs olds news rule None v rules others bound e limited limits below fits more rest h = ended_differs (least_of olds news) v others bound below (omega (arith, fits)) h
first_differs olds news rule (Some q) v rules [] bound e limited limits below fits more rest h = drawn_differs (least_of olds news) q v rules (verdict_number NotAuthorised) bound below (omega (arith, fits))
first_differs olds news rule (Some q) v rules (other ∷ others) bound e limited limits below fits more rest h =
    let few : suc bound + (length rules + length others) < 2 ^ 64 = omega (arith, fits) in
    second_differs olds news rule q v rules other other.quota (verdict_number other.verdict) others bound e refl limited.2 (All-head HasLimit other others more) limits below few
    (λ s le. rest other others (All-tail HasLimit other others more) s le few) h

complete_after : (olds news old new : List Rule) → IsComplete olds news old new
complete_after olds news [] new bound limits below fits one two e = ended_differs (least_of olds news) (verdict_number NotAuthorised) new bound below (omega (arith, fits)) e
complete_after olds news (rule ∷ rules) new bound limits below fits one two e =
    first_differs olds news rule rule.quota (verdict_number rule.verdict) rules new bound refl (All-head HasLimit rule rules one) limits below fits two
    (λ other more limited h le few. complete_after (olds ++ rule ∷ []) (news ++ other ∷ []) rules more (suc bound) (omega (arith, limits)) le few (All-tail HasLimit rule rules one) limited h) e

pub complete : (old new : List Rule) → AreLimited old → AreLimited new → alike_said old new ≡ false → DifferSaid old new
complete old new one two e =
    let d = complete_after [] [] old new 2147483647 (omega arith) (λ map cell. omega (arith, from_none map cell)) (omega (arith, one.few, two.few)) one.limits two.limits e in
    record { reported = d.reported; words = d.words; old_tickets = d.old_answered.tickets; new_tickets = d.new_answered.tickets; differ = d.differ }

-- ---- tables

-- what holds of each rule holds of those that hold
held_limits : (p : Point) (rules : List Rule) → All HasLimit rules → All HasLimit (held p rules)
held_limits p [] limits = limits
held_limits p (rule ∷ rules) limits =
    by_test (holds_at rule p) (held_limits p rules (All-tail HasLimit rule rules limits)) (All-head HasLimit rule rules limits)
  where
    by_test : (t : Bool) → All HasLimit (held p rules) → HasLimit rule → All HasLimit (if t then rule ∷ held p rules else held p rules)
    by_test true rest one = All-cons HasLimit rule (held p rules) one rest
    by_test false rest one = rest

held_few : (p : Point) (rules : List Rule) → length (held p rules) ≤ length rules
held_few p [] = omega arith
held_few p (rule ∷ rules) = by_test (holds_at rule p) (held_few p rules)
  where
    by_test : (t : Bool) → length (held p rules) ≤ length rules → length (if t then rule ∷ held p rules else held p rules) ≤ suc (length rules)
    by_test true le = omega (arith, le)
    by_test false le = omega (arith, le)

held_limited : (p : Point) (rules : List Rule) → AreLimited rules → AreLimited (held p rules)
held_limited p rules h = record { limits = held_limits p rules h.limits; few = omega (arith, held_few p rules, h.few) }

tickets_there : (rules : List Rule) (p : Point) (reported : ℕ → ℕ) → AreTickets (said (held p rules) reported).0 → AreTickets (decision_at rules p reported).0
tickets_there rules p reported h = subst (λ (d : List Call × ℕ). AreTickets d.0) (sym (held_decide rules p reported)) h

tickets_said : (rules : List Rule) (p : Point) (reported : ℕ → ℕ) → AreTickets (decision_at rules p reported).0 → AreTickets (said (held p rules) reported).0
tickets_said rules p reported h = subst (λ (d : List Call × ℕ). AreTickets d.0) (held_decide rules p reported) h

pub alike_by_test : (t : Bool) (old new : List Rule) (p : Point) → t ≡ alike_said (held p old) (held p new) → MatchBool t (DecideAlike old new p) (DifferWithinLimits old new p)
alike_by_test true old new p e = λ reported one. held_decide old p reported ∙ sound (held p old) (held p new) (sym e) reported (by_one reported one) ∙ sym (held_decide new p reported)
  where
    by_one : (reported : ℕ → ℕ) → AreTicketsOfOne (decision_at old p reported).0 (decision_at new p reported).0 → AreTicketsOfOne (said (held p old) reported).0 (said (held p new) reported).0
    by_one reported (inl h) = inl (tickets_said old p reported h)
    by_one reported (inr h) = inr (tickets_said new p reported h)
alike_by_test false old new p e = λ olds news.
    let d : DifferSaid (held p old) (held p new) = complete (held p old) (held p new) (held_limited p old olds) (held_limited p new news) (sym e) in
    record {
      reported = d.reported;
      words = d.words;
      old_tickets = tickets_there old p d.reported d.old_tickets;
      new_tickets = tickets_there new p d.reported d.new_tickets;
      differ = λ same. d.differ (sym (held_decide old p d.reported) ∙ same ∙ held_decide new p d.reported);
    }

-- ---- what the code finds

none_before : (t : Bool) (rule : Rule) (rest : List Rule) → t ≡ false → (if t then rule ∷ rest else rest) ≡ rest
none_before true rule rest e = absurd (cc)
none_before false rule rest e = refl

here_first : (t : Bool) (rule : Rule) (rest : List Rule) → t ≡ true → (if t then rule ∷ rest else rest) ≡ rule ∷ rest
here_first true rule rest e = refl
here_first false rule rest e = absurd (cc)

pub held_after : (p : Point) (rules : List Rule) (i : ℕ) (d : Rule) → i < length rules → holds_at (get_or rules i d) p ≡ false → held p (drop i rules) ≡ held p (drop (i + 1) rules)
held_after p rules i d lt none =
    ap (λ (rs : List Rule). held p rs) (drop-cons rules i d lt) ∙ none_before (holds_at (get_or rules i d) p) (get_or rules i d) (held p (drop (suc i) rules)) none
    ∙ ap (λ (k : ℕ). held p (drop k rules)) (sym (add-one i))

pub held_here : (p : Point) (rules : List Rule) (i : ℕ) (d : Rule) → i < length rules → holds_at (get_or rules i d) p ≡ true → held p (drop i rules) ≡ get_or rules i d ∷ held p (drop (i + 1) rules)
held_here p rules i d lt one =
    ap (λ (rs : List Rule). held p rs) (drop-cons rules i d lt) ∙ here_first (holds_at (get_or rules i d) p) (get_or rules i d) (held p (drop (suc i) rules)) one
    ∙ ap (λ (k : ℕ). get_or rules i d ∷ held p (drop k rules)) (sym (add-one i))

-- the rules that hold, of one list after another
pub held_append : (p : Point) (rules others : List Rule) → held p (rules ++ others) ≡ held p rules ++ held p others
held_append p [] others = refl
held_append p (rule ∷ rules) others = by_test (holds_at rule p) (held_append p rules others)
  where
    by_test : (t : Bool) → held p (rules ++ others) ≡ held p rules ++ held p others → (if t then rule ∷ held p (rules ++ others) else held p (rules ++ others)) ≡ (if t then rule ∷ held p rules else held p rules) ++ held p others
    by_test true e = ap (λ (rs : List Rule). rule ∷ rs) e
    by_test false e = e

-- the rules that hold, with one rule more
pub held_more : (p : Point) (rules : List Rule) (i : ℕ) (d : Rule) → i < length rules → held p (take (i + 1) rules) ≡ held p (take i rules) ++ held p (get_or rules i d ∷ [])
held_more p rules i d lt = ap (λ (rs : List Rule). held p rs) (take_more rules i d lt) ∙ held_append p (take i rules) (get_or rules i d ∷ [])

pub held_none_more : (p : Point) (rules : List Rule) (i : ℕ) (d : Rule) → i < length rules → holds_at (get_or rules i d) p ≡ false → held p (take (i + 1) rules) ≡ held p (take i rules)
held_none_more p rules i d lt none =
    held_more p rules i d lt ∙ ap (λ (rs : List Rule). held p (take i rules) ++ rs) (none_before (holds_at (get_or rules i d) p) (get_or rules i d) [] none) ∙ append-nil (held p (take i rules))

pub held_one_more : (p : Point) (rules : List Rule) (i : ℕ) (d : Rule) → i < length rules → holds_at (get_or rules i d) p ≡ true → held p (take (i + 1) rules) ≡ held p (take i rules) ++ get_or rules i d ∷ []
held_one_more p rules i d lt one =
    held_more p rules i d lt ∙ ap (λ (rs : List Rule). held p (take i rules) ++ rs) (here_first (holds_at (get_or rules i d) p) (get_or rules i d) [] one)

-- each way out of the walk
pub alike_none : (bo bn olds news : List Rule) → olds ≡ [] → alike_after bo bn olds news ≡ stops_with (stop news) (verdict_number NotAuthorised)
alike_none bo bn olds news e = ap (λ (rs : List Rule). alike_after bo bn rs news) e

pub alike_stops : (bo bn olds news : List Rule) (rule : Rule) (rest : List Rule) → olds ≡ rule ∷ rest → rule.quota ≡ None → alike_after bo bn olds news ≡ stops_with (stop news) (verdict_number rule.verdict)
alike_stops bo bn olds news rule rest e none =
    ap (λ (rs : List Rule). alike_after bo bn rs news) e
    ∙ ap (λ (q : Option Quota). after_first (least_of bo bn) q (verdict_number rule.verdict) (stop rest) (λ other more. alike_after (bo ++ rule ∷ []) (bn ++ other ∷ []) rest more) news) none

pub alike_draws_alone : (bo bn olds news : List Rule) (rule : Rule) (rest : List Rule) (q : Quota) → olds ≡ rule ∷ rest → rule.quota ≡ Some q → news ≡ [] → alike_after bo bn olds news ≡ false
alike_draws_alone bo bn olds news rule rest q e some none =
    ap (λ (rs : List Rule). alike_after bo bn rs news) e
    ∙ ap (λ (o : Option Quota). after_first (least_of bo bn) o (verdict_number rule.verdict) (stop rest) (λ other more. alike_after (bo ++ rule ∷ []) (bn ++ other ∷ []) rest more) news) some
    ∙ ap (λ (rs : List Rule). after_first (least_of bo bn) (Some q) (verdict_number rule.verdict) (stop rest) (λ other more. alike_after (bo ++ rule ∷ []) (bn ++ other ∷ []) rest more) rs) none

pub alike_both : (bo bn ao an olds news : List Rule) (rule : Rule) (rest : List Rule) (q : Quota) (other : Rule) (others : List Rule) → ao ≡ bo ++ rule ∷ [] → an ≡ bn ++ other ∷ [] → olds ≡ rule ∷ rest → rule.quota ≡ Some q → news ≡ other ∷ others
    → alike_after bo bn olds news ≡ after_both (least_of bo bn q.map q.cell) q (verdict_number rule.verdict) (stop rest) (alike_after ao an rest others) other.quota (verdict_number other.verdict) (stop others)
alike_both bo bn ao an olds news rule rest q other others ea eb e some f =
    ap (λ (rs : List Rule). alike_after bo bn rs news) e
    ∙ ap (λ (o : Option Quota). after_first (least_of bo bn) o (verdict_number rule.verdict) (stop rest) (λ other more. alike_after (bo ++ rule ∷ []) (bn ++ other ∷ []) rest more) news) some
    ∙ ap (λ (rs : List Rule). after_first (least_of bo bn) (Some q) (verdict_number rule.verdict) (stop rest) (λ other more. alike_after (bo ++ rule ∷ []) (bn ++ other ∷ []) rest more) rs) f
    ∙ ap (λ (rs : List Rule). after_both (least_of bo bn q.map q.cell) q (verdict_number rule.verdict) (stop rest) (alike_after rs (bn ++ other ∷ []) rest others) other.quota (verdict_number other.verdict) (stop others)) (sym ea)
    ∙ ap (λ (rs : List Rule). after_both (least_of bo bn q.map q.cell) q (verdict_number rule.verdict) (stop rest) (alike_after ao rs rest others) other.quota (verdict_number other.verdict) (stop others)) (sym eb)
