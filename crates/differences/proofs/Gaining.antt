-- Gains by new rules.
use Rattle.std.proofs.Common.{◌≡◌, ◌≤◌, ◌<◌, ◌+◌, ◌-◌, ◌^◌, ◌==◌, ◌&&◌, ◌||◌, ◌⊎◌, ◌++◌, inl, inr, length, max, ℕ, suc, Bool, true, false, not, List, [], ◌∷◌, Option, Some, None, refl, ap, sym, subst, ◌∙◌, arith}
use Rattle.std.specs.Prelude.{All, MatchBool, if◌then◌else◌, nat_lt}
use Rattle.std.proofs.lemmas.Bool.Decides.{nat_tests}
use Rattle.std.proofs.lemmas.List.Elements.{All-cons, All-head, All-nil, All-tail}
use Rattle.std.proofs.lemmas.Bool.{and_parts}
use Rattle.rmap.specs.Verdict.{verdict_number}
use Rattle.policy_table.specs.Limits.{IsLimited}
use Rattle.policy_table.specs.declared.rules.Quota.{Quota}
use Rattle.policy_table.specs.declared.rules.Rule.{Rule}
use Rattle.charts.specs.Alike.{AreLimited, HasLimit}
use Rattle.charts.specs.Tickets.{is_of}
use Rattle.differences.specs.Gains.{Gains, IsSign, code_from, draws_from, draws_of, gains_after, can_be_asked, is_met, least_word_from, least_words_of, least_word, may_meet, may_pass, passes, sign_with, ticket_of, with_draw, with_least}

-- ---- Booleans and numbers

below : (a b : ℕ) → a < b → nat_lt a b ≡ true
below a b h = grind (arith, nat_tests)

is_below : (a b : ℕ) → nat_lt a b ≡ true → a < b
is_below a b h = grind (arith, nat_tests)

is_not_below : (a b : ℕ) → nat_lt a b ≡ false → b ≤ a
is_not_below a b h = grind (arith, nat_tests)

same : (a b : ℕ) → (a == b) ≡ true → a ≡ b
same a b e = grind (arith, nat_tests)

or_either : (s t : Bool) → (s || t) ≡ true → (s ≡ true) ⊎ (t ≡ true)
or_either true t e = inl refl
or_either false t e = inr e

or_first : (s t : Bool) → s ≡ true → (s || t) ≡ true
or_first true t e = refl
or_first false t e = absurd (cc)

or_other : (s t : Bool) → t ≡ true → (s || t) ≡ true
or_other true t e = refl
or_other false t e = e

joined : (s t : Bool) → s ≡ true → t ≡ true → (s && t) ≡ true
joined true t e f = f
joined false t e f = absurd (cc)

not_of : (t : Bool) → not t ≡ true → t ≡ false
not_of true e = absurd (cc)
not_of false e = refl

of_not : (t : Bool) → t ≡ false → not t ≡ true
of_not true e = absurd (cc)
of_not false e = refl

true_not_false : (t : Bool) → t ≡ true → t ≡ false → ⊥
true_not_false true e f = absurd (cc)
true_not_false false e f = absurd (cc)

-- ---- words with which rules do not match

draws_more : (draws : ℕ) (rules : List Rule) (rule : Rule) (map cell : ℕ) → draws_from draws (rules ++ rule ∷ []) map cell ≡ with_draw rule.quota map cell (draws_from draws rules map cell)
draws_more draws [] rule map cell = refl
draws_more draws (r ∷ rs) rule map cell = draws_more (with_draw r.quota map cell draws) rs rule map cell

least_more : (draws least : ℕ) (rules : List Rule) (rule : Rule) (map cell : ℕ)
    → least_word_from draws least (rules ++ rule ∷ []) map cell ≡ with_least rule.quota map cell (draws_from draws rules map cell) (least_word_from draws least rules map cell)
least_more draws least [] rule map cell = refl
least_more draws least (r ∷ rs) rule map cell = least_more (with_draw r.quota map cell draws) (with_least r.quota map cell draws least) rs rule map cell

-- none of the rules that draw matches with these words
abbrev IsPast : (cells : ℕ → ℕ → ℕ) → List Rule → Type 0
IsPast cells rules = (map cell : ℕ) → least_word rules map cell ≤ cells map cell

-- so it is with one rule more that does not match
past_more : (cells : ℕ → ℕ → ℕ) (rules : List Rule) (rule : Rule) → can_be_asked rule.quota ≡ true → is_met cells rules rule.quota ≡ false → IsPast cells rules → IsPast cells (rules ++ rule ∷ [])
past_more cells rules rule more missed past map cell =
    subst (λ (n : ℕ). n ≤ cells map cell) (sym (least_more 0 0 rules rule map cell)) (by_quota rule.quota more missed)
  where
    by_cell : (q : Quota) (b : Bool) → is_of q map cell ≡ b → q.limit ≤ ticket_of cells rules q
        → (if b then max (least_word rules map cell) (q.limit - draws_of rules map cell) else least_word rules map cell) ≤ cells map cell
    by_cell q true e high =
        let parts = and_parts (q.map == map) (q.cell == cell) e in
        let there : q.limit ≤ cells map cell + draws_of rules map cell =
        subst (λ (m : ℕ). q.limit ≤ cells m cell + draws_of rules m cell) (same q.map map parts.0)
        (subst (λ (c : ℕ). q.limit ≤ cells q.map c + draws_of rules q.map c) (same q.cell cell parts.1) high) in
        let low : least_word rules map cell ≤ cells map cell = past map cell in
        omega (arith, there, low)
    by_cell q false e high = past map cell

    by_quota : (quota : Option Quota) → can_be_asked quota ≡ true → is_met cells rules quota ≡ false → with_least quota map cell (draws_of rules map cell) (least_word rules map cell) ≤ cells map cell
    by_quota None g n = absurd (cc)
    by_quota (Some q) g n = by_cell q (is_of q map cell) refl (is_not_below (ticket_of cells rules q) q.limit n)

-- and with one rule less
past_less : (cells : ℕ → ℕ → ℕ) (rules : List Rule) (rule : Rule) → IsPast cells (rules ++ rule ∷ []) → IsPast cells rules
past_less cells rules rule past map cell =
    by_quota rule.quota (subst (λ (n : ℕ). n ≤ cells map cell) (least_more 0 0 rules rule map cell) (past map cell))
  where
    by_cell : (q : Quota) (b : Bool) → (if b then max (least_word rules map cell) (q.limit - draws_of rules map cell) else least_word rules map cell) ≤ cells map cell → least_word rules map cell ≤ cells map cell
    by_cell q true high = omega (arith, high)
    by_cell q false high = high

    by_quota : (quota : Option Quota) → with_least quota map cell (draws_of rules map cell) (least_word rules map cell) ≤ cells map cell → least_word rules map cell ≤ cells map cell
    by_quota None high = high
    by_quota (Some q) high = by_cell q (is_of q map cell) high

is_own : (q : Quota) → is_of q q.map q.cell ≡ true
is_own q = joined (q.map == q.map) (q.cell == q.cell) (itself q.map) (itself q.cell)
  where
    itself : (a : ℕ) → (a == a) ≡ true
    itself a = grind (arith, nat_tests)

-- a rule does not match with words with which none matches up to it
not_met : (cells : ℕ → ℕ → ℕ) (rules : List Rule) (rule : Rule) → can_be_asked rule.quota ≡ true → IsPast cells (rules ++ rule ∷ []) → is_met cells rules rule.quota ≡ false
not_met cells rules rule more past = by_quota rule.quota more (λ map cell. subst (λ (n : ℕ). n ≤ cells map cell) (least_more 0 0 rules rule map cell) (past map cell))
  where
    not_below : (a b : ℕ) → b ≤ a → nat_lt a b ≡ false
    not_below a b h = grind (arith, nat_tests)

    by_cell : (q : Quota) (b : Bool) → b ≡ true → (if b then max (least_word rules q.map q.cell) (q.limit - draws_of rules q.map q.cell) else least_word rules q.map q.cell) ≤ cells q.map q.cell
        → q.limit ≤ ticket_of cells rules q
    by_cell q true e high = omega (arith, high)
    by_cell q false e high = absurd (cc)

    by_quota : (quota : Option Quota) → can_be_asked quota ≡ true → ((map cell : ℕ) → with_least quota map cell (draws_of rules map cell) (least_word rules map cell) ≤ cells map cell) → is_met cells rules quota ≡ false
    by_quota None g past = absurd (cc)
    by_quota (Some q) g past = not_below (ticket_of cells rules q) q.limit (by_cell q (is_of q q.map q.cell) (is_own q) (past q.map q.cell))

-- a rule that matches with some words with which none of two courses matches does so with the least
least_meets : (cells : ℕ → ℕ → ℕ) (own others : List Rule) (quota : Option Quota) → IsPast cells own → IsPast cells others → is_met cells own quota ≡ true → may_meet own others quota ≡ true
least_meets cells own others None past other_past met = refl
least_meets cells own others (Some q) past other_past met =
    let low : least_word own q.map q.cell ≤ cells q.map q.cell = past q.map q.cell in
    let other_low : least_word others q.map q.cell ≤ cells q.map q.cell = other_past q.map q.cell in
    let less : cells q.map q.cell + draws_of own q.map q.cell < q.limit = is_below (ticket_of cells own q) q.limit met in
    below (max (least_word own q.map q.cell) (least_word others q.map q.cell) + draws_of own q.map q.cell) q.limit (omega (arith, low, other_low, less))

-- ---- a bound of the least words

first_bound : (quota : Option Quota) (map cell draws least : ℕ) → IsLimited quota → least ≤ 2147483647 → with_least quota map cell draws least ≤ 2147483647
first_bound None map cell draws least limited low = low
first_bound (Some q) map cell draws least limited low = by_cell (is_of q map cell)
  where
    by_cell : (b : Bool) → (if b then max least (q.limit - draws) else least) ≤ 2147483647
    by_cell true = omega (arith, low, limited.2)
    by_cell false = low

least_bound : (draws least : ℕ) (rules : List Rule) (map cell : ℕ) → All HasLimit rules → least ≤ 2147483647 → least_word_from draws least rules map cell ≤ 2147483647
least_bound draws least [] map cell limits low = low
least_bound draws least (rule ∷ rules) map cell limits low =
    least_bound (with_draw rule.quota map cell draws) (with_least rule.quota map cell draws least) rules map cell (All-tail HasLimit rule rules limits)
    (first_bound rule.quota map cell draws least (All-head HasLimit rule rules limits) low)

-- rules with limits, and one more
limits_more : (rules : List Rule) (rule : Rule) → All HasLimit rules → HasLimit rule → All HasLimit (rules ++ rule ∷ [])
limits_more [] rule limits own = All-cons HasLimit rule [] own (All-nil HasLimit)
limits_more (r ∷ rs) rule limits own = All-cons HasLimit r (rs ++ rule ∷ []) (All-head HasLimit r rs limits) (limits_more rs rule (All-tail HasLimit r rs limits) own)

-- ---- the rule that decides

-- the verdict of rules is that of the first, if it matches, and else that of those after it
by_first : (cells : ℕ → ℕ → ℕ) (passed : List Rule) (rule : Rule) (rules : List Rule) (t : Bool) → is_met cells passed rule.quota ≡ t
    → code_from cells passed (rule ∷ rules) ≡ (if t then verdict_number rule.verdict else code_from cells (passed ++ rule ∷ []) rules)
by_first cells passed rule rules t e = ap (λ (b : Bool). if b then verdict_number rule.verdict else code_from cells (passed ++ rule ∷ []) rules) e

-- a rule that matches may be the last that is asked
ends_there : (cells : ℕ → ℕ → ℕ) (passed : List Rule) (quota : Option Quota) → is_met cells passed quota ≡ false → can_be_asked quota ≡ true
ends_there cells passed None e = absurd (cc)
ends_there cells passed (Some q) e = refl

-- ---- sound

-- words with which none of two courses matches, and from which a command is stopped or passes
pub record Passes (olds : List Rule) (stop : Option Quota) (news new : List Rule) : Type 0 where
  pub cells : ℕ → ℕ → ℕ
  pub low : (map cell : ℕ) → cells map cell ≤ 2147483647
  pub past : IsPast cells olds
  pub new_past : IsPast cells news
  pub met : is_met cells olds stop ≡ true
  pub passed : passes (code_from cells news new) ≡ true

-- the first of new rules passes, or what comes after it
passes_by : (olds : List Rule) (stop : Option Quota) (news : List Rule) (rule : Rule) (rules : List Rule) → All HasLimit olds → All HasLimit news
    → (may_pass olds stop (news ++ rule ∷ []) rules ≡ true → Passes olds stop (news ++ rule ∷ []) rules)
    → ((passes (verdict_number rule.verdict) && (may_meet olds news stop && may_meet news olds rule.quota)) ≡ true) ⊎ ((can_be_asked rule.quota && may_pass olds stop (news ++ rule ∷ []) rules) ≡ true)
    → Passes olds stop news (rule ∷ rules)
passes_by olds stop news rule rules old_limits limits later (inl h) =
    let a = and_parts (passes (verdict_number rule.verdict)) (may_meet olds news stop && may_meet news olds rule.quota) h in
    let b = and_parts (may_meet olds news stop) (may_meet news olds rule.quota) a.1 in
    record {
      cells = least_words_of olds news;
      low = λ map cell. both_low (least_word olds map cell) (least_word news map cell) (least_bound 0 0 olds map cell old_limits (omega arith)) (least_bound 0 0 news map cell limits (omega arith));
      past = λ map cell. omega arith;
      new_past = λ map cell. omega arith;
      met = b.0;
      passed = subst (λ (code : ℕ). passes code ≡ true) (sym (by_first (least_words_of olds news) news rule rules true (swapped rule.quota b.1))) a.0;
    }
  where
    both_low : (a b : ℕ) → a ≤ 2147483647 → b ≤ 2147483647 → max a b ≤ 2147483647
    both_low a b h k = omega (arith, h, k)

    swapped : (quota : Option Quota) → may_meet news olds quota ≡ true → is_met (least_words_of olds news) news quota ≡ true
    swapped None m = refl
    swapped (Some q) m =
        let less : max (least_word news q.map q.cell) (least_word olds q.map q.cell) + draws_of news q.map q.cell < q.limit = is_below (ticket_of (least_words_of news olds) news q) q.limit m in
        below (max (least_word olds q.map q.cell) (least_word news q.map q.cell) + draws_of news q.map q.cell) q.limit (omega (arith, less))
passes_by olds stop news rule rules old_limits limits later (inr h) =
    let a = and_parts (can_be_asked rule.quota) (may_pass olds stop (news ++ rule ∷ []) rules) h in
    let p = later a.1 in
    record {
      cells = p.cells;
      low = p.low;
      past = p.past;
      new_past = past_less p.cells news rule p.new_past;
      met = p.met;
      passed = subst (λ (code : ℕ). passes code ≡ true) (sym (by_first p.cells news rule rules false (not_met p.cells news rule a.0 p.new_past))) p.passed;
    }

may_pass_sound : (olds : List Rule) (stop : Option Quota) (news new : List Rule) → All HasLimit olds → All HasLimit news → All HasLimit new → may_pass olds stop news new ≡ true → Passes olds stop news new
may_pass_sound olds stop news [] old_limits limits new_limits e = absurd (cc)
may_pass_sound olds stop news (rule ∷ rules) old_limits limits new_limits e =
    passes_by olds stop news rule rules old_limits limits
    (λ h. may_pass_sound olds stop (news ++ rule ∷ []) rules old_limits (limits_more news rule limits (All-head HasLimit rule rules new_limits)) (All-tail HasLimit rule rules new_limits) h)
    (or_either (passes (verdict_number rule.verdict) && (may_meet olds news stop && may_meet news olds rule.quota)) (can_be_asked rule.quota && may_pass olds stop (news ++ rule ∷ []) rules) e)

pub record Differs (olds old new : List Rule) : Type 0 where
  pub cells : ℕ → ℕ → ℕ
  pub low : (map cell : ℕ) → cells map cell ≤ 2147483647
  pub past : IsPast cells olds
  pub stopped : passes (code_from cells olds old) ≡ false
  pub passed : passes (code_from cells [] new) ≡ true

-- the first of old rules stops, or what comes after it
stops_by : (olds : List Rule) (rule : Rule) (rules new : List Rule) → All HasLimit olds → All HasLimit new
    → (gains_after (olds ++ rule ∷ []) rules new ≡ true → Differs (olds ++ rule ∷ []) rules new)
    → ((not (passes (verdict_number rule.verdict)) && may_pass olds rule.quota [] new) ≡ true) ⊎ ((can_be_asked rule.quota && gains_after (olds ++ rule ∷ []) rules new) ≡ true)
    → Differs olds (rule ∷ rules) new
stops_by olds rule rules new limits new_limits later (inl h) =
    let a = and_parts (not (passes (verdict_number rule.verdict))) (may_pass olds rule.quota [] new) h in
    let p = may_pass_sound olds rule.quota [] new limits (All-nil HasLimit) new_limits a.1 in
    record {
      cells = p.cells;
      low = p.low;
      past = p.past;
      stopped = subst (λ (code : ℕ). passes code ≡ false) (sym (by_first p.cells olds rule rules true p.met)) (not_of (passes (verdict_number rule.verdict)) a.0);
      passed = p.passed;
    }
stops_by olds rule rules new limits new_limits later (inr h) =
    let a = and_parts (can_be_asked rule.quota) (gains_after (olds ++ rule ∷ []) rules new) h in
    let d = later a.1 in
    record {
      cells = d.cells;
      low = d.low;
      past = past_less d.cells olds rule d.past;
      stopped = subst (λ (code : ℕ). passes code ≡ false) (sym (by_first d.cells olds rule rules false (not_met d.cells olds rule a.0 d.past))) d.stopped;
      passed = d.passed;
    }

gains_sound : (olds old new : List Rule) → All HasLimit olds → All HasLimit old → All HasLimit new → gains_after olds old new ≡ true → Differs olds old new
gains_sound olds [] new limits old_limits new_limits e =
    let p = may_pass_sound olds None [] new limits (All-nil HasLimit) new_limits e in
    record { cells = p.cells; low = p.low; past = p.past; stopped = refl; passed = p.passed }
gains_sound olds (rule ∷ rules) new limits old_limits new_limits e =
    stops_by olds rule rules new limits new_limits
    (λ h. gains_sound (olds ++ rule ∷ []) rules new (limits_more olds rule limits (All-head HasLimit rule rules old_limits)) (All-tail HasLimit rule rules old_limits) new_limits h)
    (or_either (not (passes (verdict_number rule.verdict)) && may_pass olds rule.quota [] new) (can_be_asked rule.quota && gains_after (olds ++ rule ∷ []) rules new) e)

-- ---- complete

no_words : (cells : ℕ → ℕ → ℕ) → IsPast cells []
no_words cells map cell = omega arith

-- the first of new rules is met, or not
passes_there : (olds : List Rule) (stop : Option Quota) (news : List Rule) (rule : Rule) (rules : List Rule) (cells : ℕ → ℕ → ℕ) → IsPast cells olds → is_met cells olds stop ≡ true → IsPast cells news
    → (IsPast cells (news ++ rule ∷ []) → passes (code_from cells (news ++ rule ∷ []) rules) ≡ true → may_pass olds stop (news ++ rule ∷ []) rules ≡ true)
    → (t : Bool) → is_met cells news rule.quota ≡ t → passes (if t then verdict_number rule.verdict else code_from cells (news ++ rule ∷ []) rules) ≡ true → may_pass olds stop news (rule ∷ rules) ≡ true
passes_there olds stop news rule rules cells past met new_past later true f h =
    or_first (passes (verdict_number rule.verdict) && (may_meet olds news stop && may_meet news olds rule.quota)) (can_be_asked rule.quota && may_pass olds stop (news ++ rule ∷ []) rules)
    (joined (passes (verdict_number rule.verdict)) (may_meet olds news stop && may_meet news olds rule.quota) h
    (joined (may_meet olds news stop) (may_meet news olds rule.quota) (least_meets cells olds news stop past new_past met) (least_meets cells news olds rule.quota new_past past f)))
passes_there olds stop news rule rules cells past met new_past later false f h =
    let more = ends_there cells news rule.quota f in
    or_other (passes (verdict_number rule.verdict) && (may_meet olds news stop && may_meet news olds rule.quota)) (can_be_asked rule.quota && may_pass olds stop (news ++ rule ∷ []) rules)
    (joined (can_be_asked rule.quota) (may_pass olds stop (news ++ rule ∷ []) rules) more (later (past_more cells news rule more f new_past) h))

may_pass_complete : (olds : List Rule) (stop : Option Quota) (news new : List Rule) (cells : ℕ → ℕ → ℕ) → IsPast cells olds → is_met cells olds stop ≡ true → IsPast cells news
    → passes (code_from cells news new) ≡ true → may_pass olds stop news new ≡ true
may_pass_complete olds stop news [] cells past met new_past e = absurd (cc)
may_pass_complete olds stop news (rule ∷ rules) cells past met new_past e =
    passes_there olds stop news rule rules cells past met new_past (λ known h. may_pass_complete olds stop (news ++ rule ∷ []) rules cells past met known h) (is_met cells news rule.quota) refl e

-- the first of old rules is met, or not
stops_there : (olds : List Rule) (rule : Rule) (rules new : List Rule) (cells : ℕ → ℕ → ℕ) → IsPast cells olds → passes (code_from cells [] new) ≡ true
    → (IsPast cells (olds ++ rule ∷ []) → passes (code_from cells (olds ++ rule ∷ []) rules) ≡ false → gains_after (olds ++ rule ∷ []) rules new ≡ true)
    → (t : Bool) → is_met cells olds rule.quota ≡ t → passes (if t then verdict_number rule.verdict else code_from cells (olds ++ rule ∷ []) rules) ≡ false → gains_after olds (rule ∷ rules) new ≡ true
stops_there olds rule rules new cells past p later true f h =
    or_first (not (passes (verdict_number rule.verdict)) && may_pass olds rule.quota [] new) (can_be_asked rule.quota && gains_after (olds ++ rule ∷ []) rules new)
    (joined (not (passes (verdict_number rule.verdict))) (may_pass olds rule.quota [] new) (of_not (passes (verdict_number rule.verdict)) h)
    (may_pass_complete olds rule.quota [] new cells past f (no_words cells) p))
stops_there olds rule rules new cells past p later false f h =
    let more = ends_there cells olds rule.quota f in
    or_other (not (passes (verdict_number rule.verdict)) && may_pass olds rule.quota [] new) (can_be_asked rule.quota && gains_after (olds ++ rule ∷ []) rules new)
    (joined (can_be_asked rule.quota) (gains_after (olds ++ rule ∷ []) rules new) more (later (past_more cells olds rule more f past) h))

gains_complete : (olds old new : List Rule) (cells : ℕ → ℕ → ℕ) → IsPast cells olds → passes (code_from cells olds old) ≡ false → passes (code_from cells [] new) ≡ true → gains_after olds old new ≡ true
gains_complete olds [] new cells past s p = may_pass_complete olds None [] new cells past refl (no_words cells) p
gains_complete olds (rule ∷ rules) new cells past s p =
    stops_there olds rule rules new cells past p (λ known h. gains_complete (olds ++ rule ∷ []) rules new cells known h p) (is_met cells olds rule.quota) refl s

-- ---- exact

is_gained : (old new : List Rule) (t : Bool) → AreLimited old → AreLimited new → gains_after [] old new ≡ t → MatchBool t (Gains old new) (¬ (Gains old new))
is_gained old new true old_limited new_limited e =
    let d = gains_sound [] old new (All-nil HasLimit) old_limited.limits new_limited.limits e in
    record {
      cells = d.cells;
      fit = λ map cell. omega (arith, d.low map cell, old_limited.few, new_limited.few);
      stopped = d.stopped;
      passed = d.passed;
    }
is_gained old new false old_limited new_limited e = λ h.
    true_not_false (gains_after [] old new) (gains_complete [] old new h.cells (no_words h.cells) h.stopped h.passed) e

pub sign_is : (old new : List Rule) (more fewer : Bool) → AreLimited old → AreLimited new → gains_after [] old new ≡ more → gains_after [] new old ≡ fewer → IsSign (sign_with more fewer) old new
sign_is old new true true old_limited new_limited e f = (is_gained old new true old_limited new_limited e, is_gained new old true new_limited old_limited f)
sign_is old new true false old_limited new_limited e f = (is_gained old new true old_limited new_limited e, is_gained new old false new_limited old_limited f)
sign_is old new false true old_limited new_limited e f = (is_gained old new false old_limited new_limited e, is_gained new old true new_limited old_limited f)
sign_is old new false false old_limited new_limited e f = (is_gained old new false old_limited new_limited e, is_gained new old false new_limited old_limited f)
