-- What a table draws of whatever its tickets are drawn, and by which rule it decides, rule by rule.
use Rattle.std.specs.Prelude.{nat_lt, if◌then◌else◌}
use Rattle.std.proofs.Common.{◌≡◌, ◌<◌, ◌+◌, ◌++◌, ℕ, suc, Bool, true, false, List, [], ◌∷◌, length, get_or, drop, Option, Some, None, refl, sym, ap, ◌∙◌, arith, append_assoc, add-one}
use Rattle.std.specs.Prelude.{option_map}
use Rattle.std.proofs.Math.Seq.{drop-cons}
use Rattle.machine.specs.declared.calls.Call.{Call}
use Rattle.machine.specs.Memory.{Header}
use Rattle.rmap.specs.Verdict.{verdict_number}
use Rattle.rmap.specs.declared.verdict.Verdict.{Verdict}
use Rattle.policy_table.specs.Matching.{MatchDecides, following, first_match, match_by, matched, no_match}
use Rattle.policy_table.specs.Meaning.{decision, draw, holds, ruled, answers_in_turn}
use Rattle.policy_table.specs.Tickets.{tickets_left, ticket_before, tickets_given}
use Rattle.policy_table.specs.Walked.{IsWalked, reported}
use Rattle.policy_table.specs.declared.matching.Match.{Match}
use Rattle.policy_table.specs.declared.rules.Quota.{Quota}
use Rattle.policy_table.specs.declared.rules.Rule.{Rule}

-- the draws of a table, by which rule it decides, and what is left of the tickets after it
pub record Walk (S : Type 0) : Type 0 where
  pub calls : List Call
  pub found : Match
  pub left : S

module _ {S : Type 0} (next : S → (map cell : ℕ) → ℕ) (leaves : S → (map cell : ℕ) → S) where
  abbrev pub walk_with : List Call → Match → S → (Walk S)
  walk_with calls found counts = record { calls = calls; found = found; left = counts }

  -- a walk after one rule more
  abbrev pub later : (Walk S) → (Walk S)
  later w = walk_with w.calls (following 1 w.found) w.left

  -- a rule whose conditions hold, before a walk over the rest
  abbrev pub walk_by : Option Quota → Verdict → (counts : S) → (rest : S → (Walk S)) → (Walk S)
  walk_by None verdict counts rest = walk_with [] (first_match 1 None verdict) counts
  walk_by (Some quota) verdict counts rest =
      if nat_lt (next counts quota.map quota.cell) quota.limit
      then walk_with (draw quota (next counts quota.map quota.cell) ∷ []) (first_match 1 (Some (draw quota (next counts quota.map quota.cell))) verdict) (leaves counts quota.map quota.cell)
      else walk_with (draw quota (next counts quota.map quota.cell) ∷ (rest (leaves counts quota.map quota.cell)).calls) (following 1 (rest (leaves counts quota.map quota.cell)).found) (rest (leaves counts quota.map quota.cell)).left

  abbrev pub walk : List Rule → Header → S → (Walk S)
  walk [] header counts = walk_with [] no_match counts
  walk (rule ∷ rules) header counts =
      if holds rule header
      then walk_by rule.quota rule.verdict counts (λ after. walk rules header after)
      else later (walk rules header counts)

  -- ---- it is the decision

  -- the walk of a decision
  abbrev reported_walk : (counts : S) → List Call × ℕ → Match → (Walk S)
  reported_walk counts d m = walk_with d.0 m (tickets_left leaves counts d.0)

  abbrev decided_walk : List Rule → Header → S → (Walk S)
  decided_walk rules header counts = reported_walk counts (decision rules header (reported next leaves rules header counts)) (matched rules header (reported next leaves rules header counts))

  drawn_step : (t : Bool) (quota : Quota) (verdict : Verdict) (counts : S) (w : (Walk S)) (d : List Call × ℕ) (m : Match)
      → w ≡ reported_walk (leaves counts quota.map quota.cell) d m
      → (if t then walk_with (draw quota (next counts quota.map quota.cell) ∷ []) (first_match 1 (Some (draw quota (next counts quota.map quota.cell))) verdict) (leaves counts quota.map quota.cell) else walk_with (draw quota (next counts quota.map quota.cell) ∷ w.calls) (following 1 w.found) w.left)
      ≡ reported_walk counts (if t then (draw quota (next counts quota.map quota.cell) ∷ [], verdict_number verdict) else (draw quota (next counts quota.map quota.cell) ∷ d.0, d.1)) (if t then first_match 1 (Some (draw quota (next counts quota.map quota.cell))) verdict else following 1 m)
  drawn_step true quota verdict counts w d m is = refl
  drawn_step false quota verdict counts w d m is =
      ap (λ (v : (Walk S)). walk_with (draw quota (next counts quota.map quota.cell) ∷ v.calls) (following 1 v.found) v.left) is

  held_step : (quota : Option Quota) (verdict : Verdict) (counts : S) (rules : List Rule) (header : Header)
      → ((after : S) → walk rules header after ≡ decided_walk rules header after)
      → walk_by quota verdict counts (λ after. walk rules header after)
      ≡ reported_walk counts
      (ruled quota (verdict_number verdict) (answers_in_turn (ticket_before next leaves quota counts (λ after. tickets_given next leaves rules header after))) (decision rules header (λ k. answers_in_turn (ticket_before next leaves quota counts (λ after. tickets_given next leaves rules header after)) (suc k))))
      (match_by quota verdict (answers_in_turn (ticket_before next leaves quota counts (λ after. tickets_given next leaves rules header after))) (matched rules header (λ k. answers_in_turn (ticket_before next leaves quota counts (λ after. tickets_given next leaves rules header after)) (suc k))))
  held_step None verdict counts rules header all = refl
  held_step (Some quota) verdict counts rules header all =
      let after : S = leaves counts quota.map quota.cell in
      drawn_step (nat_lt (next counts quota.map quota.cell) quota.limit) quota verdict counts (walk rules header after) (decision rules header (reported next leaves rules header after)) (matched rules header (reported next leaves rules header after)) (all after)

  abbrev tickets_if : Bool → Rule → List Rule → Header → S → ℕ → ℕ
  tickets_if t rule rules header counts =
      answers_in_turn (if t then ticket_before next leaves rule.quota counts (λ after. tickets_given next leaves rules header after) else tickets_given next leaves rules header counts)

  rule_step : (t : Bool) (rule : Rule) (rules : List Rule) (header : Header) (counts : S)
      → ((after : S) → walk rules header after ≡ decided_walk rules header after)
      → (if t then walk_by rule.quota rule.verdict counts (λ after. walk rules header after) else later (walk rules header counts))
      ≡ reported_walk counts
      (if t then ruled rule.quota (verdict_number rule.verdict) (tickets_if t rule rules header counts) (decision rules header (λ k. tickets_if t rule rules header counts (suc k))) else decision rules header (tickets_if t rule rules header counts))
      (if t then match_by rule.quota rule.verdict (tickets_if t rule rules header counts) (matched rules header (λ k. tickets_if t rule rules header counts (suc k))) else following 1 (matched rules header (tickets_if t rule rules header counts)))
  rule_step true rule rules header counts all = held_step rule.quota rule.verdict counts rules header all
  rule_step false rule rules header counts all = ap later (all counts)

  -- a walk over rules is their decision
  pub walk_is : (rules : List Rule) (header : Header) (counts : S) → walk rules header counts ≡ decided_walk rules header counts
  walk_is [] header counts = refl
  walk_is (rule ∷ rules) header counts =
      rule_step (holds rule header) rule rules header counts (λ after. walk_is rules header after)

  -- ---- rule by rule

  -- a match after this many rules and one more
  after_more : (n : ℕ) (m : Match) → following n (following 1 m) ≡ following (n + 1) m
  after_more n m = ap (λ (r : Option ℕ). record { rule = r; ticket = m.ticket; verdict = m.verdict }) (moved n m.rule)
    where
      moved : (n : ℕ) (r : Option ℕ) → option_map (λ k. n + k) (option_map (λ k. 1 + k) r) ≡ option_map (λ k. n + 1 + k) r
      moved n None = refl
      moved n (Some k) = ap Some (omega arith)

  -- so far these calls and counts, and what is left is a walk over the rules from this one on
  pub record IsOnWay (rules : List Rule) (header : Header) (first : List Call) (counts : S) (n : ℕ) (calls : List Call) (now : S) : Type 0 where
    pub calls_are : first ++ (walk rules header counts).calls ≡ calls ++ (walk (drop n rules) header now).calls
    pub found : (walk rules header counts).found ≡ following n (walk (drop n rules) header now).found
    pub counts_are : (walk rules header counts).left ≡ (walk (drop n rules) header now).left

  -- no rule is before the first
  after_none : (m : Match) → m ≡ following 0 m
  after_none m = ap (λ (r : Option ℕ). record { rule = r; ticket = m.ticket; verdict = m.verdict }) (same m.rule)
    where
      same : (r : Option ℕ) → r ≡ option_map (λ k. 0 + k) r
      same None = refl
      same (Some k) = ap Some (omega arith)

  pub begins : (rules : List Rule) (header : Header) (first : List Call) (counts : S) → IsOnWay rules header first counts 0 first counts
  begins rules header first counts = record {
    calls_are = refl;
    found = after_none (walk rules header counts).found;
    counts_are = refl;
  }

  -- the walk from a rule on
  from_rule : (rules : List Rule) (header : Header) (now : S) (n : ℕ) (d : Rule) → n < length rules
      → walk (drop n rules) header now ≡ walk (get_or rules n d ∷ drop (suc n) rules) header now
  from_rule rules header now n d within = ap (λ (rs : List Rule). walk rs header now) (drop-cons rules n d within)

  walk_if : (t u : Bool) (held other : (Walk S)) → t ≡ u → (if t then held else other) ≡ (if u then held else other)
  walk_if t u held other is = ap (λ (b : Bool). if b then held else other) is

  -- a rule whose conditions do not hold is passed
  pub passes : (rules : List Rule) (header : Header) (first : List Call) (counts : S) (n : ℕ) (calls : List Call) (now : S) (d : Rule)
      → n < length rules → holds (get_or rules n d) header ≡ false → IsOnWay rules header first counts n calls now
      → IsOnWay rules header first counts (n + 1) calls now
  passes rules header first counts n calls now d within fails way =
      let rule : Rule = get_or rules n d in
      let rest : List Rule = drop (suc n) rules in
      let step : walk (drop n rules) header now ≡ later (walk rest header now) =
      from_rule rules header now n d within ∙ walk_if (holds rule header) false (walk_by rule.quota rule.verdict now (λ after. walk rest header after)) (later (walk rest header now)) fails in
      let next : walk rest header now ≡ walk (drop (n + 1) rules) header now = ap (λ (k : ℕ). walk (drop k rules) header now) (sym (add-one n)) in
      let whole : walk (drop n rules) header now ≡ later (walk (drop (n + 1) rules) header now) = step ∙ ap later next in
      record {
        calls_are = way.calls_are ∙ ap (λ (w : (Walk S)). calls ++ w.calls) whole;
        found = way.found ∙ ap (λ (w : (Walk S)). following n w.found) whole ∙ after_more n (walk (drop (n + 1) rules) header now).found;
        counts_are = way.counts_are ∙ ap (λ (w : (Walk S)). w.left) whole;
      }

  -- the walk from a rule on whose conditions hold
  held : (rules : List Rule) (header : Header) (now : S) (n : ℕ) (d : Rule) → n < length rules → holds (get_or rules n d) header ≡ true
      → walk (drop n rules) header now ≡ walk_by (get_or rules n d).quota (get_or rules n d).verdict now (λ after. walk (drop (suc n) rules) header after)
  held rules header now n d within is =
      let rule : Rule = get_or rules n d in
      let rest : List Rule = drop (suc n) rules in
      from_rule rules header now n d within ∙ walk_if (holds rule header) true (walk_by rule.quota rule.verdict now (λ after. walk rest header after)) (later (walk rest header now)) is

  -- the same if it has a quota
  held_quota : (rules : List Rule) (header : Header) (now : S) (n : ℕ) (d : Rule) (quota : Quota) (t : Bool) → n < length rules → holds (get_or rules n d) header ≡ true
      → (get_or rules n d).quota ≡ Some quota → nat_lt (next now quota.map quota.cell) quota.limit ≡ t
      → walk (drop n rules) header now
      ≡ (if t
      then walk_with (draw quota (next now quota.map quota.cell) ∷ []) (first_match 1 (Some (draw quota (next now quota.map quota.cell))) (get_or rules n d).verdict) (leaves now quota.map quota.cell)
      else walk_with (draw quota (next now quota.map quota.cell) ∷ (walk (drop (suc n) rules) header (leaves now quota.map quota.cell)).calls) (following 1 (walk (drop (suc n) rules) header (leaves now quota.map quota.cell)).found) (walk (drop (suc n) rules) header (leaves now quota.map quota.cell)).left)
  held_quota rules header now n d quota t within is has test =
      let verdict : Verdict = (get_or rules n d).verdict in
      let rest : S → (Walk S) = λ after. walk (drop (suc n) rules) header after in
      held rules header now n d within is
      ∙ ap (λ (q : Option Quota). walk_by q verdict now rest) has
      ∙ walk_if (nat_lt (next now quota.map quota.cell) quota.limit) t (walk_with (draw quota (next now quota.map quota.cell) ∷ []) (first_match 1 (Some (draw quota (next now quota.map quota.cell))) verdict) (leaves now quota.map quota.cell))
      (walk_with (draw quota (next now quota.map quota.cell) ∷ (rest (leaves now quota.map quota.cell)).calls) (following 1 (rest (leaves now quota.map quota.cell)).found) (rest (leaves now quota.map quota.cell)).left) test

  -- a rule whose quota is spent has drawn
  pub draws : (rules : List Rule) (header : Header) (first : List Call) (counts : S) (n : ℕ) (calls : List Call) (now : S) (d : Rule) (quota : Quota)
      → n < length rules → holds (get_or rules n d) header ≡ true → (get_or rules n d).quota ≡ Some quota → nat_lt (next now quota.map quota.cell) quota.limit ≡ false
      → IsOnWay rules header first counts n calls now
      → IsOnWay rules header first counts (n + 1) (calls ++ draw quota (next now quota.map quota.cell) ∷ []) (leaves now quota.map quota.cell)
  draws rules header first counts n calls now d quota within is has spent way =
      let after : S = leaves now quota.map quota.cell in
      let call : Call = draw quota (next now quota.map quota.cell) in
      let from : ℕ → (Walk S) = λ k. walk (drop k rules) header after in
      let drawn : (Walk S) → (Walk S) = λ w. walk_with (call ∷ w.calls) (following 1 w.found) w.left in
      let whole : walk (drop n rules) header now ≡ drawn (from (n + 1)) = held_quota rules header now n d quota false within is has spent ∙ ap (λ (k : ℕ). drawn (from k)) (sym (add-one n)) in
      record {
        calls_are = way.calls_are ∙ ap (λ (w : (Walk S)). calls ++ w.calls) whole ∙ sym (append_assoc calls (call ∷ []) (from (n + 1)).calls);
        found = way.found ∙ ap (λ (w : (Walk S)). following n w.found) whole ∙ after_more n (from (n + 1)).found;
        counts_are = way.counts_are ∙ ap (λ (w : (Walk S)). w.left) whole;
      }

  -- ---- the end

  walked : (rules : List Rule) (header : Header) (first : List Call) (counts : S) (n : ℕ) (calls : List Call) (now : S) (end : (Walk S))
      → walk (drop n rules) header now ≡ end → IsOnWay rules header first counts n calls now
      → IsWalked next leaves rules header counts end.left first (calls ++ end.calls) (following n end.found)
  walked rules header first counts n calls now end is way =
      let whole = walk_is rules header counts in
      record {
        found_is = sym (way.found ∙ ap (λ (w : (Walk S)). following n w.found) is) ∙ ap (λ (w : (Walk S)). w.found) whole;
        calls_are = sym (way.calls_are ∙ ap (λ (w : (Walk S)). calls ++ w.calls) is) ∙ ap (λ (w : (Walk S)). first ++ w.calls) whole;
        left_is = sym (way.counts_are ∙ ap (λ (w : (Walk S)). w.left) is) ∙ ap (λ (w : (Walk S)). w.left) whole;
      }

  -- a rule without a quota matches
  pub ends_by_rule : (rules : List Rule) (header : Header) (first : List Call) (counts : S) (n : ℕ) (calls : List Call) (now : S) (d : Rule)
      → n < length rules → holds (get_or rules n d) header ≡ true → (get_or rules n d).quota ≡ None
      → IsOnWay rules header first counts n calls now
      → IsWalked next leaves rules header counts now first (calls ++ []) (first_match (n + 1) None (get_or rules n d).verdict)
  ends_by_rule rules header first counts n calls now d within is none way =
      let verdict : Verdict = (get_or rules n d).verdict in
      walked rules header first counts n calls now (walk_with [] (first_match 1 None verdict) now)
      (held rules header now n d within is ∙ ap (λ (q : Option Quota). walk_by q verdict now (λ after. walk (drop (suc n) rules) header after)) none) way

  -- a rule whose ticket is below its limit matches
  pub ends_by_ticket : (rules : List Rule) (header : Header) (first : List Call) (counts : S) (n : ℕ) (calls : List Call) (now : S) (d : Rule) (quota : Quota)
      → n < length rules → holds (get_or rules n d) header ≡ true → (get_or rules n d).quota ≡ Some quota → nat_lt (next now quota.map quota.cell) quota.limit ≡ true
      → IsOnWay rules header first counts n calls now
      → IsWalked next leaves rules header counts (leaves now quota.map quota.cell) first (calls ++ draw quota (next now quota.map quota.cell) ∷ []) (first_match (n + 1) (Some (draw quota (next now quota.map quota.cell))) (get_or rules n d).verdict)
  ends_by_ticket rules header first counts n calls now d quota within is has below way =
      walked rules header first counts n calls now (walk_with (draw quota (next now quota.map quota.cell) ∷ []) (first_match 1 (Some (draw quota (next now quota.map quota.cell))) (get_or rules n d).verdict) (leaves now quota.map quota.cell))
      (held_quota rules header now n d quota true within is has below) way

  -- no rule matches
  pub ends_by_none : (rules : List Rule) (header : Header) (first : List Call) (counts : S) (n : ℕ) (calls : List Call) (now : S)
      → drop n rules ≡ [] → IsOnWay rules header first counts n calls now → IsWalked next leaves rules header counts now first (calls ++ []) no_match
  ends_by_none rules header first counts n calls now none way =
      walked rules header first counts n calls now (walk_with [] no_match now) (ap (λ (rs : List Rule). walk rs header now) none) way

-- a match that was made of the number and the draw of a rule
pub made_without : (found : Match) (number n : ℕ) (verdict : Verdict) → found ≡ first_match (number + 1) None verdict → number ≡ n → found ≡ first_match (n + 1) None verdict
made_without found number n verdict is at = is ∙ ap (λ (k : ℕ). first_match (k + 1) None verdict) at

pub made_with : (found : Match) (number n : ℕ) (call other : Call) (verdict : Verdict) → found ≡ first_match (number + 1) (Some call) verdict → number ≡ n → call ≡ other
    → found ≡ first_match (n + 1) (Some other) verdict
made_with found number n call other verdict is at drawn =
    is ∙ ap (λ (k : ℕ). first_match (k + 1) (Some call) verdict) at ∙ ap (λ (c : Call). first_match (n + 1) (Some c) verdict) drawn

-- ---- the first that matches

-- one of two decisions, and one of two matches
abbrev decided_if : Bool → (a b : List Call × ℕ) → List Call × ℕ
decided_if t a b = if t then a else b

abbrev matched_if : Bool → (a b : Match) → Match
matched_if t a b = if t then a else b

decides_if : (t : Bool) (a b : Match) (c d : List Call × ℕ) → verdict_number a.verdict ≡ c.1 → verdict_number b.verdict ≡ d.1
    → verdict_number (matched_if t a b).verdict ≡ (decided_if t c d).1
decides_if true a b c d h g = h
decides_if false a b c d h g = g

decides_ruled : (quota : Option Quota) (verdict : Verdict) (reported : ℕ → ℕ) (m : Match) (d : List Call × ℕ) → verdict_number m.verdict ≡ d.1
    → verdict_number (match_by quota verdict reported m).verdict ≡ (ruled quota (verdict_number verdict) reported d).1
decides_ruled None verdict reported m d is = refl
decides_ruled (Some quota) verdict reported m d is =
    let call : Call = draw quota (reported 0) in
    decides_if (nat_lt (reported 0) quota.limit) (first_match 1 (Some call) verdict) (following 1 m) (call ∷ [], verdict_number verdict) (call ∷ d.0, d.1) refl is

pub decides : MatchDecides
decides [] header reported = refl
decides (rule ∷ rules) header reported =
    let more : ℕ → ℕ = λ k. reported (suc k) in
    decides_if (holds rule header) (match_by rule.quota rule.verdict reported (matched rules header more)) (following 1 (matched rules header reported))
    (ruled rule.quota (verdict_number rule.verdict) reported (decision rules header more)) (decision rules header reported)
    (decides_ruled rule.quota rule.verdict reported (matched rules header more) (decision rules header more) (decides rules header more)) (decides rules header reported)
