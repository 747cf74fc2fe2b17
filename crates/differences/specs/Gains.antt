-- Which of two courses of rules lets more commands pass, from the same words of the cells.
use Rattle.std.specs.Prelude.{◌≡◌, ◌<◌, ◌+◌, ◌-◌, ◌^◌, ◌==◌, ◌&&◌, ◌||◌, ◌++◌, ℕ, suc, Bool, true, false, max, not, nat_lt, if◌then◌else◌, List, [], ◌∷◌, length, Option, Some, None}
use Rattle.rmap.specs.Verdict.{verdict_number}
use Rattle.rmap.specs.declared.verdict.Verdict.TheVariants.{Authorised, NotAuthorised}
use Rattle.policy_table.specs.declared.rules.Quota.{Quota}
use Rattle.policy_table.specs.declared.rules.Rule.{Rule}
use Rattle.charts.specs.Alike.{HasLimit}
use Rattle.charts.specs.Tickets.{is_of}
use Rattle.differences.specs.declared.decision_paths.AskedRule.{AskedRule}
use Rattle.differences.specs.declared.signs.Sign.{Sign}
use Rattle.differences.specs.declared.signs.Sign.TheVariants.{Both, Fewer, More, Other}

-- ---- what rules say from the words of the cells

-- whether a verdict of this number lets a command pass
abbrev pub passes : (code : ℕ) → Bool
passes code = code == verdict_number Authorised

-- one draw more, if a rule draws of the cell
abbrev pub with_draw : Option Quota → (map cell : ℕ) → (draws : ℕ) → ℕ
with_draw None map cell draws = draws
with_draw (Some quota) map cell draws = if is_of quota map cell then suc draws else draws

-- how many draws of a cell rules make that do not match, after this many
abbrev pub draws_from : (draws : ℕ) → List Rule → (map cell : ℕ) → ℕ
draws_from draws [] map cell = draws
draws_from draws (rule ∷ rules) map cell = draws_from (with_draw rule.quota map cell draws) rules map cell

-- how many they make
abbrev pub draws_of : List Rule → (map cell : ℕ) → ℕ
draws_of rules map cell = draws_from 0 rules map cell

-- the ticket of a quota after rules that do not match: the word of its cell, and one more for each draw of it
abbrev pub ticket_of : (cells : (map cell : ℕ) → ℕ) → (passed : List Rule) → Quota → ℕ
ticket_of cells passed quota = cells quota.map quota.cell + draws_of passed quota.map quota.cell

-- whether a rule that holds matches, after rules that do not match
abbrev pub is_met : (cells : (map cell : ℕ) → ℕ) → (passed : List Rule) → Option Quota → Bool
is_met cells passed None = true
is_met cells passed (Some quota) = nat_lt (ticket_of cells passed quota) quota.limit

-- the number of the verdict of rules that hold, after others that do not match, if the cells have these words
abbrev pub code_from : (cells : (map cell : ℕ) → ℕ) → (passed : List Rule) → List Rule → ℕ
code_from cells passed [] = verdict_number NotAuthorised
code_from cells passed (rule ∷ rules) =
    if is_met cells passed rule.quota then verdict_number rule.verdict else code_from cells (passed ++ rule ∷ []) rules

-- some words of the cells, the same before both, let a command pass by the new rules and not by the old ones. No draw
-- wraps
pub record Gains (old new : List Rule) : Type 0 where
  pub cells : (map cell : ℕ) → ℕ
  pub fit : (map cell : ℕ) → cells map cell + (length old + length new) < 2 ^ 64
  pub stopped : passes (code_from cells [] old) ≡ false
  pub passed : passes (code_from cells [] new) ≡ true

-- the sign of a difference: by what is gained under the new rules, and by what under the old ones
abbrev pub IsSign : Sign → (old new : List Rule) → Type 0
IsSign More old new = Gains old new × ¬ (Gains new old)
IsSign Fewer old new = ¬ (Gains old new) × Gains new old
IsSign Both old new = Gains old new × Gains new old
IsSign Other old new = ¬ (Gains old new) × ¬ (Gains new old)

-- ---- how it is found: an old rule that stops, a new one that passes, and the least words that lead to both

-- the limit of a step's rule is such as a table has
abbrev pub HasStepLimit : AskedRule → Type 0
HasStepLimit step = HasLimit step.rule

-- the least word of a cell with which a rule does not match either, after this many draws of the cell
abbrev pub with_least : Option Quota → (map cell : ℕ) → (draws least : ℕ) → ℕ
with_least None map cell draws least = least
with_least (Some quota) map cell draws least = if is_of quota map cell then max least (quota.limit - draws) else least

-- the least word of a cell with which none of the rules matches that draw of it, after others
abbrev pub least_word_from : (draws least : ℕ) → List Rule → (map cell : ℕ) → ℕ
least_word_from draws least [] map cell = least
least_word_from draws least (rule ∷ rules) map cell =
    least_word_from (with_draw rule.quota map cell draws) (with_least rule.quota map cell draws least) rules map cell

-- the least word with which none of them matches
abbrev pub least_word : List Rule → (map cell : ℕ) → ℕ
least_word rules map cell = least_word_from 0 0 rules map cell

-- the least words with which none of two courses' rules match
abbrev pub least_words_of : (own others : List Rule) → (map cell : ℕ) → ℕ
least_words_of own others map cell = max (least_word own map cell) (least_word others map cell)

-- whether a rule after others can match, if those of another course do not match
abbrev pub may_meet : (own others : List Rule) → Option Quota → Bool
may_meet own others quota = is_met (least_words_of own others) own quota

-- whether what is after a rule can be asked
abbrev pub can_be_asked : Option Quota → Bool
can_be_asked None = false
can_be_asked (Some quota) = true

-- whether a rule of a new course, after others, can pass, if a rule of the old course matches after others
abbrev pub may_pass : (olds : List Rule) → Option Quota → (news new : List Rule) → Bool
may_pass olds stop news [] = false
may_pass olds stop news (rule ∷ rules) =
    (passes (verdict_number rule.verdict) && (may_meet olds news stop && may_meet news olds rule.quota))
    || (can_be_asked rule.quota && may_pass olds stop (news ++ rule ∷ []) rules)

-- whether some rule of an old course, after others, can stop if one of a new course can pass
abbrev pub gains_after : (olds old new : List Rule) → Bool
gains_after olds [] new = may_pass olds None [] new
gains_after olds (rule ∷ rules) new =
    (not (passes (verdict_number rule.verdict)) && may_pass olds rule.quota [] new)
    || (can_be_asked rule.quota && gains_after (olds ++ rule ∷ []) rules new)

-- the sign if something is gained under the new rules, or not, and something under the old ones, or not
abbrev pub sign_with : (more fewer : Bool) → Sign
sign_with true true = Both
sign_with true false = More
sign_with false true = Fewer
sign_with false false = Other
