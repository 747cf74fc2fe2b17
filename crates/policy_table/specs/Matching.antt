-- By which rule a policy table decides.
use Rattle.std.specs.Prelude.{◌≡◌, ◌+◌, ◌++◌, ℕ, suc, true, nat_lt, if◌then◌else◌, List, [], ◌∷◌, length, Option, Some, None, option_map}
use Rattle.machine.specs.declared.calls.Call.{Call}
use Rattle.machine.specs.Memory.{Header}
use Rattle.policy_table.specs.Meaning.{decision, draw, holds}
use Rattle.policy_table.specs.declared.matching.Match.{Match}
use Rattle.policy_table.specs.declared.rules.Quota.{Quota}
use Rattle.policy_table.specs.declared.rules.Rule.{Rule}
use Rattle.rmap.specs.Verdict.{verdict_number}
use Rattle.rmap.specs.declared.verdict.Verdict.{Verdict}
use Rattle.rmap.specs.declared.verdict.Verdict.TheVariants.{NotAuthorised}

-- the quota of a rule whose conditions hold, if its ticket is below the limit. A rule without a quota has none. If the
-- ticket is not below the limit, the rest decides
abbrev pub matched_by : Option Quota → (reported : ℕ → ℕ) → (rest : Option Quota) → Option Quota
matched_by None reported rest = None
matched_by (Some quota) reported rest = if nat_lt (reported 0) quota.limit then Some quota else rest

-- the quota of the rule that decides, by the recursion of `decision`
abbrev pub matching_quota : List Rule → Header → (reported : ℕ → ℕ) → Option Quota
matching_quota [] header reported = None
matching_quota (rule ∷ rules) header reported =
    if holds rule header
    then matched_by rule.quota reported (matching_quota rules header (λ k. reported (suc k)))
    else matching_quota rules header reported

-- the calls are the draws of a decision, each with its answer, and it ends by the match of a rule with this quota
pub record EndsByMatch (rules : List Rule) (header : Header) (calls : List Call) (map key limit : ℕ) : Type 0 where
  pub reported : ℕ → ℕ
  pub draws : calls ≡ (decision rules header reported).0
  pub quota : Quota
  pub matched : matching_quota rules header reported ≡ Some quota
  pub of_map : quota.map ≡ map
  pub of_cell : quota.cell ≡ key
  pub of_limit : quota.limit ≡ limit

-- ---- which rule

-- the match of the rule of this number, with its draw, if it has one
abbrev pub first_match : (number : ℕ) → (ticket : Option Call) → Verdict → Match
first_match number ticket verdict = record { rule = Some number; ticket = ticket; verdict = verdict }

-- no rule matches, and the command is not authorised
abbrev pub no_match : Match
no_match = record { rule = None; ticket = None; verdict = NotAuthorised }

-- the same match, if this many rules are before it
abbrev pub following : (before : ℕ) → Match → Match
following before m = record { rule = option_map (λ number. before + number) m.rule; ticket = m.ticket; verdict = m.verdict }

-- a rule whose conditions hold. Without a quota it matches; with one it matches if its ticket is below the limit. Else
-- a later rule may match
abbrev pub match_by : Option Quota → Verdict → (reported : ℕ → ℕ) → (rest : Match) → Match
match_by None verdict reported rest = first_match 1 None verdict
match_by (Some quota) verdict reported rest =
    if nat_lt (reported 0) quota.limit then first_match 1 (Some (draw quota (reported 0))) verdict else following 1 rest

-- by which rule a table decides, by the recursion of `decision`
abbrev pub matched : List Rule → Header → (reported : ℕ → ℕ) → Match
matched [] header reported = no_match
matched (rule ∷ rules) header reported =
    if holds rule header
    then match_by rule.quota rule.verdict reported (matched rules header (λ k. reported (suc k)))
    else following 1 (matched rules header reported)

-- the rule of this number is there, its conditions hold, and no rule before it matches
pub record IsFirst (rules : List Rule) (header : Header) (reported : ℕ → ℕ) (number : ℕ) : Type 0 where
  pub before : List Rule
  pub rule : Rule
  pub rest : List Rule
  pub rules_are : rules ≡ before ++ rule ∷ rest
  pub place : number ≡ suc (length before)
  pub conditions : holds rule header ≡ true
  pub none_before : (matched before header reported).rule ≡ None

-- the rule by which a table decides is the first that matches
abbrev pub FirstMatches : Type 0
FirstMatches =
    (rules : List Rule) (header : Header) (reported : ℕ → ℕ) (number : ℕ)
    → (matched rules header reported).rule ≡ Some number → IsFirst rules header reported number

-- its verdict is that of the decision
abbrev pub MatchDecides : Type 0
MatchDecides =
    (rules : List Rule) (header : Header) (reported : ℕ → ℕ)
    → verdict_number (matched rules header reported).verdict ≡ (decision rules header reported).1
