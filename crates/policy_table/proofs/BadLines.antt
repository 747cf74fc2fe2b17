-- Lines that are no rules.
use Rattle.std.proofs.Common.{◌≡◌, ◌++◌, ℕ, List, [], ◌∷◌, length, get_or, inl, inr, sym, ap, subst, ◌∙◌}
use Rattle.spw.specs.Line.{words_of}
use Rattle.policy_table.specs.Fields.{IsAddress, IsField, IsKind, IsQuota, IsVerdictWord}
use Rattle.policy_table.specs.Lines.{AreNoRules, IsReadFault, IsRule}
use Rattle.policy_table.specs.NoRules.{HasBadWord, HasWords, IsNoRule}
use Rattle.policy_table.specs.Words.{AreWordsOf, IsFirstBad, LineWords, in_order}
use Rattle.policy_table.specs.declared.faults.PolicyFault.{PolicyFault}
use Rattle.policy_table.specs.declared.faults.PolicyFault.TheVariants.{BadLine}
use Rattle.policy_table.specs.declared.rules.Rule.{Rule}
use Rattle.policy_table.specs.declared.statement_faults.StatementFault.{StatementFault}
use Rattle.policy_table.specs.declared.words.RuleWord.{RuleWord}
use Rattle.policy_table.specs.declared.words.RuleWord.TheVariants.{Kind, Key, Initiator, Extended, Low, High, Quota, Verdict}
use Rattle.policy_table.proofs.Readings.{no_rules}

-- a line of eight words that are those of a rule writes it
pub is_rule : (line : List ℕ) (w : LineWords) (rule : Rule) → words_of line ≡ in_order w → AreWordsOf w rule → IsRule line rule
is_rule line w rule words are = record {
  kind = w.kind;
  key = w.key;
  initiator = w.initiator;
  extended = w.extended;
  low = w.low;
  high = w.high;
  quota = w.quota;
  verdict = w.verdict;
  words = words;
  is_kind = are.is_kind;
  is_key = are.is_key;
  is_initiator = are.is_initiator;
  is_extended = are.is_extended;
  is_low = are.is_low;
  is_high = are.is_high;
  is_quota = are.is_quota;
  is_verdict = are.is_verdict;
}

-- the words of a rule are those of the line
its_words : (line : List ℕ) (w : LineWords) (rule : Rule) → words_of line ≡ in_order w → IsRule line rule → AreWordsOf w rule
its_words line w rule words is =
    let same = sym is.words ∙ words in
    let nth : ℕ → List (List ℕ) → List ℕ = λ i ws. get_or ws i [] in record {
      is_kind = subst (λ (x : List ℕ). IsKind x rule.kind) (ap (nth 0) same) is.is_kind;
      is_key = subst (λ (x : List ℕ). IsField x rule.key) (ap (nth 1) same) is.is_key;
      is_initiator = subst (λ (x : List ℕ). IsField x rule.initiator) (ap (nth 2) same) is.is_initiator;
      is_extended = subst (λ (x : List ℕ). IsField x rule.extended) (ap (nth 3) same) is.is_extended;
      is_low = subst (λ (x : List ℕ). IsAddress x rule.low) (ap (nth 4) same) is.is_low;
      is_high = subst (λ (x : List ℕ). IsAddress x rule.high) (ap (nth 5) same) is.is_high;
      is_quota = subst (λ (x : List ℕ). IsQuota x rule.quota) (ap (nth 6) same) is.is_quota;
      is_verdict = subst (λ (x : List ℕ). IsVerdictWord x rule.verdict) (ap (nth 7) same) is.is_verdict;
    }

-- words of which one is bad are those of no rule
bad_words : (w : LineWords) (word : RuleWord) (rule : Rule) → IsFirstBad w word → AreWordsOf w rule → ⊥
bad_words w Kind rule bad are = bad rule.kind are.is_kind
bad_words w Key rule bad are = bad.1 rule.key are.is_key
bad_words w Initiator rule bad are = bad.2 rule.initiator are.is_initiator
bad_words w Extended rule bad are = bad.3 rule.extended are.is_extended
bad_words w Low rule bad are = bad.4 rule.low are.is_low
bad_words w High rule bad are = bad.5 rule.high are.is_high
bad_words w Quota rule bad are = bad.6 rule.quota are.is_quota
bad_words w Verdict rule bad are = bad.7 rule.verdict are.is_verdict

word_bad : (line : List ℕ) (word : RuleWord) → HasBadWord line word → (rule : Rule) → ¬ IsRule line rule
word_bad line word bad rule is = bad_words bad.words word rule bad.first (its_words line bad.words rule bad.are is)

count_bad : (line : List ℕ) (words : ℕ) → HasWords line words → (rule : Rule) → ¬ IsRule line rule
count_bad line words bad rule is = bad.1 (ap (λ (ws : List (List ℕ)). length ws) is.words)

-- a line that is no rule is none
pub no_rule : (line : List ℕ) (fault : StatementFault) → IsNoRule line fault → (rule : Rule) → ¬ IsRule line rule
no_rule line fault (inl bad) = count_bad line bad.0 bad.2
no_rule line fault (inr bad) = word_bad line bad.0 bad.2

-- why lines are not read of which one is no rule
pub unread : (lines before rest : List (List ℕ)) (line : List ℕ) (fault : PolicyFault) → before ++ line ∷ rest ≡ lines
    → (fault ≡ BadLine) × ((rule : Rule) → ¬ IsRule line rule) → IsReadFault lines fault
unread lines before rest line fault are bad =
    subst (λ (f : PolicyFault). IsReadFault lines f) (sym bad.0)
    (subst (λ (all : List (List ℕ)). AreNoRules all) are (no_rules before rest line bad.1))
