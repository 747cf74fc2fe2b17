-- The words of a rule, and which word of a line is the first that is none of its field.
use Rattle.std.specs.Prelude.{ℕ, List, [], ◌∷◌, codes}
use Rattle.policy_table.specs.Fields.{IsAddress, IsField, IsKind, IsQuota, IsVerdictWord}
use Rattle.policy_table.specs.declared.lines.Words.{Words}
use Rattle.policy_table.specs.declared.rules.Rule.{Rule}
use Rattle.policy_table.specs.declared.words.RuleWord.{RuleWord}
use Rattle.policy_table.specs.declared.words.RuleWord.TheVariants.{Kind, Key, Initiator, Extended, Low, High, Quota}
use Rattle.policy_table.specs.declared.words.RuleWord.TheVariants.{Verdict}

-- the number of a word in its line, from 1
abbrev pub word_number : RuleWord → ℕ
word_number Kind = 1
word_number Key = 2
word_number Initiator = 3
word_number Extended = 4
word_number Low = 5
word_number High = 6
word_number Quota = 7
word_number Verdict = 8

-- the form of a word, as it is printed
abbrev pub word_form : RuleWord → List ℕ
word_form Kind = codes "KIND is read, write, rmw or any, in lower case"
word_form Key = codes "KEY is two hexadecimal digits, or *"
word_form Initiator = codes "INIT is two hexadecimal digits, or *"
word_form Extended = codes "EXT is two hexadecimal digits, or *"
word_form Low = codes "LOW is eight hexadecimal digits"
word_form High = codes "HIGH is eight hexadecimal digits"
word_form Quota = codes "QUOTA is - or MAP:CELL:LIMIT in decimal, with LIMIT at most 2147483647"
word_form Verdict = codes "VERDICT is 0, 3, 10 or 12"

-- eight words
pub record LineWords : Type 0 where
  pub kind : List ℕ
  pub key : List ℕ
  pub initiator : List ℕ
  pub extended : List ℕ
  pub low : List ℕ
  pub high : List ℕ
  pub quota : List ℕ
  pub verdict : List ℕ

-- the same in the order in which a line has them
abbrev pub in_order : LineWords → List (List ℕ)
in_order w = w.kind ∷ w.key ∷ w.initiator ∷ w.extended ∷ w.low ∷ w.high ∷ w.quota ∷ w.verdict ∷ []

-- the word writes something of this form
abbrev pub WritesSome : {X : Type 0} → (form : List ℕ → X → Type 0) → List ℕ → Type 0
WritesSome {X} form word = (x : X) × form word x

-- the word writes nothing of this form
abbrev pub WritesNone : {X : Type 0} → (form : List ℕ → X → Type 0) → List ℕ → Type 0
WritesNone {X} form word = (x : X) → ¬ form word x

-- of eight words this is the first that writes nothing of its field
abbrev pub IsFirstBad : LineWords → RuleWord → Type 0
IsFirstBad w Kind = WritesNone IsKind w.kind
IsFirstBad w Key = WritesSome IsKind w.kind × WritesNone IsField w.key
IsFirstBad w Initiator = WritesSome IsKind w.kind × WritesSome IsField w.key × WritesNone IsField w.initiator
IsFirstBad w Extended = WritesSome IsKind w.kind × WritesSome IsField w.key × WritesSome IsField w.initiator
    × WritesNone IsField w.extended
IsFirstBad w Low = WritesSome IsKind w.kind × WritesSome IsField w.key × WritesSome IsField w.initiator
    × WritesSome IsField w.extended × WritesNone IsAddress w.low
IsFirstBad w High = WritesSome IsKind w.kind × WritesSome IsField w.key × WritesSome IsField w.initiator
    × WritesSome IsField w.extended × WritesSome IsAddress w.low × WritesNone IsAddress w.high
IsFirstBad w Quota = WritesSome IsKind w.kind × WritesSome IsField w.key × WritesSome IsField w.initiator
    × WritesSome IsField w.extended × WritesSome IsAddress w.low × WritesSome IsAddress w.high
    × WritesNone IsQuota w.quota
IsFirstBad w Verdict = WritesSome IsKind w.kind × WritesSome IsField w.key × WritesSome IsField w.initiator
    × WritesSome IsField w.extended × WritesSome IsAddress w.low × WritesSome IsAddress w.high
    × WritesSome IsQuota w.quota × WritesNone IsVerdictWord w.verdict

-- eight words are those of the rule, each of its field
pub record AreWordsOf (w : LineWords) (rule : Rule) : Type 0 where
  pub is_kind : IsKind w.kind rule.kind
  pub is_key : IsField w.key rule.key
  pub is_initiator : IsField w.initiator rule.initiator
  pub is_extended : IsField w.extended rule.extended
  pub is_low : IsAddress w.low rule.low
  pub is_high : IsAddress w.high rule.high
  pub is_quota : IsQuota w.quota rule.quota
  pub is_verdict : IsVerdictWord w.verdict rule.verdict

-- the eight words that are lent of a line
abbrev pub texts_of : Words → LineWords
texts_of words = record {
  kind = words.kind.now;
  key = words.key.now;
  initiator = words.initiator.now;
  extended = words.extended.now;
  low = words.low.now;
  high = words.high.now;
  quota = words.quota.now;
  verdict = words.verdict.now;
}
