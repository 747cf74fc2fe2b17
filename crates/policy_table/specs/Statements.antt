-- The words of the lines of a table of version 2: a range that has a name, or a rule with or without a port.
use Rattle.std.specs.Prelude.{◌≡◌, ◌⊎◌, ◌==◌, ℕ, Bool, true, false, ◌&&◌, ◌||◌, nat_lt, bytes_eq, is_none, IsSome}
use Rattle.std.specs.Prelude.{if◌then◌else◌, List, [], ◌∷◌, length, codes, Option, Some, None}
use Rattle.std.specs.List.{before_first}
use Rattle.basm_lex.specs.Lines.{is_semicolon}
use Rattle.spw.specs.Line.{WritesPort, words_of}
use Rattle.policy_table.specs.Fields.{IsAddress}
use Rattle.policy_table.specs.Ranges.{RangeText, is_range_name, range_named}
use Rattle.policy_table.specs.Words.{AreWordsOf, IsFirstBad, LineWords, WritesNone, WritesSome, texts_of}
use Rattle.policy_table.specs.declared.rules.Rule.{Rule}
use Rattle.policy_table.specs.declared.statement_faults.StatementFault.{StatementFault}
use Rattle.policy_table.specs.declared.statement_faults.StatementFault.TheVariants.{Port, RangeCount, RangeHigh, RangeLow}
use Rattle.policy_table.specs.declared.statement_faults.StatementFault.TheVariants.{RangeName, RangeTwice, RuleCount, Word}
use Rattle.policy_table.specs.declared.statements.RuleParts.{RuleParts}
use Rattle.policy_table.specs.declared.statements.Span.{Span}
use Rattle.policy_table.specs.declared.statements.WordKind.{WordKind}
use Rattle.policy_table.specs.declared.statements.WordKind.TheVariants as kinds
use Rattle.policy_table.specs.declared.words.RuleWord.{RuleWord}

-- ---- words

-- the words of a line before its comment
abbrev pub statement_words : (line : List ℕ) → List (List ℕ)
statement_words line = words_of (before_first is_semicolon line)

-- the first word, and those after it
abbrev pub next_word : List (List ℕ) → Option (List ℕ × List (List ℕ))
next_word [] = None
next_word (word ∷ words) = Some (word, words)

-- the next step of a reading, unless a word is missing
infixl 10 ◌>>=◌
abbrev pub ◌>>=◌ : {A B : Type 0} → Option A → (A → Option B) → Option B
(Some x) >>= f = f x
None >>= f = None

-- the words are `.version` and `2`
abbrev pub are_version_two : List (List ℕ) → Bool
are_version_two [] = false
are_version_two (first ∷ []) = false
are_version_two (first ∷ second ∷ rest) =
    bytes_eq first (codes ".version") && bytes_eq second (codes "2") && is_none (next_word rest)

-- whether a line is `.version 2`, before its comment
unfoldable pub is_version_two : (line : List ℕ) → Bool
is_version_two line = are_version_two (statement_words line)

-- whether a word begins with this character
abbrev pub begins_with : ℕ → List ℕ → Bool
begins_with char [] = false
begins_with char (c ∷ cs) = c == char

-- the word is `.version`, also after the three bytes with which some editors begin a file
abbrev pub is_version : List ℕ → Bool
is_version word = bytes_eq word (codes ".version") || bytes_eq word (239 ∷ 187 ∷ 191 ∷ codes ".version")

-- what the first word of a line makes it: it says a version, gives a name to a range, is an unknown directive, or is a
-- rule. The first word of a directive begins with a point, 46
abbrev pub word_kind : List ℕ → WordKind
word_kind word =
    if is_version word then kinds.Version
    else (if bytes_eq word (codes ".range") then kinds.Range
    else (if begins_with 46 word then kinds.Other
    else kinds.Rule))

-- the first of the words says a version
abbrev pub version_first : List (List ℕ) → Bool
version_first [] = false
version_first (first ∷ rest) = is_version first

-- the line says a version
abbrev pub has_version : (line : List ℕ) → Bool
has_version line = version_first (statement_words line)

-- ---- rules

-- the two words of a range, whether the line has a name for it, and the words after it
pub record SpanText : Type 0 where
  pub low : List ℕ
  pub high : List ℕ
  pub named : Bool
  pub rest : List (List ℕ)

-- the words that are lent of it
abbrev pub span_text : Span → SpanText
span_text span = record { low = span.low.now; high = span.high.now; named = span.named; rest = words_of span.rest.now }

-- a name means the two words of its range. If no range has it, both words are the name itself, so that it is no address
abbrev pub named_span : Option RangeText → (name : List ℕ) → (rest : List (List ℕ)) → SpanText
named_span (Some range) name rest = record { low = range.low; high = range.high; named = true; rest = rest }
named_span None name rest = record { low = name; high = name; named = true; rest = rest }

-- the range that begins with this word: a name, or the first of two addresses
unfoldable pub range_words : List RangeText → (word : List ℕ) → (rest : List (List ℕ)) → Option SpanText
range_words ranges word rest =
    if is_range_name word
    then Some (named_span (range_named ranges word) word rest)
    else (next_word rest >>= (λ high. Some (record { low = word; high = high.0; named = false; rest = high.1 })))

-- the eight words of a rule, with the two of its range, and the words after its verdict
pub record PartsText : Type 0 where
  pub words : LineWords
  pub named : Bool
  pub rest : List (List ℕ)

-- the words that are lent of it
abbrev pub parts_text : RuleParts → PartsText
parts_text parts = record { words = texts_of parts.words; named = parts.named; rest = words_of parts.rest.now }

-- the words of a rule: kind, key, initiator logical address and extended address, its range, quota and verdict
unfoldable pub rule_parts : List RangeText → List (List ℕ) → Option PartsText
rule_parts ranges words =
    next_word words >>= (λ kind.
    next_word kind.1 >>= (λ key.
    next_word key.1 >>= (λ initiator.
    next_word initiator.1 >>= (λ extended.
    next_word extended.1 >>= (λ range.
    range_words ranges range.0 range.1 >>= (λ span.
    next_word span.rest >>= (λ quota.
    next_word quota.1 >>= (λ verdict.
    Some (record {
      words = record {
        kind = kind.0;
        key = key.0;
        initiator = initiator.0;
        extended = extended.0;
        low = span.low;
        high = span.high;
        quota = quota.0;
        verdict = verdict.0;
      };
      named = span.named;
      rest = verdict.1;
    })))))))))

-- what comes after a verdict: nothing, or `port` and a decimal number from 0 to 31
abbrev pub IsPortSuffix : List (List ℕ) → Option ℕ → Type 0
IsPortSuffix words None = words ≡ []
IsPortSuffix words (Some port) = (number : List ℕ) × (words ≡ codes "port" ∷ number ∷ []) × WritesPort number port

-- it is neither
abbrev pub IsBadPortWord : List (List ℕ) → Type 0
IsBadPortWord words = (port : Option ℕ) → ¬ IsPortSuffix words port

-- the words are those of the rule, for this port or for all, if these ranges have names
pub record IsRuleLine (ranges : List RangeText) (words : List (List ℕ)) (rule : Rule) (port : Option ℕ) (named : Bool)
    : Type 0 where
  pub parts : PartsText
  pub are : rule_parts ranges words ≡ Some parts
  pub is_rule : AreWordsOf parts.words rule
  pub is_port : IsPortSuffix parts.rest port
  pub is_named : named ≡ parts.named

-- the first of the words of a rule that is none of its field
pub record HasBadRuleWord (ranges : List RangeText) (words : List (List ℕ)) (word : RuleWord) (named : Bool) : Type 0 where
  pub parts : PartsText
  pub are : rule_parts ranges words ≡ Some parts
  pub first : IsFirstBad parts.words word
  pub is_named : named ≡ parts.named

-- the words are those of a rule, and what comes after its verdict is no port
pub record HasBadPort (ranges : List RangeText) (words : List (List ℕ)) (named : Bool) : Type 0 where
  pub parts : PartsText
  pub rule : Rule
  pub are : rule_parts ranges words ≡ Some parts
  pub is_rule : AreWordsOf parts.words rule
  pub no_port : IsBadPortWord parts.rest
  pub is_named : named ≡ parts.named

-- why the words are no rule: too few, a word that is none of its field, or what comes after the verdict
abbrev pub IsNoRuleLine : List RangeText → List (List ℕ) → StatementFault → Type 0
IsNoRuleLine ranges words fault =
    ((fault ≡ RuleCount (length words)) × (rule_parts ranges words ≡ None))
    ⊎ (((word : RuleWord) × (named : Bool) × (fault ≡ Word word named) × HasBadRuleWord ranges words word named)
    ⊎ ((named : Bool) × (fault ≡ Port named) × HasBadPort ranges words named))

-- ---- ranges

-- three words, and no more
unfoldable pub three_words : List (List ℕ) → Option RangeText
three_words words =
    next_word words >>= (λ name.
    next_word name.1 >>= (λ low.
    next_word low.1 >>= (λ high.
    if is_none (next_word high.1) then Some (record { name = name.0; low = low.0; high = high.0 }) else None)))

-- the words after `.range` define the range, whose name no range has, and whether it ends before it begins
pub record IsRangeLine (ranges : List RangeText) (words : List (List ℕ)) (range : RangeText) (reversed : Bool) : Type 0 where
  pub low : ℕ
  pub high : ℕ
  pub are : three_words words ≡ Some range
  pub has_name : is_range_name range.name ≡ true
  pub is_new : range_named ranges range.name ≡ None
  pub is_low : IsAddress range.low low
  pub is_high : IsAddress range.high high
  pub order : reversed ≡ nat_lt high low

-- the words are three, and the first is the name of no range
pub record IsNewName (ranges : List RangeText) (words : List (List ℕ)) (range : RangeText) : Type 0 where
  pub are : three_words words ≡ Some range
  pub has_name : is_range_name range.name ≡ true
  pub is_new : range_named ranges range.name ≡ None

-- why the words after `.range` define no range. They are not three; the first is no name, or that of a range above; the
-- second or the third is no address
abbrev pub IsNoRange : List RangeText → List (List ℕ) → StatementFault → Type 0
IsNoRange ranges words fault =
    ((fault ≡ RangeCount (length words)) × (three_words words ≡ None))
    ⊎ (((fault ≡ RangeName)
    × ((range : RangeText) × (three_words words ≡ Some range) × (is_range_name range.name ≡ false)))
    ⊎ (((fault ≡ RangeTwice)
    × ((range : RangeText) × (three_words words ≡ Some range) × (is_range_name range.name ≡ true) × IsSome (range_named ranges range.name)))
    ⊎ (((fault ≡ RangeLow)
    × ((range : RangeText) × IsNewName ranges words range × WritesNone IsAddress range.low))
    ⊎ ((fault ≡ RangeHigh)
    × ((range : RangeText) × IsNewName ranges words range × WritesSome IsAddress range.low × WritesNone IsAddress range.high)))))
