-- What each word of a rule writes.
use Rattle.std.specs.Prelude.{◌≡◌, ◌≤◌, ◌==◌, ◌-◌, ◌^◌, ℕ, min, List, [], ◌∷◌, length, codes, decimal, Option, Some}
use Rattle.std.specs.Prelude.{None}
use Rattle.std.specs.List.{slice_split}
use Rattle.std.specs.Str.Parse.{AllDigits, IsNumeral, digits_value}
use Rattle.policy_table.specs.declared.rules.Quota.{Quota}
use Rattle.policy_table.specs.declared.rules.RuleKind.{RuleKind}
use Rattle.policy_table.specs.declared.rules.RuleKind.TheVariants.{Read, Write, Rmw, Any}
use Rattle.rmap.specs.declared.verdict.Verdict.{Verdict}
use Rattle.rmap.specs.Verdict.{verdict_number}

-- the word for a kind
abbrev pub kind_word : RuleKind → List ℕ
kind_word Read = codes "read"
kind_word Write = codes "write"
kind_word Rmw = codes "rmw"
kind_word Any = codes "any"

-- the word is that of the kind
abbrev pub IsKind : List ℕ → RuleKind → Type 0
IsKind word kind = word ≡ kind_word kind

-- this many hexadecimal digits, in either case, write the number
abbrev pub WritesHex : (digits : ℕ) → List ℕ → ℕ → Type 0
WritesHex digits word n = (length word ≡ digits) × AllDigits 16 word × (n ≡ digits_value 16 word)

-- a field of one byte: any is `*`, and one value is two hexadecimal digits
abbrev pub IsField : List ℕ → Option ℕ → Type 0
IsField word None = word ≡ codes "*"
IsField word (Some byte) = WritesHex 2 word byte

-- an address: eight hexadecimal digits
abbrev pub IsAddress : List ℕ → ℕ → Type 0
IsAddress word address = WritesHex 8 word address

-- a decimal number: one digit or more, and only digits
abbrev pub IsDigits : List ℕ → Type 0
IsDigits word = IsNumeral 10 word

-- a decimal number, kept as the greatest of 32 bits if it is above that one
abbrev pub WritesCount : List ℕ → ℕ → Type 0
WritesCount word n = IsDigits word × (n ≡ min (digits_value 10 word) (2 ^ 32 - 1))

-- the parts of a word between its colons (58)
abbrev pub parts_of : List ℕ → List (List ℕ)
parts_of word = slice_split (λ code. code == 58) word

-- three decimals between colons are map, cell and limit. A map above 255 is kept as 255 and a cell above 65,535 as
-- 65,535, which no node has. A limit is at most 2^31 - 1
pub record WritesQuota (word : List ℕ) (quota : Quota) : Type 0 where
  pub map : List ℕ
  pub cell : List ℕ
  pub limit : List ℕ
  pub parts : parts_of word ≡ map ∷ cell ∷ limit ∷ []
  pub map_digits : IsDigits map
  pub cell_digits : IsDigits cell
  pub limit_digits : IsDigits limit
  pub map_kept : quota.map ≡ min (digits_value 10 map) 255
  pub cell_kept : quota.cell ≡ min (digits_value 10 cell) 65535
  pub limit_kept : quota.limit ≡ digits_value 10 limit
  pub limit_small : quota.limit ≤ 2147483647

-- a quota: none is `-`
abbrev pub IsQuota : List ℕ → Option Quota → Type 0
IsQuota word None = word ≡ codes "-"
IsQuota word (Some quota) = WritesQuota word quota

-- the word is the number of the verdict in decimal (ECSS-E-ST-50-52C, error and status codes)
abbrev pub IsVerdictWord : List ℕ → Verdict → Type 0
IsVerdictWord word verdict = word ≡ decimal (verdict_number verdict)
