-- Lines that are no statement, but are commonly written so.
use Rattle.std.specs.Prelude.{ℕ, Bool, false, ◌&&◌, ◌||◌, ◌==◌, if◌then◌else◌, List, [], ◌∷◌, length, slice_index}
use Rattle.std.specs.Prelude.{bytes_eq, codes, Option, Some, None}
use Rattle.policy_table.specs.Statements.{◌>>=◌, begins_with, next_word}
use Rattle.policy_table.specs.declared.statement_faults.StatementFault.{StatementFault}
use Rattle.policy_table.specs.declared.statement_faults.StatementFault.TheVariants.{Comment, RangeJoined, RuleJoined}

-- the third word
unfoldable pub third_word : List (List ℕ) → Option (List ℕ)
third_word words =
    next_word words >>= (λ first.
    next_word first.1 >>= (λ second.
    next_word second.1 >>= (λ third.
    Some third.0)))

-- the fifth word
unfoldable pub fifth_word : List (List ℕ) → Option (List ℕ)
fifth_word words =
    next_word words >>= (λ first.
    next_word first.1 >>= (λ second.
    third_word second.1))

-- the word is of the form of two addresses with a dash (45) between them
abbrev pub is_joined : List ℕ → Bool
is_joined word = (length word == 17) && (slice_index word 8 == 45)

-- there is a word, and it is so
abbrev pub is_joined_at : Option (List ℕ) → Bool
is_joined_at None = false
is_joined_at (Some word) = is_joined word

-- the word begins a comment elsewhere (35 and 47), or in version 2 (59)
abbrev pub begins_comment : List ℕ → Bool
begins_comment word = begins_with 35 word || begins_with 47 word || begins_with 59 word

-- the fault to report for words that are no statement for a fault. It is a comment of another form, or two addresses
-- that are one word, or else that fault
abbrev pub refined : (words : List (List ℕ)) → StatementFault → StatementFault
refined [] fault = fault
refined (first ∷ rest) fault =
    if begins_comment first then Comment
    else (if bytes_eq first (codes ".range")
    then (if is_joined_at (third_word (first ∷ rest)) then RangeJoined else fault)
    else (if is_joined_at (fifth_word (first ∷ rest)) then RuleJoined else fault))
