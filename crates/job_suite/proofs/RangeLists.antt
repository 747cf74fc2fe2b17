-- The ranges that a list writes.
use Rattle.std.proofs.Common.{arith, ◌≡◌, ◌≤◌, ◌<◌, ◌++◌, ◌∷◌, ◌∙◌, ap, ℕ, List, [], All, length, get_or, sym, subst}
use Rattle.std.proofs.lemmas.List.Elements.{All-get_or}
use Rattle.std.specs.List.{after_first, before_first}
use Rattle.job_packets.specs.HexWords.{WritesHexWord}
use Rattle.job_suite.specs.Ranges.{IsRangeWord, WriteRanges, WritesRange, is_colon, is_dash}
use Rattle.job_suite.specs.declared.ranges.MemoryRange.{MemoryRange}

-- a part writes no range if one of its words writes no number, or LOW is above HIGH
pub no_extended : (part front : List ℕ) → front ≡ before_first is_colon part → ((n : ℕ) → ¬ WritesHexWord 2 front n) → ¬ IsRangeWord part
no_extended part front at none = λ is. none is.extended.0 (subst (λ (w : List ℕ). WritesHexWord 2 w is.extended.0) (sym at) is.extended.1)

pub no_low : (part rest first : List ℕ) → rest ≡ after_first is_colon part → first ≡ before_first is_dash rest
    → ((n : ℕ) → ¬ WritesHexWord 8 first n) → ¬ IsRangeWord part
no_low part rest first following at none = λ is.
    none is.low.0 (subst (λ (w : List ℕ). WritesHexWord 8 w is.low.0) (sym (at ∙ ap (before_first is_dash) following)) is.low.1)

pub no_high : (part rest last : List ℕ) → rest ≡ after_first is_colon part → last ≡ after_first is_dash rest
    → ((n : ℕ) → ¬ WritesHexWord 8 last n) → ¬ IsRangeWord part
no_high part rest last following at none = λ is.
    none is.high.0 (subst (λ (w : List ℕ). WritesHexWord 8 w is.high.0) (sym (at ∙ ap (after_first is_dash) following)) is.high.1)

pub no_order : (part : List ℕ) (low high : ℕ) → WritesHexWord 8 (before_first is_dash (after_first is_colon part)) low
    → WritesHexWord 8 (after_first is_dash (after_first is_colon part)) high → high < low → ¬ IsRangeWord part
no_order part low high first last below = λ is. let order = is.ordered low high first last in omega arith

-- one more part, and its range
pub one_more_range : (parts : List (List ℕ)) (part : List ℕ) (ranges : List MemoryRange) (range : MemoryRange) → WriteRanges parts ranges
    → WritesRange part range → WriteRanges (parts ++ part ∷ []) (ranges ++ range ∷ [])
one_more_range [] part [] range before one = (one, tt)
one_more_range [] part (r ∷ ranges) range before one = absurd before
one_more_range (p ∷ parts) part [] range before one = absurd before
one_more_range (p ∷ parts) part (r ∷ ranges) range before one = (before.0, one_more_range parts part ranges range before.1 one)

-- a list with a part that writes no range
pub no_list : (parts : List (List ℕ)) (place : ℕ) (part : List ℕ) → place < length parts → part ≡ get_or parts place part
    → ¬ IsRangeWord part → ¬ All (λ p. IsRangeWord p) parts
no_list parts place part inside is none = λ all. none (subst (λ p. IsRangeWord p) (sym is) (All-get_or (λ p. IsRangeWord p) parts place part inside all))
