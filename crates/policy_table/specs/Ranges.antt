-- Ranges of addresses that have names.
use Rattle.std.specs.Prelude.{ℕ, suc, Bool, ◌≡◌, ◌&&◌, ◌==◌, not, bytes_eq, if◌then◌else◌, List, [], ◌∷◌, length, map, Option, Some, None, option_map}
use Rattle.std.specs.Borrow.{Bor}
use Rattle.std.specs.Char.{is_ascii_hexdigit}
use Rattle.std.specs.Cmp.Lexicographic.{slice_cmp}
use Rattle.std.specs.List.{list_all}
use Rattle.std.specs.Map.{lookup}
use Rattle.std.specs.Ordering.{nat_cmp, is_eq}
use Rattle.basm_lex.specs.Names.{is_name as has_form}
use Rattle.policy_table.specs.declared.ranges.NamedRange.{NamedRange}

-- the word reads as an address: eight hexadecimal digits
abbrev pub is_eight_digits : List ℕ → Bool
is_eight_digits word = (length word == 8) && list_all is_ascii_hexdigit word

-- the word is the name of a range: of the form of a name, and no address
abbrev pub is_range_name : List ℕ → Bool
is_range_name word = has_form word && not (is_eight_digits word)

-- the words of a range that has a name: the name, and the words of its first and last address
pub record RangeText : Type 0 where
  pub name : List ℕ
  pub low : List ℕ
  pub high : List ℕ

-- the words that are lent of a range
abbrev pub range_text : NamedRange → RangeText
range_text range = record { name = range.name.now; low = range.low.now; high = range.high.now }

-- of each
abbrev pub range_texts : List NamedRange → List RangeText
range_texts ranges = map range_text ranges

-- the first range that has the name
abbrev pub range_named : List RangeText → (name : List ℕ) → Option RangeText
range_named [] name = None
range_named (range ∷ ranges) name = if bytes_eq range.name name then Some range else range_named ranges name

-- ---- where it is

-- the place of that range, from 0 on
abbrev pub place_named : List RangeText → (name : List ℕ) → Option ℕ
place_named [] name = None
place_named (range ∷ ranges) name = if bytes_eq range.name name then Some 0 else option_map suc (place_named ranges name)

-- the place that a map of names has for a name
abbrev pub place_in : List (Bor (List ℕ) × ℕ) → (name : List ℕ) → Option ℕ
place_in entries name = lookup (λ key. is_eq (slice_cmp nat_cmp name key.now)) entries

-- the map has the place of the first range of each name, and no other
abbrev pub ArePlaces : List (Bor (List ℕ) × ℕ) → List RangeText → Type 0
ArePlaces entries ranges = (name : List ℕ) → place_in entries name ≡ place_named ranges name
