use Rattle.std.specs.Prelude.{◌||◌, is_some}
use Rattle.std.proofs.Common.{◌≡◌, ◌+◌, ℕ, List, length}
use Rattle.std.specs.List.{list_any}
use Rattle.spw.specs.Line.{lines_of}
use Rattle.policy_table.specs.Ranges.{place_in}
use Rattle.policy_table.specs.Unused.{has_name}
use Rattle.policy_table.proofs.unused.used_in.Given as goal

-- the words of the lines so far, and those of the lines that are left
abbrev pub invariant-loop-line : goal.invariant-loop-line
invariant-loop-line l = (l.number + length l.line-iterator ≡ length (lines_of l.text))
    × ((name : List ℕ) → (is_some (place_in l.used.entries name) || list_any (has_name name) l.line-iterator) ≡ list_any (has_name name) (lines_of l.text))
