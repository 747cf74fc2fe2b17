use Rattle.std.proofs.Common.{◌≡◌, ◌≤◌, ◌+◌, ◌*◌, ◌++◌}
use Rattle.std.specs.List.{flat_map, range_with_len}
use Rattle.std.specs.Vec.{vec_capacity, vec_len}
use Rattle.job_live.specs.Entries.{left_text}
use Rattle.job_live.specs.declared.entries.TheConstants.{MOST_OF_ENTRY}
use Rattle.job_live.proofs.entries.put_each.Given as goal

abbrev pub invariant-loop-bank : goal.invariant-loop-bank
invariant-loop-bank l =
    (l.text.items ≡ l.fn.text.items ++ flat_map (left_text l.node.banks) (range_with_len 0 l.bank))
    × (vec_len l.text ≤ vec_len l.fn.text + MOST_OF_ENTRY * l.bank) × (vec_capacity l.fn.text ≤ vec_capacity l.text)
