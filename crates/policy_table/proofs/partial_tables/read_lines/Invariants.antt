use Rattle.std.proofs.Common.{◌≡◌, ◌+◌, suc, length}
use Rattle.policy_table.specs.PartialTables.{PartialTableValue, HasBadLine, LinesWrite, empty_partial_table}
use Rattle.policy_table.specs.declared.text_faults.TextFault.{TextFault}
use Rattle.policy_table.proofs.partial_tables.read_lines.Given as goal

-- whatever the lines that are left come to, all lines come to it
abbrev pub invariant-loop-text : goal.invariant-loop-text
invariant-loop-text l = (l.line + length l.text-iterator ≡ l.before + length l.fn.lines)
    × ((end : PartialTableValue) → LinesWrite l.version (suc l.line) l.text-iterator l.partial_table end → LinesWrite l.version (suc l.before) l.fn.lines empty_partial_table end)
    × ((fault : TextFault) → HasBadLine l.version (suc l.line) l.text-iterator l.partial_table fault → HasBadLine l.version (suc l.before) l.fn.lines empty_partial_table fault)
