use Rattle.std.proofs.Common.{◌<◌, length}
use Rattle.chart_lines.proofs.drawing.+field_parts.Given as goal

abbrev pub decreases-field_parts : goal.decreases-field_parts
decreases-field_parts l = length l.fields.now

abbrev pub invariant-loop-bytes : goal.invariant-loop-bytes
invariant-loop-bytes l = length l.following < length l.fields
