use Rattle.std.proofs.Common.{map}
use Rattle.std.specs.Io.KnownBytes.{Appends}
use Rattle.std.specs.List.{flat_map}
use Rattle.job_parts.specs.Printed.{indented_line}
use Rattle.job_parts.proofs.printing.print_indented.Given as goal

abbrev pub invariant-loop-line : goal.invariant-loop-line
invariant-loop-line g l =
    Appends (g.W.Write.contents l.fn.out) (g.W.Write.contents l.out) (flat_map indented_line (map (λ line. line.now) l.yielded))
