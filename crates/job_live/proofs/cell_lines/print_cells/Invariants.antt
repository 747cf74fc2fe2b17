use Rattle.std.specs.Io.KnownBytes.{Appends}
use Rattle.std.specs.List.{flat_map, range_with_len}
use Rattle.node_programs.specs.Published.{sizes_of}
use Rattle.job_live.specs.CellLines.{map_line_in}
use Rattle.job_live.proofs.cell_lines.print_cells.Given as goal

abbrev pub invariant-loop-map : goal.invariant-loop-map
invariant-loop-map g l =
    Appends (g.W.Write.contents l.fn.out) (g.W.Write.contents l.out)
    (flat_map (map_line_in (sizes_of l.node.programs) l.node.words) (range_with_len 0 l.map))
