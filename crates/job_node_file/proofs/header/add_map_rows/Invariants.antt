use Rattle.std.proofs.Common.{◌++◌}
use Rattle.std.specs.Prelude.{string_bytes}
use Rattle.job_node_file.specs.Headers.{each_from, map_cells}
use Rattle.job_node_file.proofs.Rows.{RowsGoOn}
use Rattle.job_node_file.proofs.header.add_map_rows.Given as goal

abbrev pub invariant-loop-map : goal.invariant-loop-map
invariant-loop-map l =
    RowsGoOn (map_cells l.sizes) l.sizes.cells l.map (string_bytes l.text) (string_bytes l.initial.text ++ each_from (map_cells l.sizes) 0 l.sizes.cells)
