use Rattle.std.proofs.Common.{◌≡◌, ◌∙◌, ℕ, ap}
use Rattle.std.specs.Prelude.{slice_index}
use Rattle.machine.specs.Sizes.{Maps}
use Rattle.node_programs.specs.Published.{sizes_of}
use Rattle.job_live.specs.CellLines.{map_line, map_line_in}
use Rattle.job_live.proofs.CellRows.{row_printed}
use Rattle.job_live.proofs.cell_lines.print_cells.Goals as goal

pub loop-map-preserved : goal.loop-map-preserved
loop-map-preserved g c =
    let words = c.args.node.now.words in let sizes = sizes_of c.args.node.now.programs in let map = c.loop-map.map in
    let count : c.cells_of-count.result ≡ slice_index sizes.cells map = c.cells_of-count.ensures ∙ ap (λ (s : Maps). slice_index s.cells map) c.sizes-sizes.ensures in
    row_printed (map_line_in sizes words) map _ _ _ _
    (ap (λ (n : ℕ). map_line words map n) count) c.loop-map.invariant c.in_ok-print_map.ensures
