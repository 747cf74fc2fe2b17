use Rattle.std.proofs.Common.{◌++◌, ◌∙◌, ℕ, Option, ap, sym, rules}
use Rattle.std.specs.Prelude.{string_bytes, unwrap_or}
use Rattle.std.proofs.lemmas.Option.{unwrap_or-slice_get}
use Rattle.job_node_file.specs.Headers.{each_from, map_cells}
use Rattle.job_node_file.proofs.Rows.{rows_go_on}
use Rattle.job_node_file.proofs.header.add_map_rows.Goals as goal

pub loop-map-preserved : goal.loop-map-preserved
loop-map-preserved c =
    rows_go_on (map_cells c.args.sizes.now) c.args.sizes.now.cells c.loop-map.map (string_bytes c.loop-map.text) (string_bytes c.add_map_row.new.text)
    (string_bytes c.args.text.now ++ each_from (map_cells c.args.sizes.now) 0 c.args.sizes.now.cells) c.unwrap_or-cells.result 0
    (search rules)
    (sym (c.unwrap_or-cells.ensures ∙ ap (λ (o : Option ℕ). unwrap_or o 0) c.cells.ensures.cells
    ∙ unwrap_or-slice_get c.args.sizes.now.cells c.loop-map.map 0))
    (search rules) c.loop-map.invariant
