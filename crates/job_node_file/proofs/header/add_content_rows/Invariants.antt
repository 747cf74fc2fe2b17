use Rattle.std.proofs.Common.{◌++◌}
use Rattle.std.specs.Prelude.{string_bytes}
use Rattle.job_node_file.specs.Headers.{each_from, content_row}
use Rattle.job_node_file.proofs.Rows.{RowsGoOn}
use Rattle.job_node_file.proofs.header.add_content_rows.Given as goal

abbrev pub invariant-loop-place : goal.invariant-loop-place
invariant-loop-place l =
    RowsGoOn (content_row) l.contents l.place (string_bytes l.text) (string_bytes l.initial.text ++ each_from (content_row) 0 l.contents)
