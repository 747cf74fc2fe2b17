use Rattle.std.proofs.Common.{◌++◌, length}
use Rattle.std.specs.Prelude.{string_bytes}
use Rattle.job_node_file.specs.Headers.{each_from, byte_text}
use Rattle.job_node_file.proofs.Rows.{RowsGoOn}
use Rattle.job_node_file.proofs.header.add_bytes.Given as goal

abbrev pub invariant-loop-place : goal.invariant-loop-place
invariant-loop-place l =
    RowsGoOn (byte_text (length l.bytes)) l.bytes l.place (string_bytes l.text) (string_bytes l.initial.text ++ each_from (byte_text (length l.bytes)) 0 l.bytes)
