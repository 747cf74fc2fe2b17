use Rattle.std.proofs.Common.{◌++◌}
use Rattle.std.specs.Prelude.{string_bytes}
use Rattle.job_node_file.specs.Headers.{each_from, bank_row}
use Rattle.job_node_file.proofs.Rows.{RowsGoOn}
use Rattle.job_node_file.proofs.header.add_bank_rows.Given as goal

abbrev pub invariant-loop-place : goal.invariant-loop-place
invariant-loop-place l =
    RowsGoOn (λ _ bank. bank_row bank) l.banks l.place (string_bytes l.text) (string_bytes l.initial.text ++ each_from (λ _ bank. bank_row bank) 0 l.banks)
