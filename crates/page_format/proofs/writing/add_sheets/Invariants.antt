use Rattle.std.proofs.Common.{drop}
use Rattle.folders.specs.Folders.{sheets_value}
use Rattle.page_format.proofs.Written.{AreWritten}
use Rattle.page_format.proofs.writing.add_sheets.Given as goal

abbrev pub invariant-loop-sheet : goal.invariant-loop-sheet
invariant-loop-sheet l = AreWritten l.fn.bytes.items (sheets_value l.sheets) l.bytes.items (sheets_value (drop l.sheet-index l.sheets))
