use Rattle.std.proofs.Common.{◌≡◌, drop}
use Rattle.folders.specs.Folders.{content_of, sheets_value}
use Rattle.folders.proofs.folder.newest.Given as goal

abbrev pub invariant-loop-sheet : goal.invariant-loop-sheet
invariant-loop-sheet l = content_of (sheets_value (drop l.sheet-index l.sheets)) l.name ≡ content_of (sheets_value l.sheets) l.name
