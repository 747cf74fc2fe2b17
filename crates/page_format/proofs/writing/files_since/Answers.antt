use Rattle.std.proofs.Common.{rules}
use Rattle.page_format.proofs.Written.{sheets_since}
use Rattle.page_format.proofs.writing.files_since.Goals as goal

pub returns : goal.returns
returns c = sheets_since c.args.count _ c.sheets-sheets.result.now c.args.folder.now c.sheets-sheets.ensures (search rules)
