use Rattle.std.proofs.Common.{◌∙◌, ℕ, List, ap, leb, length, sym}
use Rattle.bank.specs.Records.{EntryValue}
use Rattle.job_nodes.specs.JobNode.{is_full}
use Rattle.job_nodes.proofs.journals.is_full.Goals as goal

pub returns : goal.returns
returns c =
    ap (λ (room : ℕ). leb room (length c.entries.result.now)) c.room.ensures
    ∙ ap (λ (entries : List EntryValue). leb c.bank-bank.result.now.journal.room (length entries)) c.entries.ensures
    ∙ ap is_full (sym c.bank-bank.ensures)
