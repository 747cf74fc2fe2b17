use Rattle.std.proofs.Common.{Option, List, ℕ, sym, subst}
use Rattle.std.specs.Prelude.{IfErr}
use Rattle.job_packets.specs.HexWords.{Has}
use Rattle.job_packets.specs.Orders.{GivesWord, WritesSource}
use Rattle.job_packets.specs.Slips.{IsWordFault}
use Rattle.job_packets.proofs.orders.source_of.Goals as goal

pub returns-clause-err : goal.returns-clause-err
returns-clause-err c =
    subst (λ (o : Option (List ℕ)). IfErr c.source_written.result (IsWordFault (Has (GivesWord WritesSource o)))) (sym c.in_ok-text.ensures.ok) c.source_written.ensures.err
