use Rattle.std.proofs.Common.{subst}
use Rattle.std.proofs.KnownBytes.{Appends-trans}
use Rattle.std.proofs.lemmas.Result.{on_ok_weaker}
use Rattle.std.specs.Io.KnownBytes.{Appends}
use Rattle.spw.specs.Cargo.{Cargo}
use Rattle.job_live.specs.Reporting.{portless_packet_line}
use Rattle.job_live.proofs.EntryLines.{own_words}
use Rattle.job_live.proofs.reporting.print_whole.Goals as goal

pub returns : goal.returns
returns g c =
    let old = g.W.Write.contents c.args.out.now in
    let mid = g.W.Write.contents c.print_words.new.out in
    let new = g.W.Write.contents c.print_packet.new.out in
    let words = own_words old mid c.args.entry.now c.port.result c.number.result c.generation.result c.verdict.result c.code-status.result c.status.result
    c.port.ensures c.number.ensures c.generation.ensures c.verdict.ensures c.code-status.ensures.value c.status.ensures c.in_ok-print_words.ensures in
    on_ok_weaker c.print_packet.result
    (λ reported. Appends-trans old mid new _ _ words (subst (λ (p : Cargo). Appends mid new (portless_packet_line p)) c.packet.ensures.value reported))
    c.print_packet.ensures
