use Rattle.std.proofs.Common.{◌≡◌, ◌∙◌, List, ℕ, ap, arith, length, map, refl, subst}
use Rattle.std.specs.Io.KnownBytes.{Appends}
use Rattle.std.proofs.KnownBytes.{Appends-trans}
use Rattle.std.proofs.lemmas.Result.{err_from_is_err_and}
use Rattle.ports.specs.Sinks.{SinkValue, replies_in}
use Rattle.job_ports.specs.ServeJob.{lines_from, report_line}
use Rattle.job_ports.specs.ServedFile.{replies_of, report_of}
use Rattle.job_ports.proofs.NotServed.{stops_with}
use Rattle.job_ports.proofs.PrintedLines.{sent_of}
use Rattle.job_ports.proofs.serve.serve_file.Goals as goal

pub print_ports-requires : goal.print_ports-requires
print_ports-requires g c = omega (arith, c.in_ok-sinks.ensures.few, ap (λ l. length l) c.deref.ensures.value)

pub returns-clause-done : goal.returns-clause-done
returns-clause-done g c =
    let h = c.in_ok-sinks.ensures.served in
    let old = g.W.Write.contents c.args.out.now in
    let mid = g.W.Write.contents c.print_ports.new.out in
    let new = g.W.Write.contents c.print_report.new.out in
    let replies : lines_from 0 (map (λ (s : SinkValue). replies_in s.sent) c.deref.result.now) ≡ lines_from 0 (replies_of h.ends)
    = ap (λ (l : List SinkValue). lines_from 0 (map (λ (s : SinkValue). replies_in s.sent) l)) (c.deref.ensures.value ∙ h.sinks_are) ∙ ap (lines_from 0) (sent_of h.ends) in
    let one : Appends old mid (lines_from 0 (replies_of h.ends)) = subst (λ (text : List ℕ). Appends old mid text) replies c.in_ok-print_ports.ensures in
    let two : Appends mid new (report_line (report_of h.ends)) = subst (λ (text : List ℕ). Appends mid new text) (ap report_line h.report_is) c.in_ok-print_report.ensures in (
      refl,
      record {
        ends = h.ends;
        serves = h.serves;
        printed = Appends-trans old mid new _ _ one two;
      },
    )

pub returns-clause-lost : goal.returns-clause-lost
returns-clause-lost g c =
    let old = g.W.Write.contents c.args.out.now in
    let mid = g.W.Write.contents c.print_ports.new.out in
    let new = g.W.Write.contents c.print_report.new.out in record {
      replies = _;
      report = c.in_ok-sinks.report;
      printed = Appends-trans old mid new _ _ c.in_ok-print_ports.ensures c.in_ok-print_report.ensures;
      is = refl;
    }

pub returns-in_err-sinks-clause-stops : goal.returns-in_err-sinks-clause-stops
returns-in_err-sinks-clause-stops g c =
    let gone = err_from_is_err_and c.from_residual.result c.from_residual.ensures.1 in
    rw (gone.1, gone.2) (stops_with _ _ _ c.in_err-sinks.ensures.refused refl)
