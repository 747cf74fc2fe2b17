use Rattle.std.proofs.Common.{◌≡◌, ◌∙◌, ◌<◌, List, ap, arith, length, refl, subst, sym, rules}
use Rattle.std.specs.Prelude.{string_bytes}
use Rattle.std.proofs.lemmas.List.{length-map}
use Rattle.std.proofs.lemmas.Result.{err_from_is_err_and}
use Rattle.annals.specs.declared.deed.HistoryEntry.{HistoryEntry}
use Rattle.job_ports.specs.Arrivals.{ArriveAll, packets_at}
use Rattle.job_ports.specs.Law.{IsOneLawfulHistory}
use Rattle.spw.specs.Line.{lines_of}
use Rattle.job_ports.specs.Ends.{PortEnd}
use Rattle.job_ports.proofs.Ending.{by_packets, few_each, packets_whole}
use Rattle.job_ports.proofs.Lawful.{law_by_packets}
use Rattle.job_ports.proofs.NotServed.{no_memory, halt_of}
use Rattle.job_ports.proofs.serve.serve_words.Goals as goal

pub serve_arrivals-requires-clause-few : goal.serve_arrivals-requires-clause-few
serve_arrivals-requires-clause-few g c = λ κs bounds. few_each _ _ _ c.in_ok-arrivals.ensures.arrive

pub serve_arrivals-requires-clause-count : goal.serve_arrivals-requires-clause-count
serve_arrivals-requires-clause-count g c = λ κs bounds. c.in_ok-arrivals.ensures.arrive.sorted.count ∙ c.ports.ensures

pub returns-clause-served : goal.returns-clause-served
returns-clause-served g c =
    let same : c.as_str.result.now ≡ string_bytes c.in_ok-text.text = search rules in
    let own = c.in_ok-text.read.node in
    let all : ArriveAll (lines_of (string_bytes c.in_ok-text.text)) own.ports c.in_ok-arrivals.arrivals
    = subst (λ n. ArriveAll (lines_of (string_bytes c.in_ok-text.text)) n c.in_ok-arrivals.arrivals) c.ports.ensures
    (subst (λ t. ArriveAll (lines_of t) c.ports.result c.in_ok-arrivals.arrivals) same c.in_ok-arrivals.ensures.arrive) in
    let each = c.in_ok-served.ensures in record {
      ends = each.served.ends;
      serves = record {
        text = string_bytes c.in_ok-text.text;
        own = own;
        program = c.in_ok-text.read.program;
        packets = all.packets;
        starts = each.starts;
        given = c.in_ok-text.ensures.given;
        lines = all.lines_are;
        are_starts = each.are_starts;
        served = by_packets _ _ _ _ _ _ all each.served;
        law = subst (λ (whole : List HistoryEntry). IsOneLawfulHistory own c.in_ok-text.read.program each.starts (λ port. packets_at port all.packets) each.served.ends whole)
            (sym (packets_whole _ _ _ _ _ _ all each.served)) (law_by_packets own c.in_ok-text.read.program each.starts all.packets c.in_ok-arrivals.arrivals each.served.ends each.served.history.whole all.sorted each.law);
        quotas = each.quotas;
      };
      sinks_are = each.served.sinks_are;
      report_is = each.served.report_is;
    }

pub returns-clause-few : goal.returns-clause-few
returns-clause-few g c =
    let small : c.ports.result < 256 = search rules in
    let each = c.in_ok-served.ensures.served in
    omega (arith, small, c.ports.ensures, each.count, ap (λ l. length l) each.sinks_are, length-map each.ends (λ (end : PortEnd). end.sink))

pub returns-in_err-served-clause-refused : goal.returns-in_err-served-clause-refused
returns-in_err-served-clause-refused g c =
    let gone = err_from_is_err_and c.from_residual-in_err-served.result c.from_residual-in_err-served.ensures.1 in
    rw (gone.1, gone.2) (no_memory _ _ _ _ _ _ _ c.in_ok-text.ensures.given _ refl)

pub returns-in_err-arrivals-clause-refused : goal.returns-in_err-arrivals-clause-refused
returns-in_err-arrivals-clause-refused g c =
    let same : c.as_str.result.now ≡ string_bytes c.in_ok-text.text = search rules in
    let gone = err_from_is_err_and c.from_residual-in_err-arrivals.result c.from_residual-in_err-arrivals.ensures.1 in
    rw (gone.1, gone.2) (halt_of _ _ _ _ _ _ _ c.in_ok-text.ensures.given _ same _ c.ports.ensures _ c.in_err-arrivals.ensures.refused)
