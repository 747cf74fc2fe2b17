use Rattle.std.proofs.Common.{◌∙◌, List, ℕ, subst, sym}
use Rattle.std.specs.Prelude.{[], IfOk, slice_index_or, vec_items}
use Rattle.annals.specs.declared.deed.HistoryEntry.{HistoryEntry}
use Rattle.ports.specs.Serves.{HaveServed}
use Rattle.ports.specs.Sinks.{SentReply, SinkValue}
use Rattle.ports.specs.declared.port.Port.{Port}
use Rattle.ports.specs.declared.worker.Report.{Report}
use Rattle.job_ports.specs.Ends.{PortEnd}
use Rattle.job_ports.specs.Law.{IsOneLawfulHistory}
use Rattle.job_ports.specs.Queues.{AreOfPorts}
use Rattle.job_ports.specs.Quotas.{QuotasAreKept}
use Rattle.job_ports.proofs.Ending.{each_ends, each_whole, ends_of, left_of_ports, left_seated, serve_each}
use Rattle.job_ports.proofs.Lawful.{own_law}
use Rattle.job_ports.proofs.Seating.{cells_sizes, own_quotas}
use Rattle.job_ports.proofs.queues.serve_arrivals.Goals as goal

abbrev sent : SinkValue → List SentReply
sent s = s.sent

abbrev failed : SinkValue → ℕ
failed s = s.failed

pub sinks_of-requires-clause-ports : goal.sinks_of-requires-clause-ports
sinks_of-requires-clause-ports g c =
    let reported : HaveServed sent failed c.in_ok-made.made.node c.deref.result.now (vec_items c.in_ok-made.made.workers) (vec_items c.serve-workers.result.0) c.in-Ok.report
    = subst (λ r. IfOk r (λ (total : Report). HaveServed sent failed c.in_ok-made.made.node c.deref.result.now (vec_items c.in_ok-made.made.workers) (vec_items c.serve-workers.result.0) total)) c.in-Ok.is c.serve-workers.ensures.served in
    let here = subst (λ (ps : List Port). HaveServed sent failed c.in_ok-made.made.node ps (vec_items c.in_ok-made.made.workers) (vec_items c.serve-workers.result.0) c.in-Ok.report) c.deref.ensures.value reported in
    subst (λ (ps : List Port). AreOfPorts ps (vec_items c.in_ok-made.made.put_passes) (vec_items c.serve-workers.result.0)) (sym c.deref-2.ensures.value)
    (left_of_ports c.in_ok-made.ensures.own.desk sent failed _ _ here)

pub sinks_of-requires-clause-seats : goal.sinks_of-requires-clause-seats
sinks_of-requires-clause-seats g c =
    let reported : HaveServed sent failed c.in_ok-made.made.node c.deref.result.now (vec_items c.in_ok-made.made.workers) (vec_items c.serve-workers.result.0) c.in-Ok.report
    = subst (λ r. IfOk r (λ (total : Report). HaveServed sent failed c.in_ok-made.made.node c.deref.result.now (vec_items c.in_ok-made.made.workers) (vec_items c.serve-workers.result.0) total)) c.in-Ok.is c.serve-workers.ensures.served in
    let here = subst (λ (ps : List Port). HaveServed sent failed c.in_ok-made.made.node ps (vec_items c.in_ok-made.made.workers) (vec_items c.serve-workers.result.0) c.in-Ok.report) c.deref.ensures.value reported in
    left_seated c.in_ok-made.ensures.own.desk sent failed _ _ here c.workers_shares_count.ensures _ c.in_ok-made.ensures.own.seats

pub print_tickets-requires : goal.print_tickets-requires
print_tickets-requires g c = c.sizes-sizes.ensures.value ∙ (c.requires.sizes ∙ sym (cells_sizes c.in_ok-made.ensures.own c.in_ok-sinks.ensures.back))

pub returns : goal.returns
returns g c =
    let reported : HaveServed sent failed c.in_ok-made.made.node c.deref.result.now (vec_items c.in_ok-made.made.workers) (vec_items c.serve-workers.result.0) c.in-Ok.report
    = subst (λ r. IfOk r (λ (total : Report). HaveServed sent failed c.in_ok-made.made.node c.deref.result.now (vec_items c.in_ok-made.made.workers) (vec_items c.serve-workers.result.0) total)) c.in-Ok.is c.serve-workers.ensures.served in
    let here = subst (λ (ps : List Port). HaveServed sent failed c.in_ok-made.made.node ps (vec_items c.in_ok-made.made.workers) (vec_items c.serve-workers.result.0) c.in-Ok.report) c.deref.ensures.value reported in
    let own = c.in_ok-made.ensures.own in
    let each = serve_each own.desk _ _ _ here c.in_ok-sinks.ensures.all c.in_ok-sinks.ensures.sinks in
    record {
      starts = own.starts;
      are_starts = own.are_starts;
      served = serve_each own.desk _ _ _ here c.in_ok-sinks.ensures.all c.in_ok-sinks.ensures.sinks;
      law = subst (λ (ends : List PortEnd). IsOneLawfulHistory c.args.own.now c.args.program own.starts (λ port. slice_index_or c.args.arrivals port []) ends each.history.whole)
          (sym (each_ends own.desk _ _ _ here c.in_ok-sinks.ensures.all c.in_ok-sinks.ensures.sinks))
          (subst (λ (whole : List HistoryEntry). IsOneLawfulHistory c.args.own.now c.args.program own.starts (λ port. slice_index_or c.args.arrivals port []) (ends_of (vec_items c.serve-workers.result.0) here.reports) whole)
          (sym (each_whole own.desk _ _ _ here c.in_ok-sinks.ensures.all c.in_ok-sinks.ensures.sinks))
          (own_law own c.threads_are_lawful.ensures c.workers_shares_count.ensures c.requires.sizes _ _ here));
      quotas = subst (λ (ends : List PortEnd). QuotasAreKept c.args.own.now.sizes ends)
          (sym (each_ends own.desk _ _ _ here c.in_ok-sinks.ensures.all c.in_ok-sinks.ensures.sinks))
          (own_quotas own c.quotas_hold_in_threads.ensures _ _ _ here c.in_ok-sinks.ensures.back c.print_tickets.ensures.numbered);
    }
