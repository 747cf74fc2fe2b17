-- What became of each port, from what its worker did.
use Rattle.std.proofs.Common.{◌≡◌, ◌<◌, ◌+◌, ℕ, zero, suc, List, [], ◌∷◌, ◌++◌, length, map, refl, sym, ap, ap₂, subst, arith, ◌∙◌}
use Rattle.std.specs.Prelude.{slice_index_or}
use mathlib.Core.List.{IsPrefix}
use Rattle.cells.specs.Seats.{CellsValue}
use Rattle.spw.specs.Cargo.{Cargo}
use Rattle.ports.specs.Laws.{WorkersSharesCount}
use Rattle.ports.specs.Queue.{IsServePassOf, put_of, taken_of}
use Rattle.ports.specs.Serves.{AreServed, HaveServed, IsWorkerOf, ShareOneHistory, total_of}
use Rattle.ports.specs.Sinks.{SentReply, SinkValue}
use Rattle.ports.specs.Due.{Standing}
use Rattle.ports.specs.Worked.{HasServed, IsWorked, standing_of}
use Rattle.ports.specs.declared.item.Item.{Item}
use Rattle.ports.specs.declared.item.Item.TheVariants.{Data, Mark}
use Rattle.ports.specs.declared.port.Port.{Port}
use Rattle.ports.specs.declared.port.PutPass.{PutPass}
use Rattle.ports.specs.declared.port.ServePass.{ServePass}
use Rattle.ports.specs.declared.worker.Report.{Report}
use Rattle.ports.specs.declared.worker.Worker.{Worker}
use Rattle.job_ports.specs.Arrivals.{ArriveAll}
use Rattle.job_ports.specs.Ends.{PortEnd}
use Rattle.job_ports.specs.Queues.{AreTakenBeginnings, AreFew, AreOfPorts, IsBeginning, IsDesk, ServeEach}
use Rattle.job_ports.specs.Quotas.{AreSeated, IsSeated}
use Rattle.job_ports.specs.ServedFile.{BeginOneHistory, EndsSo, ServePackets, no_replies}

-- the packet in front of some items
abbrev packet_first : Cargo → List Item → Cargo
packet_first other [] = other
packet_first other (Data packet ∷ items) = packet
packet_first other (Mark ∷ items) = other

-- the items after the first
abbrev following : List Item → List Item
following [] = []
following (item ∷ items) = items

-- Packets up to the first end mark are the same in both.
up_to_mark : (all taken : List Cargo) (rest : List Item) → map Data all ++ Mark ∷ [] ≡ (map Data taken ++ Mark ∷ []) ++ rest → all ≡ taken
up_to_mark [] [] rest is = refl
up_to_mark [] (packet ∷ taken) rest is = absurd (cc is)
up_to_mark (packet ∷ all) [] rest is = absurd (cc is)
up_to_mark (packet ∷ all) (other ∷ taken) rest is =
    ap₂ (λ (p : Cargo) (l : List Cargo). p ∷ l) (ap (packet_first packet) is) (up_to_mark all taken rest (ap following is))

-- A worker that took a beginning of what was put, up to the end mark, took all of it.
pub served_all : {J : Type 0} (sent : SinkValue → List SentReply) (failed : SinkValue → ℕ) (old new : Worker J SinkValue) (report : Report) (all : List Cargo) (put : List Item)
    → IsWorked sent failed old new report → taken_of old.serve_pass ≡ [] → put ≡ map Data all ++ Mark ∷ [] → IsBeginning (taken_of new.serve_pass) put
    → HasServed sent failed (standing_of old) (standing_of new) old.sink new.sink all report
served_all sent failed old new report all put worked none put_is begins =
    let took = worked.took ∙ ap (λ (l : List Item). l ++ map Data worked.packets ++ Mark ∷ []) none in
    let same = up_to_mark all worked.packets begins.rest (sym put_is ∙ begins.whole ∙ ap (λ (l : List Item). l ++ begins.rest) took) in
    subst (λ (packets : List Cargo). HasServed sent failed (standing_of old) (standing_of new) old.sink new.sink packets report) (sym same) worked.served

-- what became of a port, by its worker and the report
abbrev pub end_of : {J : Type 0} → Worker J SinkValue → Report → PortEnd
end_of worker report = record { pass = worker.pass; front = worker.front; sink = worker.sink; report = report }

-- what became of each port
abbrev pub ends_of : {J : Type 0} → List (Worker J SinkValue) → List Report → List PortEnd
ends_of [] reports = []
ends_of (worker ∷ workers) [] = []
ends_of (worker ∷ workers) (report ∷ reports) = end_of worker report ∷ ends_of workers reports

module _ {J : Type 0} where
  ends_count : (workers : List (Worker J SinkValue)) (reports : List Report) → length reports ≡ length workers → length (ends_of workers reports) ≡ length workers
  ends_count [] reports many = refl
  ends_count (worker ∷ workers) [] many = absurd (omega (arith, many))
  ends_count (worker ∷ workers) (report ∷ reports) many = ap (λ n. suc n) (ends_count workers reports (omega (arith, many)))

  ends_sinks : (workers : List (Worker J SinkValue)) (reports : List Report) → length reports ≡ length workers
      → map (λ (end : PortEnd). end.sink) (ends_of workers reports) ≡ map (λ (w : Worker J SinkValue). w.sink) workers
  ends_sinks [] reports many = refl
  ends_sinks (worker ∷ workers) [] many = absurd (omega (arith, many))
  ends_sinks (worker ∷ workers) (report ∷ reports) many = ap (λ (l : List SinkValue). worker.sink ∷ l) (ends_sinks workers reports (omega (arith, many)))

  ends_reports : (workers : List (Worker J SinkValue)) (reports : List Report) → length reports ≡ length workers
      → map (λ (end : PortEnd). end.report) (ends_of workers reports) ≡ reports
  ends_reports [] [] many = refl
  ends_reports [] (report ∷ reports) many = absurd (omega (arith, many))
  ends_reports (worker ∷ workers) [] many = absurd (omega (arith, many))
  ends_reports (worker ∷ workers) (report ∷ reports) many = ap (λ (l : List Report). report ∷ l) (ends_reports workers reports (omega (arith, many)))

  pub end_at : (workers : List (Worker J SinkValue)) (reports : List Report) (k : ℕ) (worker : Worker J SinkValue) (report : Report) (end : PortEnd) → length reports ≡ length workers → k < length workers
      → slice_index_or (ends_of workers reports) k end ≡ end_of (slice_index_or workers k worker) (slice_index_or reports k report)
  end_at [] reports k worker report end many low = absurd (omega (arith, low))
  end_at (w ∷ workers) [] k worker report end many low = absurd (omega (arith, many))
  end_at (w ∷ workers) (r ∷ reports) zero worker report end many low = refl
  end_at (w ∷ workers) (r ∷ reports) (suc k) worker report end many low = end_at workers reports k worker report end (omega (arith, many)) (omega (arith, low))

-- A node whose ports hold these packets.
module _ {J : Type 0} {starts : ℕ → Standing} {ports : ℕ} {by_port : List (List Cargo)} {banks : ℕ} {queues : List Port} {puts : List PutPass} {workers : List (Worker J SinkValue)}
    (desk : IsDesk starts ports by_port banks queues puts workers) where
  -- Its workers may serve their ports.
  pub desk_served : AreServed banks ports queues workers
  desk_served = record {
    len = desk.filled.ports_count ∙ desk.count;
    each = λ k port worker low.
        let own = desk.each k worker worker.serve_pass low in
        let serves : IsServePassOf (slice_index_or queues k port) (slice_index_or desk.serves k worker.serve_pass) = desk.filled.serves k port worker.serve_pass (omega (arith, low, desk.count)) in
        let here : IsWorkerOf banks (slice_index_or queues k port) (slice_index_or workers k worker) = record {
          pass = subst (λ (s : ServePass). IsServePassOf (slice_index_or queues k port) s) (sym own.serves) serves;
          shares = own.shares;
        } in
        here;
  }

  module _ (sent : SinkValue → List SentReply) (failed : SinkValue → ℕ) (left : List (Worker J SinkValue)) (total : Report) (served : HaveServed sent failed banks queues workers left total) where
    -- What puts and takes still belongs to the ports.
    pub left_of_ports : AreOfPorts queues puts left
    left_of_ports = record {
      puts_count = desk.filled.puts_count ∙ sym desk.filled.ports_count;
      workers_count = served.len ∙ desk.workers_count ∙ sym (desk.filled.ports_count ∙ desk.count);
      puts = λ k port put low. desk.filled.puts k port put (omega (arith, low, desk.filled.ports_count));
      serves = λ k port worker low. (served.served.each k port worker (omega (arith, low, desk.filled.ports_count, desk.count, desk.workers_count))).pass;
    }

    -- what each port's worker did with its packets
    served_at : AreTakenBeginnings puts left → (k : ℕ) (put : PutPass) (serve : ServePass) (worker : Worker J SinkValue) (report : Report) → k < ports
        → HasServed sent failed (starts k) (standing_of (slice_index_or left k worker)) no_replies (slice_index_or left k worker).sink (slice_index_or by_port k []) (slice_index_or served.reports k report)
    served_at begins k put serve worker report low =
        let old : Worker J SinkValue = slice_index_or workers k worker in
        let new : Worker J SinkValue = slice_index_or left k worker in
        let done : Report = slice_index_or served.reports k report in
        let packets : List Cargo = slice_index_or by_port k [] in
        let own = desk.each k worker serve low in
        let low' : k < length by_port = omega (arith, low, desk.count) in
        let worked : IsWorked sent failed old new done = served.each k worker report (omega (arith, low, desk.workers_count)) in
        let none : taken_of old.serve_pass ≡ [] = ap (λ (s : ServePass). taken_of s) own.serves ∙ desk.filled.taken k [] serve low' in
        let all = served_all sent failed old new done packets (put_of (slice_index_or puts k put))
        worked none (desk.filled.put k [] put low') (begins k put worker (omega (arith, low, served.len, desk.workers_count))) in
        subst (λ (start : Standing). HasServed sent failed start (standing_of new) no_replies new.sink packets done) own.stands
        (subst (λ (sink : SinkValue). HasServed sent failed (standing_of old) (standing_of new) sink new.sink packets done) own.silent all)

    -- The seats are still those of the ports' passes at first.
    pub left_seated : WorkersSharesCount → (it : CellsValue) → ((port : ℕ) → IsSeated it (starts port).pass.seat) → AreSeated it left
    left_seated law it seats = λ k worker low.
        let inside : k < length workers = omega (arith, low, served.len) in
        let old : Worker J SinkValue = slice_index_or workers k worker in
        let new : Worker J SinkValue = slice_index_or left k worker in
        let report : Report = record { discarded = 0; lost = 0 } in
        let worked : IsWorked sent failed old new (slice_index_or served.reports k report) = served.each k worker report inside in
        let stays = law (standing_of old) (standing_of new) worked.packets worked.served.deeds worked.served.worked in
        let own = desk.each k worker worker.serve_pass (omega (arith, inside, desk.workers_count)) in
        let first : IsSeated it (standing_of old).pass.seat = subst (λ (start : Standing). IsSeated it start.pass.seat) (sym own.stands) (seats k) in
        record { sizes = stays.sizes ∙ first.sizes; home = stays.home ∙ first.home }

-- an element of a list that has one
pub some_of : {A : Type 0} (xs : List A) (k : ℕ) → k < length xs → A
some_of [] k low = absurd (omega (arith, low))
some_of (x ∷ xs) k low = x

-- What the workers know of the history, what became of their ports knows.
ends_history : {J : Type 0} (left : List (Worker J SinkValue)) (reports : List Report) → length reports ≡ length left → ShareOneHistory left → BeginOneHistory (ends_of left reports)
ends_history {J} left reports many history = record {
  whole = history.whole;
  begin = λ k end low.
      let low' : k < length left = omega (arith, low, ends_count left reports many) in
      let worker : Worker J SinkValue = some_of left k low' in
      subst (λ (e : PortEnd). IsPrefix e.front history.whole) (sym (end_at left reports k worker end.report end many low')) (history.begin k worker low');
}

-- What became of each port.
pub serve_each : {J : Type 0} {starts : ℕ → Standing} {ports : ℕ} {by_port : List (List Cargo)} {banks : ℕ} {queues : List Port} {puts : List PutPass} {workers : List (Worker J SinkValue)}
    (desk : IsDesk starts ports by_port banks queues puts workers) (left : List (Worker J SinkValue)) (sinks : List SinkValue) (total : Report)
    → HaveServed (λ (s : SinkValue). s.sent) (λ (s : SinkValue). s.failed) banks queues workers left total → AreTakenBeginnings puts left
    → sinks ≡ map (λ (w : Worker J SinkValue). w.sink) left → ServeEach starts ports by_port sinks total
serve_each {J} {starts} {ports} {by_port} {banks} {queues} {puts} {workers} desk left sinks total served begins is =
    let many : length served.reports ≡ length left = served.reported ∙ sym served.len in
    let count : length left ≡ ports = served.len ∙ desk.workers_count in
    record {
      ends = ends_of left served.reports;
      count = ends_count left served.reports many ∙ count;
      each = λ k end low.
          let low' : k < length left = omega (arith, low, count) in
          let worker : Worker J SinkValue = some_of left k low' in
          let put : PutPass = some_of puts k (omega (arith, low, desk.filled.puts_count, desk.count)) in
          subst (λ (e : PortEnd). EndsSo (starts k) (slice_index_or by_port k []) e) (sym (end_at left served.reports k worker end.report end many low'))
          (served_at desk (λ (s : SinkValue). s.sent) (λ (s : SinkValue). s.failed) left total served begins k put worker.serve_pass worker end.report low);
      history = ends_history left served.reports many served.history;
      sinks_are = is ∙ sym (ends_sinks left served.reports many);
      report_is = served.sum ∙ ap total_of (sym (ends_reports left served.reports many));
    }

-- These are the ends of the ports.
pub each_ends : {J : Type 0} {starts : ℕ → Standing} {ports : ℕ} {by_port : List (List Cargo)} {banks : ℕ} {queues : List Port} {puts : List PutPass} {workers : List (Worker J SinkValue)}
    (desk : IsDesk starts ports by_port banks queues puts workers) (left : List (Worker J SinkValue)) (sinks : List SinkValue) (total : Report)
    → (served : HaveServed (λ (s : SinkValue). s.sent) (λ (s : SinkValue). s.failed) banks queues workers left total) (begins : AreTakenBeginnings puts left)
    (is : sinks ≡ map (λ (w : Worker J SinkValue). w.sink) left) → (serve_each desk left sinks total served begins is).ends ≡ ends_of left served.reports
unfolding serve_each
each_ends desk left sinks total served begins is = refl

-- They share that list.
pub each_whole : {J : Type 0} {starts : ℕ → Standing} {ports : ℕ} {by_port : List (List Cargo)} {banks : ℕ} {queues : List Port} {puts : List PutPass} {workers : List (Worker J SinkValue)}
    (desk : IsDesk starts ports by_port banks queues puts workers) (left : List (Worker J SinkValue)) (sinks : List SinkValue) (total : Report)
    → (served : HaveServed (λ (s : SinkValue). s.sent) (λ (s : SinkValue). s.failed) banks queues workers left total) (begins : AreTakenBeginnings puts left)
    (is : sinks ≡ map (λ (w : Worker J SinkValue). w.sink) left) → (serve_each desk left sinks total served begins is).history.whole ≡ served.history.whole
unfolding serve_each ends_history
each_whole desk left sinks total served begins is = refl

-- The packets that came to each port are few.
pub few_each : (lines : List (List ℕ)) (ports : ℕ) (by_port : List (List Cargo)) → ArriveAll lines ports by_port → AreFew by_port
few_each lines ports by_port all = λ port low.
    let size = ap (λ (l : List Cargo). length l) (all.sorted.each port (omega (arith, low, all.sorted.count))) in
    omega (arith, size, all.lines_are.taken.few port)

-- Each port served its packets among those of the lines.
pub by_packets : (starts : ℕ → Standing) (lines : List (List ℕ)) (ports : ℕ) (by_port : List (List Cargo)) (sinks : List SinkValue) (report : Report)
    (all : ArriveAll lines ports by_port) (each : ServeEach starts ports by_port sinks report) → ServePackets starts ports all.packets each.ends
by_packets starts lines ports by_port sinks report all each = record {
  count = each.count;
  each = λ k end low. subst (λ (l : List Cargo). EndsSo (starts k) l (slice_index_or each.ends k end)) (all.sorted.each k low) (each.each k end low);
  history = each.history;
}

-- It is the list of all.
pub packets_whole : (starts : ℕ → Standing) (lines : List (List ℕ)) (ports : ℕ) (by_port : List (List Cargo)) (sinks : List SinkValue) (report : Report)
    (all : ArriveAll lines ports by_port) (each : ServeEach starts ports by_port sinks report) → (by_packets starts lines ports by_port sinks report all each).history.whole ≡ each.history.whole
unfolding by_packets
packets_whole starts lines ports by_port sinks report all each = refl
