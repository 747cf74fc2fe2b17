-- Seats that came back to the cells of their node, and what that says of quotas.
use Rattle.std.proofs.Common.{◌≡◌, ◌+◌, ◌-◌, ◌^◌, ◌<◌, ◌≤◌, ℕ, List, [], ◌∷◌, ◌++◌, length, map, refl, sym, ap, ap₂, ◌∙◌, subst, arith, append_assoc, length-append}
use Rattle.std.specs.List.{flat_map}
use Rattle.std.proofs.lemmas.Grind.{flat_map-append}
use Rattle.std.proofs.lemmas.List.{append-nil}
use Rattle.std.proofs.lemmas.List.Concat.{flat_map-cons}
use Rattle.cells.specs.Logs.{tickets_of}
use Rattle.cells.specs.Seats.{CellsValue, calls_back, cells}
use Rattle.machine.specs.Sizes.{IsInside, Maps, kind_of_map}
use Rattle.machine.specs.declared.kinds.MapKind.TheVariants.{Counter}
use Rattle.machine.specs.declared.calls.Call.{Call}
use Rattle.bver.specs.Justified.{AcceptedValue}
use Rattle.spw.specs.Cargo.{Cargo}
use Rattle.ports.specs.Due.{Standing, standing}
use Rattle.ports.specs.Serves.{HaveServed}
use Rattle.ports.specs.Sinks.{SinkValue}
use Rattle.ports.specs.declared.port.Port.{Port}
use Rattle.ports.specs.declared.port.PutPass.{PutPass}
use Rattle.ports.specs.declared.worker.Report.{Report}
use Rattle.ports.specs.declared.worker.Worker.{Worker}
use Rattle.quotas.specs.Threads.{PortRun, QuotasHoldInThreads, calls_at}
use Rattle.job_config.specs.OwnNodes.{OwnNodeValue}
use Rattle.job_ports.specs.Ends.{PortEnd}
use Rattle.job_ports.specs.Queues.{IsOwnDesk}
use Rattle.job_ports.specs.Quotas.{AreAllNumbered, AreTakenBack, IsTakenBack, QuotasAreKept}
use Rattle.job_ports.proofs.Ending.{end_of, ends_of}

-- the calls of the seats of those workers
abbrev asked_of : {J : Type 0} → List (Worker J SinkValue) → List Call
asked_of {J} workers = flat_map (λ (w : Worker J SinkValue). w.pass.pass.seat.asked) workers

pub none_back : {J : Type 0} (it : CellsValue) → AreTakenBack {J = J} it it []
none_back it = record { sizes = refl; home = refl; parts = omega arith; calls = sym (append-nil (calls_back it)) }

pub one_back : {J : Type 0} (first before after : CellsValue) (done : List (Worker J SinkValue)) (w : Worker J SinkValue) → AreTakenBack first before done → IsTakenBack before after w.pass.pass.seat
    → AreTakenBack first after (done ++ w ∷ [])
one_back {J} first before after done w was is =
    let asked = w.pass.pass.seat.asked in
    let last : asked_of (w ∷ []) ≡ asked = flat_map-cons (λ (x : Worker J SinkValue). x.pass.pass.seat.asked) w [] ∙ append-nil asked in
    let all : asked_of (done ++ w ∷ []) ≡ asked_of done ++ asked = flat_map-append (λ (x : Worker J SinkValue). x.pass.pass.seat.asked) done (w ∷ []) ∙ ap (λ (l : List Call). asked_of done ++ l) last in
    record {
      sizes = is.sizes ∙ was.sizes;
      home = is.home ∙ was.home;
      parts = omega (arith, is.parts, was.parts, length-append done (w ∷ []));
      calls = is.calls ∙ (ap (λ (l : List Call). l ++ asked) was.calls ∙ (append_assoc (calls_back first) (asked_of done) asked ∙ ap (λ (l : List Call). calls_back first ++ l) (sym all)));
    }

-- the calls of what was done are those of how it ended
calls_by_ends : (runs : List PortRun) (ends : List PortEnd) → map (λ (run : PortRun). run.last) runs ≡ map (λ (end : PortEnd). standing end.pass end.front) ends
    → calls_at runs ≡ flat_map (λ (end : PortEnd). end.pass.pass.seat.asked) ends
calls_by_ends [] [] same = refl
calls_by_ends [] (end ∷ ends) same = absurd (cc same)
calls_by_ends (run ∷ runs) [] same = absurd (cc same)
calls_by_ends (run ∷ runs) (end ∷ ends) same =
    let first : run.last ≡ standing end.pass end.front = cc same in
    let rest : map (λ (r : PortRun). r.last) runs ≡ map (λ (e : PortEnd). standing e.pass e.front) ends = cc same in
    flat_map-cons (λ (r : PortRun). r.last.pass.seat.asked) run runs
    ∙ (ap₂ (λ (a b : List Call). a ++ b) (ap (λ (s : Standing). s.pass.seat.asked) first) (calls_by_ends runs ends rest)
    ∙ sym (flat_map-cons (λ (e : PortEnd). e.pass.pass.seat.asked) end ends))

-- and so are those of the workers
calls_by_workers : {J : Type 0} (workers : List (Worker J SinkValue)) (reports : List Report) → length reports ≡ length workers
    → flat_map (λ (end : PortEnd). end.pass.pass.seat.asked) (ends_of workers reports) ≡ asked_of workers
calls_by_workers [] reports many = refl
calls_by_workers (w ∷ workers) [] many = absurd (omega (arith, many))
calls_by_workers {J} (w ∷ workers) (r ∷ reports) many =
    flat_map-cons (λ (e : PortEnd). e.pass.pass.seat.asked) (end_of w r) (ends_of workers reports)
    ∙ (ap (λ (l : List Call). w.pass.pass.seat.asked ++ l) (calls_by_workers workers reports (omega (arith, many)))
    ∙ sym (flat_map-cons (λ (x : Worker J SinkValue). x.pass.pass.seat.asked) w workers))

-- if all seats of a fresh node came back, quotas are kept
pub quotas_are_kept : {J : Type 0} → QuotasHoldInThreads → (sizes : Maps) (ports : ℕ) (first last : CellsValue) (left : List (Worker J SinkValue)) (reports : List Report)
    → length reports ≡ length left → length left ≡ ports → ports ≤ 256 → first ≡ cells sizes first.home (256 - ports) [] → AreTakenBack first last left
    → (last.parts ≡ 256 → AreAllNumbered last) → QuotasAreKept sizes (ends_of left reports)
quotas_are_kept {J} law sizes ports first last left reports many count few fresh back numbered = λ runs m key limit n runs_are inside kind drawn matched.
    let whole : last.parts ≡ 256 = omega (arith, back.parts, ap (λ (it : CellsValue). it.parts) fresh, count, few) in
    let none : calls_back first ≡ [] = ap (λ (it : CellsValue). calls_back it) fresh in
    let all : calls_back last ≡ calls_at runs =
    back.calls ∙ (ap (λ (l : List Call). l ++ asked_of left) none ∙ (sym (calls_by_workers left reports many) ∙ sym (calls_by_ends runs (ends_of left reports) runs_are))) in
    let maps : sizes ≡ last.sizes = sym (back.sizes ∙ ap (λ (it : CellsValue). it.sizes) fresh) in
    let reported = numbered whole m key (subst (λ (s : Maps). IsInside s m key) maps inside) (subst (λ (s : Maps). kind_of_map s m ≡ Counter) maps kind) in
    let few_drawn : length (tickets_of m key (calls_back last)) < 2 ^ 64 = subst (λ (l : List Call). length (tickets_of m key l) < 2 ^ 64) (sym all) drawn in
    law last runs m key limit reported.0 n all reported.1 few_drawn matched

module _ {J : Type 0} {own : OwnNodeValue} {program : AcceptedValue} {by_port : List (List Cargo)} {banks : ℕ} {first : CellsValue} {queues : List Port} {puts : List PutPass} {workers : List (Worker J SinkValue)}
    (desk : IsOwnDesk own program by_port banks first queues puts workers) where
  -- the cells are still of the node's maps
  pub cells_sizes : {last : CellsValue} {left : List (Worker J SinkValue)} → AreTakenBack first last left → last.sizes ≡ own.sizes
  cells_sizes back = back.sizes ∙ ap (λ (it : CellsValue). it.sizes) desk.cells_are

  -- Quotas were kept at the node of the configuration.
  pub own_quotas : QuotasHoldInThreads → (last : CellsValue) (left : List (Worker J SinkValue)) (total : Report)
      → (served : HaveServed (λ (s : SinkValue). s.sent) (λ (s : SinkValue). s.failed) banks queues workers left total) → AreTakenBack first last left → (last.parts ≡ 256 → AreAllNumbered last)
      → QuotasAreKept own.sizes (ends_of left served.reports)
  own_quotas law last left total served back numbered =
      quotas_are_kept law own.sizes own.ports first last left served.reports (served.reported ∙ sym served.len) (served.len ∙ desk.desk.workers_count) (omega (arith, desk.few)) desk.cells_are back numbered
