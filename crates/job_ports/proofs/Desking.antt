-- Workers of a node before the first packet.
use Rattle.std.proofs.Common.{◌≡◌, ◌<◌, ◌≤◌, ◌-◌, ◌∙◌, ℕ, zero, suc, List, [], ◌∷◌, length, map, refl, ap, ap₂, subst, sym, arith}
use Rattle.std.specs.Prelude.{slice_index_or, zip}
use Rattle.std.proofs.lemmas.List.{get_or-map, length-map, length-replicate}
use Rattle.std.proofs.lemmas.List.FromFn.{get_or-map-range_with_len, length-map-range_with_len}
use base.Stored.{Gv}
use Rattle.annals.specs.declared.deed.HistoryEntry.{HistoryEntry}
use Rattle.bver.specs.Justified.{AcceptedValue}
use Rattle.cells.specs.Seats.{CellsValue, cells}
use Rattle.machine.specs.Sizes.{Maps}
use Rattle.spw.specs.Cargo.{Cargo}
use Rattle.bank.specs.Records.{first_share}
use Rattle.node_parts.specs.Passes.{PassValue}
use Rattle.node_parts.specs.declared.config.NodeConfig.{NodeConfig}
use Rattle.ports.specs.Due.{Standing}
use Rattle.ports.specs.Sinks.{SinkValue}
use Rattle.ports.specs.declared.port.Port.{Port}
use Rattle.ports.specs.declared.port.PutPass.{PutPass}
use Rattle.ports.specs.declared.port.ServePass.{ServePass}
use Rattle.ports.specs.declared.worker.Worker.{Worker}
use Rattle.target.specs.Nodes.{informed_pass, informed_passes}
use Rattle.target.specs.Passes.{PortPass, port_pass, unasked}
use Rattle.job_config.specs.OwnNodes.{IsConfigOf, OwnNodeValue}
use Rattle.job_ports.specs.Queues.{AreFilled, IsDesk, IsDeskWorker, IsOwnDesk, new_worker}
use Rattle.job_ports.specs.Starts.{SetsAll, first_standing}

worker_at : {J : Type 0} (known : List HistoryEntry) (passes : List PortPass) (serves : List ServePass) (k : ℕ) (pass : PortPass) (serve : ServePass) (worker : Worker J SinkValue) → k < length passes → k < length serves
    → slice_index_or (map (new_worker known) (zip passes serves)) k worker ≡ new_worker known (slice_index_or passes k pass, slice_index_or serves k serve)
worker_at known [] serves k pass serve worker low few = absurd (omega (arith, low))
worker_at known (p ∷ passes) [] k pass serve worker low few = absurd (omega (arith, few))
worker_at known (p ∷ passes) (s ∷ serves) zero pass serve worker low few = refl
worker_at known (p ∷ passes) (s ∷ serves) (suc k) pass serve worker low few = worker_at known passes serves k pass serve worker (omega (arith, low)) (omega (arith, few))

workers_count : (J : Type 0) (known : List HistoryEntry) (passes : List PortPass) (serves : List ServePass) → length passes ≡ length serves → length (map (new_worker {J = J} known) (zip passes serves)) ≡ length passes
workers_count J known [] [] same = refl
workers_count J known [] (s ∷ serves) same = absurd (omega (arith, same))
workers_count J known (p ∷ passes) [] same = absurd (omega (arith, same))
workers_count J known (p ∷ passes) (s ∷ serves) same = ap (λ n. suc n) (workers_count J known passes serves (omega (arith, same)))

module _ {J : Type 0} {own : OwnNodeValue} (program : AcceptedValue) (publishes : List (ℕ × AcceptedValue)) {config : NodeConfig} (home : Gv) (known : List HistoryEntry) {by_port : List (List Cargo)} {banks : ℕ} {queues : List Port} {puts : List PutPass}
    {serves : List ServePass} {passes : List PortPass} {workers : List (Worker J SinkValue)} (is_config : IsConfigOf own config) (count : length by_port ≡ own.ports) (many : banks ≡ length config.banks.now)
    (filled : AreFilled by_port queues puts serves) (passes_are : passes ≡ unasked (informed_passes config program publishes home)) (workers_are : workers ≡ map (new_worker known) (zip passes serves)) where
  abbrev firsts : List PassValue
  firsts = informed_passes config program publishes home

  abbrev first : ℕ → PassValue
  first k = informed_pass config program publishes home k

  firsts_count : length firsts ≡ own.ports
  firsts_count = length-map-range_with_len first 0 config.ports ∙ is_config.ports_are

  passes_count : length passes ≡ own.ports
  passes_count = ap (λ (l : List PortPass). length l) passes_are ∙ length-map firsts (λ (h : PassValue). port_pass h []) ∙ firsts_count

  serves_count : length serves ≡ own.ports
  serves_count = filled.serves_count ∙ count

  fresh_count : length workers ≡ own.ports
  fresh_count = ap (λ (l : List (Worker J SinkValue)). length l) workers_are ∙ workers_count J known passes serves (passes_count ∙ sym serves_count) ∙ passes_count

  pass_at : (k : ℕ) (pass : PortPass) → k < own.ports → slice_index_or passes k pass ≡ port_pass (first k) []
  pass_at k pass low =
      ap (λ (l : List PortPass). slice_index_or l k pass) passes_are
      ∙ get_or-map (λ (h : PassValue). port_pass h []) firsts k pass.pass pass (omega (arith, low, firsts_count))
      ∙ ap (λ (h : PassValue). port_pass h []) (get_or-map-range_with_len first 0 config.ports k k pass.pass (omega (arith, low, is_config.ports_are)) (omega arith))

  -- the worker at a place
  fresh_at : (k : ℕ) (serve : ServePass) (worker : Worker J SinkValue) → k < own.ports
      → slice_index_or workers k worker ≡ new_worker known (port_pass (first k) [], slice_index_or serves k serve)
  fresh_at k serve worker low =
      ap (λ (l : List (Worker J SinkValue)). slice_index_or l k worker) workers_are
      ∙ worker_at known passes serves k worker.pass serve worker (omega (arith, low, passes_count)) (omega (arith, low, serves_count))
      ∙ ap (λ (p : PortPass). new_worker known (p, slice_index_or serves k serve)) (pass_at k worker.pass low)

  pub desk_fresh : IsDesk (first_standing config program publishes home known) own.ports by_port banks queues puts workers
  desk_fresh = record {
    serves = serves;
    count = count;
    filled = filled;
    workers_count = fresh_count;
    each = λ k worker serve low.
        let here : IsDeskWorker (first_standing config program publishes home known k) banks (slice_index_or serves k serve) (new_worker {J = J} known (port_pass (first k) [], slice_index_or serves k serve)) = record {
          stands = refl;
          serves = refl;
          silent = refl;
          shares = length-replicate (length config.banks.now) (first_share k) ∙ sym many;
        } in
        subst (λ (w : Worker J SinkValue). IsDeskWorker (first_standing config program publishes home known k) banks (slice_index_or serves k serve) w) (sym (fresh_at k serve worker low)) here;
  }

-- The node of the configuration before the first packet.
pub own_desk : {J : Type 0} (own : OwnNodeValue) (program : AcceptedValue) (publishes : List (ℕ × AcceptedValue)) (config : NodeConfig) (it : CellsValue) (known : List HistoryEntry) (by_port : List (List Cargo)) (banks : ℕ) (queues : List Port)
    (puts : List PutPass) (workers : List (Worker J SinkValue)) → program.sizes ≡ own.sizes → publishes ≡ own.publishes → own.ports ≤ 32 → it ≡ cells config.sizes it.home (256 - config.ports) []
    → IsConfigOf own config → SetsAll own.banks own.contents (length own.banks) [] known
    → IsDesk (first_standing config program publishes it.home known) own.ports by_port banks queues puts workers
    → IsOwnDesk own program by_port banks it queues puts workers
own_desk own program publishes config it known by_port banks queues puts workers sizes are few cells_are is_config sets desk =
    let firsts : ℕ → Standing = first_standing config program publishes it.home known in
    let own_cells : it ≡ cells own.sizes it.home (256 - own.ports) [] = cells_are ∙ ap₂ (λ (maps : Maps) (n : ℕ). cells maps it.home (256 - n) []) is_config.sizes_are is_config.ports_are in
    record {
      starts = firsts;
      are_starts = record {
        config = config;
        home = it.home;
        known = known;
        is_config = is_config;
        sets = sets;
        each = λ port. ap (λ (l : List (ℕ × AcceptedValue)). first_standing config program l it.home known port) are;
      };
      few = few;
      cells_are = own_cells;
      seats = λ port. record { sizes = sizes ∙ sym (ap (λ (c : CellsValue). c.sizes) own_cells); home = refl };
      desk = desk;
    }
