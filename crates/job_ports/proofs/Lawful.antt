-- What the ports of a node did is one lawful history of its schedules.
use Rattle.std.proofs.Common.{◌≡◌, ◌<◌, ◌≤◌, ◌∙◌, ℕ, zero, suc, Bool, true, false, List, [], ◌∷◌, length, map, Some, None, refl, sym, ap, ap₂, subst, arith}
use Rattle.std.specs.Prelude.{not, nat_le, if◌then◌else◌, replicate, slice_index_or}
use Rattle.std.proofs.lemmas.Bool.{leb-true, and_parts}
use Rattle.std.proofs.lemmas.List.{length-replicate}
use mathlib.Core.List.{IsPrefix}
use base.Stored.{Gv}
use Rattle.annals.specs.declared.deed.HistoryEntry.{HistoryEntry}
use Rattle.annals.specs.Chains.{done_for}
use Rattle.bank.specs.Limits.{is_ports}
use Rattle.bank.specs.Records.{first_share}
use Rattle.bver.specs.Justified.{AcceptedValue}
use Rattle.cells.specs.Seats.{CellsValue}
use Rattle.node_parts.specs.Nodes.{are_within, limit_fault, windows_of}
use Rattle.node_parts.specs.declared.config.NodeConfig.{NodeConfig}
use Rattle.node_parts.specs.declared.faults.NodeFault.TheVariants.{Ports, Banks}
use Rattle.node_programs.specs.Histories.{entry}
use Rattle.publish.specs.Firsts.{first_entry, programs_with}
use Rattle.spw.specs.Cargo.{Cargo}
use Rattle.ports.specs.Due.{Standing, standing}
use Rattle.ports.specs.Laws.{WorkersSharesCount}
use Rattle.ports.specs.Serves.{HaveServed}
use Rattle.ports.specs.Sinks.{SentReply, SinkValue}
use Rattle.ports.specs.Worked.{IsWorked, standing_of}
use Rattle.ports.specs.declared.port.Port.{Port}
use Rattle.ports.specs.declared.port.PutPass.{PutPass}
use Rattle.ports.specs.declared.worker.Report.{Report}
use Rattle.ports.specs.declared.worker.Worker.{Worker}
use Rattle.sched.specs.Agreement.{slot_and_program}
use Rattle.sched.specs.Firsts.{slot_with_program}
use Rattle.sched.specs.Looking.{Node}
use Rattle.lawful.specs.Alone.{IsFreshPort}
use Rattle.lawful.specs.Together.{Account, IsServedBeside, ThreadsAreLawful}
use Rattle.job_config.specs.OwnNodes.{IsConfigOf, OwnNodeValue}
use Rattle.job_nodes.specs.Beginning.{own_schedule}
use Rattle.job_ports.specs.Arrivals.{AreByPort, packets_at}
use Rattle.job_ports.specs.Ends.{PortEnd}
use Rattle.job_ports.specs.Law.{AreAccountsOf, IsAccountOf, IsOneLawfulHistory, IsServedInFull}
use Rattle.job_ports.specs.Queues.{IsOwnDesk}
use Rattle.job_ports.specs.Starts.{first_standing}
use Rattle.job_ports.proofs.Ending.{end_at, end_of, ends_of, some_of}

-- a node of that configuration is within its limits
by_limits : (ports banks : Bool) → (if not ports then Some Ports else (if not banks then Some Banks else None)) ≡ None → ports ≡ true
by_limits true banks h = refl
by_limits false banks h = absurd cc

pub few_ports : (config : NodeConfig) → limit_fault config ≡ None → config.ports ≤ 32
few_ports config h =
    leb-true config.ports 32 (and_parts (nat_le 1 config.ports) (nat_le config.ports 32) (by_limits (is_ports config.ports) (are_within config.banks.now) h)).1

-- what is published before the first packet, by its slot and its program
slots_are : (publishes : List (ℕ × AcceptedValue)) → map slot_and_program (map first_entry publishes) ≡ map slot_with_program publishes
slots_are [] = refl
slots_are (publish ∷ publishes) = ap (λ l. slot_with_program publish ∷ l) (slots_are publishes)

-- first shares count no entry
unnumbered : (count port k : ℕ) → (slice_index_or (replicate count (first_share port)) k (first_share port)).number ≡ 0
unnumbered zero port zero = refl
unnumbered zero port (suc k) = refl
unnumbered (suc count) port zero = refl
unnumbered (suc count) port (suc k) = unnumbered count port k

-- A port that starts as the node of the configuration has it before the first packet is fresh.
fresh_first : (own : OwnNodeValue) (program : AcceptedValue) (config : NodeConfig) (home : Gv) (known : List HistoryEntry) (port : ℕ) → IsConfigOf own config → program.sizes ≡ own.sizes → port < own.ports
    → IsFreshPort (own_schedule own program.program) (first_standing config program own.publishes home known port)
fresh_first own program config home known port is_config sizes low = record {
  there = low;
  windows = ap₂ windows_of is_config.address is_config.banks_are;
  factory = entry 0 program;
  firsts = map first_entry own.publishes;
  programs = refl;
  program = refl;
  firsts_are = slots_are own.publishes;
  sizes = sizes;
  staging_is = refl;
  shares = length-replicate (length config.banks.now) (first_share port) ∙ ap (λ l. length l) is_config.banks_are;
  numbers = unnumbered (length config.banks.now) port;
}

module _ {J : Type 0} {own : OwnNodeValue} {program : AcceptedValue} {by_port : List (List Cargo)} {banks : ℕ} {it : CellsValue} {queues : List Port} {puts : List PutPass} {workers : List (Worker J SinkValue)}
    (desk : IsOwnDesk own program by_port banks it queues puts workers) (threads : ThreadsAreLawful) (shares : WorkersSharesCount) (sizes : program.sizes ≡ own.sizes) where
  abbrev n : Node
  n = own_schedule own program.program

  abbrev sent : SinkValue → List SentReply
  sent s = s.sent

  abbrev failed : SinkValue → ℕ
  failed s = s.failed

  module _ (left : List (Worker J SinkValue)) (total : Report) (served : HaveServed sent failed banks queues workers left total) (accounts : ℕ → Account)
      (are : AreAccountsOf desk.starts own.ports (λ port. slice_index_or by_port port []) (ends_of left served.reports) accounts)
      (full : IsServedInFull n (programs_with program own.publishes) accounts served.history.whole) where
    abbrev whole : List HistoryEntry
    whole = served.history.whole

    left_count : length left ≡ own.ports
    left_count = served.len ∙ desk.desk.workers_count

    -- what a port has and knows in the end, its worker has and knows
    last_is : (port : ℕ) (worker : Worker J SinkValue) → port < own.ports → (accounts port).last ≡ standing_of (slice_index_or left port worker)
    last_is port worker low =
        let report : Report = record { discarded = 0; lost = 0 } in
        let at = end_at left served.reports port worker report (end_of worker report) (served.reported ∙ sym served.len) (omega (arith, low, left_count)) in
        (are port (end_of worker report) low).last ∙ ap (λ (end : PortEnd). standing end.pass end.front) at

    -- the port of a worker is that of its place
    port_at : (port : ℕ) (worker : Worker J SinkValue) → port < own.ports → (slice_index_or left port worker).pass.pass.port ≡ port
    port_at port worker low =
        let inside : port < length workers = omega (arith, low, desk.desk.workers_count) in
        let old : Worker J SinkValue = slice_index_or workers port worker in
        let new : Worker J SinkValue = slice_index_or left port worker in
        let report : Report = record { discarded = 0; lost = 0 } in
        let worked : IsWorked sent failed old new (slice_index_or served.reports port report) = served.each port worker report inside in
        let stays = shares (standing_of old) (standing_of new) worked.packets worked.served.deeds worked.served.worked in
        let begun = desk.desk.each port worker worker.serve_pass low in
        stays.port ∙ (ap (λ (s : Standing). s.pass.port) begun.stands ∙ ap (λ (s : Standing). s.pass.port) (desk.are_starts.each port))

    beside : (port : ℕ) → port < own.ports → IsServedBeside n whole port (accounts port)
    beside port low =
        let low' : port < length left = omega (arith, low, left_count) in
        let worker : Worker J SinkValue = some_of left port low' in
        let new : Worker J SinkValue = slice_index_or left port worker in
        let report : Report = record { discarded = 0; lost = 0 } in
        let first : (accounts port).first ≡ first_standing desk.are_starts.config program own.publishes desk.are_starts.home desk.are_starts.known port
        = (are port (end_of worker report) low).first ∙ desk.are_starts.each port in
        let last = last_is port worker low in
        let did : done_for new.pass.pass.port whole ≡ new.pass.asked = served.history.asked port worker low' in
        let done : done_for port whole ≡ new.pass.asked = subst (λ (p : ℕ). done_for p whole ≡ new.pass.asked) (port_at port worker low) did in
        let begins : IsPrefix new.front whole = served.history.begin port worker low' in
        let own_full = full.each port low in
        record {
          worked = own_full.worked;
          fresh = subst (λ (s : Standing). IsFreshPort n s) (sym first) (fresh_first own program desk.are_starts.config desk.are_starts.home desk.are_starts.known port desk.are_starts.is_config sizes low);
          port_is = ap (λ (s : Standing). s.pass.port) first;
          asked = ap (λ (s : Standing). s.asked) first;
          begins = subst (λ (s : Standing). IsPrefix s.front whole) (sym last) begins;
          did = done ∙ sym (ap (λ (s : Standing). s.asked) last);
          in_full = own_full.in_full;
        }

  -- What the ports did is one lawful history, whatever account of it is taken.
  pub own_law : (left : List (Worker J SinkValue)) (total : Report) (served : HaveServed sent failed banks queues workers left total)
      → IsOneLawfulHistory own program desk.starts (λ port. slice_index_or by_port port []) (ends_of left served.reports) served.history.whole
  own_law left total served = λ accounts are full.
      threads n accounts served.history.whole
      (record {
        few = desk.few;
        each = beside left total served accounts are full;
        banks = full.banks;
        factory = entry 0 program;
        firsts = map first_entry own.publishes;
        program = refl;
        firsts_are = slots_are own.publishes;
        sizes = sizes;
        opening = full.opening;
        others = full.others;
        listed = served.history.listed;
        shown = served.history.shown;
      })

-- The same over the packets of each port among those of the lines.
pub law_by_packets : (own : OwnNodeValue) (program : AcceptedValue) (starts : ℕ → Standing) (packets : List (ℕ × Cargo)) (by_port : List (List Cargo)) (ends : List PortEnd) (log : List HistoryEntry)
    → AreByPort own.ports packets by_port → IsOneLawfulHistory own program starts (λ port. slice_index_or by_port port []) ends log
    → IsOneLawfulHistory own program starts (λ port. packets_at port packets) ends log
law_by_packets own program starts packets by_port ends log sorted law = λ accounts are full.
    law accounts
    (λ port end low.
    let it : IsAccountOf (starts port) (packets_at port packets) (slice_index_or ends port end) (accounts port) = are port end low in
    let own_account : IsAccountOf (starts port) (slice_index_or by_port port []) (slice_index_or ends port end) (accounts port) = record {
      first = it.first;
      packets_are = it.packets_are ∙ sym (sorted.each port low);
      last = it.last;
    } in
    own_account)
    full
