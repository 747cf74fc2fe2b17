-- The world as it is made: its parts fit together, and it is that of no event.
use Rattle.std.proofs.Common.{◌≡◌, ◌≢◌, ◌<◌, ◌≤◌, ◌⊎◌, ℕ, zero, suc, [], length, replicate, Bool, true, false, Option, Some, None, refl, sym, ap, subst, ◌∙◌, arith, inl, inr}
use Rattle.std.specs.Prelude.{map, slice_get, if◌then◌else◌, not, option_map}
use Rattle.std.specs.List.{range_with_len}
use Rattle.std.proofs.lemmas.List.{length-map, length-replicate, get_or-replicate}
use Rattle.std.proofs.lemmas.List.FromFn.{length-range_with_len, get_or-range_with_len, length-map-range_with_len, get_or-map-range_with_len}
use Rattle.std.proofs.lemmas.Option.{slice_get-map, slice_get_within, slice_get-get_or, get_or_from_slice_get, same_Some}
use base.Stored.{gnil}
use Rattle.bpf.specs.Program.{Program}
use Rattle.machine.specs.declared.kinds.MapKind.{MapKind}
use Rattle.machine.specs.declared.kinds.MapKind.TheVariants as kinds
use Rattle.machine.specs.Sizes.{Maps, kind_of_map}
use Rattle.bver_form.specs.declared.refusal.Refusal.TheVariants as refusals
use Rattle.bver_form.specs.declared.refusal.Refused.{Refused}
use Rattle.bver.specs.Justified.{AcceptedValue, IsJustified}
use Rattle.bver.specs.Refusals.{IsRefusal}
use Rattle.bver.specs.Unjustified.{ReportsUnjustified}
use Rattle.bank.specs.Limits.{is_ports}
use Rattle.bank.specs.Records.{BankValue, first_share}
use Rattle.node_parts.specs.declared.config.BankConfig.{BankConfig}
use Rattle.node_parts.specs.declared.config.NodeConfig.{NodeConfig}
use Rattle.node_parts.specs.declared.faults.NodeFault.{NodeFault}
use Rattle.node_parts.specs.declared.faults.NodeFault.TheVariants as nodes
use Rattle.node_parts.specs.Nodes.{are_within, bank_of, first_pass, fresh_banks, limit_fault, windows_of, IsNodeFault}
use Rattle.node_parts.specs.Loads.{wants_verifier_memory}
use Rattle.node_parts.specs.Pairs.{MadeArePaired}
use Rattle.sched.specs.declared.faults.WorldFault.{WorldFault}
use Rattle.sched.specs.declared.faults.WorldFault.TheVariants.{Memory as NoMemory, Image}
use Rattle.sched.specs.Codes.{fault_of_node, fault_of_refusal}
use Rattle.sched.specs.History.{Start}
use Rattle.sched.specs.Looking.{entries, memory, room_of, first_memory, word_by_kind}
use Rattle.sched.specs.Worlds.{PortValue, WorldValue, AreBanksOf, ArePortsOf, IsBankOf, IsPortIn, IsWorld, IsFactoryRefused, IsUnmade, IsWorldOf, IsWorldFault, first_port, node_of, shown_in_all}
use Rattle.plain_cells.specs.Words.{AreCells, AreZeros}

-- ---- lists by their number

-- what is at a place of a list that is made by number
numbered_at : {A : Type 0} (f : ℕ → A) (count k : ℕ) (x : A) → slice_get (map f (range_with_len 0 count)) k ≡ Some x → (x ≡ f k) × (k < count)
numbered_at f count k x at =
    let below : k < count = rw (← length-map-range_with_len f 0 count) (slice_get_within (map f (range_with_len 0 count)) k x at) in
    (sym (get_or_from_slice_get (map f (range_with_len 0 count)) k x x at) ∙ get_or-map-range_with_len f 0 count k k x below (omega arith), below)

-- what is in a list of equals
replicated_at : {A : Type 0} (n k : ℕ) (a x : A) → slice_get (replicate n a) k ≡ Some x → x ≡ a
replicated_at n k a x at =
    let below : k < n = rw (← length-replicate n a) (slice_get_within (replicate n a) k x at) in
    sym (get_or_from_slice_get (replicate n a) k x x at) ∙ get_or-replicate n k a x below

-- the program in each slot
shown_at : (a : AcceptedValue) (slot : ℕ) (shown : AcceptedValue × ℕ) → slice_get (shown_in_all a) slot ≡ Some shown → shown ≡ (a, 0)
shown_at a zero shown at = sym (same_Some (a, 0) shown at)
shown_at a (suc zero) shown at = sym (same_Some (a, 0) shown at)
shown_at a (suc (suc zero)) shown at = sym (same_Some (a, 0) shown at)
shown_at a (suc (suc (suc zero))) shown at = sym (same_Some (a, 0) shown at)
shown_at a (suc (suc (suc (suc slot)))) shown at = absurd cc

-- ---- a world that is made

-- the parts of a world that is made of a configuration, with that accepted factory program
pub record IsMade (config : NodeConfig) (factory : Program) (w : WorldValue) (a : AcceptedValue) : Type 0 where
  pub windows_are : w.windows ≡ windows_of config.address config.banks.now
  pub sizes_are : w.sizes ≡ config.sizes
  pub banks_are : w.banks ≡ fresh_banks config
  pub cells : AreCells config.sizes w.words
  pub zeros : AreZeros w.words
  pub programs_are : w.programs ≡ shown_in_all a
  pub count_is : w.count ≡ 0
  pub ports_are : w.ports ≡ map (first_port (length config.banks.now)) (range_with_len 0 config.ports)
  pub few : config.ports ≤ 32
  pub program : a.program ≡ factory
  pub accepted : a.sizes ≡ config.sizes
  pub justified : IsJustified a.program config.sizes

-- each port fits
made_port : (config : NodeConfig) (a : AcceptedValue) → MadeArePaired → (port : ℕ) (p : PortValue) → slice_get (map (first_port (length config.banks.now)) (range_with_len 0 config.ports)) port ≡ Some p
    → IsPortIn (windows_of config.address config.banks.now) config.sizes (fresh_banks config) port p
made_port config a law port p at =
    let banks = config.banks.now in
    let first = first_pass config.address banks a gnil in
    let made = numbered_at (first_port (length banks)) config.ports port p at in
    let passes = map first (range_with_len 0 config.ports) in
    let there : slice_get passes port ≡ Some (first port) = numbered_there first config.ports port made.1 in
    let paired = (law config.address config.ports banks a gnil).each port (first port) there in
    rw made.0 (record { paired = record { count = paired.count; windows = paired.windows; shares = paired.shares }; run = tt })
  where
    numbered_there : {A : Type 0} (f : ℕ → A) (count k : ℕ) → k < count → slice_get (map f (range_with_len 0 count)) k ≡ Some (f k)
    numbered_there f count k below = slice_get-map f (range_with_len 0 count) k ∙ ap (option_map f) (slice_get-get_or (range_with_len 0 count) k 0 (rw (length-range_with_len 0 count) below) ∙ ap (λ (j : ℕ). Some j) (get_or-range_with_len 0 count k 0 below ∙ omega arith))

pub made_world : (config : NodeConfig) (factory : Program) (w : WorldValue) (a : AcceptedValue) → MadeArePaired → IsMade config factory w a → IsWorld w
made_world config factory w a law is = record {
  cells = rw is.sizes_are is.cells;
  slots = ap length is.programs_are;
  accepted = rw (is.sizes_are, is.programs_are) (λ slot shown at. ap (λ (v : AcceptedValue × ℕ). v.0.sizes) (shown_at a slot shown at) ∙ is.accepted);
  few_ports = rw (is.ports_are, length-map-range_with_len (first_port (length config.banks.now)) 0 config.ports) is.few;
  ports = rw (is.windows_are, is.sizes_are, is.banks_are, is.ports_are) (made_port config a law);
}

-- ---- behind no event

bank_made : (config : NodeConfig) (factory : Program) (k : ℕ) (b : BankValue) (found : Option BankConfig) → slice_get config.banks.now k ≡ found → option_map (bank_of config.ports) found ≡ Some b
    → IsBankOf (node_of config factory) k [] (first_memory (slice_get config.banks.now k)) b
bank_made config factory k b None at is = absurd cc
bank_made config factory k b (Some bank) at is =
    let same : bank_of config.ports bank ≡ b = same_Some (bank_of config.ports bank) b is in
    subst (λ (v : BankValue). IsBankOf (node_of config factory) k [] (first_memory (slice_get config.banks.now k)) v) same (record {
      base_is = sym (ap first_memory at);
      memory_is = sym (ap first_memory at);
      entries_are = refl;
      room = sym (ap room_of at);
      ports = length-replicate config.ports 0;
      counts = λ port below. get_or-replicate config.ports port 0 0 below;
    })

banks_made : (config : NodeConfig) (factory : Program) → AreBanksOf (node_of config factory) (entries (node_of config factory) Start) (memory (node_of config factory) Start) (fresh_banks config)
banks_made config factory = record {
  count = length-map config.banks.now (bank_of config.ports);
  each = λ k b at. bank_made config factory k b (slice_get config.banks.now k) refl (sym (slice_get-map (bank_of config.ports) config.banks.now k) ∙ at);
}

ports_made : (config : NodeConfig) (factory : Program) → ArePortsOf (node_of config factory) Start (map (first_port (length config.banks.now)) (range_with_len 0 config.ports))
ports_made config factory = record {
  count = length-map-range_with_len (first_port (length config.banks.now)) 0 config.ports;
  each = λ port p at.
      let made = numbered_at (first_port (length config.banks.now)) config.ports port p at in
      rw made.0 (record {
        staging_is = refl;
        judging = tt;
        count = length-replicate (length config.banks.now) (first_share port);
        shares = λ k share here.
            let is = replicated_at (length config.banks.now) k (first_share port) share here in
            rw is (record { holder = refl; next = refl });
      });
}

-- the word of a cell of which no ticket was drawn and no peak raised, of either kind
no_word : (kind : MapKind) → 0 ≡ word_by_kind kind 0 0
no_word kinds.Counter = refl
no_word kinds.Peak = refl

pub made_of : (config : NodeConfig) (factory : Program) (w : WorldValue) (a : AcceptedValue) → IsMade config factory w a → IsWorldOf (node_of config factory) Start w
made_of config factory w a is = record {
  windows_are = is.windows_are;
  sizes_are = is.sizes_are;
  banks_are = rw is.banks_are (banks_made config factory);
  words_are = λ map key inside. is.zeros map key ∙ no_word (kind_of_map config.sizes map);
  programs_are = rw is.programs_are (λ slot shown at. rw (shown_at a slot shown at) (record { program = is.program; generation = refl; accepted = record { sizes = is.accepted; justified = is.justified } }));
  count_is = is.count_is;
  ports_are = rw is.ports_are (ports_made config factory);
}

-- ---- faults

-- what a limit of a node is to a world
limited : (limit : Option NodeFault) (refused : NodeFault) (fault : WorldFault) → limit ≡ Some nodes.Ports ⊎ (limit ≡ Some nodes.Banks ⊎ limit ≡ None) → IsNodeFault limit refused → fault ≡ fault_of_node refused → IsUnmade limit fault
limited None refused fault which is reported = reported ∙ ap fault_of_node is
limited (Some nodes.Ports) refused fault which is reported = reported ∙ ap fault_of_node is
limited (Some nodes.Banks) refused fault which is reported = reported ∙ ap fault_of_node is
limited (Some nodes.Memory) refused fault (inl is_ports) is reported = absurd cc
limited (Some nodes.Memory) refused fault (inr (inl is_banks)) is reported = absurd cc
limited (Some nodes.Memory) refused fault (inr (inr none)) is reported = absurd cc

limits : (config : NodeConfig) → limit_fault config ≡ Some nodes.Ports ⊎ (limit_fault config ≡ Some nodes.Banks ⊎ limit_fault config ≡ None)
limits config = by (not (is_ports config.ports)) (not (are_within config.banks.now))
  where
    by : (ports banks : Bool) → (if ports then Some nodes.Ports else if banks then Some nodes.Banks else None) ≡ Some nodes.Ports ⊎ ((if ports then Some nodes.Ports else if banks then Some nodes.Banks else None) ≡ Some nodes.Banks ⊎ (if ports then Some nodes.Ports else if banks then Some nodes.Banks else None) ≡ None)
    by true banks = inl refl
    by false true = inr (inl refl)
    by false false = inr (inr refl)

-- why there are no banks is why there is no world
pub limit_unmade : (config : NodeConfig) (refused : NodeFault) (fault : WorldFault) → IsNodeFault (limit_fault config) refused → fault ≡ fault_of_node refused → IsUnmade (limit_fault config) fault
limit_unmade config refused fault is reported = limited (limit_fault config) refused fault (limits config) is reported

pub unmade_world : (limit : Option NodeFault) (maps : Maps) (factory : Program) (fault : WorldFault) → IsUnmade limit fault → IsWorldFault limit maps factory fault
unmade_world None maps factory fault is = inl is
unmade_world (Some limit) maps factory fault is = is

pub limit_of_world : (config : NodeConfig) (refused : NodeFault) (factory : Program) (fault : WorldFault) → IsNodeFault (limit_fault config) refused → fault ≡ fault_of_node refused → IsWorldFault (limit_fault config) config.sizes factory fault
limit_of_world config refused factory fault is reported = unmade_world (limit_fault config) config.sizes factory fault (limit_unmade config refused fault is reported)

-- what comes after the limits is why there is no world
pub after_limits : (limit : Option NodeFault) (maps : Maps) (factory : Program) (fault : WorldFault) → limit ≡ None → IsWorldFault None maps factory fault → IsWorldFault limit maps factory fault
after_limits limit maps factory fault none is = subst (λ (l : Option NodeFault). IsWorldFault l maps factory fault) (sym none) is

-- a refusal of the verifier is why there is no world
pub refused_world : (maps : Maps) (factory : Program) (refused : Refused) (fault : WorldFault) → IsRefusal factory refused → ReportsUnjustified factory maps refused → fault ≡ fault_of_refusal refused.code → IsWorldFault None maps factory fault
refused_world maps factory refused fault why unjustified reported = by (wants_verifier_memory refused.code) refl reported
  where
    by : (wants : Bool) → wants_verifier_memory refused.code ≡ wants → fault ≡ (if wants then NoMemory else Image) → (fault ≡ NoMemory) ⊎ ((fault ≡ Image) × IsFactoryRefused maps factory)
    by true wants is = inl is
    by false wants is =
        let no_want : refused.code ≢ refusals.Memory = λ e. let clash : true ≡ false = sym (ap wants_verifier_memory e) ∙ wants in absurd cc in
        inr (is, record { refused = refused; why = why; no_want = no_want; unjustified = unjustified no_want })
