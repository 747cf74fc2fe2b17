-- A justified program is safe: each step of a path takes what its instruction costs from what is left of the weight.
-- At the slot of the path the cost of one instruction is left.
use Rattle.std.proofs.Common.{◌≡◌, ◌≢◌, ℕ, ◌+◌, ◌<◌, ◌≤◌, Bool, true, false, List, length, Option, None, Some, refl, sym, ap, subst, ◌∙◌, arith}
use Rattle.std.specs.Prelude.{◌&&◌, slice_index, slice_index_or, All, IfSome, IsSome}
use Rattle.std.proofs.lemmas.Bool.{lt-ltb}
use Rattle.bpf.specs.declared.loops.Loop.{Loop}
use Rattle.bpf.specs.Program.{Program}
use Rattle.bpf.specs.Weight.{weight_of}
use Rattle.bpf_insn.specs.Flow.{is_written}
use Rattle.bpf_insn.specs.declared.insn.Insn.{Insn}
use Rattle.bpf_insn.specs.declared.insn.Insn.TheVariants.{Alu, Negate, MoveSigned, ByteSwap, Load, Store, Jump, Goto, Wide, LoadMap, LoadAddress, Exit}
use Rattle.bpf_insn.specs.declared.insn.Insn.TheVariants as insns
use Rattle.machine.specs.Sizes.{Maps, kind_of_map}
use Rattle.machine.specs.declared.calls.Call.{Call}
use Rattle.machine.specs.declared.values.Value.{Value}
use Rattle.machine.specs.declared.values.Value.TheVariants.{Unset as Nothing, Num as Number, Ptr as Pointer, Map as MapOf}
use Rattle.machine.specs.Memory.{Header, IsProgramHeader}
use Rattle.machine.specs.State.{State, entry_state}
use Rattle.machine.specs.declared.helpers.Helper.{Helper}
use Rattle.machine.specs.Helpers.{helper_of, takes_kind}
use Rattle.machine.specs.Step.{Outcome, Trap, step, perform, perform_at, insn_at, finds_maps, finds_cell, is_cell, has_kind}
use Rattle.machine.specs.Laws.{AreLeftBy}
use Rattle.machine.specs.Runs.{Path, entry, moves, answered, IsSafe}
use Rattle.absdom.specs.declared.kinds.AbsKind.{AbsKind}
use Rattle.absdom.specs.declared.kinds.AbsKind.TheVariants.{Unset, Num, Ptr, Map}
use Rattle.absdom.specs.State.{StateValue, kind_at}
use Rattle.absdom.specs.Fits.{Fits, FitsKind}
use Rattle.absdom_stack.specs.declared.spill.Spill.{Spill}
use Rattle.absdom_stack.specs.Spill.{spill_of}
use Rattle.bver_form.specs.Costs.{cost_here, weight_by}
use Rattle.bver_form.specs.Loops.{IsEdge, weight_left}
use Rattle.bver_pass.specs.Justified.{AsksCell, AsksKind, MayCall, IsHead, IsPermittedAt, IsJustified}
use Rattle.bver.specs.Costs.{IsSafeFor, IsSafeForCosts, cost_of_path}
use Rattle.bver.proofs.Standing.{Laws, Stands, Continues, continues, performs_here, permitted_here, stands}
use Rattle.bver.proofs.Arrivals.{LeadsTo, at_once, by_answer, edge_of}
use Rattle.bver.proofs.Counters.{AreCounting, IsBegun, IsStepped, IsNumberIn, begun, begun_high, stepped, values_at, values_of}
use Rattle.bver_pass.proofs.Loops.{inside_of, loop_in}

-- ---- at the head of a loop

number_in : (v : Value) (bound : ℕ) → FitsKind v (Num (1, bound)) → IsNumberIn v 1 bound
number_in Nothing bound fits = absurd fits
number_in (Number n) bound fits = (n, refl, fits.above, fits.below)
number_in (Pointer region z) bound fits = absurd fits
number_in (MapOf index) bound fits = absurd fits

head_of : (p : Program) (l : Loop) (o : Option StateValue) (a : StateValue) → o ≡ Some a → IfSome o (IsHead p l) → IsHead p l a
head_of p l o a is h = subst (λ (x : Option StateValue). IfSome x (IsHead p l)) is h

begun_at : (p : Program) (maps : Maps) (h : IsJustified p maps) (t : State) (at : Stands h.table t) (k : ℕ) (d : Loop) → k < length p.loops → IsBegun (slice_index_or p.loops k d) t
begun_at p maps h t at k d below same =
    let l = slice_index_or p.loops k d in
    let head : IsHead p l at.known = head_of p l (h.table l.head) at.known (ap h.table (sym same) ∙ at.is) (h.heads k d below) in
    number_in (t.registers l.register) l.bound (subst (λ (kind : AbsKind). FitsKind (t.registers l.register) kind) head.counter (at.fits.registers l.register))

-- ---- counting

-- after a path that cost `spent`, what is left is within the weight
record Counted (cost : Insn → ℕ) (p : Program) (spent : ℕ) (s : State) : Type 0 where
  pub counting : AreCounting p s
  pub within : spent + weight_left cost p (values_of p.loops s) s.slot ≤ weight_by cost p

-- an instruction begins at the slot of a path
begins_here : (spill : Spill) (maps : Maps) (table : ℕ → Option StateValue) (slot : ℕ) (a : StateValue) (o : Option Insn) → IsPermittedAt spill maps table slot (Some a) o → IsSome o
begins_here spill maps table slot a None h = absurd h
begins_here spill maps table slot a (Some insn) h = refl

insn_here : (p : Program) (maps : Maps) (h : IsJustified p maps) (s : State) (at : Stands h.table s) → IsSome (insn_at p s.slot)
insn_here p maps h s at = begins_here (spill_of p.version) maps h.table s.slot at.known (insn_at p s.slot) (permitted_here p maps h s at)

-- a path begins
counted_first : Laws → (cost : Insn → ℕ) (p : Program) (maps : Maps) (h : IsJustified p maps) (port : ℕ) → Stands h.table (entry_state port) → Counted cost p 0 (entry_state port)
counted_first laws cost p maps h port at = record {
  counting = λ k d below inside.
      let l = slice_index_or p.loops k d in
      let limits = (loop_in (length p.slots) 0 p.loops k d h.limits.loops below).1 in
      let here : 0 ≡ l.head = omega (arith, (inside_of l 0 inside).0) in
      begun (length p.slots) l s limits here (begun_at p maps h s at k d below here);
  within = omega (arith, laws.begins cost p values h.limits h.formed low);
}
  where
    s : State
    s = entry_state port

    values : ℕ → ℕ
    values = values_of p.loops s

    low : All (λ l. l.head ≡ 0 → values 0 ≤ l.bound) p.loops
    low k d below first =
        let l = slice_index_or p.loops k d in
        let high = begun_high l (s.registers l.register) (begun_at p maps h s at k d below (sym first)) in
        subst (λ (head : ℕ). values head ≤ l.bound) first (rw (values_at (length p.slots) 0 p.loops s k d h.limits.loops below) high)

-- an instruction that goes on keeps the registers that it does not write
left_by : (insn : Insn) (s t : State) (o : Outcome) → LeadsTo o t → AreLeftBy insn s o → (register : ℕ) → is_written insn register ≡ false → t.registers register ≡ s.registers register
left_by insn s t o (at_once e) left = (subst (λ (w : Outcome). AreLeftBy insn s w) e left).registers
left_by insn s t o (by_answer question on answer e is) left =
    subst (λ (u : State). (register : ℕ) → is_written insn register ≡ false → u.registers register ≡ s.registers register) is
    (subst (λ (w : Outcome). AreLeftBy insn s w) e left answer).registers

-- a step
counted_next : Laws → (cost : Insn → ℕ) (p : Program) (maps : Maps) (h : IsJustified p maps) (header : Header) (spent : ℕ) (s t : State) (insn : Insn) → Stands h.table t → insn_at p s.slot ≡ Some insn → LeadsTo (perform header s insn) t → Counted cost p spent s → Counted cost p (spent + cost_here cost (insn_at p s.slot)) t
counted_next laws cost p maps h header spent s t insn at is e counted = record {
  counting = λ k d below. (each k d below).1;
  within = omega (
    arith,
    counted.within,
    laws.takes cost p s.slot t.slot (values_of p.loops s) (values_of p.loops t) h.limits h.formed edge begins (λ k d below.
        rw (values_at (length p.slots) 0 p.loops s k d h.limits.loops below, values_at (length p.slots) 0 p.loops t k d h.limits.loops below) (each k d below).0),
  );
}
  where
    edge : IsEdge p s.slot t.slot
    edge = edge_of p header s t insn is e

    begins : IsSome (insn_at p t.slot)
    begins = insn_here p maps h t at

    each : All (λ l. IsStepped l s t) p.loops
    each k d below =
        let l = slice_index_or p.loops k d in
        stepped (length p.slots) p header l s t insn
        (loop_in (length p.slots) 0 p.loops k d h.limits.loops below).1
        (h.formed.loops k d below) (laws.entered p s.slot t.slot h.limits h.formed edge begins k d below) is e
        (left_by insn s t (perform header s insn) e (laws.leaves header insn s) l.register) (counted.counting k d below) (begun_at p maps h t at k d below)

counted_from : Laws → (cost : Insn → ℕ) (p : Program) (maps : Maps) (h : IsJustified p maps) (header : Header) (spent : ℕ) (s t : State) (o : Option Insn) → Stands h.table t → insn_at p s.slot ≡ o → IsSome o → LeadsTo (perform_at header s o) t → Counted cost p spent s → Counted cost p (spent + cost_here cost (insn_at p s.slot)) t
counted_from laws cost p maps h header spent s t None at is some e counted = absurd cc
counted_from laws cost p maps h header spent s t (Some insn) at is some e counted = counted_next laws cost p maps h header spent s t insn at is e counted

counts : Laws → (cost : Insn → ℕ) (p : Program) (maps : Maps) (h : IsJustified p maps) (header : Header) (port : ℕ) (calls : List Call) (n : ℕ) (s : State) → IsProgramHeader header → port < 32 → (path : Path p header port calls n s) → Counted cost p (cost_of_path cost path) s
counts laws cost p maps h header port calls n s good low entry = counted_first laws cost p maps h port (stands laws p maps h header port calls n s good low entry)
counts laws cost p maps h header port calls n s good low (moves {n = m} {s = r} path e) =
    let there = stands laws p maps h header port calls m r good low path in
    let here = stands laws p maps h header port calls n s good low (moves path e) in
    counted_from laws cost p maps h header (cost_of_path cost path) r s (insn_at p r.slot) here refl (insn_here p maps h r there) (at_once (sym (performs_here laws.performs p maps h header r) ∙ e)) (counts laws cost p maps h header port calls m r good low path)
counts laws cost p maps h header port calls n s good low (answered {n = m} {s = r} {question = asked} {on = on} answer path e below) =
    let there = stands laws p maps h header port _ m r good low path in
    let here = stands laws p maps h header port calls n s good low (answered answer path e below) in
    counted_from laws cost p maps h header (cost_of_path cost path) r s (insn_at p r.slot) here refl (insn_here p maps h r there) (by_answer asked on answer (sym (performs_here laws.performs p maps h header r) ∙ e) refl) (counts laws cost p maps h header port _ m r good low path)

is_safe_for : Laws → (p : Program) (maps : Maps) → IsJustified p maps → (cost : Insn → ℕ) → IsSafeFor p cost
is_safe_for laws p maps h cost header port calls n s good low path =
    let counted = counts laws cost p maps h header port calls n s good low path in
    omega (arith, counted.within, laws.left cost p s.slot (values_of p.loops s) h.limits h.formed)

pub is_safe_for_costs : Laws → (p : Program) (maps : Maps) → IsJustified p maps → IsSafeForCosts p
is_safe_for_costs laws p maps h = record { costs = is_safe_for laws p maps h }

-- ---- if each instruction costs one

abbrev one : Insn → ℕ
one insn = 1

costs_one : (o : Option Insn) → IsSome o → cost_here one o ≡ 1
costs_one None some = absurd cc
costs_one (Some insn) some = refl

-- a path costs its steps
costs_steps : Laws → (p : Program) (maps : Maps) (h : IsJustified p maps) (header : Header) (port : ℕ) (calls : List Call) (n : ℕ) (s : State) → IsProgramHeader header → port < 32 → (path : Path p header port calls n s) → cost_of_path one path ≡ n
costs_steps laws p maps h header port calls n s good low entry = refl
costs_steps laws p maps h header port calls n s good low (moves {n = m} {s = r} path e) =
    let there = stands laws p maps h header port calls m r good low path in
    omega (arith, costs_steps laws p maps h header port calls m r good low path, costs_one (insn_at p r.slot) (insn_here p maps h r there))
costs_steps laws p maps h header port calls n s good low (answered {n = m} {s = r} {question = asked} {on = on} answer path e below) =
    let there = stands laws p maps h header port _ m r good low path in
    omega (arith, costs_steps laws p maps h header port _ m r good low path, costs_one (insn_at p r.slot) (insn_here p maps h r there))

-- ---- safe

no_trap_of : (table : ℕ → Option StateValue) (o : Outcome) → Continues table o → o ≢ Trap
no_trap_of table o c e = subst (λ (w : Outcome). Continues table w) e c

-- a permitted call finds its map and key
cell_found : (maps : Maps) (map key : Value) (k q : AbsKind) → FitsKind map k → FitsKind key q → AsksCell maps k q → is_cell maps map key ≡ true
cell_found maps map key Unset q is has cell = absurd cell
cell_found maps map key (Num range) q is has cell = absurd cell
cell_found maps map key (Ptr region offsets) q is has cell = absurd cell
cell_found maps map key (Map index) Unset is has cell = absurd cell
cell_found maps map key (Map index) (Ptr region offsets) is has cell = absurd cell
cell_found maps map key (Map index) (Map other) is has cell = absurd cell
cell_found maps Nothing key (Map index) (Num range) is has cell = absurd is
cell_found maps (Number n) key (Map index) (Num range) is has cell = absurd is
cell_found maps (Pointer region z) key (Map index) (Num range) is has cell = absurd is
cell_found maps (MapOf own) Nothing (Map index) (Num range) is has cell = absurd has
cell_found maps (MapOf own) (Pointer region z) (Map index) (Num range) is has cell = absurd has
cell_found maps (MapOf own) (MapOf other) (Map index) (Num range) is has cell = absurd has
cell_found maps (MapOf own) (Number n) (Map index) (Num range) is has cell =
    let below : n < slice_index maps.cells index = omega (arith, has.below, cell) in
    lt-ltb n (slice_index maps.cells own) (subst (λ (m : ℕ). n < slice_index maps.cells m) (sym is) below)

-- and a map of its kind
kind_found : (maps : Maps) (helper : Helper) (map : Value) (k : AbsKind) → FitsKind map k → AsksKind maps helper k → has_kind maps helper map ≡ true
kind_found maps helper map Unset is kind = absurd kind
kind_found maps helper map (Num range) is kind = absurd kind
kind_found maps helper map (Ptr region offsets) is kind = absurd kind
kind_found maps helper Nothing (Map index) is kind = absurd is
kind_found maps helper (Number n) (Map index) is kind = absurd is
kind_found maps helper (Pointer region z) (Map index) is kind = absurd is
kind_found maps helper (MapOf own) (Map index) is kind = subst (λ (m : ℕ). takes_kind helper (kind_of_map maps m) ≡ true) (sym is) kind

both : (a b : Bool) → a ≡ true → b ≡ true → (a && b) ≡ true
both a b h k = rw (h, k) refl

-- a call that is permitted finds its cell
called_found : (maps : Maps) (s : State) (a : StateValue) (called : Option Helper) → Fits s a → MayCall maps called a → finds_cell maps called (s.registers 1) (s.registers 2) ≡ true
called_found maps s a None fits may = absurd may
called_found maps s a (Some helper) fits may =
    both (is_cell maps (s.registers 1) (s.registers 2)) (has_kind maps helper (s.registers 1))
    (cell_found maps (s.registers 1) (s.registers 2) (kind_at a 1) (kind_at a 2) (fits.registers 1) (fits.registers 2) may.cell)
    (kind_found maps helper (s.registers 1) (kind_at a 1) (fits.registers 1) may.kind)

-- a permitted instruction finds its map
finds : (spill : Spill) (maps : Maps) (table : ℕ → Option StateValue) (s : State) (a : StateValue) (o : Option Insn) → Fits s a → IsPermittedAt spill maps table s.slot (Some a) o → finds_maps maps s o ≡ true
finds spill maps table s a None fits h = absurd h
finds spill maps table s a (Some (Alu op width dst src)) fits h = refl
finds spill maps table s a (Some (Negate width dst)) fits h = refl
finds spill maps table s a (Some (MoveSigned extension dst src)) fits h = refl
finds spill maps table s a (Some (ByteSwap swap bits dst)) fits h = refl
finds spill maps table s a (Some (Load size dst place)) fits h = refl
finds spill maps table s a (Some (Store size place src)) fits h = refl
finds spill maps table s a (Some (Jump comparison offset)) fits h = refl
finds spill maps table s a (Some (Goto distance)) fits h = refl
finds spill maps table s a (Some (Wide dst value)) fits h = refl
finds spill maps table s a (Some (LoadMap dst index)) fits h = h.0
finds spill maps table s a (Some (LoadAddress dst address)) fits h = absurd h
finds spill maps table s a (Some (insns.Call callee number)) fits h =
    called_found maps s a (helper_of number) fits h.0
finds spill maps table s a (Some Exit) fits h = refl

pub is_safe : Laws → (p : Program) (maps : Maps) → IsJustified p maps → IsSafe p maps
is_safe laws p maps h = record {
  ends = λ header port calls n s good low path.
      let at = stands laws p maps h header port calls n s good low path in
      let within : cost_of_path one path + cost_here one (insn_at p s.slot) ≤ weight_by one p = is_safe_for laws p maps h one header port calls n s good low path in
      let ones : weight_by one p ≡ weight_of p = laws.ones p in
      omega (arith, within, costs_steps laws p maps h header port calls n s good low path, costs_one (insn_at p s.slot) (insn_here p maps h s at), ones, h.formed.within_budget);
  no_trap = λ header port calls n s good low path.
      let at = stands laws p maps h header port calls n s good low path in
      rw (finds (spill_of p.version) maps h.table s at.known (insn_at p s.slot) at.fits (permitted_here p maps h s at)) (no_trap_of h.table (step p header s) (continues laws p maps h header s good at));
}
