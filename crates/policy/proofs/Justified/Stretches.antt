-- Stretches of the code of a compiled table, from a slot to its end: what one more instruction before them needs.
use Rattle.std.specs.Prelude.{◌==◌, ℤ, pos, negsuc, Bool, IfOk, IfSome, IsOk, IsSome, IsTrue, Result, Ok, Err, slice_index, slice_index_or}
use Rattle.std.proofs.Common.{◌≡◌, ◌<◌, ◌+◌, ℕ, suc, false, List, [], ◌∷◌, Option, Some, None, refl, sym, ap, ◌∙◌, subst, arith}
use Rattle.std.proofs.lemmas.Bool.{eqb-false}
use Rattle.bpf.specs.declared.version.Version.TheVariants.{One}
use Rattle.bpf_parts.specs.declared.callee.Callee.TheVariants as callees
use Rattle.machine.specs.declared.helpers.Helper.TheVariants.{Ticket}
use Rattle.machine.specs.Helpers.{helper_number}
use Rattle.bpf_parts.specs.declared.memory.LoadSize.{LoadSize}
use Rattle.bpf_parts.specs.declared.memory.LoadSize.TheVariants.{LoadByte}
use Rattle.bpf_parts.specs.declared.operation.AluOp.{AluOp}
use Rattle.bpf_parts.specs.declared.operation.Condition.{Condition}
use Rattle.bpf_parts.specs.declared.operation.Operand.{Operand}
use Rattle.bpf_parts.specs.declared.operation.Width.{Width}
use Rattle.bpf_parts.specs.declared.operation.Width.TheVariants.{Bits64}
use Rattle.bpf_insn.specs.declared.insn.Insn.{Insn}
use Rattle.bpf_insn.specs.declared.insn.Insn.TheVariants.{Alu, Call, Exit, LoadMap}
use Rattle.machine.specs.Sizes.{Maps, kind_of_map}
use Rattle.machine.specs.declared.kinds.MapKind.TheVariants.{Counter}
use Rattle.machine.specs.Step.{is_map}
use Rattle.absdom.specs.declared.cause.Cause.{Cause}
use Rattle.absdom.specs.declared.kinds.AbsKind.{AbsKind}
use Rattle.absdom.specs.declared.kinds.AbsKind.TheVariants.{Map}
use Rattle.absdom.specs.Edges.{Edges, refined_edges}
use Rattle.absdom_stack.specs.declared.spill.Spill.TheVariants.{Forgets}
use Rattle.absdom.specs.Effect.{after_insn, alu_kind, load_kind, map_kind, operand_kind, with_result}
use Rattle.absdom.specs.Laws.{AreEdgesBelow, BelowIsReflexive, BelowIsTransitive, StateRefineShrinks}
use Rattle.absdom.specs.State.{IsStateBelow, IsWhole, StateValue, kind_at, with_kind}
use Rattle.bver_form.specs.Jumps.{jump_distance}
use Rattle.bver_form.specs.Support.{IsSupported, LeavesFrame}
use Rattle.bver.specs.Justified.{AreEdgesCovered, IsCovered, IsCoveredIfAny, IsPermitted, IsResultCovered}
use Rattle.policy.specs.Code.{loaded, port_kept, port_loaded, skips_if, swapped}
use Rattle.policy.proofs.Justified.Known.{below_in_rules, between, comparing, drawing, mapped}
use Rattle.policy.proofs.Justified.Served.{AreServed, IsEndedBy, IsServedAt, Knowledge, LandsIn, before, ended_before, serve_before}

-- slots are justified from one to their end, with what is known at the first of them and at the slot `behind` slots
-- further on
pub record IsJustifiedFrom (sizes : Maps) (first : StateValue) (following : ℕ) (there : Option StateValue) (slots : List (Option Insn)) : Type 0 where
  pub table : Knowledge
  pub served : AreServed sizes table slots
  pub ended : IsEndedBy slots Exit
  pub here : table 0 ≡ Some first
  pub further : table following ≡ there

pub counted : (sizes : Maps) (first : StateValue) (following other : ℕ) (there : Option StateValue) (slots : List (Option Insn)) → following ≡ other
    → IsJustifiedFrom sizes first following there slots → IsJustifiedFrom sizes first other there slots
counted sizes first following other there slots same h = record {
  table = h.table;
  served = h.served;
  ended = h.ended;
  here = h.here;
  further = subst (λ (k : ℕ). h.table k ≡ there) same h.further;
}

-- ---- one instruction more

module _ (sizes : Maps) (a next : StateValue) (following : ℕ) (there : Option StateValue) (slots : List (Option Insn)) (whole : IsWhole a) where
  pub one_before : (insn : Insn) → ((table : Knowledge) → table 1 ≡ Some next → IsPermitted Forgets sizes table 0 a insn)
      → IsSupported One insn → LeavesFrame insn → jump_distance insn ≡ None
      → IsJustifiedFrom sizes next following there slots → IsJustifiedFrom sizes a (suc following) there (Some insn ∷ slots)
  one_before insn permits supported leaves_frame straight rest =
      let table : Knowledge = before (Some a) rest.table in
      let here : IsServedAt sizes table (Some insn ∷ slots) 0 (Some a) (Some insn) = record {
        whole = whole;
        permitted = permits table rest.here;
        supported = supported;
        leaves_frame = leaves_frame;
        lands = subst (λ (o : Option ℤ). IfSome o (LandsIn (Some insn ∷ slots) 0)) (sym straight) tt;
      } in
      record {
        table = table;
        served = serve_before sizes rest.table slots (Some a) (Some insn) here rest.served;
        ended = ended_before slots (Some insn) Exit rest.ended;
        here = refl;
        further = rest.further;
      }

  pub load_before : (size : LoadSize) (dst base offset : ℕ) → (dst == 10) ≡ false → IsResultCovered (with_result a dst (load_kind Forgets a size (kind_at a base) (pos offset))) (Some next)
      → IsJustifiedFrom sizes next following there slots → IsJustifiedFrom sizes a (suc following) there (Some (loaded size dst base offset) ∷ slots)
  load_before size dst base offset other covered rest =
      one_before (loaded size dst base offset)
      (λ table is. subst (λ (o : Option StateValue). IsResultCovered (after_insn Forgets a (loaded size dst base offset)) o) (sym is) covered)
      tt (eqb-false dst 10 other) refl rest

  pub alu_before : (op : AluOp) (width : Width) (dst : ℕ) (src : Operand) → (dst == 10) ≡ false → IsResultCovered (with_result a dst (alu_kind op width (kind_at a dst) (operand_kind a src))) (Some next)
      → IsJustifiedFrom sizes next following there slots → IsJustifiedFrom sizes a (suc following) there (Some (Alu op width dst src) ∷ slots)
  alu_before op width dst src other covered rest =
      one_before (Alu op width dst src)
      (λ table is. subst (λ (o : Option StateValue). IsResultCovered (after_insn Forgets a (Alu op width dst src)) o) (sym is) covered)
      tt (eqb-false dst 10 other) refl rest

  pub swap_before : (dst : ℕ) → (dst == 10) ≡ false → IsResultCovered (after_insn Forgets a (swapped dst)) (Some next)
      → IsJustifiedFrom sizes next following there slots → IsJustifiedFrom sizes a (suc following) there (Some (swapped dst) ∷ slots)
  swap_before dst other covered rest =
      one_before (swapped dst)
      (λ table is. subst (λ (o : Option StateValue). IsResultCovered (after_insn Forgets a (swapped dst)) o) (sym is) covered)
      tt (eqb-false dst 10 other) refl rest

  -- the port is put on the stack
  pub store_before : IsResultCovered (after_insn Forgets a port_kept) (Some next)
      → IsJustifiedFrom sizes next following there slots → IsJustifiedFrom sizes a (suc following) there (Some port_kept ∷ slots)
  store_before covered rest =
      one_before port_kept
      (λ table is. subst (λ (o : Option StateValue). IsResultCovered (after_insn Forgets a port_kept) o) (sym is) covered)
      tt tt refl rest

  -- the load of the port from there
  pub port_before : IsResultCovered (with_result a 0 (load_kind Forgets a LoadByte (kind_at a 10) (negsuc 0))) (Some next)
      → IsJustifiedFrom sizes next following there slots → IsJustifiedFrom sizes a (suc following) there (Some port_loaded ∷ slots)
  port_before covered rest =
      one_before port_loaded
      (λ table is. subst (λ (o : Option StateValue). IsResultCovered (after_insn Forgets a port_loaded) o) (sym is) covered)
      tt (eqb-false 0 10 refl) refl rest

-- nothing is known, and no slot is left
none_known : Knowledge
none_known slot = None

none_served : (sizes : Maps) → AreServed sizes none_known []
unfolding none_known
none_served sizes slot = tt

-- with the port on the stack, or without
module _ (held : Bool) where
  -- up to the next rule, which begins `behind` slots further on
  abbrev pub IsJustifiedTo : (sizes : Maps) (first : StateValue) (following : ℕ) (slots : List (Option Insn)) → Type 0
  IsJustifiedTo sizes first following slots = IsJustifiedFrom sizes first following (Some (between held)) slots

  -- a rule begins here
  pub begun : (sizes : Maps) (following : ℕ) (there : Option StateValue) (slots : List (Option Insn)) → IsJustifiedFrom sizes (between held) following there slots → IsJustifiedTo sizes (between held) 0 slots
  begun sizes following there slots h = record {
    table = h.table;
    served = h.served;
    ended = h.ended;
    here = h.here;
    further = h.here;
  }

  -- ---- comparisons

  -- what is known on an edge of a comparison is covered by what is known at a comparison, or less
  edge_covered : BelowIsTransitive → (next : StateValue) → IsStateBelow (comparing held) next → (edge : Option StateValue) → IfSome edge (λ a. IsStateBelow a (comparing held)) → IsCoveredIfAny edge (Some next)
  edge_covered transitive next less None h = tt
  edge_covered transitive next less (Some a) h = transitive a (comparing held) next h less

  edges_covered : BelowIsTransitive → (next : StateValue) → IsStateBelow (comparing held) next → (r : Result Edges Cause) → IsOk r → IfOk r (λ edges. AreEdgesBelow edges (comparing held)) → AreEdgesCovered r (Some (between held)) (Some next)
  edges_covered transitive next less (Ok edges) ok h =
      (edge_covered transitive (between held) (below_in_rules held tt tt tt) edges.taken h.taken, edge_covered transitive next less edges.not_taken h.not_taken)
  edges_covered transitive next less (Err cause) ok h = cc

  -- at the slot at which a rule begins, an instruction begins
  begins : (sizes : Maps) (table : Knowledge) (slots : List (Option Insn)) (slot : ℕ) (a : Option StateValue) (insn : Option Insn)
      → a ≡ Some (between held) → IsServedAt sizes table slots slot a insn → IsSome insn
  begins sizes table slots slot None insn is h = cc
  begins sizes table slots slot (Some a) None is h = absurd h
  begins sizes table slots slot (Some a) (Some insn) is h = refl

  one_more : (n : ℕ) → 1 + n ≡ suc n
  one_more n = omega arith

  -- a comparison that leads to the next rule
  pub test_before : BelowIsTransitive → StateRefineShrinks → (sizes : Maps) (next : StateValue) → IsStateBelow (comparing held) next → (following : ℕ) (slots : List (Option Insn)) (condition : Condition) (dst : ℕ) (src : Operand)
      → IsWhole (comparing held) → IsOk (refined_edges (comparing held) condition Bits64 dst src)
      → IsJustifiedTo sizes next following slots → IsJustifiedTo sizes (comparing held) (suc following) (Some (skips_if condition dst src following) ∷ slots)
  test_before transitive shrinks sizes next less following slots condition dst src whole ok rest =
      let insn : Insn = skips_if condition dst src following in
      let table : Knowledge = before (Some (comparing held)) rest.table in
      let edges : Result Edges Cause = refined_edges (comparing held) condition Bits64 dst src in
      let taken : table (1 + following) ≡ Some (between held) = ap (λ (k : ℕ). table k) (one_more following) ∙ rest.further in
      let both : AreEdgesCovered edges (Some (between held)) (Some next) = edges_covered transitive next less edges ok (shrinks (comparing held) condition Bits64 dst src) in
      let at_target : AreEdgesCovered edges (table (1 + following)) (Some next) = subst (λ (o : Option StateValue). AreEdgesCovered edges o (Some next)) (sym taken) both in
      let there : IsSome (slice_index_or (Some insn ∷ slots) (1 + following) None) =
      subst (λ (k : ℕ). IsSome (slice_index_or (Some insn ∷ slots) k None)) (sym (one_more following))
      (begins sizes rest.table slots following (rest.table following) (slice_index_or slots following None) rest.further (rest.served following)) in
      let here : IsServedAt sizes table (Some insn ∷ slots) 0 (Some (comparing held)) (Some insn) = record {
        whole = whole;
        permitted = subst (λ (o : Option StateValue). AreEdgesCovered edges (table (1 + following)) o) (sym rest.here) at_target;
        supported = tt;
        leaves_frame = tt;
        lands = there;
      } in
      record {
        table = table;
        served = serve_before sizes rest.table slots (Some (comparing held)) (Some insn) here rest.served;
        ended = ended_before slots (Some insn) Exit rest.ended;
        here = refl;
        further = rest.further;
      }

  -- ---- a ticket

  pub call_before : BelowIsReflexive → (sizes : Maps) (map cell following : ℕ) (slots : List (Option Insn)) → IsWhole (drawing held map cell) → cell < slice_index sizes.cells map → kind_of_map sizes map ≡ Counter
      → IsJustifiedTo sizes (comparing held) following slots → IsJustifiedTo sizes (drawing held map cell) (suc following) (Some (Call callees.Helper (pos (helper_number Ticket))) ∷ slots)
  call_before reflexive sizes map cell following slots whole inside counter rest =
      one_before sizes (drawing held map cell) (comparing held) following (Some (between held)) slots whole (Call callees.Helper (pos (helper_number Ticket)))
      (λ table is. (record { cell = inside; given = λ takes. absurd cc; kind = rw counter refl }, subst (λ (o : Option StateValue). IsCovered (comparing held) o) (sym is) (reflexive (comparing held))))
      refl tt refl rest

  -- the load of a map has two slots
  pub map_before : BelowIsReflexive → (sizes : Maps) (map following : ℕ) (slots : List (Option Insn)) → IsWhole (between held) → IsTrue (is_map sizes (pos map)) → map_kind (pos map) ≡ Map map
      → IsJustifiedTo sizes (mapped held map) following slots → IsJustifiedTo sizes (between held) (suc (suc following)) (Some (LoadMap 1 (pos map)) ∷ None ∷ slots)
  map_before reflexive sizes map following slots whole exists small rest =
      let insn : Insn = LoadMap 1 (pos map) in
      let later : Knowledge = before None rest.table in
      let table : Knowledge = before (Some (between held)) later in
      let loaded_map : IsStateBelow (with_kind (between held) 1 (map_kind (pos map))) (mapped held map) =
      subst (λ (kind : AbsKind). IsStateBelow (with_kind (between held) 1 kind) (mapped held map)) (sym small) (reflexive (mapped held map)) in
      let second : AreServed sizes later (None ∷ slots) = serve_before sizes rest.table slots None None tt rest.served in
      let here : IsServedAt sizes table (Some insn ∷ None ∷ slots) 0 (Some (between held)) (Some insn) = record {
        whole = whole;
        permitted = (exists, subst (λ (o : Option StateValue). IsCovered (with_kind (between held) 1 (map_kind (pos map))) o) (sym rest.here) loaded_map);
        supported = tt;
        leaves_frame = eqb-false 1 10 refl;
        lands = tt;
      } in
      record {
        table = table;
        served = serve_before sizes later (None ∷ slots) (Some (between held)) (Some insn) here second;
        ended = ended_before (None ∷ slots) (Some insn) Exit (ended_before slots None Exit rest.ended);
        here = refl;
        further = rest.further;
      }

  -- ---- the end of a run

  ends_here : (sizes : Maps) (table : Knowledge) (slots : List (Option Insn)) → IsWhole (comparing held) → AreServed sizes table slots → AreServed sizes (before (Some (comparing held)) table) (Some Exit ∷ slots)
  ends_here sizes table slots whole rest =
      serve_before sizes table slots (Some (comparing held)) (Some Exit)
      (record { whole = whole; permitted = tt; supported = tt; leaves_frame = tt; lands = tt }) rest

  pub exit_before : (sizes : Maps) (following : ℕ) (slots : List (Option Insn)) → IsWhole (comparing held) → IsJustifiedTo sizes (between held) following slots → IsJustifiedTo sizes (comparing held) (suc following) (Some Exit ∷ slots)
  exit_before sizes following slots whole rest = record {
    table = before (Some (comparing held)) rest.table;
    served = ends_here sizes rest.table slots whole rest.served;
    ended = ended_before slots (Some Exit) Exit rest.ended;
    here = refl;
    further = rest.further;
  }

  -- the last instruction of a table
  pub last_exit : (sizes : Maps) → IsWhole (comparing held) → IsJustifiedFrom sizes (comparing held) 1 None (Some Exit ∷ [])
  unfolding none_known
  last_exit sizes whole = record {
    table = before (Some (comparing held)) none_known;
    served = ends_here sizes none_known [] whole (none_served sizes);
    ended = record { last = 0; long = refl; at = refl };
    here = refl;
    further = refl;
  }
