-- What a pass knows is below what every closed table says, and so below one under which the program is justified.
use Rattle.std.proofs.Common.{◌≡◌, ◌≢◌, ◌≤◌, ℕ, ◌+◌, Bool, true, false, List, Option, None, Some, Result, Ok, Err, inl, inr, refl, sym, subst, arith}
use Rattle.std.specs.Prelude.{IsTrue}
use Rattle.std.proofs.lemmas.Bool.{cases_lt, false≢true}
use Rattle.std.proofs.lemmas.List.{get_or_past}
use Rattle.bpf.specs.declared.loops.Loop.{Loop}
use Rattle.bpf.specs.Program.{Program}
use Rattle.bpf_insn.specs.declared.insn.Insn.{Insn}
use Rattle.bpf_insn.specs.declared.insn.Insn.TheVariants.{Alu, Negate, MoveSigned, ByteSwap, Load, Store, Jump, Goto, Wide, LoadMap, LoadAddress, Call, Exit}
use Rattle.bpf_insn.specs.Spelling.{slots_of}
use Rattle.bpf_parts.specs.Operands.{distance_of}
use Rattle.machine.specs.Sizes.{Maps}
use Rattle.machine.specs.declared.helpers.Helper.{Helper}
use Rattle.machine.specs.Helpers.{helper_of}
use Rattle.absdom.specs.declared.cause.Cause.{Cause}
use Rattle.absdom.specs.declared.kinds.AbsKind.{AbsKind}
use Rattle.absdom.specs.declared.kinds.AbsKind.TheVariants.{Unset, Num, Ptr, Map}
use Rattle.absdom.specs.Kinds.{IsKindBelow}
use Rattle.absdom.specs.State.{StateValue, IsStateBelow, IsWhole, after_call, kind_at}
use Rattle.absdom_stack.specs.StackWords.{AreAllWhole, AreRangesWithin}
use Rattle.absdom.specs.Effect.{after_insn}
use Rattle.absdom.specs.Edges.{Edges, refined_edges}
use Rattle.absdom.specs.Laws.{BelowIsTransitive, ApplyGrows, StateRefineGrows, CallGrows, IsGrown, IsEdgeBelow, AreEdgesGrown}
use Rattle.absdom_stack.specs.declared.spill.Spill.{Spill}
use Rattle.bver_form.specs.Jumps.{target}
use Rattle.bver_form.specs.Lowered.{is_lowered}
use Rattle.bver_pass.specs.Heads.{AreWidenedRanges, AreUnset, BodyValue, Falls, IsWidened, IsWidenedKind, IsWithinBound, counts, opens, keeps, opened_kind, is_number, retains, forgets}
use Rattle.bver_pass.specs.Justified.{AreEdgesCovered, AsksCell, HasStore, IsCovered, IsCoveredIfAny, IsHead, IsNumber, IsOpen, IsPermitted, IsResultCovered, Proceeds, knowledge_at, AsksKind, MayAsk, MayCall}
use Rattle.bver.specs.Reported.{IsBelowBut}
use Rattle.bver.proofs.Rounds.{ranges_whole, words_of}

-- ---- what a table permits of a state, it permits of a smaller one

covered_less : BelowIsTransitive → (a b : StateValue) (there : Option StateValue) → IsStateBelow a b → IsCovered b there → IsCovered a there
covered_less transitive a b None below h = absurd h
covered_less transitive a b (Some d) below h = transitive a b d below h

any_covered_less : BelowIsTransitive → (a b : Option StateValue) (there : Option StateValue) → IsEdgeBelow a b → IsCoveredIfAny b there → IsCoveredIfAny a there
any_covered_less transitive None b there below h = tt
any_covered_less transitive (Some a) None there below h = absurd below
any_covered_less transitive (Some a) (Some b) there below h = covered_less transitive a b there below h

result_covered_less : BelowIsTransitive → (small large : Result StateValue Cause) (there : Option StateValue) → IsGrown small large → IsResultCovered large there → IsResultCovered small there
result_covered_less transitive small (Err cause) there grown h = absurd h
result_covered_less transitive (Err cause) (Ok b) there grown h = absurd grown
result_covered_less transitive (Ok a) (Ok b) there grown h = covered_less transitive a b there grown h

edges_covered_less : BelowIsTransitive → (small large : Result Edges Cause) (taken next : Option StateValue) → AreEdgesGrown small large → AreEdgesCovered large taken next → AreEdgesCovered small taken next
edges_covered_less transitive small (Err cause) taken next grown h = absurd h
edges_covered_less transitive (Err cause) (Ok b) taken next grown h = absurd grown
edges_covered_less transitive (Ok a) (Ok b) taken next grown h =
    (any_covered_less transitive a.taken b.taken taken grown.0 h.0, any_covered_less transitive a.not_taken b.not_taken next grown.1 h.1)

number_less : (k l : AbsKind) → IsKindBelow k l → IsNumber l → IsNumber k
number_less k Unset below h = absurd h
number_less k (Ptr s b) below h = absurd h
number_less k (Map j) below h = absurd h
number_less Unset (Num b) below h = absurd below
number_less (Num a) (Num b) below h = tt
number_less (Ptr r a) (Num b) below h = absurd below
number_less (Map i) (Num b) below h = absurd below

key_less : (maps : Maps) (map : ℕ) (k l : AbsKind) → IsKindBelow k l → AsksCell maps (Map map) l → AsksCell maps (Map map) k
key_less maps map k Unset below h = absurd h
key_less maps map k (Ptr s b) below h = absurd h
key_less maps map k (Map j) below h = absurd h
key_less maps map Unset (Num b) below h = absurd below
key_less maps map (Num a) (Num b) below h = omega (arith, below.below, h)
key_less maps map (Ptr r a) (Num b) below h = absurd below
key_less maps map (Map i) (Num b) below h = absurd below

cell_less : (maps : Maps) (m n k l : AbsKind) → IsKindBelow m n → IsKindBelow k l → AsksCell maps n l → AsksCell maps m k
cell_less maps m Unset k l map key h = absurd h
cell_less maps m (Num b) k l map key h = absurd h
cell_less maps m (Ptr s b) k l map key h = absurd h
cell_less maps Unset (Map j) k l map key h = absurd map
cell_less maps (Num a) (Map j) k l map key h = absurd map
cell_less maps (Ptr r a) (Map j) k l map key h = absurd map
cell_less maps (Map i) (Map j) k l map key h = subst (λ (n : ℕ). AsksCell maps (Map n) k) (sym map) (key_less maps j k l key h)

takes_less : (maps : Maps) (helper : Helper) (m n : AbsKind) → IsKindBelow m n → AsksKind maps helper n → AsksKind maps helper m
takes_less maps helper m Unset below h = absurd h
takes_less maps helper m (Num b) below h = absurd h
takes_less maps helper m (Ptr s b) below h = absurd h
takes_less maps helper Unset (Map j) below h = absurd below
takes_less maps helper (Num a) (Map j) below h = absurd below
takes_less maps helper (Ptr r a) (Map j) below h = absurd below
takes_less maps helper (Map i) (Map j) below h = subst (λ (n : ℕ). AsksKind maps helper (Map n)) (sym below) h

-- a state that knows more may ask the same
may_less : (maps : Maps) (helper : Helper) (a b : StateValue) → IsStateBelow a b → MayAsk maps helper b → MayAsk maps helper a
may_less maps helper a b below h = record {
  cell = cell_less maps (kind_at a 1) (kind_at b 1) (kind_at a 2) (kind_at b 2) (below.kinds 1) (below.kinds 2) h.cell;
  given = λ takes. number_less (kind_at a 3) (kind_at b 3) (below.kinds 3) (h.given takes);
  kind = takes_less maps helper (kind_at a 1) (kind_at b 1) (below.kinds 1) h.kind;
}

called_less : (maps : Maps) (called : Option Helper) (a b : StateValue) → IsStateBelow a b → MayCall maps called b → MayCall maps called a
called_less maps None a b below h = absurd h
called_less maps (Some helper) a b below h = may_less maps helper a b below h

pub permitted_less : ApplyGrows → StateRefineGrows → CallGrows → BelowIsTransitive → (spill : Spill) (maps : Maps) (table : ℕ → Option StateValue) (slot : ℕ) (a b : StateValue) (insn : Insn) → IsWhole a → IsWhole b → IsStateBelow a b → IsPermitted spill maps table slot b insn → IsPermitted spill maps table slot a insn
permitted_less applies refines calls transitive spill maps table slot a b insn p q below h = by_insn insn h
  where
    proceeds : (insn : Insn) → Proceeds spill table slot b insn → Proceeds spill table slot a insn
    proceeds insn h = result_covered_less transitive (after_insn spill a insn) (after_insn spill b insn) (table (slot + slots_of insn)) (applies spill a b insn p q below) h

    by_insn : (insn : Insn) → IsPermitted spill maps table slot b insn → IsPermitted spill maps table slot a insn
    by_insn (Alu op width dst src) h = proceeds (Alu op width dst src) h
    by_insn (Negate width dst) h = proceeds (Negate width dst) h
    by_insn (MoveSigned extension dst src) h = proceeds (MoveSigned extension dst src) h
    by_insn (ByteSwap swap bits dst) h = proceeds (ByteSwap swap bits dst) h
    by_insn (Load size dst place) h = proceeds (Load size dst place) h
    by_insn (Store size place src) h = proceeds (Store size place src) h
    by_insn (Jump comparison offset) h =
        edges_covered_less transitive (refined_edges a comparison.condition comparison.width comparison.dst comparison.src) (refined_edges b comparison.condition comparison.width comparison.dst comparison.src)
        (knowledge_at table (target slot offset)) (table (slot + 1)) (refines a b comparison.condition comparison.width comparison.dst comparison.src p q below) h
    by_insn (Goto distance) h = covered_less transitive a b (knowledge_at table (target slot (distance_of distance))) below h
    by_insn (Wide dst value) h = proceeds (Wide dst value) h
    by_insn (LoadMap dst index) h = (h.0, proceeds (LoadMap dst index) h.1)
    by_insn (LoadAddress dst address) h = absurd h
    by_insn (Call callee number) h = (
      called_less maps (helper_of number) a b below h.0,
      covered_less transitive (after_call a) (after_call b) (table (slot + 1)) (calls a b p q below) h.1,
    )
    by_insn Exit h = number_less (kind_at a 0) (kind_at b 0) (below.kinds 0) h

-- ---- what is widened at a head stays below a table that holds for every pass

open_less : (lowered : Bool) (before above : AbsKind) → IsOpen above → IsKindBelow before above → (IsTrue lowered → above ≡ Unset) → IsKindBelow (opened_kind lowered before) above
open_less lowered before Unset is_open below low = by_kind lowered before
  where
    by_kind : (lowered : Bool) (before : AbsKind) → IsKindBelow (opened_kind lowered before) Unset
    by_kind lowered Unset = tt
    by_kind true (Num a) = tt
    by_kind false (Num a) = tt
    by_kind lowered (Ptr r a) = tt
    by_kind lowered (Map i) = tt
open_less lowered before (Ptr s b) is_open below low = absurd is_open
open_less lowered before (Map j) is_open below low = absurd is_open
open_less true before (Num b) is_open below low = absurd (set_unset (low refl))
  where
    set_unset : Num b ≡ Unset → ⊥
    set_unset is = cc
open_less false Unset (Num b) is_open below low = absurd below
open_less false (Num a) (Num b) is_open below low = rw is_open (record { above = omega arith; below = omega arith })
open_less false (Ptr r a) (Num b) is_open below low = absurd below
open_less false (Map i) (Num b) is_open below low = absurd below

kind_less : (p : Program) (l : Loop) (lowered : List Bool) (place register : ℕ) (before after : AbsKind) (above : StateValue) → register ≤ 9 → IsHead p l above → AreUnset p l lowered place above → (register ≢ l.register → IsKindBelow before (kind_at above register)) → IsWidenedKind p l lowered place register before after → IsKindBelow after (kind_at above register)
kind_less p l lowered place register before after above small head low below (counts at is) =
    rw (is, at, head.counter) (record { above = omega arith; below = omega arith })
kind_less p l lowered place register before after above small head low below (opens other written is) =
    rw is (open_less (is_lowered lowered place register) before (kind_at above register) (head.others register other written) (below other) (low register small other written))
kind_less p l lowered place register before after above small head low below (keeps other unwritten is) = rw is (below other)

-- the ranges of words: if the loop stores, the table has whole ones, and else they are kept
ranges_below : (p : Program) (l : Loop) (before after above : StateValue) → IsWhole after → (HasStore p l → AreAllWhole above.ranges) → AreRangesWithin before.ranges above.ranges → AreWidenedRanges p l before after → AreRangesWithin after.ranges above.ranges
ranges_below p l before after above proper wide below (forgets stored is) = ranges_whole after.ranges above.ranges (words_of after proper) (wide stored)
ranges_below p l before after above proper wide below (retains out is) = rw is below

pub widened_less : (p : Program) (l : Loop) (lowered : List Bool) (place : ℕ) (before after above : StateValue) → l.register ≤ 9 → IsWhole before → IsWhole after → IsHead p l above → (HasStore p l → AreAllWhole above.ranges) → AreUnset p l lowered place above → IsBelowBut l.register before above → IsWidened p l lowered place before after → IsStateBelow after above
widened_less p l lowered place before after above register_small p_before p_after head wide low below widened = record {
  kinds = λ register.
      elim (cases_lt register 10) [
        | inl small ↦ kind_less p l lowered place register (kind_at before register) (kind_at after register) above (omega (arith, small)) head low (below.kinds register) (widened.registers register (omega (arith, small)))
        | inr past ↦ elim (cases_lt 10 register) [
          | inl beyond ↦
              rw (get_or_past after.kinds register Unset (omega (arith, beyond, p_after.sizes.registers)))
              (rw (get_or_past before.kinds register Unset (omega (arith, beyond, p_before.sizes.registers))) at (below.kinds register (λ same. omega (arith, same, beyond, register_small))))
          | inr at ↦
              let same : 10 ≡ register = omega (arith, past, at) in
              subst (λ (r : ℕ). IsKindBelow (kind_at after r) (kind_at above r)) same (rw widened.frame (below.kinds 10 (λ equal. omega (arith, equal, register_small))))
        ]
      ];
  marks = λ mark is. rw widened.marks (below.marks mark is);
  ranges = ranges_below p l before after above p_after wide below.ranges widened.ranges;
}

-- a head that a run enters outside its bound is in no such table
pub entry_refuted : (p : Program) (l : Loop) (a above : StateValue) → IsHead p l above → IsStateBelow a above → (IsWithinBound l a → ⊥) → ⊥
entry_refuted p l a above head below outside =
    outside (subst (λ (k : AbsKind). IsKindBelow (kind_at a l.register) k) head.counter (below.kinds l.register))

-- ---- what an edge back lowers is no number in the table

unset_above : (edge above : AbsKind) → is_number edge ≡ false → IsOpen above → IsKindBelow edge above → above ≡ Unset
unset_above edge Unset nothing is_open below = refl
unset_above edge (Ptr s b) nothing is_open below = absurd is_open
unset_above edge (Map j) nothing is_open below = absurd is_open
unset_above Unset (Num b) nothing is_open below = absurd below
unset_above (Num a) (Num b) nothing is_open below = absurd (false≢true (sym nothing))
unset_above (Ptr r a) (Num b) nothing is_open below = absurd below
unset_above (Map i) (Num b) nothing is_open below = absurd below

pub falls_unset : (b : BodyValue) (head : Option StateValue) (edge above : StateValue) (register : ℕ) → register ≢ b.declared.register → IsHead b.program b.declared above → IsBelowBut b.declared.register edge above → Falls b head edge register → kind_at above register ≡ Unset
falls_unset b head edge above register other stands below falls =
    unset_above (kind_at edge register) (kind_at above register) falls.edge_number (stands.others register other falls.written) (below.kinds register other)
