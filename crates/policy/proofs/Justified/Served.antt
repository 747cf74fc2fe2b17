-- Slots that are justified from one to the end, each by what is known there.
use Rattle.std.specs.Prelude.{ℤ, pos, negsuc, IfSome, IsSome, slice_index_or}
use Rattle.std.proofs.Common.{◌≡◌, ℕ, zero, suc, ◌+◌, List, ◌∷◌, length, Option, Some, None, sym, ap, subst, arith}
use Rattle.bpf.specs.declared.version.Version.TheVariants.{One}
use Rattle.bpf_insn.specs.declared.insn.Insn.{Insn}
use Rattle.bpf_insn.specs.declared.insn.Insn.TheVariants.{Alu, Negate, MoveSigned, ByteSwap, Load, Store, Jump, Goto, Wide, LoadMap, LoadAddress, Call, Exit}
use Rattle.bpf_parts.specs.Operands.{distance_of}
use Rattle.bpf_insn.specs.Spelling.{slots_of}
use Rattle.machine.specs.Sizes.{Maps}
use Rattle.absdom.specs.Effect.{after_insn}
use Rattle.absdom_stack.specs.declared.spill.Spill.TheVariants.{Forgets}
use Rattle.absdom.specs.State.{IsWhole, StateValue, after_call}
use Rattle.bver_form.specs.Jumps.{jump_distance, target}
use Rattle.bver_form.specs.Support.{IsSupported, LeavesFrame}
use Rattle.bver.specs.Justified.{AreEdgesCovered, IsCovered, IsPermitted, IsResultCovered, edges_of_comparison, knowledge_at}

-- what is known at slots
abbrev pub Knowledge : Type 0
Knowledge = ℕ → Option StateValue

-- a jump from the slot leads to a later one at which an instruction begins
abbrev pub LandsIn : List (Option Insn) → (slot : ℕ) → ℤ → Type 0
LandsIn slots slot (pos skipped) = IsSome (slice_index_or slots (slot + 1 + skipped) None)
LandsIn slots slot (negsuc n) = ⊥

-- an instruction may be at the slot, and what is known there permits it
pub record IsServed (sizes : Maps) (table : Knowledge) (slots : List (Option Insn)) (slot : ℕ) (a : StateValue) (insn : Insn) : Type 0 where
  pub whole : IsWhole a
  pub permitted : IsPermitted Forgets sizes table slot a insn
  pub supported : IsSupported One insn
  pub leaves_frame : LeavesFrame insn
  pub lands : IfSome (jump_distance insn) (LandsIn slots slot)

-- at the first slot of each instruction something is known, and nothing at a second one
abbrev pub IsServedAt : (sizes : Maps) (table : Knowledge) (slots : List (Option Insn)) (slot : ℕ) → Option StateValue → Option Insn → Type 0
IsServedAt sizes table slots slot None None = Unit {0}
IsServedAt sizes table slots slot None (Some insn) = ⊥
IsServedAt sizes table slots slot (Some a) None = ⊥
IsServedAt sizes table slots slot (Some a) (Some insn) = IsServed sizes table slots slot a insn

-- of all slots
abbrev pub AreServed : (sizes : Maps) (table : Knowledge) (slots : List (Option Insn)) → Type 0
AreServed sizes table slots = (slot : ℕ) → IsServedAt sizes table slots slot (table slot) (slice_index_or slots slot None)

-- the last slot has the instruction
pub record IsEndedBy (slots : List (Option Insn)) (insn : Insn) : Type 0 where
  pub last : ℕ
  pub long : length slots ≡ suc last
  pub at : slice_index_or slots last None ≡ Some insn

-- ---- one slot before others

-- the knowledge, moved one slot on
abbrev pub before : Option StateValue → Knowledge → Knowledge
before first table zero = first
before first table (suc slot) = table slot

further : (slot n : ℕ) → suc slot + n ≡ suc (slot + n)
further slot n = omega arith

known_further : (first : Option StateValue) (table : Knowledge) (slot n : ℕ) → before first table (suc slot + n) ≡ table (slot + n)
known_further first table slot n = ap (λ (k : ℕ). before first table k) (further slot n)

module _ (sizes : Maps) (table : Knowledge) (slots : List (Option Insn)) (slot : ℕ) (first : Option StateValue) (insn : Option Insn) where
  lands_further : (distance : ℤ) → LandsIn slots slot distance → LandsIn (insn ∷ slots) (suc slot) distance
  lands_further (pos skipped) h =
      let same : suc slot + 1 + skipped ≡ suc (slot + 1 + skipped) = omega arith in
      rw same h
  lands_further (negsuc n) h = absurd h

  lands_if_further : (o : Option ℤ) → IfSome o (LandsIn slots slot) → IfSome o (LandsIn (insn ∷ slots) (suc slot))
  lands_if_further None h = tt
  lands_if_further (Some distance) h = lands_further distance h

  knowledge_further : (distance : ℤ) → LandsIn slots slot distance → knowledge_at (before first table) (target (suc slot) distance) ≡ knowledge_at table (target slot distance)
  knowledge_further (pos skipped) h =
      let same : suc slot + 1 + skipped ≡ suc (slot + 1 + skipped) = omega arith in
      ap (λ (k : ℕ). before first table k) same
  knowledge_further (negsuc n) h = absurd h

  proceeds_further : (a : StateValue) (i : Insn) → IsResultCovered (after_insn Forgets a i) (table (slot + slots_of i)) → IsResultCovered (after_insn Forgets a i) (before first table (suc slot + slots_of i))
  proceeds_further a i h = subst (λ (there : Option StateValue). IsResultCovered (after_insn Forgets a i) there) (sym (known_further first table slot (slots_of i))) h

  permitted_further : (a : StateValue) (i : Insn) → IfSome (jump_distance i) (LandsIn slots slot) → IsPermitted Forgets sizes table slot a i → IsPermitted Forgets sizes (before first table) (suc slot) a i
  permitted_further a (Alu op width dst src) lands h = proceeds_further a (Alu op width dst src) h
  permitted_further a (Negate width dst) lands h = proceeds_further a (Negate width dst) h
  permitted_further a (MoveSigned extension dst src) lands h = proceeds_further a (MoveSigned extension dst src) h
  permitted_further a (ByteSwap swap bits dst) lands h = proceeds_further a (ByteSwap swap bits dst) h
  permitted_further a (Load size dst place) lands h = proceeds_further a (Load size dst place) h
  permitted_further a (Store size place src) lands h = proceeds_further a (Store size place src) h
  permitted_further a (Jump comparison offset) lands h =
      let there : Option StateValue = knowledge_at table (target slot offset) in
      let with_target : AreEdgesCovered (edges_of_comparison a comparison) there (before first table (suc slot + 1)) =
      subst (λ (next : Option StateValue). AreEdgesCovered (edges_of_comparison a comparison) there next) (sym (known_further first table slot 1)) h in
      subst (λ (taken : Option StateValue). AreEdgesCovered (edges_of_comparison a comparison) taken (before first table (suc slot + 1))) (sym (knowledge_further offset lands)) with_target
  permitted_further a (Goto distance) lands h =
      subst (λ (there : Option StateValue). IsCovered a there) (sym (knowledge_further (distance_of distance) lands)) h
  permitted_further a (Wide dst value) lands h = proceeds_further a (Wide dst value) h
  permitted_further a (LoadMap dst index) lands h = (h.0, proceeds_further a (LoadMap dst index) h.1)
  permitted_further a (LoadAddress dst address) lands h = absurd h
  permitted_further a (Call callee number) lands h =
      (h.0, subst (λ (there : Option StateValue). IsCovered (after_call a) there) (sym (known_further first table slot 1)) h.1)
  permitted_further a Exit lands h = h

  served_further : (a : Option StateValue) (i : Option Insn) → IsServedAt sizes table slots slot a i → IsServedAt sizes (before first table) (insn ∷ slots) (suc slot) a i
  served_further None None h = tt
  served_further None (Some i) h = absurd h
  served_further (Some a) None h = absurd h
  served_further (Some a) (Some i) h = record {
    whole = h.whole;
    permitted = permitted_further a i h.lands h.permitted;
    supported = h.supported;
    leaves_frame = h.leaves_frame;
    lands = lands_if_further (jump_distance i) h.lands;
  }

-- one slot more is served, if its own is
pub serve_before : (sizes : Maps) (table : Knowledge) (slots : List (Option Insn)) (first : Option StateValue) (insn : Option Insn)
    → IsServedAt sizes (before first table) (insn ∷ slots) 0 first insn → AreServed sizes table slots → AreServed sizes (before first table) (insn ∷ slots)
serve_before sizes table slots first insn here rest zero = here
serve_before sizes table slots first insn here rest (suc slot) = served_further sizes table slots slot first insn (table slot) (slice_index_or slots slot None) (rest slot)

pub ended_before : (slots : List (Option Insn)) (first : Option Insn) (insn : Insn) → IsEndedBy slots insn → IsEndedBy (first ∷ slots) insn
ended_before slots first insn h = record { last = suc h.last; long = ap suc h.long; at = h.at }
