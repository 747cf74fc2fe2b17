-- The parts of a box by value: their machine value, and what they own beside it. Assumes `Logic`.
--     parts             the machine value: where the block is, and the allocator's handle
--     spelled, fit      how that value is put together, and that it is of its type
--     opened, closed    what is owned of the parts is the block, with the right to free it, and the handle; and back
--     heap_al, holds    the heap of C as an allocator; a handle of C holds nothing, or the block of a value
use Rattle.std.proofs.Common.{◌≡◌, ℕ, List, [], ◌∷◌, ◌++◌, refl, ap, ◌∙◌}
use mathlib.Core.Bool.{◌&&◌, true}
use lib.Dec.{T}
use seplogic.Ra.Ura.{Ura}
use mir.Syntax.{impl, tnil, dnil}
use mir.Raw.{raw as bare}
use mir.Val.{Val, vptr, vstruct, vcons, vnil, of_list, has_ty, WT}
use base.Fml.{Fml}
use base.Logic.{never, fst∗}
use types.Logic.{Logic, sem}
use types.Kit.{Item, Goal, Seq, Step, step, ‵, ◌$◌, move, drop, fsplit, fjoin, fpick, fpack, feq_i, feq_l}
use denote.RattleType.{RattleType, Valss}
use denote.Builtin.{RawPtr}
use denote.Memory.{lone}
use denote.RawPtr.{Ptr, block_ptr, null_ptr, ptr_val, in_a_block}
use denote.Steps.{nothing}
use denote.Param.{layout}
use denote.Param.Laws.{Laws}
use denote.Struct.Struct.{within}
use denote.Struct.Owning.{shape}
use Rattle.core.specs.declared.alloc.Allocator.{Ghosts}
use Rattle.core.proofs.alloc.Calls.{Al, handle_tells}
use Rattle.core.proofs.cell.Inside.{Good}
use Rattle.std_alloc.specs.Box.Ownership.{box_owns}
use Rattle.std_alloc.proofs.ResultValues.{and_tt}
use Rattle.core.specs.declared.option.Option.{Option}
use Rattle.core.specs.declared.option.Option.TheVariants.{None, Some}
use Rattle.std.specs.contracts.alloc.Global as heap
use Rattle.std.proofs.alloc.Global.TheLaws as heap_laws
use Rattle.std.specs.contracts.impls.GlobalAllocator.TheImpl.{ghosts}
use Rattle.loose.specs.Held.{held_handle, may_free}
use Rattle.loose.specs.contracts.loose.Loose as contract

abbrev pub parts : ℕ → ℕ → Val → Val
parts b o handle = vstruct (vcons (vptr b o) (vcons handle vnil))

pub spelled : {vs ps hs : List Val} {p : Ptr} {b o : ℕ} {handle : Val} → vs ≡ vstruct (of_list (ps ++ (hs ++ []))) ∷ []
    → ps ≡ ptr_val p ∷ [] → p ≡ block_ptr b o → hs ≡ handle ∷ [] → vs ≡ parts b o handle ∷ []
spelled whole pointer place allocator =
    whole ∙ (λ i. vstruct (of_list ((pointer ∙ ap (λ (q : Ptr). ptr_val q ∷ []) place) i ++ (allocator i ++ []))) ∷ [])

module _ (R Z : RattleType) (laws : Laws Z) (g : Ghosts Z.Denot) where
  abbrev pub Loose : RattleType
  Loose = contract.the_row R Z g

  -- the value x in the block at p, and the right to free it
  abbrev pub block : Z.Denot → R.Denot → Ptr → Fml
  block a x p = box_owns (g.dealloc_token a) R p x

  abbrev allocator : Al
  allocator = record { row = Z; laws = laws; g = g; d = impl [] tnil dnil; drops = impl [] tnil dnil }

  pub fit : (b o : ℕ) (handle : Val) → Good (layout Z) handle
      → T (has_ty (layout Z) handle && true) × WT (parts b o handle)
  fit b o handle good = (and_tt (has_ty (layout Z) handle) good.0, (tt, (good.1, tt)))

  module _ {M : Type 1} {𝓤 : Ura M} {𝓛 : Logic 𝓤} {K : Type 0} {Γ : List (Item 𝓤)} {G : Goal 𝓤 𝓛.H} where
    -- nothing lies at null
    pub placed : K → (a : Z.Denot) (x : R.Denot) (p : Ptr)
        → ((b o : ℕ) → p ≡ block_ptr b o → Seq K 𝓛 (‵ (block a x (block_ptr b o)) ∷ Γ) G) → Seq K 𝓛 (‵ (block a x p) ∷ Γ) G
    placed t a x p = in_a_block t p (block a x) (fst∗ 𝓤 (never 𝓤) (sem 𝓛 (g.dealloc_token a (bare (lone R.mir)) null_ptr)))

  module _ {M : Type 1} {𝓤 : Ura M} {𝓛 : Logic 𝓤} {K : Type 0} {Γ : List (Item 𝓤)} {G : Goal 𝓤 𝓛.H} where
    pub opened : K → (d : Loose.Denot) (vs : List Val)
        → ((b o : ℕ) (handle : Val) → d.at ≡ block_ptr b o → vs ≡ parts b o handle ∷ [] → Good (layout Z) handle
        → Seq K 𝓛 (‵ (block d.alloc d.value (block_ptr b o)) ∷ ‵ (Z.own_val d.alloc (handle ∷ [])) ∷ Γ) G)
        → Seq K 𝓛 (‵ (Loose.own_val d vs) ∷ Γ) G
    opened t d vs k =
        -- [the fields; the block]
        fsplit t $ fpick t (λ us. fsplit t $ feq_l t (λ whole. fsplit t $ feq_l t (λ pointer. fsplit t $
        -- [the handle; nothing; the block]
        handle_tells allocator t d.alloc us.1.0 (λ handle is good. move t (1 ∷ []) $ drop t $ move t (1 ∷ []) $
        placed t d.alloc d.value d.at (λ b o place. k b o handle place (spelled whole pointer place is) good)))))

    pub closed : K → (b o : ℕ) (handle : Val) (a : Z.Denot) (x : R.Denot)
        → Step K 𝓛 (‵ (Loose.own_val (record { at = block_ptr b o; alloc = a; value = x }) (parts b o handle ∷ [])) ∷ Γ) G
        (‵ (block a x (block_ptr b o)) ∷ ‵ (Z.own_val a (handle ∷ [])) ∷ Γ) G
    closed t b o handle a x = step (λ s. let v : Val = parts b o handle in
        nothing t $ move t (2 ∷ 0 ∷ []) $ fjoin t $ feq_i t (List Val) (vptr b o ∷ []) (vptr b o ∷ []) refl $ fjoin t $
        feq_i t (List Val) (v ∷ []) (v ∷ []) refl $ fjoin t $
        fpack t (Valss (RawPtr ∷ Z ∷ [])) (within (shape (contract.the_type R Z g)) (block_ptr b o, (a, tt)) (v ∷ []))
        (vptr b o ∷ [], (handle ∷ [], tt)) $ fjoin t $ s)

abbrev pub heap_al : Al
heap_al = record { row = heap.the_row; laws = heap_laws.the_row_laws; g = ghosts; d = impl [] tnil dnil; drops = impl [] tnil dnil }

module _ (mark : ℕ) (C : RattleType) {M : Type 1} {𝓤 : Ura M} {𝓛 : Logic 𝓤} {K : Type 0} {Γ : List (Item 𝓤)} {G : Goal 𝓤 𝓛.H} where
  pub holds : K → (p : Ptr) (n : ℕ) (k : Option C.Denot)
      → (k ≡ None → n ≡ 0 → Seq K 𝓛 Γ G)
      → ((b o : ℕ) (x : C.Denot) → k ≡ Some x → n ≡ mark → p ≡ block_ptr b o → Seq K 𝓛 (‵ (box_owns may_free C (block_ptr b o) x) ∷ Γ) G)
      → Seq K 𝓛 (‵ (held_handle mark C p n k) ∷ Γ) G
  holds t p n None f g = feq_l t (λ e. f refl e)
  holds t p n (Some x) f g = fsplit t $ feq_l t (λ e. in_a_block t p (λ q. box_owns may_free C q x) (fst∗ 𝓤 (never 𝓤) (sem 𝓛 (may_free (bare (lone C.mir)) null_ptr))) (λ b o e'. g b o x refl e e'))
