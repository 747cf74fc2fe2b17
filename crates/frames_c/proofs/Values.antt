-- A handle by value: its machine value, and what it owns beside it. Assumes `Logic`.
use Rattle.std.proofs.Common.{◌≡◌, ℕ, List, [], ◌∷◌, ◌<◌, ◌^◌, refl}
use seplogic.Ra.Ura.{Ura}
use mir.Syntax.{w32}
use mir.Val.{Val, vint, vstruct, vcons, vnil}
use types.Logic.{Logic}
use types.Kit.{Item, Goal, Seq, Step, step, ‵, ◌$◌, drop, fsplit, fjoin, fpack, feq_i}
use denote.RattleType.{Valss}
use denote.Builtin.{RawPtr, u32}
use denote.Laws.{Is, shows}
use denote.Plain.{uint_Makes}
use denote.RawPtr.{Ptr, ptr_val}
use denote.Steps.{nothing, owned, peeks}
use denote.Struct.Struct.{within}
use denote.Struct.Owning.{shape}
use Rattle.core.specs.declared.option.Option.{Option}
use Rattle.loose.specs.Held.{held_handle}
use Rattle.frames_c.specs.Held.{reader_mark}
use Rattle.frames_c.specs.declared.handle.FramesHandle.{FramesHandle}
use Rattle.frames_c.specs.contracts.handle.FramesHandle.{the_row as H, the_type}
use Rattle.frames_c.proofs.handle.FramesHandle.TheLaws.{lowers}
use Rattle.frames_c.specs.contracts.checked.CheckedFrames.{the_row as C}

abbrev pub word : Ptr → ℕ → Val
word p n = vstruct (vcons (ptr_val p) (vcons (vint w32 n) vnil))

module _ {M : Type 1} {𝓤 : Ura M} {𝓛 : Logic 𝓤} {K : Type 0} {Γ : List (Item 𝓤)} {G : Goal 𝓤 𝓛.H} where
  -- What the fields say is in the value. What the pointer leads to is left.
  pub handle_out : K → (d : FramesHandle) (vs : List Val) → (vs ≡ word d.inside d.live ∷ [] → Seq K 𝓛 (‵ (held_handle reader_mark C d.inside d.live d.kept) ∷ Γ) G) → Seq K 𝓛 (‵ (H.own_val d vs) ∷ Γ) G
  handle_out t d vs k = peeks t H (Is H) (shows 𝓛 H) d vs (λ is. fsplit t $ drop t $ k (lowers.val_is d vs is))

  pub handle_in : K → (p : Ptr) (n : ℕ) (k : Option C.Denot) → n < 2 ^ 32
      → Step K 𝓛 (‵ (H.own_val (record { inside = p; live = n; kept = k }) (word p n ∷ [])) ∷ Γ) G (‵ (held_handle reader_mark C p n k) ∷ Γ) G
  handle_in t p n k fits = step (λ s.
      nothing t $ owned t u32 _ (uint_Makes 𝓛 w32) n (vint w32 n ∷ []) (refl, fits) $ fjoin t $ feq_i t (List Val) (ptr_val p ∷ []) (ptr_val p ∷ []) refl $ fjoin t $
      feq_i t (List Val) (word p n ∷ []) (word p n ∷ []) refl $ fjoin t $
      fpack t (Valss (RawPtr ∷ u32 ∷ [])) (within (shape the_type) (p, (n, tt)) (word p n ∷ [])) (ptr_val p ∷ [], (vint w32 n ∷ [], tt)) $ fjoin t $ s)
