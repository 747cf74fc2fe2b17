-- `into_loose` tests whether the handle holds a reader, and gives its block.
use Rattle.std.proofs.Common.{◌≡◌, ℕ, List, [], ◌∷◌, ◌++◌, refl, sym, ap, ◌∙◌, subst, lit<}
use mir.Val.{Val, vcons, vnil}
use base.Logic.{SProp, ent, emp, id⊢}
use base.Fml.{ftrue}
use prog.Wp.{WpFn}
use types.Kit.{‵, raw, ◌⊛◌, at_ret, ◌$◌, ◌∵◌, !, qed, by, move, keep, split, fsplit, fjoin, use0, use1, suffices}
use types.Run.{stop, fld, lit, of_opd, bin, no_more, and_then, first, branches, exec, returns, enter}
use types.ByLocal.{alloc_all, pass_all, free_all, look_at, get, get_in, sets, sets_last, env}
use types.Part.{agg, sub, whole}
use types.Match.{live}
use contract.Monad.{fact, fact_i}
use contract.Running.{tables}
use denote.Exit.{yes}
use denote.RattleType.{RattleType, owns}
use denote.Signature.{types_at, type_at, plain}
use denote.RawPtr.{block_ptr}
use denote.Steps.{nothing}
use denote.Param.{layout}
use denote.Triple.Walked.{Stays, stay_dropped, walk_of, Goes-dropped}
use Rattle.core.specs.declared.option.Option.TheVariants.{None, Some}
use Rattle.core.proofs.alloc.Calls.{handle_tells}
use Rattle.core.proofs.alloc.Shapes.{after}
use Rattle.core.proofs.atomic.Steps.{Ptr-Good}
use Rattle.core.proofs.cell.Inside.{Good}
use Rattle.core.proofs.option.Made.{Some-of, none_of}
use Rattle.std.specs.contracts.alloc.Global as heap
use Rattle.std.proofs.alloc.Global.TheLaws as heap_laws
use Rattle.std.specs.contracts.impls.GlobalAllocator.TheImpl.{ghosts}
use Rattle.std.proofs.raw_atomic.Walks.{proved_at, leaves}
use Rattle.std_alloc.proofs.ResultValues.{and_tt}
use Rattle.loose.proofs.Values.{Loose, closed, fit, heap_al, holds, parts}
use Rattle.frames_c.specs.contracts.handle.FramesHandle.{the_row as R}
use Rattle.frames_c.specs.contracts.checked.CheckedFrames.{the_row as C}
use Rattle.frames_c.specs.Held.{reader_mark}
use Rattle.frames_c.proofs.Values.{word, handle_out}
use Rattle.frames_c.specs.contracts.handle.FramesHandle.into_loose as f
use Rattle.frames_c.proofs.handle.FramesHandle.into_loose.Statement.{statement}
use Rattle.frames_c.proofs.handle.FramesHandle.into_loose.Code as code

abbrev L : RattleType
L = Loose C heap.the_row heap_laws.the_row_laws ghosts

abbrev stayed : Stays f.ended.signature.params f.ended.kept
stayed = (stay_dropped (plain (λ _. R)) yes, (stay_dropped (plain (λ _. heap.the_row)) yes, tt))

pub into_loose_spec : {M : Type 1} → statement M
into_loose_spec 𝓤 𝓛 𝓜 𝓡 wired =
    let c = f.clauses 𝓛 𝓜.mem 𝓡.returns in let H = 𝓛.H in let 𝓣 = tables 𝓤 H 𝓜 𝓡 𝓡.env in let Z = heap.the_row in let LZ = heap_laws.the_row_laws in let fn = code.function in
    proved_at 𝓛 f.ended stayed c 𝓜 𝓡 (Goes-dropped 𝓛 0 (plain (λ _. R)) yes (λ κs x w. refl), (Goes-dropped 𝓛 0 (plain (λ _. Z)) yes (λ κs x w. refl), tt)) f.Key.name fn (code.unfolded 𝓤 H 𝓜 𝓡 wired) (λ z are.
    let d = z.0.3.0 in let a = z.0.3.1.0 in let vs = z.0.4.0 in let hs = z.0.4.1.0 in let Out : RattleType = type_at f.ended.signature.result z.0.0 in
    let Post : Val → SProp 𝓤 = (walk_of 𝓛 f.ended stayed c).post z in let Run : List Val → SProp 𝓤 = λ ws. WpFn 𝓤 H 𝓣.C 𝓣.Λ fn ws Post in
    let begins : (w h : Val) → vs ≡ w ∷ [] → hs ≡ h ∷ [] → ent 𝓤 (Run (w ∷ h ∷ [])) (Run (vs ++ (hs ++ []))) = λ w h e f.
    subst (λ (us : List Val). ent 𝓤 (Run (w ∷ h ∷ [])) (Run us)) (sym (λ i. e i ++ (f i ++ []))) (id⊢ 𝓤 (Run (w ∷ h ∷ []))) in
    qed 𝓛 ((‵ ftrue ⊛ ‵ (owns (types_at f.ended.signature.params z.0.0) z.0.3 z.0.4)) ∷ raw ((c z.0.0 z.0.3).requires z.1) ∷ []) ∵ split ! $ move ! (1 ∷ []) $ fsplit ! $ move ! (1 ∷ []) $ fsplit ! $
    handle_tells heap_al ! a hs (λ h eh fits. move ! (2 ∷ []) $ handle_out ! d vs (λ ws. holds reader_mark C ! d.inside d.live d.kept
    -- [the allocator's handle; nothing; nothing; no clause]
    (λ empty zero. let w : Val = word d.inside 0 in
    suffices ! (Run (w ∷ h ∷ [])) (begins w h (ws ∙ ap (λ (n : ℕ). word d.inside n ∷ []) zero) eh) $
    enter ! 𝓣.C 𝓣.Λ fn (w ∷ h ∷ []) Post $ alloc_all ! (λ l. pass_all ! refl ((and_tt _ (Ptr-Good d.inside).0, ((Ptr-Good d.inside).1, (record { fits = lit< tt }, tt))), (fits, tt)) $ let Ev = env fn.locals l in
    sets ! (of_opd ! (get_in ! (fld ! refl (stop !)) (sub ! 0 refl (whole !)))) refl (Ptr-Good d.inside) $
    sets ! (of_opd ! (get_in ! (fld ! refl (stop !)) (sub ! 1 refl (whole !)))) refl (tt, record { fits = lit< tt }) $
    sets ! (bin ! (get ! refl) (lit ! tt) tt) refl (tt, tt) $ first ! $ branches ! (get ! refl)
    (λ wrong. absurd wrong)
    (λ _. sets_last ! (agg ! (and_then ! (lit ! tt) (no_more !))) refl (tt, (record { fits = lit< tt }, tt)) $
    exec ! 𝓣.C 𝓣.Λ Ev (after 4 fn.body) (at_ret Ev Post) $ sets ! (of_opd ! (get ! refl)) refl (tt, (record { fits = lit< tt }, tt)) $
    use0 𝓛 (‵ (Out.own_val None (live 0 vnil ∷ []))) (none_of 𝓛 L) $ use0 𝓛 (raw (fact 𝓤 (d.kept ≡ None))) (fact_i 𝓤 _ (emp 𝓤) empty) $ nothing ! $ nothing ! $ fjoin ! $ nothing ! $ fjoin ! $
    returns ! (look_at ! 0 refl) $ free_all ! refl $ keep ! (5 ∷ 0 ∷ 2 ∷ 1 ∷ []) $
    by ! (leaves 𝓛 f.ended stayed c z (live 0 vnil) None (tt, (tt, tt)) (tt, (tt, tt))))))
    -- [the block; the allocator's handle; nothing; nothing; no clause]
    (λ b o x full one at. let w : Val = word (block_ptr b o) reader_mark in let made : Val = parts b o h in let typed = fit C Z LZ ghosts b o h fits in let v₁ : Val = live 1 (vcons made vnil) in
    let l : L.Denot = record { at = block_ptr b o; alloc = a; value = x } in let good : Good (layout Out) v₁ = (and_tt _ typed.0, (record { fits = lit< tt }, (typed.1, tt))) in
    suffices ! (Run (w ∷ h ∷ [])) (begins w h (ws ∙ (λ i. word (at i) (one i) ∷ [])) eh) $
    enter ! 𝓣.C 𝓣.Λ fn (w ∷ h ∷ []) Post $ alloc_all ! (λ ls. pass_all ! refl ((tt, (tt, (record { fits = lit< tt }, tt))), (fits, tt)) $ let Ev = env fn.locals ls in
    sets ! (of_opd ! (get_in ! (fld ! refl (stop !)) (sub ! 0 refl (whole !)))) refl (tt, tt) $
    sets ! (of_opd ! (get_in ! (fld ! refl (stop !)) (sub ! 1 refl (whole !)))) refl (tt, record { fits = lit< tt }) $
    sets ! (bin ! (get ! refl) (lit ! tt) tt) refl (tt, tt) $ first ! $ branches ! (get ! refl)
    (λ _. sets ! (of_opd ! (get ! refl)) refl (tt, tt) $ sets ! (agg ! (and_then ! (get ! refl) (and_then ! (get ! refl) (no_more !)))) refl typed $
    sets_last ! (agg ! (and_then ! (lit ! tt) (and_then ! (get ! refl) (no_more !)))) refl good $
    exec ! 𝓣.C 𝓣.Λ Ev (after 4 fn.body) (at_ret Ev Post) $ sets ! (of_opd ! (get ! refl)) refl good $
    closed C Z LZ ghosts ! b o h a x $ use1 𝓛 (‵ (Out.own_val (Some l) (v₁ ∷ []))) (Some-of 𝓛 L l made) $
    use0 𝓛 (raw (fact 𝓤 (d.kept ≡ Some x))) (fact_i 𝓤 _ (emp 𝓤) full) $ nothing ! $ nothing ! $ fjoin ! $ nothing ! $ fjoin ! $
    returns ! (look_at ! 0 refl) $ free_all ! refl $ keep ! (4 ∷ 0 ∷ 2 ∷ 1 ∷ []) $
    by ! (leaves 𝓛 f.ended stayed c z v₁ (Some l) (tt, (tt, tt)) (tt, (tt, tt))))
    (λ wrong. absurd wrong))))))
