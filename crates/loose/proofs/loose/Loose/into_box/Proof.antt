-- `into_box` hands the parts to `from_raw`.
use Rattle.std.proofs.Common.{◌≡◌, List, [], ◌∷◌, ◌++◌, refl, sym, ap, subst}
use mir.Syntax.{Args, a_type, dcons, dnil}
use mir.Val.{Val, vptr}
use mir.MapTy.{inst_fn}
use base.Logic.{SProp, ent, id⊢}
use base.Fml.{ftrue, flft}
use prog.Wp.{WpFn}
use types.Kit.{‵, raw, ◌⊛◌, some, later, at_ret, ◌$◌, ◌∵◌, !, qed, by, move, keep, drop, split, split3, join, fsplit, fjoin, pick, suffices, use1, await, rewrite, feq_i}
use types.Run.{stop, fld, of_opd, no_more, and_then, first, blocks, exec, returns, enter}
use types.ByLocal.{alloc_all, pass_all, free_all, look_at, get, get_in, sets, lands_last, env}
use types.Part.{sub, whole}
use contract.Monad.{fact}
use contract.BorrowLft.{◌⊑◌}
use contract.Running.{tables}
use denote.Exit.{no}
use denote.RattleType.{RattleType, owns}
use denote.Signature.{types_at, plain}
use denote.RawPtr.{block_ptr}
use denote.Steps.{nothing, only}
use denote.Param.{param, layout, bounded}
use denote.Param.Laws.{param_laws}
use denote.Triple.Clauses.{Lasts, lasts}
use denote.Triple.Spec.{triple_of}
use denote.Triple.Call.{calls_at_last}
use denote.Triple.Walked.{Stays, stay_dropped, walk_of}
use Rattle.core.proofs.alloc.Calls.{Goes-blank}
use Rattle.core.proofs.alloc.Shapes.{after}
use Rattle.core.proofs.atomic.Steps.{fm}
use Rattle.core.proofs.cell.Inside.{Good}
use Rattle.std_alloc.proofs.BoxSteps.Form as box
use Rattle.std_alloc.proofs.BoxSteps.Steps.{box_out, box_in}
use Rattle.std_alloc.specs.contracts.boxed.Box.from_raw as from_raw
use Rattle.std_alloc.proofs.boxed.Box.from_raw.Met.{met}
use Rattle.std.proofs.raw_atomic.Walks.{proved_at, leaves}
use Rattle.loose.proofs.Values.{Loose, parts, fit, opened}
use Rattle.loose.specs.contracts.loose.Loose.into_box as f
use Rattle.loose.proofs.loose.Loose.into_box.Statement.{statement}
use Rattle.loose.proofs.loose.Loose.into_box.Code as code

pub into_box_spec : {M : Type 1} → statement M
into_box_spec 𝓤 𝓛 𝓜 𝓡 wired T A LT LA g methods drops_T drops_A allocates drops_value drops_allocator =
    let 𝓣 = tables 𝓤 𝓛.H 𝓜 𝓡 𝓡.env in
    let R : RattleType = param 0 T in let Z : RattleType = param 1 A in let LZ = param_laws 1 A LA in
    let ended = f.ended T A g methods drops_T drops_A in
    let c = f.clauses T A g methods drops_T drops_A 𝓛 𝓜.mem 𝓡.returns in
    let E : box.Bx = record { row = T; laws = LT; al = record { row = A; laws = LA; g = g; d = methods; drops = drops_A } } in
    let given : Args = bounded (a_type ∷ a_type ∷ []) (T, (A, tt)) (dcons methods (dcons drops_T (dcons drops_A dnil))) in
    let fn = inst_fn given code.function in
    let stayed : Stays ended.signature.params ended.kept = (stay_dropped (plain (λ _. Loose R Z LZ g)) no, tt) in
    proved_at 𝓛 ended stayed c 𝓜 𝓡 (Goes-blank 𝓛 2 (plain (λ _. Loose R Z LZ g)) no (λ κs x w. tt), tt)
    (f.Key.name given) fn (code.unfolded 𝓤 𝓛.H 𝓜 𝓡 wired (T, (A, tt)) methods drops_T drops_A) (λ z are.
    let κs = z.0.0 in let qs = z.0.1 in let loose = z.0.3.0 in let a = loose.alloc in let x = loose.value in
    let Post : Val → SProp 𝓤 = (walk_of 𝓛 ended stayed c).post z in
    let Runs : List Val → SProp 𝓤 = λ vs. WpFn 𝓤 𝓛.H 𝓣.C 𝓣.Λ fn vs Post in
    let lives = ‵ (flft κs.0 qs.0) ⊛ ‵ (flft κs.1.0 qs.1.0) ⊛ ‵ ftrue in
    qed 𝓛 ((lives ⊛ ‵ (owns (types_at ended.signature.params κs) z.0.3 z.0.4)) ∷ raw ((c κs z.0.3).requires z.1) ∷ []) ∵
    -- [the parts; nothing; the lifetimes; what is required]
    split ! $ move ! (1 ∷ []) $ fsplit ! $
    opened R Z LZ g ! loose z.0.4.0 (λ b o handle place is good.
    let v : Val = parts b o handle in let fits = fit R Z LZ g b o handle good in
    let k = triple_of 𝓛 (from_raw.signature T A g methods drops_A) (from_raw.spec T A g methods drops_A 𝓛 𝓜.mem 𝓡.returns) in
    let y : k.Ghost = ((κs, qs, tt, (a, (block_ptr b o, tt)), (handle ∷ [], (vptr b o ∷ [], tt))), x) in
    -- [the block; the handle; nothing; the lifetimes; that they last as long as the types]
    move ! (4 ∷ []) $
    use1 𝓛 (raw (fact 𝓤 (κs.0 ⊑ T.lives)) ⊛ raw (fact 𝓤 (κs.1.0 ⊑ A.lives)) ⊛ ‵ ftrue) (id⊢ 𝓤 _) $ split3 ! $
    move ! (2 ∷ []) $ drop ! $ move ! (1 ∷ 2 ∷ []) $ join ! $ move ! (1 ∷ 0 ∷ []) $ join ! $
    move ! (2 ∷ []) $ feq_i ! (List Val) (vptr b o ∷ []) (vptr b o ∷ []) refl $ fjoin ! $
    move ! (2 ∷ 0 ∷ []) $ fjoin ! $ move ! (2 ∷ 0 ∷ []) $ join ! $ join ! $ use1 𝓛 (raw (k.pre y)) (id⊢ 𝓤 _) $
    suffices ! (Runs (v ∷ [])) (subst (λ (vs : List Val). ent 𝓤 (Runs (v ∷ [])) (Runs vs)) (sym (λ i. is i ++ [])) (id⊢ 𝓤 _)) $
    enter ! 𝓣.C 𝓣.Λ fn (v ∷ []) Post $ alloc_all ! (λ l. pass_all ! refl (fits, tt) $ let places = env fn.locals l in
    sets ! (of_opd ! (get_in ! (fld ! refl (stop !)) (sub ! 0 refl (whole !)))) refl (tt, tt) $
    sets ! (of_opd ! (get_in ! (fld ! refl (stop !)) (sub ! 1 refl (whole !)))) refl good $
    first ! $ blocks ! $ sets ! (of_opd ! (get ! refl)) refl good $
    calls_at_last ! (fm 𝓛 𝓜 𝓡) k (met 𝓤 𝓛 𝓜 𝓡 (code.calls-std_alloc::boxed::Box::from_raw 𝓡.env wired)
    T A LT LA g methods drops_A allocates drops_allocator) y (and_then ! (get ! refl) (and_then ! (get ! refl) (no_more !))) (λ u.
    let B : RattleType = box.B E in
    use1 𝓛 (later (some (λ (r : B.Denot). (lives ⊛ ‵ (B.own_val r (u ∷ []))) ⊛
    some (λ (last : Lasts (from_raw.ended T A g methods drops_A) κs y.0.3).
    ‵ (lasts (from_raw.ended T A g methods drops_A) κs y.0.3 last) ⊛
    (raw (fact 𝓤 (r.value ≡ x)) ⊛ raw (fact 𝓤 (r.alloc ≡ a))))))) (id⊢ 𝓤 (k.post y u)) $
    await ! tt $ pick ! (λ r. split ! $ move ! (1 ∷ []) $ pick ! (λ _. split3 ! $ drop ! $ move ! (2 ∷ []) $ split ! $ move ! (1 ∷ []) $
    -- [the box; the lifetimes; that its value is x; that its allocator is a]
    box_out E ! r (u ∷ []) (λ b' o' handle' place' is' good'. box_in E ! r b' o' r.value place' refl $
    rewrite ! 0 (λ (vs : List Val). ‵ (B.own_val r vs)) (sym is') refl $
    let fits' : Good (layout B) u = subst (Good (layout B)) (sym (ap only is')) (fit R Z LZ g b' o' handle' good') in
    lands_last ! refl fits' $ exec ! 𝓣.C 𝓣.Λ places (after 3 fn.body) (at_ret places Post) $
    sets ! (of_opd ! (get ! refl)) refl fits' $ nothing ! $ nothing ! $ fjoin ! $
    returns ! (look_at ! 0 refl) $ free_all ! refl $ keep ! (2 ∷ 0 ∷ 1 ∷ 3 ∷ []) $
    by ! (leaves 𝓛 ended stayed c z u r ((tt, (tt, tt)), tt) (tt, tt)))))))))
