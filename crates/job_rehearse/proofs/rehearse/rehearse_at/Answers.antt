use Rattle.std.proofs.Common.{inl, inr, subst}
use Rattle.std.proofs.lemmas.Result.{IfErr-weaker, IfOk-weaker}
use Rattle.machine.specs.Sizes.{Maps}
use Rattle.job_rehearse.proofs.Stopping.{stops_more, reports_none}
use Rattle.job_rehearse.specs.Policies.{HoldsBoth, HoldsNotBoth}
use Rattle.job_rehearse.specs.Places.{sizes_at}
use Rattle.job_rehearse.specs.declared.policies.NoPolicy.{NoPolicy}
use Rattle.job_rehearse.proofs.rehearse.rehearse_at.Goals as goal

pub returns-in-Ok-clause-done : goal.returns-in-Ok-clause-done
returns-in-Ok-clause-done g c =
    let held = subst (λ (m : Maps). HoldsBoth g.F.Files.reads c.args.words.now m c.args.files.now c.policies_in.new.files c.in-Ok.policies) c.sizes.ensures c.in-Ok.ensures.policies in
    IfOk-weaker c.rehearse.result _ _
    (λ status is. inl (record { policies = c.in-Ok.policies; held = held; rehearsed = is }))
    c.rehearse.ensures.done

pub returns-in-Ok-clause-stops : goal.returns-in-Ok-clause-stops
returns-in-Ok-clause-stops g c =
    let held = subst (λ (m : Maps). HoldsBoth g.F.Files.reads c.args.words.now m c.args.files.now c.policies_in.new.files c.in-Ok.policies) c.sizes.ensures c.in-Ok.ensures.policies in
    IfErr-weaker c.rehearse.result _ _
    (λ halt stops. stops_more _ _ (λ fault stuck. inr (record { policies = c.in-Ok.policies; held = held; stuck = stuck })) halt stops)
    c.rehearse.ensures.stops

pub returns-in-Err-clause-done : goal.returns-in-Err-clause-done
returns-in-Err-clause-done g c =
    let none = subst (λ (m : Maps). HoldsNotBoth g.F.Files.reads c.args.words.now m c.args.files.now c.policies_in.new.files c.in-Err.none) c.sizes.ensures c.in-Err.ensures.none in
    IfOk-weaker c.report_none.result _ _
    (λ status reported. inr (reports_none _ _ _ _ status none reported))
    c.report_none.ensures.reported

pub returns-in-Err-clause-stops : goal.returns-in-Err-clause-stops
returns-in-Err-clause-stops g c =
    let holds : NoPolicy → Type 0 = HoldsNotBoth g.F.Files.reads c.args.words.now (sizes_at c.args.place.now) c.args.files.now c.policies_in.new.files in
    let none = subst (λ (m : Maps). HoldsNotBoth g.F.Files.reads c.args.words.now m c.args.files.now c.policies_in.new.files c.in-Err.none) c.sizes.ensures c.in-Err.ensures.none in
    IfErr-weaker c.report_none.result _ _
    (λ halt stops. stops_more _ _ (λ fault is. inl (is.1, subst holds is.0 none)) halt stops)
    c.report_none.ensures.stops
