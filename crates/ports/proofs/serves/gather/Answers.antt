use Rattle.std.specs.Prelude.{◌≡◌, ◌++◌, ◌∷◌, [], IfNone, IfSome, map}
use Rattle.std.proofs.Common.{arith, rules, sym, subst, ap, ◌∙◌}
use Rattle.std.proofs.lemmas.List.{map_push}
use Rattle.std.proofs.lemmas.List.Elements.{All-head, All-tail}
use Rattle.std.specs.List.{All}
use mathlib.Core.List.{IsPrefix}
use Rattle.target.specs.Lines.{CountsAllOf}
use Rattle.annals.specs.Chains.{done_for}
use Rattle.target.specs.Passes.{PortPass}
use Rattle.ports.specs.Serves.{IsOneMissing, IsWorkerInformed, IsTotalOf}
use Rattle.ports.proofs.Reports.{one_missing, one_more}
use Rattle.lemmas.proofs.Prefixes.{both_begin}
use Rattle.ports.proofs.Served.{all_more, empty_is, same_worker}
use Rattle.ports.proofs.serves.gather.Goals as goal

pub loop-one-init : goal.loop-one-init
loop-one-init g c =
    let whole = c.all_known-whole.result in
    let none = c.requires.0 in
    let known = subst (All (λ e. IsWorkerInformed whole e.worker)) c.as_slice.ensures.value c.all_known-whole.ensures.reported in (
      empty_is c.args.workers.items (sym c.args.workers.ok.0 ∙ none),
      search rules,
      search rules,
      search rules,
      search rules,
      λ k w below. absurd (omega (arith, below, c.args.workers.ok.0, none)),
      λ k w below. absurd (omega (arith, below, c.args.workers.ok.0, none)),
      λ k w below. absurd (omega (arith, below, c.args.workers.ok.0, none)),
      subst (All (λ e. IsWorkerInformed whole e.worker)) (sym c.into_iter-one-iterator.ensures.into_iter_gives.0) known,
    )

pub loop-one-preserved : goal.loop-one-preserved
loop-one-preserved g c =
    let was = c.loop-one.invariant in let one = c.in-Some.one in let done = c.loop-one.yielded in
    let known = c.all_known-whole.result in
    let step = c.in-Some.ensures.steps in
    let ahead = subst (All (λ e. IsWorkerInformed known e.worker)) step.0 was.8 in
    let items = c.in-Ok.ensures.items in
    let reported = All-head (λ e. IsWorkerInformed known e.worker) one _ ahead in
    let counted = subst (λ (p : PortPass). CountsAllOf p.pass known) (sym c.knows_entries.ensures.same) c.knows_entries.ensures.entries in
    let own : done_for one.worker.pass.pass.port known ≡ one.worker.pass.asked = both_begin (done_for one.worker.pass.pass.port known) one.worker.pass.asked c.knows_entries.ensures.begins reported.1 in
    let did = subst (λ (p : PortPass). done_for p.pass.port known ≡ p.asked) (sym c.knows_entries.ensures.same) own in
    let worker = one.worker in
    let asked = record worker { pass = c.knows_entries.new.self } in
    let same = same_worker one.worker c.knows_entries.new.self c.knows_entries.ensures.same in (
      c.in-Ok.ensures.items ∙ ap (λ l. l ++ asked ∷ []) was.0 ∙ ap (λ w. map (λ e. e.worker) done ++ w ∷ []) same ∙ sym (map_push (λ e. e.worker) done one),
      subst (λ reported. IfSome c.both-total.result (IsTotalOf reported)) (sym (map_push (λ e. e.report) done one))
          (one_more (map (λ e. e.report) done) one.report _ c.both-total.result was.1 (search rules)),
      subst (λ reported. IfNone c.both-total.result (IsOneMissing reported)) (sym (map_push (λ e. e.report) done one))
          (one_missing (map (λ e. e.report) done) one.report _ c.both-total.result was.2 (search rules)),
      omega (arith, was.3, step.1, c.in-Ok.ensures.len, c.push.ensures.capacity),
      omega (arith, was.4, c.push.ensures.capacity),
      subst (All (λ w. IsPrefix w.front known)) (sym items) (all_more (λ w. IsPrefix w.front known) c.loop-one.workers.items asked reported.0 was.5),
      subst (All (λ w. CountsAllOf w.pass.pass known)) (sym items) (all_more (λ w. CountsAllOf w.pass.pass known) c.loop-one.workers.items asked counted was.6),
      subst (All (λ w. done_for w.pass.pass.port known ≡ w.pass.asked)) (sym items) (all_more (λ w. done_for w.pass.pass.port known ≡ w.pass.asked) c.loop-one.workers.items asked did was.7),
      All-tail (λ e. IsWorkerInformed known e.worker) one _ ahead,
    )

pub returns-clause-history : goal.returns-clause-history
returns-clause-history g c = record { whole = c.all_known-whole.result; begin = c.loop-one.invariant.5; counted = c.loop-one.invariant.6; asked = c.loop-one.invariant.7; listed = c.all_known-whole.ensures.listed; shown = c.all_known-whole.ensures.shown }
