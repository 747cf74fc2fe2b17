use Rattle.std.proofs.Common.{arith, subst}
use mathlib.Core.List.{IsPrefix}
use Rattle.annals.specs.Chains.{done_for}
use Rattle.std.specs.Prelude.{slice_index_or}
use Rattle.lemmas.proofs.Prefixes.{prefix_trans}
use Rattle.ports.proofs.Served.{known_more}
use Rattle.ports.specs.Serves.{IsWorkerInformed}
use Rattle.ports.proofs.serves.all_known.Goals as goal

pub loop-one-preserved : goal.loop-one-preserved
loop-one-preserved g c =
    let old = c.loop-one.known in
    let new = c.announce.new.known in
    let longer : IsPrefix old new = prefix_trans old c.learn.new.self new c.learn.ensures.this c.announce.ensures.known in
    known_more c.acts_grow.ensures c.loop-one.one-index c.args.ended.now old new c.one-item.result c.loop-one-test.true longer
    (subst (λ e. IsWorkerInformed new e.worker) c.one-item.is (prefix_trans _ c.learn.new.self new c.learn.ensures.that c.announce.ensures.known, c.announce.ensures.reported)) c.loop-one.invariant

pub returns-clause-reported : goal.returns-clause-reported
returns-clause-reported g c = λ k d within.
    let e = slice_index_or c.args.ended.now k d in
    let known = c.loop-one.known in
    let last = c.show_all.new.known in
    let was = c.loop-one.invariant k d (omega (arith, within, c.loop-one-test.false)) in (
      prefix_trans e.worker.front known last was.0 c.show_all.ensures.seen,
      prefix_trans e.worker.pass.asked (done_for e.worker.pass.pass.port known) (done_for e.worker.pass.pass.port last) was.1
          (c.acts_grow.ensures e.worker.pass.pass.port known last c.show_all.ensures.seen),
    )
