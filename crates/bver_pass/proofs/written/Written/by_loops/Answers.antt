use Rattle.std.proofs.Common.{◌≡◌, ◌<◌, length, ap, arith, List}
use Rattle.bpf.specs.declared.loops.Loop.{Loop}
use Rattle.bver_pass.proofs.Masks.{written_all, written_next, written_none}
use Rattle.bver_pass.proofs.written.Written.by_loops.Goals as goal

pub loop-place-init : goal.loop-place-init
loop-place-init c = written_none c.args.image.now c.by_none-written.result c.by_none-written.ensures.size

pub loop-place-preserved : goal.loop-place-preserved
loop-place-preserved c =
    let size : length c.loops-place-end.result.now ≡ length c.args.image.now.loops = ap (λ (xs : List Loop). length xs) c.loops-place-end.ensures.value in
    let inside : c.loop-place.place < 8 = omega (arith, c.loop-place-test.true, size, c.loops-place-end.ensures.program.few_loops) in
    written_next c.args.image.now c.loop-place.written c.loop-place.place c.by_loop_at.result inside c.loop-place.invariant c.by_loop_at.ensures

pub returns : goal.returns
returns c =
    let size : length c.loops-place-end.result.now ≡ length c.args.image.now.loops = ap (λ (xs : List Loop). length xs) c.loops-place-end.ensures.value in
    written_all c.args.image.now c.loop-place.written c.loop-place.place (omega (arith, c.loop-place-test.false, size)) c.loop-place.invariant
