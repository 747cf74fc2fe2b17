use Rattle.std.proofs.Common.{rules, ◌≡◌, ◌≢◌, ℕ}
use Rattle.absdom.specs.State.{kind_at}
use Rattle.bver_pass.specs.Heads.{IsWidenedKind}
use Rattle.bver_pass.proofs.Widening.{widening_next, widening_none}
use Rattle.bver_pass.proofs.body.Body.widen_all.Goals as goal

pub loop-number-init : goal.loop-number-init
loop-number-init c =
    let b = c.args.self.now in
    widening_none b.program b.declared c.args.lowered.now b.place c.args.state.now c.widen_ranges.new.state c.widen_ranges.ensures.kinds c.widen_ranges.ensures.marks c.widen_ranges.ensures.ranges

pub loop-number-preserved : goal.loop-number-preserved
loop-number-preserved c =
    let b = c.args.self.now in
    let number = c.loop-number.number in
    let now = c.loop-number.state in
    let next = c.widen_one.new.state in
    let widened : IsWidenedKind b.program b.declared c.args.lowered.now b.place number (kind_at now number) (kind_at next number) = search rules in
    let others : (k : ℕ) → k ≢ number → kind_at next k ≡ kind_at now k = search rules in
    widening_next b.program b.declared c.args.lowered.now b.place c.args.state.now now next number others c.widen_one.ensures.marks c.widen_one.ensures.ranges c.loop-number.invariant widened
