use Rattle.std.proofs.Common.{◌≡◌, arith, refl, rules}
use Rattle.bpf.specs.Program.{insn_at}
use Rattle.bpf.specs.Weight.{saturated_weight, times_at}
use Rattle.std.specs.Prelude.{◌*◌}
use Rattle.bver_form.specs.Costs.{cost_here}
use Rattle.weights.specs.Classes.{cost_by}
use Rattle.weights.proofs.Summing.{weight_done, weight_step}
use Rattle.weights.proofs.weighing.weight_in.Goals as goal

pub loop-slot-preserved : goal.loop-slot-preserved
loop-slot-preserved c =
    let p = c.args.image.now in
    let cost = cost_by c.args.costs.now in
    let slot = c.loop-slot.slot in
    let is : c.part-cost.result ≡ saturated_weight (times_at p.loops slot * cost_here cost (insn_at p slot)) = rw (c.part-cost.ensures, c.loops.ensures.value, c.insn.ensures.value) refl in
    record {
      small = rw c.saturating_add-weight.ensures (omega arith);
      total = rw c.saturating_add-weight.ensures (weight_step cost p.loops p.slots c.loop-slot.weight slot c.part-cost.result _ (search rules) is c.loop-slot.invariant.total);
    }

pub returns : goal.returns
returns c =
    let p = c.args.image.now in
    weight_done (cost_by c.args.costs.now) p.loops p.slots c.loop-slot.weight c.loop-slot.slot _ (omega (arith, c.loop-slot-test.false)) c.loop-slot.invariant.small c.loop-slot.invariant.total
