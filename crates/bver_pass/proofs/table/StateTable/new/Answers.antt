use Rattle.std.proofs.Common.{rules, ◌≡◌, length}
use Rattle.bver_form.specs.Targets.{AreKept}
use Rattle.bver_pass.proofs.Keeping.{entries_of}
use Rattle.bver_pass.proofs.table.StateTable.new.Goals as goal

pub invariant_of-result : goal.invariant_of-result
invariant_of-result c =
    let kept : AreKept c.args.image.now c.in_ok-kept.kept.items = search rules in
    let size : length c.in_ok-kept.kept.items ≡ length c.args.image.now.slots = search rules in
    let count : length c.in_ok-vec.field-0.items ≡ c.number_slots-count.result = search rules in
    entries_of _ c.in_ok-kept.kept.items size kept (rw count c.number_slots-count.ensures)
