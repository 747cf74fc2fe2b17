use Rattle.bpf.proofs.Parted.{parts_kept}
use Rattle.bpf.proofs.image.Image.new.Goals as goal

pub of_parts-requires : goal.of_parts-requires
of_parts-requires c =
    parts_kept c.args.version c.args.insns.now c.args.loops.now c.in_ok-loops.loops.items c.args.budget c.in_ok-header.header c.in_ok-slots.slots.items c.in_ok-header.ensures c.in_ok-loops.ensures.items c.in_ok-slots.ensures.placed c.in_ok-slots.ensures.code
