use Rattle.std.proofs.Common.{sym}
use Rattle.bpf.proofs.Parted.{too_many}
use Rattle.bpf.proofs.parts.image_header_of.Goals as goal

pub returns-then-insns-from : goal.returns-then-insns-from
returns-then-insns-from c =
    sym (too_many c.args.version c.args.insns.now c.args.loops.now c.args.budget (rw c.from.ensures at c.if-insns-from.true))
