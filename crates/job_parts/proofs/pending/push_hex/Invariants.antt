use Rattle.job_parts.proofs.Joined.{AreJoined}
use Rattle.job_parts.proofs.pending.push_hex.Given as goal

abbrev pub invariant-loop-block : goal.invariant-loop-block
invariant-loop-block l = AreJoined l.block-index l.blocks l.fn.text.items l.text.items
