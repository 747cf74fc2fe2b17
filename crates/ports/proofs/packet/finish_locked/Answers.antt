use Rattle.std.proofs.Common.{rules}
use Rattle.ports.proofs.packet.finish_locked.Goals as goal

-- The lemma names what the bank was and is, so that the checker finds the reply.
pub returns-clause-ended : goal.returns-clause-ended
returns-clause-ended g c = record {
  before = c.deref_mut-kept.result.now;
  following = c.finish.new.kept;
  result = c.finish.result;
  bank = search rules;
  finished = search rules;
  asks_for = search rules;
}
