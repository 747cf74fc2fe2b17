use Rattle.spw.proofs.Feeding.{packet_join}
use Rattle.spw.proofs.feed.packet_is_join.Goals as goal

pub returns : goal.returns
returns c = packet_join
