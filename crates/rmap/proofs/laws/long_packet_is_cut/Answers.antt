use Rattle.rmap.proofs.LongPackets.{long_is_cut}
use Rattle.rmap.proofs.laws.long_packet_is_cut.Goals as goal

pub returns : goal.returns
returns c = long_is_cut
