use Rattle.spw.proofs.LineLemmas.{packet_unambiguous, piece_unambiguous}
use Rattle.spw.proofs.lines.line_is_unambiguous.Goals as goal

pub returns-clause-packet : goal.returns-clause-packet
returns-clause-packet c = packet_unambiguous

pub returns-clause-piece : goal.returns-clause-piece
returns-clause-piece c = piece_unambiguous
