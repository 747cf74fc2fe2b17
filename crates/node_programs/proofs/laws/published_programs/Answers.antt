use Rattle.node_programs.proofs.Lasts.{set_by_next, last_for, below}
use Rattle.node_programs.proofs.Later.{kept_or_later}
use Rattle.node_programs.proofs.laws.published_programs.Goals as goal

pub returns : goal.returns
returns c = record { next = set_by_next; last = last_for; below = below; later = kept_or_later }
