use Rattle.publish.proofs.Families.{admits}
use Rattle.publish.proofs.programs.entrances.Goals as goal

pub reader-requires : goal.reader-requires
reader-requires g c = admits _
