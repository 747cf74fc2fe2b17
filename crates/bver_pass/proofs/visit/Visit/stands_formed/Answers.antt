use Rattle.std.proofs.Common.{rules}
use Rattle.bpf.specs.Program.{IsProgram}
use Rattle.bver_pass.proofs.Keeping.{no_head}
use Rattle.bver_pass.proofs.visit.Visit.stands_formed.Goals as goal

pub returns-clause-heads : goal.returns-clause-heads
returns-clause-heads c =
    let limits : IsProgram c.args.self.now.program = search rules in
    no_head c.args.self.now.program c.args.self.now.slot limits c.slot.ensures.formed
