use Rattle.std.proofs.Common.{◌∙◌, ap, length}
use Rattle.target.specs.Passes.{PortPass}
use Rattle.ports.proofs.Keeping.{load_count, load_met}
use Rattle.ports.proofs.packet.load_locked.Goals as goal

pub returns-clause-banks : goal.returns-clause-banks
returns-clause-banks g c =
    ap (λ (p : PortPass). length p.pass.shares) c.know-2.ensures.pass
    ∙ (load_count _ _ _ _ _ _ _ c.load.ensures.ended ∙ ap (λ (p : PortPass). length p.pass.shares) c.know.ensures.pass)

pub returns-clause-ended : goal.returns-clause-ended
returns-clause-ended g c =
    load_met _ c.know.new.front _ _ c.know.new.pass _ _ _ c.know.new.publisher _ _ _ _ c.know.ensures.pass c.know-2.ensures.pass c.know.ensures.publisher c.load.ensures.begins c.load.ensures.ended c.load.ensures.asked
    c.know.ensures.seen c.know.ensures.published c.know.ensures.did c.know-2.ensures.seen c.know-2.ensures.published c.know-2.ensures.did
