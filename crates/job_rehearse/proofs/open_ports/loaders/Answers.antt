use Rattle.std.proofs.Common.{ℕ, List, length, string_bytes, subst}
use Rattle.job_rehearse.specs.OpenPorts.{PrintsFirstAskers}
use Rattle.job_rehearse.proofs.open_ports.loaders.Goals as goal

pub returns : goal.returns
returns c =
    subst (λ (before : List ℕ). PrintsFirstAskers c.args.judge.now c.args.image.now c.args.node c.args.lead.now c.args.askers.now (length c.args.askers.now) before (string_bytes c.add_askers.new.text))
    c.new-text.ensures.bytes c.in_ok-add_askers.ensures
