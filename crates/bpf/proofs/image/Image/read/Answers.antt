use Rattle.std.proofs.Common.{ap, ◌∙◌, rules}
use Rattle.bpf.specs.Reading.{image_reading}
use Rattle.bpf.proofs.Named.{is_fault_at, is_only}
use Rattle.bpf.proofs.image.Image.read.Goals as goal

pub returns-clause-only : goal.returns-clause-only
returns-clause-only c =
    λ p is same. is_only c.args.bytes.now c.of_bytes.result p c.of_bytes.ensures.exact (ap image_reading same ∙ c.image_laws.ensures.read p is)

pub returns-clause-fault : goal.returns-clause-fault
returns-clause-fault c =
    is_fault_at c.args.bytes.now (λ slot fault. c.image_laws.ensures.fault c.args.bytes.now slot fault (λ i. search rules)) c.of_bytes.result c.of_bytes.ensures.exact
