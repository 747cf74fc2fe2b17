use Rattle.std.proofs.Common.{Global, Vec, ℕ}
use Rattle.job_config.proofs.Chains.{asked_read}
use Rattle.job_config.proofs.reading.read_bytes.Goals as goal

pub returns-in-Ok-clause-read : goal.returns-in-Ok-clause-read
returns-in-Ok-clause-read g c =
    asked_read g.F.Files.reads c.bytes_in.result (λ (v : Vec ℕ Global). v.items) c.args.path.now c.args.files.now
    c.bytes_in.new.files c.bytes_in.ensures.gave

pub returns-clause-read : goal.returns-clause-read
returns-clause-read g c =
    asked_read g.F.Files.reads c.bytes_in.result (λ (v : Vec ℕ Global). v.items) c.args.path.now c.args.files.now
    c.bytes_in.new.files c.bytes_in.ensures.gave
