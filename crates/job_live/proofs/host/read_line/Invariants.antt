-- some bytes of the line were read, and what is given of them is in the text
use Rattle.std.proofs.Common.{◌≡◌, ◌≢◌, ℕ, List, All, string_bytes}
use Rattle.std.specs.Io.KnownBytes.{Consumes}
use Rattle.job_live.specs.HostLines.{given_text}
use Rattle.job_live.proofs.host.read_line.Given as goal

pub record IsBegun (read : List ℕ → Type 0) (text : List ℕ) : Type 0 where
  pub bytes : List ℕ
  pub is_line : All (λ byte. byte ≢ 10) bytes
  pub is_read : read bytes
  pub gives : text ≡ given_text bytes

abbrev pub invariant-loop-count : goal.invariant-loop-count
invariant-loop-count g l =
    IsBegun (Consumes (g.I.Read.remaining l.initial.input) (g.I.Read.remaining l.input)) (string_bytes l.line)
