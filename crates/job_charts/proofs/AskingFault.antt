-- Matches that say no addresses do not say which commands are asked of.
use Rattle.std.proofs.Common.{◌≡◌, inl, inr, ℕ, List, codes}
use Rattle.clap.specs.Walk.{Row, first_of}
use Rattle.job_packets.specs.HexWords.{Has}
use Rattle.job_parts.specs.Options.{IsOptionFault}
use Rattle.job_parts.specs.declared.usage.UsageFault.{UsageFault}
use Rattle.job_charts.specs.ChartScope.{GivesAddresses, GivesAsking}

pub spoiled : (rows : List Row) (fault : UsageFault) → IsOptionFault (Has (λ (both : ℕ × ℕ). GivesAddresses (first_of (codes "address") rows) both.0 both.1)) fault
    → IsOptionFault (Has (GivesAsking rows)) fault
spoiled rows fault (inl memory) = inl memory
spoiled rows fault (inr bad) = inr (bad.0, λ has. bad.1 ((has.0.rule.low, has.0.rule.high), has.1.addresses))
