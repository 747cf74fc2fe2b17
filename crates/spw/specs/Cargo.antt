-- What a packet is to those who read it.
use Rattle.std.specs.Prelude.{ℕ, List}
use Rattle.spw.specs.declared.packets.End.{End}

-- the bytes of a packet in the order of arrival, and its end marker (ECSS-E-ST-50-52C, cargo and
-- end of packet)
pub record Cargo : Type 0 where
  pub bytes : List ℕ
  pub end : End
