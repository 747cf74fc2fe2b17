use Rattle.std.proofs.Common.{◌≡◌, ◌≤◌, ◌+◌, ◌*◌, ◌++◌, take}
use Rattle.std.specs.Vec.{vec_capacity, vec_len}
use Rattle.hex.specs.Hex.{encode_upper}
use Rattle.job_live.proofs.putting.put_hex.Given as goal

abbrev pub invariant-loop-byte : goal.invariant-loop-byte
invariant-loop-byte l =
    (l.text.items ≡ l.fn.text.items ++ encode_upper (take l.byte-index l.bytes))
    × (vec_len l.text ≡ vec_len l.fn.text + 2 * l.byte-index) × (vec_capacity l.fn.text ≤ vec_capacity l.text)
