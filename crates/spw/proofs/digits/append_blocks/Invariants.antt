use Rattle.std.proofs.Common.{◌≡◌, ◌≤◌, ◌+◌, ◌*◌, take, vec_len}
use Rattle.std.specs.List.{concat}
use Rattle.std.specs.Vec.{vec_capacity}
use Rattle.spw.proofs.DigitBlocks.{IsRead}
use Rattle.spw.proofs.digits.append_blocks.Given as goal

abbrev pub invariant-loop-block : goal.invariant-loop-block
invariant-loop-block l =
    IsRead (concat (take l.block-index l.blocks)) l.fn.bytes.items l.bytes.items
    × (vec_len l.bytes ≡ vec_len l.fn.bytes + l.block-index * 16)
    × (vec_capacity l.fn.bytes ≤ vec_capacity l.bytes)
