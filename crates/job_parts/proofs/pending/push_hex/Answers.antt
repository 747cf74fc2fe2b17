use Rattle.std.proofs.Common.{ℕ, List, ◌++◌, ◌/◌, length, take, ap₂, ◌∙◌, arith}
use Rattle.std.specs.List.{concat}
use Rattle.std.proofs.lemmas.List.{take_all}
use Rattle.job_parts.proofs.HexLanes.{blocks_and_rest}
use Rattle.job_parts.proofs.Joined.{all_joined, block_long, none_joined, one_joined, room_after_blocks, room_for}
use Rattle.job_parts.proofs.pending.push_hex.Goals as goal

pub loop-block-init : goal.loop-block-init
loop-block-init c = none_joined c.as_chunks.result.0.now _

pub push_block-requires : goal.push_block-requires
push_block-requires c =
    let parts = ap₂ (λ (bs : List (List ℕ)) (r : List ℕ). concat bs ++ r) c.as_chunks.ensures.front c.as_chunks.ensures.back
    ∙ blocks_and_rest (length c.args.bytes.now / 16) c.args.bytes.now (omega arith) in
    room_for c.args.bytes.now c.as_chunks.result.1.now c.as_chunks.result.0.now parts c.loop-block.block-index c.args.text.now.items c.loop-block.text.items
    c.loop-block-test.true c.loop-block.invariant c.requires (block_long c.args.bytes.now c.as_chunks.result.0.now c.loop-block.block-index c.as_chunks.ensures.front c.as_chunks.ensures.front_len c.loop-block-test.true)

pub loop-block-preserved : goal.loop-block-preserved
loop-block-preserved c =
    one_joined c.loop-block.block-index c.as_chunks.result.0.now _ _ _ c.loop-block-test.true c.loop-block.invariant c.push_block.ensures

pub push_few-requires-clause-room : goal.push_few-requires-clause-room
push_few-requires-clause-room c =
    let parts = ap₂ (λ (bs : List (List ℕ)) (r : List ℕ). concat bs ++ r) c.as_chunks.ensures.front c.as_chunks.ensures.back
    ∙ blocks_and_rest (length c.args.bytes.now / 16) c.args.bytes.now (omega arith) in
    room_after_blocks c.args.bytes.now c.as_chunks.result.1.now c.as_chunks.result.0.now parts (take c.loop-block.block-index c.as_chunks.result.0.now)
    (take_all c.loop-block.block-index c.as_chunks.result.0.now c.loop-block-test.false) c.args.text.now.items c.loop-block.text.items c.loop-block.invariant c.requires

pub returns : goal.returns
returns c =
    let parts = ap₂ (λ (bs : List (List ℕ)) (r : List ℕ). concat bs ++ r) c.as_chunks.ensures.front c.as_chunks.ensures.back
    ∙ blocks_and_rest (length c.args.bytes.now / 16) c.args.bytes.now (omega arith) in
    all_joined c.args.bytes.now c.as_chunks.result.1.now c.as_chunks.result.0.now parts (take c.loop-block.block-index c.as_chunks.result.0.now)
    (take_all c.loop-block.block-index c.as_chunks.result.0.now c.loop-block-test.false) c.args.text.now.items c.loop-block.text.items _ c.loop-block.invariant c.push_few.ensures
