use Rattle.std.proofs.Common.{ℕ, List, ◌++◌, ◌/◌, length, ap, ap₂, subst, ◌∙◌, arith}
use Rattle.std.specs.Io.KnownBytes.{Appends}
use Rattle.std.specs.List.{concat}
use Rattle.std.proofs.lemmas.List.{take_all}
use Rattle.job_parts.proofs.Joined.{all_printed, chunk_long, chunks_and_rest, end_fits, none_printed, one_printed}
use Rattle.job_parts.proofs.pending.print_joined.Goals as goal

pub loop-chunk-init : goal.loop-chunk-init
loop-chunk-init g c = (none_printed c.args.front.items c.as_chunks.result.0.now _, c.requires.front)

pub push_hex-requires : goal.push_hex-requires
push_hex-requires g c =
    let long = chunk_long c.args.bytes.now c.as_chunks.result.0.now c.loop-chunk.chunk-index c.as_chunks.ensures.front c.as_chunks.ensures.front_len c.loop-chunk-test.true in
    omega (arith, long, c.loop-chunk.invariant.1)

pub push_hex-requires-2 : goal.push_hex-requires-2
push_hex-requires-2 g c = omega (arith, c.loop-chunk.invariant.1, c.as_chunks.ensures.back_len)

pub push_text-requires : goal.push_text-requires
push_text-requires g c =
    end_fits _ _ _ _ c.loop-chunk.invariant.1 (omega (arith, c.as_chunks.ensures.back_len)) c.requires.following c.push_hex-2.ensures

pub loop-chunk-preserved : goal.loop-chunk-preserved
loop-chunk-preserved g c =
    let written = subst (λ (text : List ℕ). Appends (g.W.Write.contents c.loop-chunk.out) (g.W.Write.contents c.write_all.new.self) text) c.as_slice.ensures.value
    c.in_ok-write_all.ensures.bytes in (
      one_printed c.args.front.items c.loop-chunk.chunk-index c.as_chunks.result.0.now _ _ _ _ _ _ c.loop-chunk-test.true c.loop-chunk.invariant.0 c.push_hex.ensures written c.clear.ensures,
      omega (arith, ap (λ (l : List ℕ). length l) c.clear.ensures),
    )

pub returns : goal.returns
returns g c =
    let chunks = c.as_chunks.result.0.now in
    let parts = ap₂ (λ (bs : List (List ℕ)) (r : List ℕ). concat bs ++ r) c.as_chunks.ensures.front c.as_chunks.ensures.back
    ∙ chunks_and_rest (length c.args.bytes.now / 64) c.args.bytes.now (omega arith) in
    all_printed c.args.front.items c.args.bytes.now c.as_chunks.result.1.now c.args.following.now _ _ _ c.loop-chunk.chunk-index chunks _ _ _ _ parts
    (take_all c.loop-chunk.chunk-index chunks c.loop-chunk-test.false) c.loop-chunk.invariant.0 c.push_hex-2.ensures (c.as_slice-2.ensures.value ∙ c.push_text.ensures)
    c.write_all-2.ensures.bytes
