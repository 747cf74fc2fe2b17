use Rattle.std.proofs.Common.{◌≡◌, ◌%◌, ◌++◌, ℕ, List, length, arith, ap, refl, sym, ◌∙◌}
use Rattle.std.specs.List.{concat}
use Rattle.std.proofs.lemmas.Bool.{eqb-true}
use Rattle.spw.specs.Line.{bytes_written}
use Rattle.spw.proofs.DigitBlocks.{back_is_hex, both_are_hex, both_written, front_is_hex}
use Rattle.spw.proofs.DigitPairs.{word_of_pairs}
use Rattle.spw.proofs.digits.append_hex.Goals as goal

pub returns-then-not-append_blocks-clause-hex : goal.returns-then-not-append_blocks-clause-hex
returns-then-not-append_blocks-clause-hex c =
    let none = eqb-true _ _ (sym c.is_empty.ensures ∙ c.if-not-is_empty.false) in
    let rest = c.as_chunks.ensures in
    let even : length c.args.word.now % 2 ≡ 0 = omega (arith, none, rest.back_len, c.as_chunks-2.ensures.back_len) in
    let pairs : concat c.as_chunks-2.result.0.now ≡ c.as_chunks.result.1.now = word_of_pairs _ _ _ refl c.as_chunks-2.ensures.front (omega (arith, none, c.as_chunks-2.ensures.back_len)) in (
      λ is. cc is,
      λ hex. cc (sym c.if-not-append_blocks.true ∙ c.append_blocks.ensures.digits.1 (front_is_hex _ _ _ c.as_chunks-2.result.0.now rest.front rest.back pairs even hex)),
    )

pub append_blocks-requires : goal.append_blocks-requires
append_blocks-requires c = omega (arith, c.in_ok-reserve.ensures.ok, c.as_chunks.ensures.front_len)

pub append_pairs-requires : goal.append_pairs-requires
append_pairs-requires c =
    let len = c.append_blocks.ensures.len c.if-not-append_blocks.false in
    omega (arith, c.in_ok-reserve.ensures.ok, c.as_chunks.ensures.front_len, c.as_chunks.ensures.back_len, c.as_chunks-2.ensures.front_len, len, c.append_blocks.ensures.room)

pub returns-clause-hex : goal.returns-clause-hex
returns-clause-hex c =
    let none = eqb-true _ _ (sym c.is_empty.ensures ∙ c.if-not-is_empty.false) in
    let rest = c.as_chunks.ensures in
    let even : length c.args.word.now % 2 ≡ 0 = omega (arith, none, rest.back_len, c.as_chunks-2.ensures.back_len) in
    let pairs : concat c.as_chunks-2.result.0.now ≡ c.as_chunks.result.1.now = word_of_pairs _ _ _ refl c.as_chunks-2.ensures.front (omega (arith, none, c.as_chunks-2.ensures.back_len)) in
    let digits = c.append_pairs.ensures.digits in (
      λ is. both_are_hex _ _ _ c.as_chunks-2.result.0.now rest.front rest.back pairs even (c.append_blocks.ensures.digits.0 c.if-not-append_blocks.false) (digits.0 is),
      λ hex. digits.1 (back_is_hex _ _ _ c.as_chunks-2.result.0.now rest.front rest.back pairs even hex),
    )

pub returns-clause-bytes : goal.returns-clause-bytes
returns-clause-bytes c =
    let none = eqb-true _ _ (sym c.is_empty.ensures ∙ c.if-not-is_empty.false) in
    let rest = c.as_chunks.ensures in
    let even : length c.args.word.now % 2 ≡ 0 = omega (arith, none, rest.back_len, c.as_chunks-2.ensures.back_len) in
    let pairs : concat c.as_chunks-2.result.0.now ≡ c.as_chunks.result.1.now = word_of_pairs _ _ _ refl c.as_chunks-2.ensures.front (omega (arith, none, c.as_chunks-2.ensures.back_len)) in
    λ is. both_written _ _ _ c.as_chunks-2.result.0.now rest.front rest.back pairs even _ _ _
    (c.append_blocks.ensures.bytes c.if-not-append_blocks.false ∙ ap (λ (b : List ℕ). b ++ bytes_written (concat c.as_chunks.result.0.now)) c.in_ok-reserve.ensures.items)
    (c.append_pairs.ensures.bytes is)
