use Rattle.std.proofs.Common.{rules, arith, ℕ, List, ◌++◌, length, ap, ap₂, subst, ◌∙◌}
use Rattle.std.proofs.lemmas.Result.{err_from_is_err_and}
use Rattle.spw.proofs.WordCuts.{one_is_bad, one_word, one_written}
use Rattle.spw.specs.Line.{IsHex, bytes_written}
use Rattle.spw.proofs.lines.bytes_of.Goals as goal

pub returns-then-branch-clause-ok : goal.returns-then-branch-clause-ok
returns-then-branch-clause-ok c =
    let text = c.as_bytes.ensures.value in
    one_word c.args.text.now _ (subst IsHex text (c.in_ok-append_hex.ensures.hex.0 c.if-branch.true))
    (c.in_ok-append_hex.ensures.bytes c.if-branch.true ∙ ap₂ (λ (before word : List ℕ). before ++ bytes_written word) c.in_ok-bytes.ensures.items text)

pub returns-in_err-append_word-clause-err : goal.returns-in_err-append_word-clause-err
returns-in_err-append_word-clause-err c =
    let p = err_from_is_err_and c.from_residual-in_err-append_word.result c.from_residual-in_err-append_word.ensures.1 in
    rw (p.1, p.2) (one_is_bad c.loop-word.invariant.1 _ _ _ c.in-Some.ensures c.in_err-append_word.ensures.err)

pub loop-word-smaller : goal.loop-word-smaller
loop-word-smaller c =
    let fewer = ap (λ (words : List (List ℕ)). length words) c.in-Some.ensures in
    omega (arith, fewer)

pub loop-word-preserved : goal.loop-word-preserved
loop-word-preserved c =
    let written = c.in_ok-append_word.ensures.ok in
    (search rules, one_written c.loop-word.invariant.1 _ _ _ c.in-Some.ensures written.0 written.1)
