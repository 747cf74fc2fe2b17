use Rattle.std.proofs.Common.{◌++◌, ℕ, List, inr, refl, sym, subst, ap, ◌∙◌}
use Rattle.spw.specs.Line.{IsHex, bytes_written}
use Rattle.spw.proofs.lines.append_word.Goals as goal

pub returns-then-branch-clause-ok : goal.returns-then-branch-clause-ok
returns-then-branch-clause-ok c =
    let text = c.as_bytes.ensures.value in (
      subst IsHex text (c.in_ok-append_hex.ensures.hex.0 c.if-branch.true),
      c.in_ok-append_hex.ensures.bytes c.if-branch.true ∙ ap (λ (word : List ℕ). c.args.bytes.now.items ++ bytes_written word) text,
    )

pub returns-else-branch-clause-err : goal.returns-else-branch-clause-err
returns-else-branch-clause-err c =
    inr (refl, λ hex. cc (sym c.if-branch.false ∙ c.in_ok-append_hex.ensures.hex.1 (subst IsHex (sym c.as_bytes.ensures.value) hex)))
