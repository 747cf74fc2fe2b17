use Rattle.std.proofs.Common.{ℕ, List, ◌++◌, ap, sym, ◌∙◌}
use Rattle.std.proofs.lemmas.Fmt.{decimal_digit}
use Rattle.job_parts.proofs.pending.push_one.Goals as goal

pub returns-clause-text : goal.returns-clause-text
returns-clause-text c =
    c.push.ensures.items ∙ ap (λ (t : List ℕ). c.args.text.now.items ++ t) (sym (decimal_digit c.args.number c.requires.small))
