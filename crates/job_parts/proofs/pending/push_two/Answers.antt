use Rattle.std.proofs.Common.{ℕ, List, [], ◌∷◌, ◌++◌, ◌+◌, ◌/◌, ◌%◌, ap, sym, ◌∙◌, append_assoc}
use Rattle.job_parts.proofs.Decimals.{two_digits}
use Rattle.job_parts.proofs.pending.push_two.Goals as goal

pub returns-clause-text : goal.returns-clause-text
returns-clause-text c =
    let n = c.args.number in
    let old = c.args.text.now.items in
    let first : List ℕ = (48 + n / 10) ∷ [] in
    let last : List ℕ = (48 + n % 10) ∷ [] in
    c.push-2.ensures.items ∙ ap (λ (t : List ℕ). t ++ last) c.push.ensures.items ∙ append_assoc old first last
    ∙ ap (λ (t : List ℕ). old ++ t) (sym (two_digits n c.requires.large c.requires.small))
