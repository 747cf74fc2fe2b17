use Rattle.std.proofs.Common.{◌++◌, ◌∙◌, List, ℕ, ap, string_bytes}
use Rattle.job_suite.proofs.TrialLines.{line_is}
use Rattle.job_suite.proofs.suite.add_line.Goals as goal

pub returns : goal.returns
returns c =
    let line = line_is c.args.trial.now _ _ _ _ (c.as_str.ensures.value ∙ c.in_ok-digits.ensures) c.bytes.ensures.bytes c.mark_of-mark.ensures c.end.ensures in
    c.in_ok-add_marked.ensures ∙ ap (λ (l : List ℕ). string_bytes c.args.text.now ++ l) line
