use Rattle.std.proofs.Common.{◌∙◌, ◌++◌, ℕ, List, ap, ap₂, length, string_bytes, subst}
use Rattle.std.proofs.lemmas.Result.{on_ok_weaker}
use Rattle.job_rehearse.specs.TableLoads.{PrintsLoads, lead_of, lines_or_nobody}
use Rattle.job_rehearse.proofs.table_loads.add_own.Goals as goal

pub returns : goal.returns
returns c =
    let made = c.args.asked.now in
    let lines = string_bytes c.in_ok-lines.lines in
    let image = c.as_slice-image.ensures.value in
    let lead = c.as_str.ensures.value ∙ c.in_ok-lead.ensures ∙ ap (λ (i : List ℕ). lead_of (length i)) image in
    let lead_again = c.as_str-2.ensures.value ∙ c.in_ok-lead.ensures ∙ ap (λ (i : List ℕ). lead_of (length i)) image in
    on_ok_weaker c.add_lines.result
    (λ added. record {
      lines = lines;
      reports =
          subst (λ (l : List ℕ). PrintsLoads c.args.ports made made.image.items l lines) lead
          (subst (λ (i : List ℕ). PrintsLoads c.args.ports made i c.as_str.result.now lines) image c.in_ok-lines.ensures);
      added = added ∙ ap₂ (λ (l o : List ℕ). string_bytes c.args.text.now ++ lines_or_nobody l o) lead_again c.as_str-3.ensures.value;
    })
    c.add_lines.ensures
