use Rattle.std.proofs.Common.{inr, string_bytes, subst, List, ℕ}
use Rattle.std.proofs.lemmas.Result.{IfErr-weaker, IfOk-weaker}
use Rattle.job_config.specs.Reads.{IsBadText}
use Rattle.job_config.proofs.reading.configuration_in.Goals as goal

pub returns-clause-says : goal.returns-clause-says
returns-clause-says g c =
    IfOk-weaker c.configuration_of_text.result _ _
    (λ made says. record {
      text = string_bytes c.in_ok-text.text;
      table = says.0;
      read = c.in_ok-text.ensures.gave;
      utf8 = c.in_ok-text.ensures.utf8;
      is_table = rw (← c.as_str.ensures.value) says.1;
      configured = says.2;
    })
    c.configuration_of_text.ensures.says

pub returns-clause-none : goal.returns-clause-none
returns-clause-none g c =
    IfErr-weaker c.configuration_of_text.result _ _
    (λ end bad. inr (record {
      text = string_bytes c.in_ok-text.text;
      fault = bad.fault;
      read = c.in_ok-text.ensures.gave;
      utf8 = c.in_ok-text.ensures.utf8;
      bad = subst (λ (text : List ℕ). IsBadText text bad.fault) c.as_str.ensures.value bad.is_bad;
      ends = bad.ends;
    }))
    c.configuration_of_text.ensures.bad
