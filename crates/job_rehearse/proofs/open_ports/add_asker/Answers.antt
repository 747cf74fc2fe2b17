use Rattle.std.proofs.Common.{◌∙◌, ℕ, List, ap₂, string_bytes}
use Rattle.std.proofs.lemmas.Result.{on_ok_weaker}
use Rattle.job_rehearse.specs.OpenPorts.{with_kinds}
use Rattle.job_rehearse.specs.declared.passing.Passing.{Passing}
use Rattle.job_rehearse.proofs.open_ports.add_asker.Goals as goal

pub returns : goal.returns
returns c =
    on_ok_weaker c.add_kinds.result
    (λ lines. record {
      answers = _;
      are_open = c.in_ok-answers.ensures;
      lines = lines ∙ ap₂ (λ (a : List Passing) (w : List ℕ). with_kinds (string_bytes c.args.text.now) a c.args.lead.now w c.args.node.ports) c.as_slice.ensures.value (c.as_str.ensures.value ∙ c.in_ok-words.ensures);
    })
    c.add_kinds.ensures
