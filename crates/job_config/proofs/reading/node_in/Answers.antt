use Rattle.std.proofs.Common.{inr, string_bytes, subst, List, ℕ}
use Rattle.std.proofs.lemmas.Result.{IfErr-weaker, IfOk-weaker}
use Rattle.toml.specs.Data.{Members}
use Rattle.toml.specs.Parse.{parse_document}
use Rattle.job_config.specs.Reads.{EndsBySaid, HoldsParts, IsBadNode}
use Rattle.job_config.specs.declared.faults.ConfigFault.{ConfigFault}
use Rattle.job_config.proofs.Chains.{some_read}
use Rattle.job_config.proofs.reading.node_in.Goals as goal

pub returns-clause-node : goal.returns-clause-node
returns-clause-node g c =
    let text = string_bytes c.in_ok-text.text in
    let only = some_read g.F.Files.reads _ _ _ c.in_ok-text.ensures.read c.node_of_text.ensures.read in
    IfOk-weaker c.node_of_text.result _ _
    (λ made held. record {
      text = text;
      table = held.0;
      begun = c.read_text.new.files;
      read = c.in_ok-text.ensures.gave;
      utf8 = c.in_ok-text.ensures.utf8;
      is_table = rw (← c.as_str.ensures.value) held.1;
      parts = held.2;
      only_reads = only;
    })
    c.node_of_text.ensures.held

pub returns-clause-none : goal.returns-clause-none
returns-clause-none g c =
    let text = string_bytes c.in_ok-text.text in
    let only = some_read g.F.Files.reads _ _ _ c.in_ok-text.ensures.read c.node_of_text.ensures.read in
    IfErr-weaker c.node_of_text.result _ _
    (λ end bad. inr (record {
      text = text;
      begun = c.read_text.new.files;
      fault = bad.fault;
      read = c.in_ok-text.ensures.gave;
      utf8 = c.in_ok-text.ensures.utf8;
      bad = subst (λ (t : List ℕ). IsBadNode g.F.Files.reads t c.read_text.new.files bad.fault c.node_of_text.new.files) c.as_str.ensures.value bad.is_bad;
      ends = bad.ends;
      only_reads = only;
    }))
    c.node_of_text.ensures.bad
