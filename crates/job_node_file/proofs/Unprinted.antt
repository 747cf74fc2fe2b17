-- Why nothing is printed of a node.
use Rattle.std.proofs.Common.{◌≡◌, inl, inr, ℕ, List, Option, refl, sym, subst}
use Rattle.std.specs.Prelude.{string_bytes}
use Rattle.bver.specs.Justified.{AcceptedValue}
use Rattle.policy_table.specs.declared.rules.Quota.{Quota}
use Rattle.job_config.specs.OwnNodes.{OwnNodeValue}
use Rattle.job_config.specs.Reads.{ReadsNode}
use Rattle.job_parts.specs.Files.{ReadsFile}
use Rattle.job_parts.specs.Stops.{StopsBy}
use Rattle.job_parts.specs.declared.faults.Fault.{Fault}
use Rattle.job_parts.specs.declared.faults.Fault.TheVariants.{NoMemory}
use Rattle.job_parts.specs.declared.stops.JobStop.{JobStop}
use Rattle.job_parts.specs.declared.stops.JobStop.TheVariants.{Ended}
use Rattle.job_node_file.specs.Printed.{IsNotEnded, HasNoText, table_name_of}
use Rattle.job_node_file.specs.Quotas.{AreQuotasOf, AreNotAsked, ReadsAsked}
use Rattle.job_node_file.specs.declared.node_file.NodeFileWords.{NodeFileWords}

module _ {S : Type 0} (reads : ReadsFile S) (words : NodeFileWords) (before between after : S) (name table text : Option (List ℕ)) (file : List ℕ)
    (own : OwnNodeValue) (program : AcceptedValue) (named : name ≡ table_name_of words) (asked : ReadsAsked reads name before table between)
    (file_is : file ≡ string_bytes words.node) (read : ReadsNode reads file between own program after) (text_is : text ≡ table) where
  -- there is a node, and no text of it
  ended : (fault : Fault) → IsNotEnded reads own program table fault → HasNoText reads words before after fault
  ended fault why =
      inr (
        between,
        table,
        subst (λ (n : Option (List ℕ)). ReadsAsked reads n before table between) named asked,
        inr (own, program, subst (λ (f : List ℕ). ReadsNode reads f between own program after) file_is read, why),
      )

  -- there are no quotas
  pub no_quotas : (fault : Fault) (halt : JobStop) → halt ≡ Ended fault → AreNotAsked own program text fault
      → StopsBy (λ fault. HasNoText reads words before after fault) halt
  no_quotas fault halt is none =
      subst (λ (h : JobStop). StopsBy (λ fault. HasNoText reads words before after fault) h) (sym is)
      (ended fault (inl (subst (λ (t : Option (List ℕ)). AreNotAsked own program t fault) text_is none)))

  -- memory was refused to the text
  pub no_text : (quotas : Option (List Quota)) (halt : JobStop) → halt ≡ Ended NoMemory → AreQuotasOf own program text quotas
      → StopsBy (λ fault. HasNoText reads words before after fault) halt
  no_text quotas halt is are =
      subst (λ (h : JobStop). StopsBy (λ fault. HasNoText reads words before after fault) h) (sym is)
      (ended NoMemory (inr (quotas, subst (λ (t : Option (List ℕ)). AreQuotasOf own program t quotas) text_is are, refl)))
