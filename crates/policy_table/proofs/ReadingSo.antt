-- How lines are read, and what comes of it.
use Rattle.std.proofs.Common.{◌≡◌, ℕ, suc, List, Option, ap, ◌∙◌, subst}
use Rattle.machine.specs.Sizes.{Maps}
use Rattle.policy_table.specs.PartialTables.{PartialTableValue, HasBadLine, LinesWrite, empty_partial_table}
use Rattle.policy_table.specs.Policies.{ReadingValue, WritesReading, policy_value, policy_reading}
use Rattle.policy_table.specs.Surveys.{HasFaults}
use Rattle.policy_table.specs.declared.port_rules.PortRule.{PortRule}
use Rattle.policy_table.specs.declared.text_faults.TextFault.{TextFault}
use Rattle.policy_table.specs.declared.versions.TableVersion.{TableVersion}

-- lines that are read so are a table
pub written_so : (version : TableVersion) (before : ℕ) (lines : List (List ℕ)) (how : ReadingValue) (end : PartialTableValue) (reversed : Option ℕ) (rules : List PortRule) → policy_reading version before lines ≡ how → LinesWrite version (suc before) lines empty_partial_table end → reversed ≡ end.reversed → rules ≡ end.rules
    → WritesReading how (policy_value version reversed rules)
written_so version before lines how end reversed rules same are at all =
    subst (λ (h : ReadingValue). WritesReading h (policy_value version reversed rules)) same (record {
      end = end;
      are = are;
      is = ap (λ (r : Option ℕ). policy_value version r rules) at ∙ ap (λ (rs : List PortRule). policy_value version end.reversed rs) all;
    })

-- and lines of which one is bad are none
pub unread_so : (version : TableVersion) (before : ℕ) (lines : List (List ℕ)) (how : ReadingValue) (fault : TextFault) → policy_reading version before lines ≡ how → HasBadLine version (suc before) lines empty_partial_table fault
    → HasBadLine how.version (suc how.before) how.lines empty_partial_table fault
unread_so version before lines how fault same bad =
    subst (λ (h : ReadingValue). HasBadLine h.version (suc h.before) h.lines empty_partial_table fault) same bad

-- the faults of lines that are read so
pub found_so : (sizes : Maps) (version : TableVersion) (before : ℕ) (lines : List (List ℕ)) (how : ReadingValue) (faults : List TextFault) → policy_reading version before lines ≡ how → HasFaults sizes (policy_reading version before lines) faults
    → HasFaults sizes how faults
found_so sizes version before lines how faults same has = subst (λ (h : ReadingValue). HasFaults sizes h faults) same has
